-- What becomes, at an event, of the record and the marker of a transaction on a key at a member, where nothing of the
-- transaction is asked by it.
use Rattle.std.proofs.Common.{◌≡◌, ◌⊎◌, ◌∙◌, ℕ, Bool, true, List, ◌∷◌, refl, sym, ap, subst, inl, inr}
use Rattle.std.specs.Prelude.{Option}
use Rattle.std.specs.List.{list_any}
use Rattle.run_theory.specs.Lists.{IsIn}
use Rattle.sig_core.specs.declared.member.Member.{Member}
use Rattle.sig_core.specs.declared.member.TxId.{TxId}
use Rattle.sig_core.specs.declared.place.BlockId.TheVariants as block
use Rattle.sig_core.specs.declared.rows.PendingRecord.{PendingRecord}
use Rattle.sig_core.specs.declared.signal.Body.{Body}
use Rattle.sig_core.specs.declared.signal.Body.TheVariants.{Chain, Client}
use Rattle.sig_core.specs.declared.signal.Signal.{Signal}
use Rattle.sig_core.specs.declared.signal.chain.ChainSignal.TheVariants.{Abort, Commit, Complete}
use Rattle.sig_core.specs.declared.signal.client.ClientSignal.TheVariants.{TcCommitAck}
use Rattle.sig_core.specs.declared.view.View.{View}
use Rattle.lqh_block.specs.Commit.{is_marker}
use Rattle.lqh_views.specs.Replica.{installed, replica_row}
use Rattle.lqh_views.specs.State.{ReplicaState}
use Rattle.key_laws.specs.Records.{AreOnce, as_committed, found, if_committed, unless_committed}
use Rattle.key_laws.specs.Replica.{at_key}
use Rattle.world_core.specs.Start.{Start, made}
use Rattle.world_core.specs.Steps.{HostStep}
use Rattle.moment_laws.specs.Moments.{IsMoment, logs_of}
use Rattle.moment_laws.specs.Places.{ldm_of}
use Rattle.moment_laws.proofs.PartTaken.{IsTakenNow}
use Rattle.commit_laws.specs.Traces.{has_marker_at, record_at, rows_at}
use Rattle.commit_laws.proofs.fates.Committed.{IsCalm, calm_idle}
use Rattle.commit_laws.proofs.markers.Moves.{CommitsPrepared, MarkerMoves, marker_moves}
use Rattle.commit_laws.proofs.records.Moves.{IsIdle, RecordMoves, aborts, commits, completes, now_by, record_moves}
use Rattle.commit_laws.proofs.records.Moves.{stays}
use Rattle.commit_laws.proofs.records.Once.{rows_once, well_between}
use Rattle.commit_laws.proofs.hosts.RowsTurn.{IsBetween, IsTakenAt, RowsGo, enter, rest, rows_go, take}
use Rattle.commit_laws.proofs.hosts.RowsTurn.{between_so}
use Rattle.commit_laws.proofs.hosts.SaverGoes.{AreAlike}

module _ (start : Start) (all : ℕ → List HostStep) (e : HostStep) (es : List HostStep)
    (moment : IsMoment start all (e ∷ es)) (member : Member) (there : IsIn member (made start))
  where
    abbrev old : ℕ → List HostStep
    old = logs_of start es

    abbrev new : ℕ → List HostStep
    new = logs_of start (e ∷ es)

    abbrev body : Body
    body = e.step.taken.body

    -- the rows of the member take the signal of the event
    pub record TakesNow : Type 0 where
      pub rows : ReplicaState
      pub between : IsBetween start all e es moment member there rows
      pub taken : IsTakenAt start all e es moment member there rows
      pub at : e.host ≡ ldm_of start member
      pub now : IsTakenNow start all e es moment block.Lqh

    module _ (key : List ℕ) (tx : TxId) where
      abbrev record_was : Option PendingRecord
      record_was = record_at start old member key tx

      abbrev record_now : Option PendingRecord
      record_now = record_at start new member key tx

      pub data RecordGoes : Type 0 where
        record_stays : record_now ≡ record_was → RecordGoes
        is_committed : TakesNow → (epoch : ℕ) (chain : List Member) (at : ℕ)
            → body ≡ Chain (Commit tx key epoch chain at) → record_now ≡ now_by as_committed record_was → RecordGoes
        is_completed : TakesNow → (chain : List Member) (at : ℕ) → body ≡ Chain (Complete tx key chain at)
            → record_now ≡ now_by unless_committed record_was → RecordGoes
        is_aborted : TakesNow → body ≡ Chain (Abort tx key) → record_now ≡ now_by if_committed record_was → RecordGoes

      -- what the marker was, if it is acknowledged or new
      pub record IsAcknowledged : Type 0 where
        pub takes : TakesNow
        pub body_is : body ≡ Client (TcCommitAck tx)

      pub record IsMarkedNow : Type 0 where
        pub takes : TakesNow
        pub commits : CommitsPrepared tx key body record_was

      pub record KeyGoes : Type 0 where
        pub record_goes : RecordGoes
        pub marker_keeps : has_marker_at start old member key tx ≡ true
            → (has_marker_at start new member key tx ≡ true) ⊎ IsAcknowledged
        pub marker_gives : has_marker_at start new member key tx ≡ true
            → (has_marker_at start old member key tx ≡ true) ⊎ IsMarkedNow

      abbrev record_of : ReplicaState → Option PendingRecord
      record_of s = found tx (at_key key s.lqh).cell.pending

      abbrev marker_of : ReplicaState → Bool
      marker_of s = list_any (is_marker tx key) s.lqh.markers

      -- the rows are as they were, for this key
      same_goes : (s : ReplicaState) → AreAlike (rows_at start new member) s → record_of s ≡ record_was
          → marker_of s ≡ has_marker_at start old member key tx → KeyGoes
      same_goes s is record_is marker_is = record {
        record_goes = record_stays (ap record_of is ∙ record_is);
        marker_keeps = λ had. inl (ap marker_of is ∙ (marker_is ∙ had));
        marker_gives = λ has. inl (sym (ap marker_of is ∙ marker_is) ∙ has);
      }

      module _ (s : ReplicaState) (between : IsBetween start all e es moment member there s)
          (taken : IsTakenAt start all e es moment member there s) (idle : IsIdle tx key s.lqh e.step.taken.body) where
        abbrev x : Signal
        x = e.step.taken

        takes : TakesNow
        takes = record { rows = s; between = between; taken = taken; at = taken.at; now = taken.now }

        as_before : (P : ReplicaState → Type 0) → P (rows_at start old member)
            → ((view : View) → P (installed (rows_at start old member) view)) → P s
        as_before P = between_so start all e es moment member there P s between

        record_before : record_of s ≡ record_was
        record_before = as_before (λ s. record_of s ≡ record_was) refl (λ view. refl)

        marker_before : marker_of s ≡ has_marker_at start old member key tx
        marker_before =
            as_before (λ s. marker_of s ≡ has_marker_at start old member key tx) refl (λ view. refl)

        once : AreOnce (at_key key s.lqh).cell.pending
        once =
            as_before (λ s. AreOnce (at_key key s.lqh).cell.pending)
            (rows_once start moment.cluster.nobody member there (old (ldm_of start member)) key)
            (λ view. rows_once start moment.cluster.nobody member there (old (ldm_of start member)) key)

        moves : RecordMoves tx key body (record_of s) (record_of (replica_row s x).state)
        moves = record_moves tx key s x (well_between start all e es moment member there s between) once idle

        marks : MarkerMoves tx key body (record_of s) (marker_of s) (marker_of (replica_row s x).state)
        marks = marker_moves tx key s x

        now_is : record_now ≡ record_of (replica_row s x).state
        now_is = ap record_of taken.rows_are

        edited : (f : PendingRecord → Option PendingRecord)
            → record_of (replica_row s x).state ≡ now_by f (record_of s) → record_now ≡ now_by f record_was
        edited f is = now_is ∙ (is ∙ ap (now_by f) record_before)

        goes : RecordMoves tx key body (record_of s) (record_of (replica_row s x).state) → RecordGoes
        goes (stays is) = record_stays (now_is ∙ (is ∙ record_before))
        goes (commits epoch chain at about is) = is_committed takes epoch chain at about (edited as_committed is)
        goes (completes chain at about is) = is_completed takes chain at about (edited unless_committed is)
        goes (aborts about is) = is_aborted takes about (edited if_committed is)

        taken_goes : KeyGoes
        taken_goes = record {
          record_goes = goes moves;
          marker_keeps = λ had. keeps (marks.keeps (marker_before ∙ had));
          marker_gives = λ has. gives (marks.gives (sym (ap marker_of taken.rows_are) ∙ has));
        }
          where
            keeps : (marker_of (replica_row s x).state ≡ true) ⊎ (body ≡ Client (TcCommitAck tx))
                → (has_marker_at start new member key tx ≡ true) ⊎ IsAcknowledged
            keeps (inl on) = inl (ap marker_of taken.rows_are ∙ on)
            keeps (inr about) = inr (record { takes = takes; body_is = about })

            gives : (marker_of s ≡ true) ⊎ CommitsPrepared tx key body (record_of s)
                → (has_marker_at start old member key tx ≡ true) ⊎ IsMarkedNow
            gives (inl was) = inl (sym marker_before ∙ was)
            gives (inr new) =
                inr (record { takes = takes; commits = subst (CommitsPrepared tx key body) record_before new })

      -- where rows that take the signal of the event do nothing else for the transaction
      pub idle_goes : ((s : ReplicaState) → IsBetween start all e es moment member there s
          → IsTakenAt start all e es moment member there s → IsIdle tx key s.lqh e.step.taken.body) → KeyGoes
      idle_goes idle = by (rows_go start all e es moment member there)
        where
          by : RowsGo start all e es moment member there → KeyGoes
          by (rest is quiet) = same_goes (rows_at start old member) is refl refl
          by (enter view is quiet) = same_goes (installed (rows_at start old member) view) is refl refl
          by (take s between taken) = taken_goes s between taken (idle s between taken)

      pub key_goes : IsCalm start old tx → KeyGoes
      key_goes calm = idle_goes (calm_idle start all e es moment member there tx calm key)
