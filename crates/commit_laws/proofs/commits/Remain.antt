-- Who is committed on a key at a member stays so; and so do keys that are committed at all replicas.
use Rattle.std.proofs.Common.{◌≡◌, ◌⊎◌, ◌||◌, ◌∙◌, ℕ, Bool, true, List, [], ◌∷◌, refl, sym, ap, subst, inl, inr}
use Rattle.std.proofs.lemmas.Bool.{and_parts, or_cases, or_left, or_right, true≢false}
use Rattle.std.specs.Prelude.{if◌then◌else◌, Option, None, Some}
use Rattle.std.specs.List.{list_any}
use Rattle.run_theory.specs.Links.{sent}
use Rattle.run_theory.specs.Lists.{Each, IsIn}
use Rattle.commit_laws.proofs.forth.Grows.{known_grows}
use Rattle.sig_core.proofs.RecordLemmas.{record_of-first}
use Rattle.sig_core.specs.declared.member.Member.{Member}
use Rattle.sig_core.specs.declared.member.TxId.{TxId}
use Rattle.sig_core.specs.declared.rows.PendingRecord.{PendingRecord}
use Rattle.sig_core.specs.declared.signal.Body.{Body}
use Rattle.sig_core.specs.declared.signal.Body.TheVariants.{Client, Host}
use Rattle.sig_core.specs.declared.signal.client.ClientSignal.TheVariants.{TcCommitAck}
use Rattle.sig_core.specs.declared.signal.host.HostSignal.TheVariants.{Closed}
use Rattle.sig_core.specs.Rows.{RowsState, record_of}
use Rattle.sig_core.specs.Same.{same_key, same_tx}
use Rattle.sig_core.proofs.TxLemmas.{same_tx-is}
use Rattle.lqh_block.specs.Commit.{is_marker}
use Rattle.lqh_block.specs.declared.request.Marker.{Marker}
use Rattle.key_laws.specs.Records.{as_committed, found, if_committed, unless_committed, without_epoch}
use Rattle.key_laws.specs.Replica.{cell_at}
use Rattle.key_laws.proofs.EpochLemmas.{record_in_cell, without}
use Rattle.key_laws.proofs.RecordLemmas.{each_found}
use Rattle.key_laws.proofs.RecordsAt.{each-first}
use Rattle.world_core.specs.Start.{Start, made}
use Rattle.world_core.specs.Steps.{Addressed, HostStep}
use Rattle.world_views.specs.Machine.{IsOwnWork}
use Rattle.view_laws.specs.Order.{sound_machine}
use Rattle.moment_laws.specs.Moments.{IsMoment, logs_of}
use Rattle.moment_laws.proofs.MomentSignals.{taken_told}
use Rattle.moment_laws.proofs.MomentViews.{moment_less}
use Rattle.outcome_laws.specs.Known.{IsDecidedIf}
use Rattle.commit_laws.specs.Commits.{IsDone}
use Rattle.commit_laws.specs.Forth.{ForthIsKnownAlways, IsForth}
use Rattle.commit_laws.specs.Going.{is_decided, is_forth}
use Rattle.commit_laws.specs.Markers.{CommitsAreRemembered, IsRemembered}
use Rattle.commit_laws.specs.Traces.{AreCommitted, IsCommittedAtAll, has_marker_at, is_committed_at, is_committed_by}
use Rattle.commit_laws.specs.Traces.{is_known, record_at, rows_at}
use Rattle.commit_laws.proofs.fates.Committed.{IsCalm, forth_calm}
use Rattle.commit_laws.proofs.forth.DecidedStay.{applied_more, written_before}
use Rattle.commit_laws.proofs.records.KeyGoes.{IsAcknowledged, KeyGoes, RecordGoes, is_aborted, is_committed}
use Rattle.commit_laws.proofs.records.KeyGoes.{is_completed, key_goes, record_stays}
use Rattle.commit_laws.proofs.records.Moves.{now_by}
use Rattle.commit_laws.proofs.records.Replicas.{replica_before, replica_made}

-- the client's side knows of each commit that is acknowledged to rows
abbrev pub IsKnownIf : Start → (ℕ → List HostStep) → Body → Type 0
IsKnownIf start logs (Client (TcCommitAck tx)) = is_known start logs tx ≡ true
IsKnownIf start logs body = Unit {0}

abbrev pub AcknowledgedAreKnown : Type 0
AcknowledgedAreKnown =
    (start : Start) (all : ℕ → List HostStep) (es : List HostStep) → IsMoment start all es
    → (i j : ℕ) → Each (λ (x : Addressed). IsKnownIf start (logs_of start es) x.signal.body)
    (sent (sound_machine start) i j (logs_of start es i))

-- the record that is found on a key is one of all, but for its epoch
pub record IsRecordOf (P : PendingRecord → Type 0) (tx : TxId) (key : List ℕ) (r : PendingRecord) : Type 0 where
  pub own : PendingRecord
  pub so : P own
  pub key_is : own.key ≡ key
  pub tx_is : own.tx ≡ tx
  pub is : r ≡ without_epoch own

pub record_there : (P : PendingRecord → Type 0) (s : RowsState) (tx : TxId) (key : List ℕ) (r : PendingRecord)
    → Each P s.pending → found tx (cell_at key s).pending ≡ Some r → IsRecordOf P tx key r
record_there P s tx key r all is = by (record_of s tx key) refl
  where
    own_tx : r.tx ≡ tx
    own_tx = (each_found (λ x. Unit {0}) tx (cell_at key s).pending r (none (cell_at key s).pending) is).1
      where
        none : (xs : List PendingRecord) → Each (λ x. Unit {0}) xs
        none [] = tt
        none (x ∷ xs) = (tt, none xs)

    by : (o : Option PendingRecord) → record_of s tx key ≡ o → IsRecordOf P tx key r
    by None none =
        absurd (let nothing : None ≡ Some r = sym (ap without none) ∙ (record_in_cell s tx key ∙ is) in cc)
    by (Some own) there =
        let same : without_epoch own ≡ r = cc (sym (ap without there) ∙ (record_in_cell s tx key ∙ is)) in
        let first_is = each-first P tx key s.pending own all (sym (record_of-first s tx key) ∙ there) in
        record {
          own = own;
          so = first_is.0;
          key_is = first_is.1;
          tx_is = ap (λ (x : PendingRecord). x.tx) same ∙ own_tx;
          is = sym same;
        }

-- what is so of each marker is so of the transaction of one that is there
marker_so : (F : TxId → Type 0) (tx : TxId) (key : List ℕ) (markers : List Marker)
    → Each (λ (m : Marker). F m.tx) markers
    → list_any (is_marker tx key) markers ≡ true → F tx
marker_so F tx key [] all is = absurd (true≢false (sym is))
marker_so F tx key (m ∷ markers) all is =
    by (or_cases (is_marker tx key m) (list_any (is_marker tx key) markers) is) (marker_so F tx key markers all.1)
  where
    by : (is_marker tx key m ≡ true) ⊎ (list_any (is_marker tx key) markers ≡ true)
        → (list_any (is_marker tx key) markers ≡ true → F tx) → F tx
    by (inl own) more = subst F (same_tx-is m.tx tx (and_parts (same_tx m.tx tx) (same_key m.key key) own).0) all.0
    by (inr rest) more = more rest

module _ (forth : ForthIsKnownAlways) where
  module _ (start : Start) (all : ℕ → List HostStep) (es : List HostStep) (moment : IsMoment start all es)
      (member : Member) (there : IsIn member (made start)) (key : List ℕ) (tx : TxId)
    where
      abbrev logs : ℕ → List HostStep
      logs = logs_of start es

      pub marker_forth : has_marker_at start (logs_of start es) member key tx ≡ true
          → is_forth start (logs_of start es) tx ≡ true
      marker_forth is =
          marker_so (IsForth start logs) tx key (rows_at start logs member).lqh.markers
          ((forth start all es moment).rows member there).markers is

      pub record_forth : (r : PendingRecord) → record_at start (logs_of start es) member key tx ≡ Some r
          → r.committed ≡ true → is_forth start (logs_of start es) tx ≡ true
      record_forth r is done =
          let own =
          record_there (λ r. IsDecidedIf (λ tx epoch. IsForth start logs tx) (IsForth start logs) r r.committed)
          (rows_at start logs member).lqh.rows tx key r ((forth start all es moment).rows member there).records is in
          subst (IsForth start logs) own.tx_is
          (subst (λ b. IsDecidedIf (λ tx epoch. IsForth start logs tx) (IsForth start logs) own.own b)
          (ap (λ (x : PendingRecord). x.committed) (sym own.is) ∙ done) own.so)

      pub committed_forth : is_committed_at start (logs_of start es) member key tx ≡ true
          → is_forth start (logs_of start es) tx ≡ true
      committed_forth is = by (record_at start logs member key tx) refl is
        where
          known : (has_marker_at start logs member key tx ≡ true) ⊎ (is_known start logs tx ≡ true)
              → is_forth start logs tx ≡ true
          known (inl marked) = marker_forth marked
          known (inr told) = (forth start all es moment).known tx told

          by : (o : Option PendingRecord) → record_at start logs member key tx ≡ o
              → is_committed_by (has_marker_at start logs member key tx || is_known start logs tx) o ≡ true
              → is_forth start logs tx ≡ true
          by None none is = known (or_cases (has_marker_at start logs member key tx) (is_known start logs tx) is)
          by (Some r) there is = record_forth r there is

  module _ (remembered : CommitsAreRemembered) (acknowledged : AcknowledgedAreKnown) (start : Start)
      (all : ℕ → List HostStep) (e : HostStep) (es : List HostStep) (moment : IsMoment start all (e ∷ es))
    where
      abbrev old : ℕ → List HostStep
      old = logs_of start es

      abbrev new : ℕ → List HostStep
      new = logs_of start (e ∷ es)

      abbrev before : IsMoment start all es
      before = moment_less start all e es moment

      module _ (member : Member) (there : IsIn member (made start)) (key : List ℕ) (tx : TxId) where
        -- an acknowledgement is of a commit that the client's side knows
        pub acknowledged_known : IsAcknowledged start all e es moment member there key tx
            → is_known start (logs_of start es) tx ≡ true
        acknowledged_known ack =
            subst (IsKnownIf start old) ack.body_is
            (taken_told start (λ (x : Addressed). IsKnownIf start old x.signal.body) all e es moment
            (acknowledged start all es before) ack.takes.now.sound
            (λ own. absurd (subst (IsOwnWork start e.host) ack.body_is own))
            (λ closes. absurd (let both : Client (TcCommitAck tx) ≡ Host (Closed closes.cause) = sym ack.body_is
            ∙ closes.is in cc)))

        abbrev record_was : Option PendingRecord
        record_was = record_at start old member key tx

        abbrev is_remembered : (ℕ → List HostStep) → Bool
        is_remembered logs = has_marker_at start logs member key tx || is_known start logs tx

        module _ (goes : KeyGoes start all e es moment member there key tx) where
          -- what is remembered stays so
          remembered_more : is_remembered old ≡ true → is_remembered new ≡ true
          remembered_more is = by (or_cases (has_marker_at start old member key tx) (is_known start old tx) is)
            where
              known : is_known start old tx ≡ true → is_remembered new ≡ true
              known told = or_right (has_marker_at start new member key tx) (is_known start new tx)
                  (known_grows start e es tx told)

              marked : (has_marker_at start new member key tx ≡ true)
                  ⊎ IsAcknowledged start all e es moment member there key tx → is_remembered new ≡ true
              marked (inl on) = or_left (has_marker_at start new member key tx) (is_known start new tx) on
              marked (inr ack) = known (acknowledged_known ack)

              by : (has_marker_at start old member key tx ≡ true) ⊎ (is_known start old tx ≡ true)
                  → is_remembered new ≡ true
              by (inl on) = marked (goes.marker_keeps on)
              by (inr told) = known told

          -- a committed record is remembered
          pub record_remembered : (r : PendingRecord) → record_was ≡ Some r → r.committed ≡ true
              → is_remembered old ≡ true
          record_remembered r is done =
              let own =
              record_there (IsRemembered start old member)
              (rows_at start old member).lqh.rows tx key r (remembered start all es before member there) is in
              subst (λ k. (has_marker_at start old member k tx || is_known start old tx) ≡ true) own.key_is
              (subst (λ t. (has_marker_at start old member own.own.key t || is_known start old t) ≡ true) own.tx_is
              (own.so (ap (λ (x : PendingRecord). x.committed) (sym own.is) ∙ done)))

          behind : (o : Option PendingRecord) → record_was ≡ o → is_committed_by (is_remembered old) o ≡ true
              → RecordGoes start all e es moment member there key tx
              → is_committed_by (is_remembered new) (record_at start new member key tx) ≡ true
          behind None was is (record_stays same) =
              ap (is_committed_by (is_remembered new)) (same ∙ was) ∙ remembered_more is
          behind None was is (is_committed takes epoch chain at about now) =
              ap (is_committed_by (is_remembered new)) (now ∙ ap (now_by as_committed) was) ∙ remembered_more is
          behind None was is (is_completed takes chain at about now) =
              ap (is_committed_by (is_remembered new)) (now ∙ ap (now_by unless_committed) was) ∙ remembered_more is
          behind None was is (is_aborted takes about now) =
              ap (is_committed_by (is_remembered new)) (now ∙ ap (now_by if_committed) was) ∙ remembered_more is
          behind (Some r) was is (record_stays same) = ap (is_committed_by (is_remembered new)) (same ∙ was) ∙ is
          behind (Some r) was is (is_committed takes epoch chain at about now) =
              ap (is_committed_by (is_remembered new)) (now ∙ ap (now_by as_committed) was)
          behind (Some r) was is (is_completed takes chain at about now) =
              ap (is_committed_by (is_remembered new))
              (now ∙ (ap (now_by unless_committed) was ∙ ap (λ b. if b then None else Some r) is))
              ∙ remembered_more (record_remembered r was is)
          behind (Some r) was is (is_aborted takes about now) =
              ap (is_committed_by (is_remembered new))
              (now ∙ (ap (now_by if_committed) was ∙ ap (λ b. if b then Some r else None) is)) ∙ is

        pub committed_stays : is_committed_at start (logs_of start es) member key tx ≡ true
            → is_committed_at start (logs_of start (e ∷ es)) member key tx ≡ true
        committed_stays is =
            let calm : IsCalm start old tx =
            forth_calm start all es before tx (committed_forth start all es before member there key tx is) in
            let goes = key_goes start all e es moment member there key tx calm in
            behind goes record_was refl is goes.record_goes

      -- and so at all replicas
      pub all_stay : (tx : TxId) (key : List ℕ) → AreCommitted start (logs_of start es) tx key
          → AreCommitted start (logs_of start (e ∷ es)) tx key
      all_stay tx key are member is =
          let was = replica_before start all e es moment key member is in
          committed_stays member (replica_made start all es before key member was) key tx (are member was)

      pub at_all_stays : (tx : TxId) (key : List ℕ) → IsCommittedAtAll start (logs_of start es) tx key
          → IsCommittedAtAll start (logs_of start (e ∷ es)) tx key
      at_all_stays tx key is = record {
        applied = applied_more start all e es moment tx key is.applied;
        committed = all_stay tx key is.committed;
      }

      -- and what is done
      pub done_stays : (tx : TxId) → is_decided start (logs_of start es) tx ≡ true → IsDone start (logs_of start es) tx
          → IsDone start (logs_of start (e ∷ es)) tx
      done_stays tx decided done key written =
          at_all_stays tx key (done key (written_before start all e es moment tx key decided written))
