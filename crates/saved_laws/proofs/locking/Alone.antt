-- No two transactions have prepared images of one key in a member's rows.
use Rattle.std.proofs.Common.{◌≡◌, ◌∙◌, ℕ, Bool, true, false, List, [], ◌∷◌, refl, sym, ap, subst}
use Rattle.std.specs.Prelude.{if◌then◌else◌, Option, None, Some}
use Rattle.run_theory.specs.Lists.{IsIn}
use Rattle.sig_core.proofs.RecordLemmas.{record_of-first}
use Rattle.sig_core.specs.declared.member.Member.{Member}
use Rattle.sig_core.specs.declared.member.TxId.{TxId}
use Rattle.sig_core.specs.declared.rows.PendingRecord.{PendingRecord}
use Rattle.sig_core.specs.Firsts.{first}
use Rattle.sig_core.specs.Rows.{RowsState, is_of}
use Rattle.sig_core.proofs.Keys.{same_tx-self}
use Rattle.sig_core.specs.Same.{same_tx}
use Rattle.row_locks.specs.declared.claim.Holder.{Holder}
use Rattle.row_locks.specs.declared.mode.Mode.TheVariants.{Exclusive}
use Rattle.row_locks.specs.Holders.{holds_enough}
use Rattle.row_locks.specs.Tables.{lock_at}
use Rattle.local_ckpt.specs.Locking.{AreLocked}
use Rattle.local_ckpt.specs.Orderly.{image_in, prepared_in}
use Rattle.lqh_block.specs.State.{LqhState}
use Rattle.lqh_views.specs.State.{ReplicaState}
use Rattle.key_laws.specs.Records.{without_epoch}
use Rattle.key_laws.proofs.EpochLemmas.{record_in_cell, without}
use Rattle.key_laws.proofs.Holding.{holds_so, only_holder}
use Rattle.world_core.specs.Start.{Start, made}
use Rattle.world_core.specs.Steps.{HostStep}
use Rattle.view_laws.specs.Runs.{view_after}
use Rattle.moment_laws.specs.Moments.{IsMoment, current, logs_of}
use Rattle.moment_laws.specs.Places.{ldm_of}
use Rattle.moment_laws.proofs.MomentHosts.{ldm_member, part_some}
use Rattle.moment_laws.proofs.MomentMembers.{current_host}
use Rattle.moment_laws.proofs.MomentTurns.{own_behind}
use Rattle.moment_laws.proofs.MomentViews.{moment_less}
use Rattle.request_laws.proofs.tokens.HostsApart.{ldm_low}
use Rattle.commit_laws.specs.Traces.{members_now, record_at, rows_at}
use Rattle.commit_laws.proofs.hosts.RowsTurn.{RowsTurn, enter_now, rest_now, rows_turn, take_now}
use Rattle.commit_laws.proofs.records.Once.{rows_well}
use Rattle.commit_laws.proofs.records.Replicas.{members_full}
use Rattle.commit_laws.proofs.settled.All.{all_stand}
use Rattle.sig_core.specs.declared.place.Part.TheVariants.{Ldm}
use Rattle.journal_laws.specs.Journal.{first_rows}
use Rattle.journal_laws.proofs.events.FirstRows.{first_pending}
use Rattle.saved_laws.specs.Locks.{PreparedStandAlone}

-- a member of the current view
module _ (start : Start) (all : ℕ → List HostStep) (es : List HostStep) (moment : IsMoment start all es)
    (member : Member) (there : IsIn member (made start)) (among : IsIn member (members_now start (logs_of start es)))
  where
    abbrev now : LqhState
    now = (rows_at start (logs_of start es) member).lqh

    abbrev holders_at : List ℕ → List Holder
    holders_at key = (lock_at now.locks key).holders

    -- whoever has prepared an image of a key holds its lock
    holds_lock : (tx : TxId) (key : List ℕ) (image : Option (List ℕ)) → image_in now.rows tx key ≡ Some image
        → holds_enough tx Exclusive (holders_at key) ≡ true
    holds_lock tx key image = by (first (is_of tx key) now.rows.pending) refl
      where
        record_is : (o : Option PendingRecord) → first (is_of tx key) now.rows.pending ≡ o
            → record_at start (logs_of start es) member key tx ≡ without o
        record_is o found =
            sym (record_in_cell now.rows tx key) ∙ ap without (record_of-first now.rows tx key ∙ found)

        by : (o : Option PendingRecord) → first (is_of tx key) now.rows.pending ≡ o → prepared_in o ≡ Some image
            → holds_enough tx Exclusive (holders_at key) ≡ true
        by None found is = absurd cc
        by (Some r) found is = if_done r.committed refl is
          where
            if_done : (b : Bool) → r.committed ≡ b → (if b then None else Some r.image) ≡ Some image
                → holds_enough tx Exclusive (holders_at key) ≡ true
            if_done true done is = absurd cc
            if_done false begun is =
                (all_stand start all es moment).commits.prepared member among key tx (without_epoch r)
                (record_is (Some r) found) begun

    -- which nobody else does
    alone_now : AreLocked now.rows
    alone_now tx key image here other another also =
        let well = rows_well start moment.cluster.nobody member there (logs_of start es (ldm_of start member)) in
        let same : other ≡ tx =
        only_holder (holders_at key) (well.orderly.each key).agreed tx other (holds_lock tx key image here)
        (holds_so other Exclusive (holders_at key) (holds_lock other key another also)) in
        ap (same_tx tx) same ∙ same_tx-self tx

module _ (start : Start) (all : ℕ → List HostStep) (member : Member) (there : IsIn member (made start)) where
  none_alone : (s : RowsState) → s.pending ≡ [] → AreLocked s
  none_alone s none tx key image here other another also =
      absurd (let both : None ≡ Some image =
      sym (ap (λ pending. prepared_in (first (is_of tx key) pending)) none) ∙ here in cc)

  -- a host that stands in the current view is one of its members
  pub among_now : (e : HostStep) (es : List HostStep) (moment : IsMoment start all (e ∷ es))
      → e.host ≡ ldm_of start member
      → view_after start e.host (e ∷ logs_of start es e.host) ≡ current start (logs_of start (e ∷ es))
      → IsIn member (members_now start (logs_of start (e ∷ es)))
  among_now e es moment at stands =
      subst (IsIn member) (sym (members_full start all (e ∷ es) moment))
      (subst (λ m. IsIn m (current start (logs_of start (e ∷ es))).full)
      (ldm_member start moment.cluster.nobody member there)
      (current_host start all (e ∷ es) moment (ldm_of start member) (part_some start Ldm member)
      (ldm_low start moment.cluster.nobody member there)
      (subst (λ k. view_after start k (logs_of start (e ∷ es) k) ≡ current start (logs_of start (e ∷ es))) at
      (own_behind start all e es moment ∙ stands))))

  abbrev AreAlone : ReplicaState → Type 0
  AreAlone s = AreLocked s.lqh.rows

  pub always_alone : (es : List HostStep) → IsMoment start all es → AreAlone (rows_at start (logs_of start es) member)
  always_alone [] moment = none_alone (first_rows start member) (first_pending start moment.cluster.nobody member there)
  always_alone (e ∷ es) moment =
      by (rows_turn start all e es moment member there) (always_alone es (moment_less start all e es moment))
    where
      by : RowsTurn start all e es moment member there → AreAlone (rows_at start (logs_of start es) member)
          → AreAlone (rows_at start (logs_of start (e ∷ es)) member)
      by (rest_now is quiet stays) before = subst AreLocked (sym (ap (λ (s : ReplicaState). s.lqh.rows) is)) before
      by (enter_now is quiet) before = subst AreLocked (sym (ap (λ (s : ReplicaState). s.lqh.rows) is)) before
      by (take_now s between which taken) before =
          alone_now start all (e ∷ es) moment member there
          (among_now e es moment taken.at taken.now.stands)

pub stand_alone : PreparedStandAlone
stand_alone start all es moment member there = always_alone start all member there es moment
