-- Whoever commits has gone forth at its coordinator, and is decided; and what becomes of whoever has no coordinator in
-- the current view.
use Rattle.std.proofs.Common.{◌≡◌, ◌≢◌, ◌⊎◌, ℕ, Bool, true, false, List, ◌∷◌, inl, inr, sym, subst}
use Rattle.std.proofs.lemmas.Bool.{and_parts, true≢false, or_cases}
use Rattle.std.specs.List.{list_any}
use Rattle.run_theory.specs.Lists.{IsIn}
use Rattle.run_theory.proofs.Pasts.{each_in}
use Rattle.sig_core.specs.declared.member.Member.{Member}
use Rattle.sig_core.specs.declared.member.TxId.{TxId}
use Rattle.sig_core.specs.declared.rows.PendingRecord.{PendingRecord}
use Rattle.sig_core.proofs.TxLemmas.{same_tx-is}
use Rattle.lqh_block.specs.declared.request.Marker.{Marker}
use Rattle.takeover_block.specs.declared.gathered.Gathered.{Gathered}
use Rattle.world_core.specs.Start.{Start, made}
use Rattle.world_core.specs.Steps.{HostStep}
use Rattle.moment_laws.specs.Moments.{IsMoment, current, logs_of}
use Rattle.moment_laws.proofs.MomentViews.{moment_less}
use Rattle.outcome_laws.specs.Known.{IsDecidedIf}
use Rattle.request_laws.specs.Orphans.{IsOrphan}
use Rattle.commit_laws.specs.Fates.{aborts, commits, fate, is_led_by_full}
use Rattle.commit_laws.specs.Forth.{ForthIsKnown, IsForth}
use Rattle.commit_laws.specs.Going.{is_decided, is_forth, is_lost}
use Rattle.commit_laws.specs.Together.{FatesMove}
use Rattle.commit_laws.specs.Traces.{has_trace, is_committed_of, is_known, is_marker_of, leave_trace, members_now}
use Rattle.commit_laws.specs.Traces.{rows_at}
use Rattle.commit_laws.proofs.forth.DecidedStay.{forth_decided, unknown_before, written_before, written_more}
use Rattle.commit_laws.proofs.fates.Cases.{commits_by, gone_either}
use Rattle.commit_laws.proofs.forth.All.{forth_is_known}
use Rattle.commit_laws.proofs.hosts.SomePasses.{passing}
use Rattle.commit_laws.proofs.records.Replicas.{member_made}
use Rattle.commit_laws.proofs.takeover.Words.{Commits, IsRight}

module _ (start : Start) (all : ℕ → List HostStep) (es : List HostStep) (moment : IsMoment start all es) where
  abbrev logs : ℕ → List HostStep
  logs = logs_of start es

  known : ForthIsKnown start (logs_of start es)
  known = forth_is_known start all es moment

  -- who has left a trace at a member has gone forth
  pub left_forth : (member : Member) → IsIn member (made start) → (tx : TxId)
      → leave_trace tx (rows_at start (logs_of start es) member) ≡ true → is_forth start (logs_of start es) tx ≡ true
  left_forth member there tx left =
      by (or_cases (list_any (is_committed_of tx) (rows_at start logs member).lqh.rows.pending)
      (list_any (is_marker_of tx) (rows_at start logs member).lqh.markers) left)
    where
      of_record : (r : PendingRecord) (b : Bool) → b ≡ true
          → IsDecidedIf (λ v epoch. IsForth start logs v) (IsForth start logs) r b
          → IsForth start logs r.tx
      of_record r true is forth = forth
      of_record r false is forth = absurd (true≢false (sym is))

      by : (list_any (is_committed_of tx) (rows_at start logs member).lqh.rows.pending ≡ true)
          ⊎ (list_any (is_marker_of tx) (rows_at start logs member).lqh.markers ≡ true) → is_forth start logs tx ≡ true
      by (inl records) =
          let one = passing (is_committed_of tx) (rows_at start logs member).lqh.rows.pending records in
          let parts = and_parts _ _ one.is in
          subst (IsForth start logs) (same_tx-is one.item.tx tx parts.0)
          (of_record one.item one.item.committed parts.1
          (each_in (λ (r : PendingRecord). IsDecidedIf (λ v epoch. IsForth start logs v) (IsForth start logs) r
          r.committed)
          one.item (rows_at start logs member).lqh.rows.pending (known.rows member there).records one.there))
      by (inr markers) =
          let one = passing (is_marker_of tx) (rows_at start logs member).lqh.markers markers in
          subst (IsForth start logs) (same_tx-is one.item.tx tx one.is)
          (each_in (λ (m : Marker). IsForth start logs m.tx)
          one.item (rows_at start logs member).lqh.markers (known.rows member there).markers one.there)

  pub trace_forth : (tx : TxId) → has_trace start (logs_of start es) tx ≡ true
      → is_forth start (logs_of start es) tx ≡ true
  trace_forth tx has =
      let one =
      passing (λ (member : Member). leave_trace tx (rows_at start logs member)) (members_now start logs) has in
      left_forth one.item (member_made start all es moment one.item one.there) tx one.is

  -- and so has whoever commits
  pub fate_forth : (tx : TxId) → fate start (logs_of start es) tx ≡ commits
      → is_forth start (logs_of start es) tx ≡ true
  fate_forth tx is =
      by (commits_by (is_known start logs tx) (is_led_by_full start logs tx) (is_forth start logs tx)
      (is_lost start logs tx)
      (has_trace start logs tx) is)
    where
      by : (is_known start logs tx ≡ true) ⊎ ((is_forth start logs tx ≡ true) ⊎ (has_trace start logs tx ≡ true))
          → is_forth start logs tx ≡ true
      by (inl is) = known.known tx is
      by (inr (inl is)) = is
      by (inr (inr is)) = trace_forth tx is

  pub fate_decided : (tx : TxId) → fate start (logs_of start es) tx ≡ commits
      → is_decided start (logs_of start es) tx ≡ true
  fate_decided tx is = forth_decided start all es moment tx (fate_forth tx is)

  -- whoever has no coordinator in the current view, and doesn't abort, commits
  pub orphan_commits : (tx : TxId) → IsOrphan (current start (logs_of start es)) tx
      → fate start (logs_of start es) tx ≢ aborts → fate start (logs_of start es) tx ≡ commits
  orphan_commits tx orphan kept =
      by (gone_either (is_known start logs tx) (is_led_by_full start logs tx) (is_forth start logs tx)
      (is_lost start logs tx) (has_trace start logs tx) orphan)
    where
      by : (fate start logs tx ≡ commits) ⊎ (fate start logs tx ≡ aborts) → fate start logs tx ≡ commits
      by (inl is) = is
      by (inr is) = absurd (kept is)

-- what is so of a gathered transaction goes on to be so, as long as the current view is the same
module _ (start : Start) (all : ℕ → List HostStep) (e : HostStep) (es : List HostStep)
    (moment : IsMoment start all (e ∷ es)) (moves : (tx : TxId) → FatesMove start e es tx)
    (same : current start (logs_of start (e ∷ es)) ≡ current start (logs_of start es))
  where
    less : IsMoment start all es
    less = moment_less start all e es moment

    pub commits_more : (tx : TxId) → Commits start (logs_of start es) tx → Commits start (logs_of start (e ∷ es)) tx
    commits_more tx was = (
      (moves tx).committing same was.0,
      record {
        key = was.1.key;
        written =
            written_more start all e es moment tx was.1.key (fate_decided start all es less tx was.0) was.1.written;
      },
    )

    pub right_more : (g : Gathered) → IsOrphan (current start (logs_of start es)) g.tx
        → IsRight start (logs_of start es) g → IsRight start (logs_of start (e ∷ es)) g
    right_more g orphan right = (
      λ none. (moves g.tx).aborting (right.0 none),
      λ kept unknown key written.
          let held = fate_decided start all es less g.tx
          (orphan_commits start all es less g.tx orphan (λ is. kept.fate_is ((moves g.tx).aborting is))) in
          right.1 (record { decided = held; fate_is = λ is. kept.fate_is ((moves g.tx).aborting is) })
          (unknown_before start all e es moment g.tx unknown) key
          (written_before start all e es moment g.tx key held written),
    )
