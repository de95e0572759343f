-- Whoever is reported aborted takes no effect: it aborts, so it was applied nowhere, and it isn't reported committed.
use Rattle.std.proofs.Common.{◌≡◌, ◌≢◌, ◌≤◌, ◌+◌, ◌∙◌, ℕ, zero, suc, Bool, true, false, List, [], ◌∷◌, refl, sym, ap}
use Rattle.std.proofs.Common.{subst, arith, inl, inr}
use Rattle.std.proofs.lemmas.Bool.{or_left, or_right}
use Rattle.std.specs.List.{count_by}
use Rattle.run_theory.proofs.Pasts.{each_from, each_in}
use Rattle.run_theory.specs.Lists.{Each}
use Rattle.run_theory.specs.Ranks.{in_order}
use Rattle.sig_core.proofs.Keys.{same_tx-self}
use Rattle.sig_core.proofs.TxLemmas.{same_tx-is}
use Rattle.sig_core.specs.declared.entry.Entry.{Entry}
use Rattle.sig_core.specs.declared.mark.Mark.{Mark}
use Rattle.sig_core.specs.declared.mark.Mark.TheVariants.{Reported}
use Rattle.sig_core.specs.declared.member.TxId.{TxId}
use Rattle.sig_core.specs.declared.outcome.AbortCause.{AbortCause}
use Rattle.sig_core.specs.declared.outcome.AbortCause.TheVariants as cause
use Rattle.sig_core.specs.declared.outcome.Outcome.{Outcome}
use Rattle.sig_core.specs.declared.outcome.Outcome.TheVariants.{Aborted, Committed}
use Rattle.sig_core.specs.Same.{same_tx}
use Rattle.tc_block.specs.Complete.{one_if}
use Rattle.world_core.specs.Entries.{entries}
use Rattle.world_core.specs.History.{history, is_kept, is_reported}
use Rattle.world_core.specs.Hosts.{hosts}
use Rattle.world_core.specs.Marks.{has_mark}
use Rattle.world_core.specs.Start.{Start}
use Rattle.world_core.specs.Steps.{HostStep}
use Rattle.view_laws.specs.Order.{by_views}
use Rattle.view_laws.specs.Runs.{AreOfCluster}
use Rattle.moment_laws.proofs.MomentRuns.{are_moments, logs_in_views}
use Rattle.moment_laws.specs.Moments.{IsMoment, logs_of}
use Rattle.outcome_laws.proofs.downfall.NeverDecided.{none_down_decided}
use Rattle.outcome_laws.proofs.once.ReportedOnce.{reported_once}
use Rattle.outcome_laws.proofs.order.BeforeInLists.{kept_in}
use Rattle.outcome_laws.proofs.coordinators.Lists.{count_more}
use Rattle.outcome_laws.specs.Counts.{is_report}
use Rattle.outcome_laws.specs.Decided.{IsMarked}
use Rattle.outcome_laws.specs.Once.{marks_in}
use Rattle.outcome_laws.specs.Outcomes.{reports_in}
use Rattle.request_laws.proofs.routes.ChainsStay.{any_in}
use Rattle.commit_laws.specs.Cuts.{AbortsTakeNone}
use Rattle.commit_laws.specs.Ends.{AppliedCommit}
use Rattle.commit_laws.specs.Fates.{aborts, fate}
use Rattle.commit_laws.specs.Speaks.{ReportedAbort}
use Rattle.commit_laws.proofs.fates.Cases.{not_both}
use Rattle.commit_laws.proofs.fates.FinalsForth.{HasFinalEntry, IsFinalBy, by_report, by_write, final_by}
use Rattle.commit_laws.proofs.led.Entries.{mark_counts}
use Rattle.commit_laws.proofs.hosts.ReportsOfShell.{no_reports}

-- the mark reports an abort of the transaction
abbrev is_abort_of : TxId → Mark → Bool
is_abort_of tx (Reported other (Aborted cause)) = same_tx other tx
is_abort_of tx mark = false

-- which is another report than that of its commit
apart : (tx : TxId) (mark : Mark)
    → one_if (is_reported tx mark) + one_if (is_abort_of tx mark) ≤ one_if (is_report tx mark)
apart tx (Reported other outcome) = by outcome
  where
    by : (outcome : Outcome)
        → one_if (is_reported tx (Reported other outcome)) + one_if (is_abort_of tx (Reported other outcome))
        ≤ one_if (same_tx other tx)
    by (Committed epoch) = omega arith
    by (Aborted cause) = omega arith
    by outcome = omega arith
apart tx mark = omega arith

step_apart : (tx : TxId) (marks : List Mark)
    → count_by (is_reported tx) marks + count_by (is_abort_of tx) marks ≤ count_by (is_report tx) marks
step_apart tx [] = omega arith
step_apart tx (mark ∷ marks) =
    omega (
      arith,
      apart tx mark,
      step_apart tx marks,
      count_more (is_reported tx) mark marks,
      count_more (is_abort_of tx) mark marks,
      count_more (is_report tx) mark marks,
    )

reports_apart : (tx : TxId) (log : List HostStep)
    → marks_in (is_reported tx) log + marks_in (is_abort_of tx) log ≤ reports_in tx log
reports_apart tx [] = omega arith
reports_apart tx (e ∷ log) = omega (arith, step_apart tx e.step.marks, reports_apart tx log)

has_abort : (tx : TxId) (why : AbortCause) (log : List HostStep) → IsMarked (Reported tx (Aborted why)) log
    → has_mark (is_abort_of tx) log ≡ true
has_abort tx why [] is = absurd is
has_abort tx why (e ∷ log) (inl now) =
    or_left _ _ (any_in (is_abort_of tx) (Reported tx (Aborted why)) e.step.marks now (same_tx-self tx))
has_abort tx why (e ∷ log) (inr older) = or_right _ _ (has_abort tx why log older)

-- so none is reported both committed and aborted
reported_apart : (start : Start) (logs : ℕ → List HostStep) → AreOfCluster start logs → (tx : TxId) (why : AbortCause)
    → IsMarked (Reported tx (Aborted why)) (logs 0) → has_mark (is_reported tx) (logs 0) ≡ true → ⊥
reported_apart start logs are tx why marked has =
    absurd (omega (
      arith,
      reported_once start logs are tx,
      reports_apart tx (logs 0),
      mark_counts (is_reported tx) (logs 0) has,
      mark_counts (is_abort_of tx) (logs 0) (has_abort tx why (logs 0) marked),
    ))

module _ (reported : ReportedAbort) (applied : AppliedCommit) (start : Start) (logs : ℕ → List HostStep)
    (are : AreOfCluster start logs) (tx : TxId) (why : AbortCause)
    (marked : IsMarked (Reported tx (Aborted why)) (logs 0))
    (not_down : why ≢ cause.Down)
  where
    abbrev events : List HostStep
    events = in_order (by_views start logs)

    moment : IsMoment start logs events
    moment = are_moments start logs are

    fate_is : fate start (logs_of start events) tx ≡ aborts
    fate_is =
        reported start logs events moment tx why not_down
        (subst (λ (ls : ℕ → List HostStep). IsMarked (Reported tx (Aborted why)) (ls 0))
        (sym (logs_in_views start logs are)) marked)

    none_reported : (h : ℕ) → has_mark (is_reported tx) (logs h) ≡ true → ⊥
    none_reported zero has = reported_apart start logs are tx why marked has
    none_reported (suc k) has = no_reports start are.nobody k tx (logs (suc k)) (are.right.local (suc k)) has

    final_one : (entry : Entry) → is_kept (hosts start) logs entry ≡ true → entry.tx ≡ tx
        → HasFinalEntry start events tx
    final_one entry kept is = record {
      entry = entry;
      tx_is = is;
      kept = ap (λ (ls : ℕ → List HostStep). is_kept (hosts start) ls entry) (logs_in_views start logs are) ∙ kept;
    }

    -- an entry of it takes no effect
    no_entry : (entry : Entry) → is_kept (hosts start) logs entry ≡ true → entry.tx ≡ tx → ⊥
    unfolding final_one
    no_entry entry kept is = by (final_by start logs events moment tx (final_one entry kept is))
      where
        by : IsFinalBy start events tx entry → ⊥
        by (by_write wrote key at) =
            not_both (sym (applied start logs events moment tx key at) ∙ fate_is)
        by (by_report wrote h has) =
            none_reported h (subst (λ (ls : ℕ → List HostStep). has_mark (is_reported tx) (ls h) ≡ true)
            (logs_in_views start logs are) has)

    none_kept : Each (λ (entry : Entry). same_tx entry.tx tx ≡ false) (history (hosts start) logs)
    none_kept =
        each_from (λ (entry : Entry). same_tx entry.tx tx ≡ false) (history (hosts start) logs)
        (λ entry there. by entry (kept_in (is_kept (hosts start) logs) entry (entries (hosts start) logs) there).passes
        (same_tx entry.tx tx) refl)
      where
        by : (entry : Entry) → is_kept (hosts start) logs entry ≡ true → (b : Bool) → same_tx entry.tx tx ≡ b
            → b ≡ false
        by entry kept false is = refl
        by entry kept true is = absurd (no_entry entry kept (same_tx-is entry.tx tx is))

pub aborts_take_none : ReportedAbort → AppliedCommit → AbortsTakeNone
aborts_take_none reported applied start logs are tx why marked = by why marked
  where
    rest : (other : AbortCause) → IsMarked (Reported tx (Aborted other)) (logs 0) → other ≢ cause.Down
        → Each (λ (entry : Entry). same_tx entry.tx tx ≡ false) (history (hosts start) logs)
    rest other marked apart = none_kept reported applied start logs are tx other marked apart

    down : IsMarked (Reported tx (Aborted cause.Down)) (logs 0)
        → Each (λ (entry : Entry). same_tx entry.tx tx ≡ false) (history (hosts start) logs)
    down marked =
        each_from (λ (entry : Entry). same_tx entry.tx tx ≡ false) (history (hosts start) logs)
        (λ entry there.
        each_in (λ (entry : Entry). same_tx entry.tx tx ≡ false) entry (entries (hosts start) logs)
        (none_down_decided start logs are tx marked)
        (kept_in (is_kept (hosts start) logs) entry (entries (hosts start) logs) there).there)

    by : (other : AbortCause) → IsMarked (Reported tx (Aborted other)) (logs 0)
        → Each (λ (entry : Entry). same_tx entry.tx tx ≡ false) (history (hosts start) logs)
    by cause.Down marked = down marked
    by cause.Request marked = rest cause.Request marked (λ same. absurd cc)
    by cause.Timeout marked = rest cause.Timeout marked (λ same. absurd cc)
    by (cause.NodeFail number) marked = rest (cause.NodeFail number) marked (λ same. absurd cc)
    by (cause.LogFull used reserved need) marked = rest (cause.LogFull used reserved need) marked (λ same. absurd cc)
    by (cause.TableFull rows) marked = rest (cause.TableFull rows) marked (λ same. absurd cc)
