-- Of a transaction that is decided, and isn't given up, nothing is under way.
use Rattle.std.proofs.Common.{◌≡◌, ℕ, Bool, true, false, List, refl, ap, arith}
use Rattle.std.specs.List.{list_any}
use Rattle.std.specs.Prelude.{Option, None, Some}
use Rattle.run_theory.specs.Lists.{Each}
use Rattle.world_core.specs.Steps.{HostStep}
use Rattle.sig_core.specs.declared.member.TxId.{TxId}
use Rattle.sig_core.specs.Same.{same_tx}
use Rattle.tc_block.specs.declared.phase.Phase.{Phase}
use Rattle.tc_block.specs.declared.phase.Phase.TheVariants.{Open, Verifying, Committing, Completing, Aborting}
use Rattle.tc_block.specs.declared.transaction.Transaction.{Transaction}
use Rattle.node_core.specs.Blocks.{tc_of}
use Rattle.world_core.specs.Hosts.{home}
use Rattle.world_core.specs.Machine.{after}
use Rattle.world_core.specs.Start.{Start}
use Rattle.tc_block.specs.State.{TcState}
use Rattle.tc_block.specs.Phases as phases
use Rattle.tc_block.specs.Phases.{is_aborting}
use Rattle.host_laws.specs.Ways.{back_by, forth_by, sent_ways}
use Rattle.run_laws.proofs.causes.Causal.{sent_kinds}
use Rattle.host_laws.proofs.coordinator.OneWay.{forth_decided, not_apart}
use Rattle.host_laws.proofs.coordinator.Numbers.{IsLive, verified_by}
use Rattle.host_laws.proofs.coordinator.Ways.{not_both}
use Rattle.tc_block.proofs.EachTurn.{may_ask}
use Rattle.run_laws.specs.Live.{live_at, of_host}
use Rattle.run_laws.specs.Tokens.{budget_by}
use Rattle.run_laws.specs.Transit.{logs_of}
use Rattle.run_laws.specs.Undecided.{CarriedOutHaveNone, DecidedHaveNone}
use Rattle.run_laws.proofs.ways.GivenUp.{none_is_both}
use Rattle.host_laws.proofs.coordinator.OfLive.{each_found}
use Rattle.host_laws.specs.Live.{of_live}
use Rattle.run_laws.proofs.tokens.OneAtATime.{one_at_a_time}
use Rattle.run_laws.proofs.hosts.TcSound.{log_sound}
use Rattle.run_laws.proofs.tokens.Coordinator.{IsOwned}
use Rattle.run_laws.proofs.tokens.Turns.{idle}
use Rattle.run_laws.proofs.causes.Decided.{run_is_causal}
use Rattle.run_laws.proofs.causes.Verified.{decided_asked}

-- one that is neither open nor aborted has no operation unanswered
not_asking : (phase : Phase) → phases.is_open phase ≡ false → is_aborting phase ≡ false → may_ask phase ≡ false
not_asking Open off other = absurd cc
not_asking Verifying off other = refl
not_asking (Committing epoch awaited) off other = refl
not_asking (Completing epoch awaited) off other = refl
not_asking (Aborting why verifying awaited) off other = absurd cc

decided_not_asking : (phase : Phase) → phases.is_decided phase ≡ true → may_ask phase ≡ false
decided_not_asking Open is = absurd cc
decided_not_asking Verifying is = absurd cc
decided_not_asking (Committing epoch awaited) is = refl
decided_not_asking (Completing epoch awaited) is = refl
decided_not_asking (Aborting why verifying awaited) is = absurd cc

-- at a host that has asked for its epoch, and hasn't given it up, there may be none of it
module _ (tx : TxId) (h : ℕ) (D : TxId → Type 0) (bs vs : List TxId) where
  asked_by : (live : List (TxId × Transaction)) (node next at : ℕ) → Each (IsOwned node next bs) live
      → Each (IsLive h at D vs) live → list_any (same_tx tx) vs ≡ true → list_any (same_tx tx) bs ≡ false
      → budget_by false (of_live tx live) ≡ 0
  asked_by live node next at owned all asked off = by (of_live tx live) refl
    where
      shut : (t : Transaction) → IsLive h at D vs (tx, t) → (b : Bool) → phases.is_open t.phase ≡ b → b ≡ false
      shut t is false e = refl
      shut t is true e = absurd (not_apart tx vs asked (is.unverified e))

      kept : (t : Transaction) → IsOwned node next bs (tx, t) → (b : Bool) → is_aborting t.phase ≡ b → b ≡ false
      kept t is false e = refl
      kept t is true e = not_both (list_any (same_tx tx) bs) (is.given e) off

      by : (o : Option Transaction) → of_live tx live ≡ o → budget_by false o ≡ 0
      by None e = refl
      by (Some t) e =
          let own = each_found (IsOwned node next bs) live tx t owned e in
          let is = each_found (IsLive h at D vs) live tx t all e in
          idle t.phase t.asked own.right (not_asking t.phase (shut t is (phases.is_open t.phase) refl)
          (kept t own (is_aborting t.phase) refl))

pub decided_have_none : DecidedHaveNone
decided_have_none start es xs tx run transit decided kept =
    let h : ℕ = home start tx in
    let numbered = ((run_is_causal start es run).knows h).numbered in
    omega (
      arith,
      one_at_a_time start es xs tx run transit,
      ap (λ b. budget_by b (live_at start logs tx)) kept,
      asked_by tx _ _ (sent_ways start back_by h (logs h)) (sent_kinds start verified_by h (logs h))
          (tc_of (after start h (logs h))).live _ _ _ (log_sound start h (logs h)).tc.live numbered.live
          (decided_asked start es run tx decided) kept,
    )
  where
    logs : ℕ → List HostStep
    logs = logs_of start es

-- one that is carried out
carried_by : (start : Start) (h : ℕ) (log : List HostStep) (tx : TxId)
    → list_any (same_tx tx) (sent_ways start forth_by h log) ≡ true
    → budget_by false (of_host tx (after start h log)) ≡ 0
carried_by start h log tx carried = by (of_live tx s.live) refl
  where
    s : TcState
    s = tc_of (after start h log)

    by : (o : Option Transaction) → of_live tx s.live ≡ o → budget_by false o ≡ 0
    by None e = refl
    by (Some t) e =
        let own = each_found (IsOwned s.node s.next_seq (sent_ways start back_by h log)) s.live tx t
        (log_sound start h log).tc.live e in
        let known = each_found (λ (x : TxId × Transaction). list_any (same_tx x.0) (sent_ways start forth_by h log) ≡
        true → phases.is_decided x.1.phase ≡ true) s.live tx t (forth_decided start h log) e in
        idle t.phase t.asked own.right (decided_not_asking t.phase (known carried))

pub carried_out_have_none : CarriedOutHaveNone
carried_out_have_none start es xs tx run transit carried =
    omega (
      arith,
      one_at_a_time start es xs tx run transit,
      ap (λ b. budget_by b (live_at start logs tx)) (none_is_both start logs tx carried),
      carried_by start (home start tx) (logs (home start tx)) tx carried,
    )
  where
    logs : ℕ → List HostStep
    logs = logs_of start es
