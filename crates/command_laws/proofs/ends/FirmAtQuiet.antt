-- A transaction that takes commands at a quiet moment is firm at each host.
use Rattle.std.proofs.Common.{◌≡◌, ◌<◌, ◌≤◌, ℕ, true, List, ap, ◌∙◌, subst}
use Rattle.run_theory.proofs.Pasts.{each_from}
use Rattle.run_theory.specs.Lists.{IsIn}
use Rattle.sig_core.proofs.Keys.{same_tx-self}
use Rattle.sig_core.specs.declared.member.TxId.{TxId}
use Rattle.sig_core.specs.Same.{same_tx}
use Rattle.node_core.specs.Blocks.{tc_of}
use Rattle.tc_block.specs.declared.phase.Phase.TheVariants.{Open}
use Rattle.tc_block.specs.declared.transaction.Transaction.{Transaction}
use Rattle.world_core.specs.Hosts.{home, first_hosts}
use Rattle.world_core.specs.Machine.{after}
use Rattle.world_core.specs.Start.{Start}
use Rattle.world_core.specs.Steps.{HostStep}
use Rattle.run_theory.proofs.Tally.{only_one}
use Rattle.run_theory.specs.Counts.{tally}
use Rattle.run_laws.proofs.hosts.AlongSteps.{live_tx}
use Rattle.host_laws.proofs.coordinator.Lives.{is_keyed}
use Rattle.host_laws.proofs.coordinator.Moves.{same_tx-is}
use Rattle.answer_laws.specs.Answered.{IsOpenAt}
use Rattle.command_laws.proofs.ends.Firm.{is_firm}
use Rattle.command_laws.proofs.ends.FirmHosts.{FirmHost}
use Rattle.command_laws.proofs.quiet.Homes.{lives_home, sound_at}

module _ (start : Start) (tx : TxId) (logs : ℕ → List HostStep) where
  pub firm_at : IsOpenAt tx (after start (home start tx) (logs (home start tx))) → (h : ℕ) → h < first_hosts start
      → FirmHost tx (after start h (logs h))
  firm_at open_there h low = each_from (λ (e : TxId × Transaction). same_tx e.0 tx ≡ true
      → is_firm e.1.phase e.1.asked ≡ true) (tc_of (after start h (logs h))).live here
    where
      few : tally (is_keyed tx) (tc_of (after start h (logs h))).live ≤ 1
      few = (sound_at start tx h (logs h)).few

      -- it is the one that is open
      here : (e : TxId × Transaction) → IsIn e (tc_of (after start h (logs h))).live → same_tx e.0 tx ≡ true
          → is_firm e.1.phase e.1.asked ≡ true
      here e inside same =
          let own = subst (λ v. IsIn (v, e.1) (tc_of (after start h (logs h))).live) (same_tx-is e.0 tx same) inside in
          let at = lives_home start tx h (logs h) low e.1 (live_tx start tx h (logs h) e.1 own) in
          let o : IsOpenAt tx (after start h (logs h)) =
          subst (λ k. IsOpenAt tx (after start k (logs k))) at open_there in
          let is : e ≡ (tx, o.transaction) = only_one (is_keyed tx) (tc_of (after start h (logs h))).live e
          (tx, o.transaction) few inside o.live same (same_tx-self tx) in
          ap (λ (x : TxId × Transaction). is_firm x.1.phase x.1.asked) is
          ∙ ap (λ p. is_firm p o.transaction.asked) o.phase ∙ ap (is_firm Open) o.asked
