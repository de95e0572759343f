-- A transaction of a name that takes commands, at quiet: it alone has its number, and it is open at its coordinator.
use Rattle.std.proofs.Common.{◌≡◌, ℕ, true, List, sym, ap, ◌∙◌, subst, arith}
use Rattle.std.specs.Prelude.{Option, Some, is_some}
use Rattle.run_theory.proofs.Pasts.{each_from}
use Rattle.run_theory.specs.Lists.{IsIn}
use Rattle.sig_core.proofs.Keys.{same_tx-self}
use Rattle.sig_core.specs.declared.member.TxId.{TxId}
use Rattle.api_block.specs.declared.opened.Doing.{Doing}
use Rattle.api_block.specs.declared.opened.Doing.TheVariants.{Ready}
use Rattle.api_block.specs.declared.opened.OpenTransaction.{OpenTransaction}
use Rattle.api_block.specs.Opened.{has_tx, is_tx}
use Rattle.world_core.specs.Hosts.{home}
use Rattle.world_core.specs.Machine.{after}
use Rattle.world_core.specs.Start.{Start}
use Rattle.world_core.specs.Steps.{HostStep}
use Rattle.run_theory.proofs.Tally.{only_one}
use Rattle.host_laws.proofs.api.Begins.{in_middle}
use Rattle.answer_laws.proofs.Lives.{holds_at, once_started}
use Rattle.answer_laws.specs.Answered.{AreQuiet, EachIsAnswered, IsOpenAt, is_answered_by}
use Rattle.host_laws.specs.OpenedAfter.{opened_after}
use Rattle.command_laws.proofs.ends.Committed.{calm_at}
use Rattle.command_laws.proofs.hosts.Entries.{IsNamed, named_found}
use Rattle.command_laws.proofs.operations.Asks.{AreNamed}
use Rattle.command_laws.specs.Served.{named_in}

-- one that takes commands is open
pub opens : (start : Start) (logs : ℕ → List HostStep) (tx : TxId) (doing : Doing) (o : Option TxId) → doing ≡ Ready
    → o ≡ Some tx → is_answered_by start logs doing o → IsOpenAt tx (after start (home start tx) (logs (home start tx)))
opens start logs tx doing o is some all =
    subst (λ p. is_answered_by start logs Ready p) some (subst (λ d. is_answered_by start logs d o) is all)

module _ (start : Start) (logs : ℕ → List HostStep) (quiet : AreQuiet start logs) (name : ℕ) (t : OpenTransaction)
    (tx : TxId) (named : named_in (opened_after start logs) name ≡ Some t) (own : t.tx ≡ Some tx) where
  n : IsNamed (opened_after start logs) name t
  n = named_found (opened_after start logs) name t named

  there : IsIn t (opened_after start logs)
  there = subst (λ x. IsIn x (opened_after start logs)) n.item
      (subst (IsIn n.focus.item) (sym n.focus.is) (in_middle n.focus.front n.focus.item n.focus.back))

  -- what has its number has a name, and none is beginning
  pub named_at : AreNamed tx (opened_after start logs)
  named_at = record {
    calm = calm_at start logs quiet;
    named = each_from
        (λ (x : OpenTransaction). has_tx tx x ≡ true → is_some x.name ≡ true) (opened_after start logs) one;
  }
    where
      one : (x : OpenTransaction) → IsIn x (opened_after start logs) → has_tx tx x ≡ true → is_some x.name ≡ true
      one x inside has =
          let h = holds_at start tx logs quiet in
          let same : x ≡ t = only_one (has_tx tx) (opened_after start logs) x t
          (omega (arith, h.few, once_started start tx logs quiet)) inside there has
          (ap (is_tx tx) own ∙ same_tx-self tx) in
          ap (λ (y : OpenTransaction). is_some y.name) same ∙ ap is_some n.called

  pub ready_open : EachIsAnswered → t.doing ≡ Ready → IsOpenAt tx (after start (home start tx) (logs (home start tx)))
  ready_open answered ready = opens start logs tx t.doing t.tx ready own (answered start logs t quiet there)
