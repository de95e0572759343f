-- A coordinator commits and completes rows only of the transaction whose turn it is.
use Rattle.std.proofs.Common.{◌≡◌, List, Bool, true, false, refl}
use Rattle.run_theory.specs.Lists.{Each}
use Rattle.sig_core.specs.declared.member.TxId.{TxId}
use Rattle.sig_core.specs.declared.outs.Outgoing.{Outgoing}
use Rattle.sig_core.specs.declared.signal.Body.{Body}
use Rattle.sig_core.specs.declared.signal.Body.TheVariants.{Host, Client, Chain}
use Rattle.sig_core.specs.declared.signal.chain.ChainSignal.TheVariants.{Commit, Committed, Complete}
use Rattle.sig_core.specs.declared.signal.client.ClientSignal.TheVariants.{TcCommitConf}
use Rattle.sig_core.specs.declared.signal.host.HostSignal.TheVariants.{Continue}
use Rattle.sig_core.specs.declared.signal.host.Work.TheVariants as work
use Rattle.sig_core.specs.Same.{same_tx}
use Rattle.sig_core.proofs.Keys.{same_tx-self}
use Rattle.tc_block.specs.State.{TcState}
use Rattle.tc_block.proofs.LiveKeeps.{SendsBeside}
use Rattle.host_laws.proofs.hosts.SendKinds.{each_of}
use Rattle.host_laws.proofs.coordinator.Lives.{apart}
use Rattle.host_laws.proofs.coordinator.TurnKinds.{OwnKinds, TurnOnly, own_kinds}
use Rattle.run_laws.proofs.fades.Signals.{is_sign}
use Rattle.tc_block.proofs.TurnRows.{turn_for}
use Rattle.run_laws.proofs.hosts.TxTurns.{OthersSend, turn_each}

abbrev pub AreSilent : TxId → List Outgoing → Type 0
AreSilent tx sends = Each (λ (o : Outgoing). is_sign tx o.body ≡ false) sends

-- it is no such signal of another transaction, and no answer to one
abbrev is_own : TxId → Body → Bool
is_own one (Chain (Commit tx key epoch chain at)) = same_tx tx one
is_own one (Chain (Committed tx key)) = false
is_own one (Chain (Complete tx key chain at)) = same_tx tx one
is_own one (Client (TcCommitConf tx epoch)) = same_tx tx one
is_own one (Host (Continue (work.Transaction tx) at)) = same_tx tx one
is_own one _ = true

-- so it says nothing of another transaction
own_sign : (one tx : TxId) → same_tx one tx ≡ false → (body : Body) → is_own one body ≡ true → is_sign tx body ≡ false
own_sign one tx differs (Chain (Commit other key epoch chain at)) e = apart tx one other differs e
own_sign one tx differs (Chain (Committed other key)) e = cc
own_sign one tx differs (Chain (Complete other key chain at)) e = apart tx one other differs e
own_sign one tx differs (Client (TcCommitConf other epoch)) e = apart tx one other differs e
own_sign one tx differs (Host (Continue (work.Transaction other) at)) e = apart tx one other differs e
own_sign one tx differs _ e = refl

own : (tx : TxId) (body : Body) → OwnKinds tx (is_own tx) body
own tx body = record {
  chains = record {
    commits = λ key epoch chain at. same_tx-self tx;
    completes = λ key chain at. same_tx-self tx;
    aborts = λ key. refl;
    goes_on = λ at. same_tx-self tx;
  };
  operates = λ op chain. refl;
  answers = λ key answer is. refl;
  waits = λ key. refl;
  verifies = λ ops. refl;
  verified = refl;
  committed = λ epoch. same_tx-self tx;
  rolled_back = λ why. refl;
}

-- the others say nothing of it, nor does the coordinator beside their turns
pub others_silent : (tx : TxId) (s : TcState) (body : Body)
    → OthersSend (λ (o : Outgoing). is_sign tx o.body ≡ false) tx s body
others_silent tx s body one off its t =
    each_of (is_own one) (λ o. is_sign tx o.body ≡ false) (λ o e. own_sign one tx off o.body e)
    (turn_for s.node s.layout one body t).step.effects.sends
    (turn_each s.node s.layout one body t (TurnOnly (is_own one))
    (own_kinds (is_own one) one body (own one body) s.node s.layout t) its)

pub beside_silent : (tx : TxId) (s : TcState) → SendsBeside (λ (o : Outgoing). is_sign tx o.body ≡ false) s
beside_silent tx s = record { full = λ name. (refl, tt); begins = λ name. (refl, tt); passes = λ one ahead. (refl, tt) }
