-- One transaction at its coordinator, from step to step.
use Rattle.std.proofs.Common.{◌≡◌, ◌<◌, ◌≤◌, Bool, true, false, refl, ap}
use Rattle.std.specs.Prelude.{not, None, Some}
use Rattle.run_theory.specs.Lists.{Each}
use Rattle.sig_core.specs.declared.member.TxId.{TxId}
use Rattle.sig_core.specs.declared.place.Place.{Place}
use Rattle.sig_core.specs.declared.signal.Body.{Body}
use Rattle.sig_core.specs.declared.signal.Body.TheVariants.{Client, Chain}
use Rattle.sig_core.specs.declared.signal.chain.ChainSignal.TheVariants.{Abort}
use Rattle.sig_core.specs.declared.signal.client.ClientSignal.TheVariants.{TcKeyConf, TcCommitConf, TcRollbackRep}
use Rattle.sig_core.specs.Same.{same_tx}
use Rattle.sig_core.specs.Step.{Step}
use Rattle.tc_block.specs.declared.transaction.Transaction.{Transaction}
use Rattle.tc_block.specs.Operate.{fresh}
use Rattle.tc_block.specs.State.{TcState}
use Rattle.tc_block.specs.Tc.{tc_table}
use Rattle.run_theory.specs.Counts.{tally}
use Rattle.host_laws.proofs.hosts.SendKinds.{none_of}
use Rattle.host_laws.proofs.coordinator.Lives.{IsOwn, is_keyed}
use Rattle.host_laws.proofs.coordinator.Steps.{TxStep, born, elsewhere, is_apart, left_of_turn, next_grows, turned}
use Rattle.host_laws.proofs.coordinator.Steps.{tx_step}
use Rattle.tc_block.proofs.TurnRows.{tx_in, is_turn, turn_row}
use Rattle.host_laws.proofs.api.Wishes.{sends_of}
use Rattle.host_laws.specs.Live.{of_live}
use Rattle.command_laws.proofs.hosts.HostSends.{IsOfTc, is_other_kind}

-- what the coordinator tells the client of the transaction, once it has begun, and replicas of its abort
abbrev pub told_of : TxId → Body → Bool
told_of tx (Client (TcKeyConf other answer)) = same_tx other tx
told_of tx (Client (TcCommitConf other epoch)) = same_tx other tx
told_of tx (Client (TcRollbackRep other cause)) = same_tx other tx
told_of tx (Chain (Abort other key)) = same_tx other tx
told_of tx _ = false

abbrev pub is_told : TxId → Place → Body → Bool
is_told tx to body = told_of tx body

-- what is known of a coordinator's transactions: none stands twice, and their numbers were given before
pub record IsSound (tx : TxId) (s : TcState) : Type 0 where
  pub few : tally (is_keyed tx) s.live ≤ 1
  pub own : Each (λ (e : TxId × Transaction). IsOwn s.node s.next_seq e.0) s.live

-- how the transaction fares in a step of its coordinator: nothing is said of it, or it begins, or it takes its turn
pub data TcGoes (tx : TxId) (s : TcState) (body : Body) (step : Step TcState) : Type 0 where
  aside : of_live tx step.state.live ≡ of_live tx s.live → sends_of (is_told tx) step.effects.sends ≡ 0
      → s.next_seq ≤ step.state.next_seq
      → (is_turn body ≡ true → tx_in body ≡ tx → of_live tx s.live ≡ None) → TcGoes tx s body step
  begins : tx.seq ≡ s.next_seq → of_live tx step.state.live ≡ Some fresh → sends_of (is_told tx) step.effects.sends ≡ 0
      → s.next_seq < step.state.next_seq → TcGoes tx s body step
  takes : (t : Transaction) → tx_in body ≡ tx → of_live tx s.live ≡ Some t
      → step.effects.sends ≡ (turn_row s body t).step.effects.sends
      → of_live tx step.state.live ≡ left_of_turn (turn_row s body t) → s.next_seq ≤ step.state.next_seq
      → TcGoes tx s body step

off : (b : Bool) → not b ≡ true → b ≡ false
off true e = cc
off false e = refl

module _ (tx : TxId) where
  none_apart : (to : Place) (body : Body) → is_apart tx body ≡ true → is_told tx to body ≡ false
  none_apart to (Client (TcKeyConf other answer)) e = off (same_tx other tx) e
  none_apart to (Client (TcCommitConf other epoch)) e = off (same_tx other tx) e
  none_apart to (Client (TcRollbackRep other cause)) e = off (same_tx other tx) e
  none_apart to (Chain (Abort other key)) e = off (same_tx other tx) e
  none_apart to _ e = refl

  pub told_tc : IsOfTc (is_told tx)
  told_tc = record { others = others; begins = λ name node. refl }
    where
      others : (to : Place) (body : Body) → is_other_kind body ≡ true → is_told tx to body ≡ false
      others to (Client (TcKeyConf other answer)) e = cc
      others to (Client (TcCommitConf other epoch)) e = cc
      others to (Client (TcRollbackRep other cause)) e = cc
      others to (Chain (Abort other key)) e = cc
      others to _ e = refl

  pub tc_goes : (s : TcState) (body : Body) → IsSound tx s → TcGoes tx s body (tc_table s body)
  tc_goes s body sound = by (tx_step tx s body sound.few sound.own)
    where
      by : TxStep tx s body (tc_table s body) → TcGoes tx s body (tc_table s body)
      by (elsewhere same kind absent) =
          aside same (none_of (is_apart tx) (is_told tx) none_apart (tc_table s body).effects.sends kind)
          (next_grows s body) absent
      by (born name about one none there told later) =
          begins (ap (λ (v : TxId). v.seq) one) there (ap (sends_of (is_told tx)) told) later
      by (turned t about one there move left told) = takes t one there told left (next_grows s body)
