-- A transaction that has an operation unanswered isn't decided.
use Rattle.std.proofs.Common.{◌≡◌, ℕ, List, true, false, refl, ap, sym, ◌∙◌}
use Rattle.std.specs.Prelude.{◌-◌, length, Option, None, Some}
use Rattle.std.proofs.lemmas.Bool.{false≢true}
use Rattle.world_core.specs.Steps.{HostStep}
use Rattle.sig_core.specs.declared.member.TxId.{TxId}
use Rattle.sig_core.specs.declared.signal.Body.{Body}
use Rattle.tc_block.specs.declared.phase.Asked.{Asked}
use Rattle.tc_block.specs.declared.phase.Phase.{Phase}
use Rattle.tc_block.specs.declared.phase.Phase.TheVariants.{Open, Verifying, Committing, Completing, Aborting}
use Rattle.tc_block.specs.declared.transaction.Transaction.{Transaction}
use Rattle.tc_block.specs.Abort.{aborts_awaited, is_verifying}
use Rattle.tc_block.specs.Complete.{written_count}
use Rattle.tc_block.specs.Sends.{entering}
use Rattle.tc_block.specs.State.{TcState}
use Rattle.tc_block.specs.Turn.{Turn}
use Rattle.world_core.specs.Machine.{after}
use Rattle.world_core.specs.Start.{Start}
use Rattle.tc_block.specs.Phases.{is_committing, is_decided}
use Rattle.run_laws.proofs.hosts.AlongSteps.{tx_at}
use Rattle.run_laws.proofs.hosts.Always.{always}
use Rattle.host_laws.proofs.coordinator.Operations.{is_right}
use Rattle.host_laws.proofs.coordinator.Turns.{IsCommitted, TurnMove, abort_ends, aborted, aborts, all_completed}
use Rattle.host_laws.proofs.coordinator.Turns.{answers, asks, at_last, at_once, commits, committed, completed}
use Rattle.host_laws.proofs.coordinator.Turns.{completes, decides, ends, gives_up, goes_on, keeps, late}
use Rattle.tc_block.proofs.EachTurn.{may_ask}

right_may : (o : Option Asked) (phase : Phase) → may_ask phase ≡ true → is_right o phase ≡ true
right_may None phase e = refl
right_may (Some a) phase e = e

-- in a phase in which none is unanswered
right_shut : (o : Option Asked) (phase other : Phase) → may_ask phase ≡ false → is_right o phase ≡ true
    → is_right o other ≡ true
right_shut None phase other shut e = refl
right_shut (Some a) phase other shut e = absurd (false≢true (sym shut ∙ e))

committed_shut : (t : Transaction) (body : Body) → IsCommitted t body → may_ask t.phase ≡ false
committed_shut t body (at_once tx epoch p about) = ap may_ask p
committed_shut t body (at_last tx key p about) = by t.phase p
  where
    by : (phase : Phase) → is_committing phase ≡ true → may_ask phase ≡ false
    by (Committing epoch k) e = refl
    by Open e = absurd (false≢true e)
    by Verifying e = refl
    by (Completing epoch k) e = refl
    by (Aborting why v k) e = absurd (false≢true e)

turn_right : (s : TcState) (tx : TxId) (t : Transaction) (body : Body) (turn : Turn) → TurnMove s tx t body turn
    → turn.over ≡ false → is_right t.asked t.phase ≡ true → is_right turn.step.state.asked turn.step.state.phase ≡ true
unfolding entering
turn_right s tx t body turn move over r = go move
  where
    as_is : (other : Turn) → turn ≡ other → is_right other.step.state.asked other.step.state.phase ≡ true
        → is_right turn.step.state.asked turn.step.state.phase ≡ true
    as_is other is e = ap (λ (x : Turn). is_right x.step.state.asked x.step.state.phase) is ∙ e

    go : TurnMove s tx t body turn → is_right turn.step.state.asked turn.step.state.phase ≡ true
    go (keeps sends is kind missed) = as_is _ is r
    go (goes_on at about low is) = as_is _ is r
    go (asks op about p q fit is) = as_is _ is (ap may_ask p)
    go (answers key a asked about p q is) = as_is _ is refl
    go (late key asked about p q is) = as_is _ is refl
    go (decides about p q is) = as_is _ is (ap (λ o. is_right o Verifying) q)
    go (aborts w why gives some is) =
        as_is _ is (right_may w.asked (Aborting why (is_verifying w.phase) (aborts_awaited s.layout w)) refl)
    go (gives_up w why gives is none) = absurd (false≢true (sym over ∙ ap (λ (x : Turn). x.over) is))
    go (aborted key why v k about p low is) = as_is _ is (right_may t.asked (Aborting why v (k - 1)) refl)
    go (abort_ends key why v k about p low is) = as_is _ is r
    go (commits epoch about p is) =
        as_is _ is (right_shut t.asked t.phase (Committing epoch (length t.touched)) (ap may_ask p) r)
    go (committed epoch k p is) = as_is _ is (right_shut t.asked t.phase (Committing epoch (k - 1)) (ap may_ask p) r)
    go (completes epoch p is) = as_is _ is
        (right_shut t.asked t.phase (Completing epoch (written_count t.touched)) (committed_shut t body p) r)
    go (ends epoch p is) = as_is _ is r
    go (completed epoch k p is) = as_is _ is (right_shut t.asked t.phase (Completing epoch (k - 1)) (ap may_ask p) r)
    go (all_completed epoch k p is) = as_is _ is r

-- such a transaction is open, or is aborted
pub asked_may : (start : Start) (tx : TxId) (h : ℕ) (log : List HostStep) (t : Transaction)
    → tx_at tx (after start h log) ≡ Some t → is_right t.asked t.phase ≡ true
asked_may start tx h =
    always start tx h (λ t. is_right t.asked t.phase ≡ true)
    (record { begins = refl; turns = λ s t body turn layout move over r. turn_right s tx t body turn move over r })

pub asked_undecided : (start : Start) (tx : TxId) (h : ℕ) (log : List HostStep) (t : Transaction) (asked : Asked)
    → tx_at tx (after start h log) ≡ Some t → t.asked ≡ Some asked → is_decided t.phase ≡ false
asked_undecided start tx h log t asked at is =
    by t.phase (ap (λ o. is_right o t.phase) (sym is) ∙ asked_may start tx h log t at)
  where
    by : (phase : Phase) → may_ask phase ≡ true → is_decided phase ≡ false
    by Open e = refl
    by Verifying e = refl
    by (Aborting why v k) e = refl
    by (Committing epoch k) e = absurd (false≢true e)
    by (Completing epoch k) e = absurd (false≢true e)
