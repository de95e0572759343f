-- What the coordinator sends, but for its answer to the wish for a transaction.
use Rattle.std.proofs.Common.{◌≡◌, ℕ, Bool, true, false, refl, ap, sym, ◌∙◌, arith}
use Rattle.std.specs.Prelude.{nat_eq, Option}
use Rattle.std.proofs.lemmas.Bool.{false≢true}
use Rattle.std.proofs.lemmas.Bool.Decides.{nat_tests}
use Rattle.sig_core.specs.declared.member.TxId.{TxId}
use Rattle.sig_core.specs.declared.signal.Body.{Body}
use Rattle.sig_core.specs.declared.signal.Body.TheVariants.{Client}
use Rattle.sig_core.specs.declared.signal.client.ClientSignal.TheVariants.{TcBeginReq, TcBeginConf, TcBeginRef}
use Rattle.sig_core.specs.declared.signal.client.ClientSignal.TheVariants.{TcWaitConf}
use Rattle.sig_core.specs.Step.{Step}
use Rattle.tc_block.specs.declared.transaction.Transaction.{Transaction}
use Rattle.tc_block.specs.State.{TcState}
use Rattle.tc_block.specs.Tc.{next_tx, tc_table}
use Rattle.tc_block.specs.Turn.{Turn}
use Rattle.sig_core.proofs.Keys.{same_tx-self}
use Rattle.tc_block.proofs.TurnRows.{TcStep, begins, misses, passes, refuses, rests, takes, tc_step, turn_by, turn_row}
use Rattle.tc_block.proofs.TurnRows.{tx_in}
use Rattle.host_laws.proofs.hosts.SendKinds.{SendsOnly, are_of, is_begin_wish, is_tc_kind, of_kind, one_kind}
use Rattle.host_laws.proofs.coordinator.TurnKinds.{OwnKinds, own_kinds}

pub eqb-self : (n : ℕ) → nat_eq n n ≡ true
eqb-self n = grind (arith, nat_tests)

-- a turn of a transaction that sends no others
abbrev pub TurnSends : TxId → Turn → Type 0
TurnSends tx turn = SendsOnly (is_tc_kind tx) turn.step

own : (tx : TxId) (body : Body) → OwnKinds tx (is_tc_kind tx) body
own tx body = record {
  chains = record {
    commits = λ key epoch chain at. refl;
    completes = λ key chain at. refl;
    aborts =
        λ key. refl;
    goes_on = λ at. refl;
  };
  operates = λ op chain. refl;
  answers = λ key answer is. same_tx-self tx;
  waits = λ key. refl;
  verifies = λ ops. refl;
  verified = refl;
  committed = λ epoch. same_tx-self tx;
  rolled_back = λ why. same_tx-self tx;
}

-- so is each turn
pub turn_sends : (s : TcState) (body : Body) (t : Transaction) → TurnSends (tx_in body) (turn_row s body t)
turn_sends s body t =
    let tx = tx_in body in
    turn_by s t (TurnSends tx) body (own_kinds (is_tc_kind tx) tx body (own tx body) s.node s.layout t) (λ off. refl)

-- and each step of the coordinator, unless it begins a transaction
pub tc_kinds : (s : TcState) (body : Body) → is_begin_wish body ≡ false
    → SendsOnly (is_tc_kind (tx_in body)) (tc_table s body)
tc_kinds s body other = by (tc_table s body) (tc_step s body)
  where
    sent : Step TcState → Bool
    sent step = are_of (is_tc_kind (tx_in body)) step.effects.sends

    wished : (name : Option ℕ) → body ≡ Client (TcBeginReq name) → ⊥
    wished name about = false≢true (sym other ∙ ap is_begin_wish about)

    by : (step : Step TcState) → TcStep s body step → sent step ≡ true
    by step (rests off is) = ap sent is
    by step (refuses name about is) = absurd (wished name about)
    by step (begins name about room is) = absurd (wished name about)
    by step (passes tx ahead about is) = ap sent is
    by step (misses turns none is) = ap sent is
    by step (takes turns t front back was is) = ap sent is ∙ turn_sends s body t

-- all that a coordinator sends is of a kind that has what it sends of a transaction, and whether one begins
pub tc_only : (kind : Body → Bool) → ((one : TxId) (b : Body) → is_tc_kind one b ≡ true → kind b ≡ true)
    → ((name : Option ℕ) → kind (Client (TcBeginRef name)) ≡ true)
    → ((name : Option ℕ) (tx : TxId) → kind (Client (TcBeginConf name tx)) ≡ true)
    → (s : TcState) (body : Body) → SendsOnly kind (tc_table s body)
tc_only kind has has_ref has_conf s body = by (tc_table s body) (tc_step s body)
  where
    sent : Step TcState → Bool
    sent step = are_of kind step.effects.sends

    by : (step : Step TcState) → TcStep s body step → sent step ≡ true
    by step (rests off is) = ap sent is
    by step (refuses name about is) = ap sent is ∙ one_kind (kind (Client (TcBeginRef name))) (has_ref name)
    by step (begins name about room is) =
        ap sent is ∙ one_kind (kind (Client (TcBeginConf name (next_tx s)))) (has_conf name (next_tx s))
    by step (passes tx ahead about is) =
        ap sent is ∙ one_kind (kind (Client (TcWaitConf tx ahead))) (has tx (Client (TcWaitConf tx ahead)) refl)
    by step (misses turns none is) = ap sent is
    by step (takes turns t front back was is) =
        ap sent is ∙ of_kind (is_tc_kind (tx_in body)) kind (has (tx_in body)) _ (turn_sends s body t)
