-- What holds of each form of turn of a coordinator's transactions, and of what it does beside them, holds of each of
-- its steps.
use Rattle.std.proofs.Common.{ℕ, true, false, sym, ◌∙◌, subst}
use Rattle.std.proofs.lemmas.Bool.{false≢true}
use Rattle.std.specs.Prelude.{Option}
use Rattle.sig_core.specs.declared.member.TxId.{TxId}
use Rattle.sig_core.specs.declared.signal.Body.{Body}
use Rattle.sig_core.specs.Step.{Step, stay}
use Rattle.tc_block.specs.declared.transaction.Transaction.{Transaction}
use Rattle.tc_block.specs.Live.{turned}
use Rattle.tc_block.specs.State.{TcState}
use Rattle.tc_block.specs.Tc.{begin_if, pass_if, tc_table}
use Rattle.tc_block.specs.Turn.{Turn}
use Rattle.tc_block.proofs.EachTurn.{RowsAre}
use Rattle.tc_block.proofs.LiveSplit.{Split}
use Rattle.tc_block.proofs.TurnRows.{PlacedStep, goes, idles, lacks, lost, opens, placed_step, tells, turn_by, turn_row}
use Rattle.tc_block.proofs.TurnRows.{tx_in}

-- R is of each turn that a transaction of the coordinator may take at the signal, and S of the step that it makes; and
-- of the other steps
pub record TcForms (s : TcState) (body : Body) (R : TxId → Transaction → Turn → Type 0)
    (S : Step TcState → Type 0) : Type 0
  where
    pub turns : (tx : TxId) (t : Transaction) (at : ℕ) → Split tx t s.live at
        → RowsAre s.node s.layout tx t body (R tx t)
    pub turned : (tx : TxId) (t : Transaction) (at : ℕ) → Split tx t s.live at → (turn : Turn) → R tx t turn
        → S (turned s at turn)
    pub stays : S (stay s)
    pub full : (name : Option ℕ) → S (begin_if s name true)
    pub begins : (name : Option ℕ) → S (begin_if s name false)
    pub passes : (tx ahead : TxId) → S (pass_if s tx ahead true)

-- whatever the coordinator takes
pub tc_each : (R : TxId → Transaction → Turn → Type 0) (S : Step TcState → Type 0) (s : TcState) (body : Body)
    → TcForms s body R S
    → S (tc_table s body)
tc_each R S s body forms = by (tc_table s body) (placed_step s body)
  where
    by : (step : Step TcState) → PlacedStep s body step → S step
    by step (idles off is) = subst S (sym is) forms.stays
    by step (lacks name about is) = subst S (sym is) (forms.full name)
    by step (opens name about room is) = subst S (sym is) (forms.begins name)
    by step (tells tx ahead about is) = subst S (sym is) (forms.passes tx ahead)
    by step (lost turn none is) = subst S (sym is) forms.stays
    by step (goes turn t at split is) =
        subst S (sym is)
        (forms.turned (tx_in body) t at split (turn_row s body t)
        (turn_by s t (R (tx_in body) t) body (forms.turns (tx_in body) t at split)
        (λ off. absurd (false≢true (sym off ∙ turn)))))
