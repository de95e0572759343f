-- What a transaction does at a signal about it, as one function; and what a step of the coordinator is, as cases.
use Rattle.std.proofs.Common.{◌≡◌, ℕ, Bool, true, false, ◌∷◌, ◌++◌, refl, ap, ◌∙◌}
use Rattle.std.specs.Map.{values_of}
use Rattle.std.specs.Prelude.{Option, None, Some, is_some, slice_get, if◌then◌else◌}
use Rattle.sig_core.specs.declared.member.TxId.{TxId}
use Rattle.sig_core.specs.declared.signal.Body.{Body}
use Rattle.sig_core.specs.declared.signal.Body.TheVariants.{Host, Client, Chain, Epoch}
use Rattle.sig_core.specs.declared.signal.chain.ChainSignal.TheVariants.{LqhKeyConf, LqhKeyRef, Committed, Completed}
use Rattle.sig_core.specs.declared.signal.chain.ChainSignal.TheVariants.{Aborted}
use Rattle.sig_core.specs.declared.signal.client.ClientSignal.TheVariants.{TcBeginReq, TcKeyReq, TcCommitReq}
use Rattle.sig_core.specs.declared.signal.client.ClientSignal.TheVariants.{TcRollbackReq, TcWaitReq, LqhWaitConf}
use Rattle.sig_core.specs.declared.signal.epoch.EpochSignal.TheVariants.{DiVerifyConf}
use Rattle.sig_core.specs.declared.signal.host.HostSignal.TheVariants.{Continue}
use Rattle.sig_core.specs.declared.signal.host.Work.TheVariants as work
use Rattle.sig_core.specs.Step.{Step, stay}
use Rattle.frag_map.specs.Layout.{Layout}
use Rattle.tc_block.specs.Abort.{aborted_row, refuse_row, rollback_row}
use Rattle.tc_block.specs.Commit as commit
use Rattle.tc_block.specs.Complete.{completed_row}
use Rattle.tc_block.specs.declared.transaction.Transaction.{Transaction}
use Rattle.tc_block.specs.Live.{place_in, step_of, step_place, step_value, turn_of, turn_place, turn_value, turned}
use Rattle.tc_block.specs.Live.{turned_if, without}
use Rattle.tc_block.specs.Operate.{answer_row, operate_row, wait_row}
use Rattle.tc_block.specs.Sends.{go_on_row}
use Rattle.tc_block.specs.State.{TcState, with_live}
use Rattle.tc_block.specs.Tc.{begin_if, begin_row, is_full, pass_if, pass_row, tc_table}
use Rattle.tc_block.specs.Turn.{Turn, going}
use Rattle.tc_block.proofs.EachTurn.{RowsAre}
use Rattle.tc_block.proofs.LiveSplit.{AreOthers, Live, Split, no_place, no_value, split_at}

-- the transaction that a signal to the coordinator is about
abbrev pub tx_in : Body → TxId
tx_in (Host (Continue (work.Transaction tx) at)) = tx
tx_in (Client (TcKeyReq tx op)) = tx
tx_in (Client (TcCommitReq tx)) = tx
tx_in (Client (TcRollbackReq tx)) = tx
tx_in (Client (TcWaitReq tx)) = tx
tx_in (Client (LqhWaitConf tx ahead)) = tx
tx_in (Chain (LqhKeyConf tx key answer)) = tx
tx_in (Chain (LqhKeyRef tx key why)) = tx
tx_in (Chain (Committed tx key)) = tx
tx_in (Chain (Completed tx key)) = tx
tx_in (Chain (Aborted tx key)) = tx
tx_in (Epoch (DiVerifyConf tx epoch)) = tx
tx_in _ = record { tc = 0; start = 0; seq = 0 }

-- at the signal a transaction takes a turn
abbrev pub is_turn : Body → Bool
is_turn (Host (Continue (work.Transaction tx) at)) = true
is_turn (Client (TcKeyReq tx op)) = true
is_turn (Client (TcCommitReq tx)) = true
is_turn (Client (TcRollbackReq tx)) = true
is_turn (Client (TcWaitReq tx)) = true
is_turn (Chain (LqhKeyConf tx key answer)) = true
is_turn (Chain (LqhKeyRef tx key why)) = true
is_turn (Chain (Committed tx key)) = true
is_turn (Chain (Completed tx key)) = true
is_turn (Chain (Aborted tx key)) = true
is_turn (Epoch (DiVerifyConf tx epoch)) = true
is_turn _ = false

-- the turn that a signal for it gives to a transaction
abbrev pub turn_for : ℕ → Layout → TxId → Body → Transaction → Turn
turn_for node layout tx (Host (Continue (work.Transaction one) at)) t = going (go_on_row node layout tx t at)
turn_for node layout tx (Client (TcKeyReq one op)) t = going (operate_row layout tx t op)
turn_for node layout tx (Client (TcCommitReq one)) t = going (commit.verify_row node tx t)
turn_for node layout tx (Client (TcRollbackReq one)) t = rollback_row node layout tx t
turn_for node layout tx (Client (TcWaitReq one)) t = going (wait_row tx t)
turn_for node layout tx (Chain (LqhKeyConf one key answer)) t = going (answer_row layout tx t key answer)
turn_for node layout tx (Chain (LqhKeyRef one key why)) t = refuse_row node layout tx t key why
turn_for node layout tx (Chain (Committed one key)) t = commit.committed_row node layout tx t
turn_for node layout tx (Chain (Completed one key)) t = completed_row node tx t
turn_for node layout tx (Chain (Aborted one key)) t = aborted_row node tx t
turn_for node layout tx (Epoch (DiVerifyConf one epoch)) t = commit.commit_row node layout tx t epoch
turn_for node layout tx _ t = going (stay t)

-- the turn of the transaction that the signal is about
abbrev pub turn_row : TcState → Body → Transaction → Turn
turn_row s body t = turn_for s.node s.layout (tx_in body) body t

-- what holds of what the transaction does by each row holds of its turn
pub turn_with : (node : ℕ) (layout : Layout) (tx : TxId) (body : Body) (t : Transaction) (R : Turn → Type 0)
    → RowsAre node layout tx t body R
    → tx_in body ≡ tx → (is_turn body ≡ false → R (going (stay t))) → R (turn_for node layout tx body t)
turn_with node layout tx (Host (Continue (work.Transaction one) at)) t R rows same other =
    rows.goes_on at (ap (λ v. Host (Continue (work.Transaction v) at)) same)
turn_with node layout tx (Client (TcKeyReq one op)) t R rows same other =
    rows.operates op (ap (λ v. Client (TcKeyReq v op)) same)
turn_with node layout tx (Client (TcCommitReq one)) t R rows same other =
    rows.decides (ap (λ v. Client (TcCommitReq v)) same)
turn_with node layout tx (Client (TcRollbackReq one)) t R rows same other =
    rows.rolls_back (ap (λ v. Client (TcRollbackReq v)) same)
turn_with node layout tx (Client (TcWaitReq one)) t R rows same other = rows.waits (ap (λ v. Client (TcWaitReq v)) same)
turn_with node layout tx (Chain (LqhKeyConf one key answer)) t R rows same other =
    rows.answers key answer (ap (λ v. Chain (LqhKeyConf v key answer)) same)
turn_with node layout tx (Chain (LqhKeyRef one key why)) t R rows same other =
    rows.refuses key why (ap (λ v. Chain (LqhKeyRef v key why)) same)
turn_with node layout tx (Chain (Committed one key)) t R rows same other =
    rows.committed key (ap (λ v. Chain (Committed v key)) same)
turn_with node layout tx (Chain (Completed one key)) t R rows same other =
    rows.completed key (ap (λ v. Chain (Completed v key)) same)
turn_with node layout tx (Chain (Aborted one key)) t R rows same other =
    rows.aborted key (ap (λ v. Chain (Aborted v key)) same)
turn_with node layout tx (Epoch (DiVerifyConf one epoch)) t R rows same other =
    rows.commits epoch (ap (λ v. Epoch (DiVerifyConf v epoch)) same)
turn_with node layout tx _ t R rows same other = other refl

pub turn_by : (s : TcState) (t : Transaction) (R : Turn → Type 0) (body : Body)
    → RowsAre s.node s.layout (tx_in body) t body R
    → (is_turn body ≡ false → R (going (stay t))) → R (turn_row s body t)
turn_by s t R body rows other = turn_with s.node s.layout (tx_in body) body t R rows refl other

-- a transaction takes a turn, and is forgotten if it is over
abbrev pub left_in : TxId → Live → Live → Turn → Live
left_in tx front back turn = if turn.over then front ++ back else front ++ (tx, turn.step.state) ∷ back

-- the coordinator's step then, where the transaction stands between these
abbrev pub left_if : TcState → TxId → Live → Live → Turn → Bool → Step TcState
left_if s tx front back turn over = record {
  state = with_live s (if over then front ++ back else front ++ (tx, turn.step.state) ∷ back);
  effects = turn.step.effects;
}

abbrev pub left_step : TcState → TxId → Live → Live → Turn → Step TcState
left_step s tx front back turn = left_if s tx front back turn turn.over

-- What a step of a coordinator is: nothing comes of it; a transaction has no room, or begins; the answer to who waits
-- is passed on; the transaction isn't there; or it takes its turn.
pub data TcStep (s : TcState) (body : Body) (step : Step TcState) : Type 0 where
  rests : is_turn body ≡ false → step ≡ stay s → TcStep s body step
  refuses : (name : Option ℕ) → body ≡ Client (TcBeginReq name) → step ≡ begin_if s name true → TcStep s body step
  begins : (name : Option ℕ) → body ≡ Client (TcBeginReq name) → is_full s ≡ false → step ≡ begin_if s name false
      → TcStep s body step
  passes : (tx ahead : TxId) → body ≡ Client (LqhWaitConf tx ahead) → step ≡ pass_if s tx ahead true
      → TcStep s body step
  misses : is_turn body ≡ true → AreOthers (tx_in body) s.live → step ≡ stay s → TcStep s body step
  takes : is_turn body ≡ true → (t : Transaction) (front back : Live) → s.live ≡ front ++ (tx_in body, t) ∷ back
      → step ≡ left_step s (tx_in body) front back (turn_row s body t) → TcStep s body step

-- the same, with the place of the transaction whose turn it is
pub data PlacedStep (s : TcState) (body : Body) (step : Step TcState) : Type 0 where
  idles : is_turn body ≡ false → step ≡ stay s → PlacedStep s body step
  lacks : (name : Option ℕ) → body ≡ Client (TcBeginReq name) → step ≡ begin_if s name true → PlacedStep s body step
  opens : (name : Option ℕ) → body ≡ Client (TcBeginReq name) → is_full s ≡ false → step ≡ begin_if s name false
      → PlacedStep s body step
  tells : (tx ahead : TxId) → body ≡ Client (LqhWaitConf tx ahead) → step ≡ pass_if s tx ahead true
      → PlacedStep s body step
  lost : is_turn body ≡ true → AreOthers (tx_in body) s.live → step ≡ stay s → PlacedStep s body step
  goes : is_turn body ≡ true → (t : Transaction) (at : ℕ) → Split (tx_in body) t s.live at
      → step ≡ turned s at (turn_row s body t)
      → PlacedStep s body step

module _ (s : TcState) where
  -- a step of a transaction is a turn after which it isn't over
  step_is : (tx : TxId) (row : Transaction → Step Transaction) → step_of s tx row ≡ turn_of s tx (λ t. going (row t))
  step_is tx row = at_place (place_in s tx)
    where
      at_value : (at : ℕ) (t : Option Transaction) → step_value s row at t ≡ turn_value s (λ t. going (row t)) at t
      at_value at None = refl
      at_value at (Some t) = refl

      at_place : (o : Option ℕ) → step_place s row o ≡ turn_place s (λ t. going (row t)) o
      at_place None = refl
      at_place (Some at) = at_value at (slice_get (values_of s.live) at)

  -- what a turn leaves at its place
  left_is : (tx : TxId) (t : Transaction) (at : ℕ) (split : Split tx t s.live at) (turn : Turn)
      → turned s at turn ≡ left_step s tx split.front split.back turn
  unfolding without
  left_is tx t at split turn = by turn.over
    where
      by : (b : Bool) → turned_if s at turn b ≡ left_if s tx split.front split.back turn b
      by true = ap (λ live. record { state = with_live s live; effects = turn.step.effects }) split.gone
      by false = ap (λ live. record { state = with_live s live; effects = turn.step.effects })
          (split.set turn.step.state)

  turn_step : (body : Body) (step : Step TcState) → is_turn body ≡ true
      → step ≡ turn_of s (tx_in body) (turn_row s body)
      → PlacedStep s body step
  turn_step body step turns is = at_place (place_in s (tx_in body)) refl is
    where
      at_value : (at : ℕ) → place_in s (tx_in body) ≡ Some at → (t : Option Transaction)
          → slice_get (values_of s.live) at ≡ t
          → step ≡ turn_value s (turn_row s body) at t → PlacedStep s body step
      at_value at here None there same = absurd (no_value (tx_in body) s.live at here there)
      at_value at here (Some t) there same = goes turns t at (split_at (tx_in body) s.live at t here there) same

      at_place : (at : Option ℕ) → place_in s (tx_in body) ≡ at → step ≡ turn_place s (turn_row s body) at
          → PlacedStep s body step
      at_place None here same = lost turns (no_place (tx_in body) s.live here) same
      at_place (Some at) here same = at_value at here (slice_get (values_of s.live) at) refl same

  pub placed_step : (body : Body) → PlacedStep s body (tc_table s body)
  unfolding begin_row pass_row
  placed_step (Client (TcBeginReq name)) = by (is_full s) refl
    where
      by : (b : Bool) → is_full s ≡ b → PlacedStep s (Client (TcBeginReq name)) (begin_if s name b)
      by true full = lacks name refl refl
      by false room = opens name refl room refl
  placed_step (Client (LqhWaitConf tx ahead)) = by (is_some (place_in s tx))
    where
      by : (b : Bool) → PlacedStep s (Client (LqhWaitConf tx ahead)) (pass_if s tx ahead b)
      by true = tells tx ahead refl refl
      by false = idles refl refl
  placed_step (Host (Continue (work.Transaction tx) at)) =
      turn_step (Host (Continue (work.Transaction tx) at)) _ refl (step_is tx _)
  placed_step (Client (TcKeyReq tx op)) = turn_step (Client (TcKeyReq tx op)) _ refl (step_is tx _)
  placed_step (Client (TcCommitReq tx)) = turn_step (Client (TcCommitReq tx)) _ refl (step_is tx _)
  placed_step (Client (TcRollbackReq tx)) = turn_step (Client (TcRollbackReq tx)) _ refl refl
  placed_step (Client (TcWaitReq tx)) = turn_step (Client (TcWaitReq tx)) _ refl (step_is tx _)
  placed_step (Chain (LqhKeyConf tx key answer)) = turn_step (Chain (LqhKeyConf tx key answer)) _ refl (step_is tx _)
  placed_step (Chain (LqhKeyRef tx key why)) = turn_step (Chain (LqhKeyRef tx key why)) _ refl refl
  placed_step (Chain (Committed tx key)) = turn_step (Chain (Committed tx key)) _ refl refl
  placed_step (Chain (Completed tx key)) = turn_step (Chain (Completed tx key)) _ refl refl
  placed_step (Chain (Aborted tx key)) = turn_step (Chain (Aborted tx key)) _ refl refl
  placed_step (Epoch (DiVerifyConf tx epoch)) = turn_step (Epoch (DiVerifyConf tx epoch)) _ refl refl
  placed_step _ = idles refl refl

  -- each step is one of these
  pub tc_step : (body : Body) → TcStep s body (tc_table s body)
  tc_step body = by (placed_step body)
    where
      by : PlacedStep s body (tc_table s body) → TcStep s body (tc_table s body)
      by (idles off is) = rests off is
      by (lacks name about is) = refuses name about is
      by (opens name about room is) = begins name about room is
      by (tells tx ahead about is) = passes tx ahead about is
      by (lost turns none is) = misses turns none is
      by (goes turns t at split is) =
          takes turns t split.front split.back split.is (is ∙ left_is (tx_in body) t at split (turn_row s body t))
