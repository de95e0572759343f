-- How many transactions a step leaves to a coordinator, and how many signals it sends for what an installation left to
-- do.
use Rattle.std.proofs.Common.{◌≡◌, ◌==◌, ◌≤◌, ◌+◌, arith, ℕ, zero, suc, Bool, true, false, List, [], ◌∷◌, ◌++◌, length}
use Rattle.std.proofs.Common.{remove, slice_get, take, drop, nat_lt, nat_le, refl, sym, subst}
use Rattle.std.proofs.lemmas.Bool.{leb-false}
use Rattle.std.specs.Map.{values_of}
use Rattle.std.specs.Prelude.{◌-◌, ◌^◌, ◌||◌, Option, None, Some, if◌then◌else◌}
use Rattle.indexmap.specs.IndexMap.{insert_entry, set_value_at}
use Rattle.sig_core.specs.declared.member.TxId.{TxId}
use Rattle.sig_core.specs.declared.outcome.AbortCause.{AbortCause}
use Rattle.sig_core.specs.declared.outs.Outgoing.{Outgoing}
use Rattle.sig_core.specs.declared.signal.Body.{Body}
use Rattle.sig_core.specs.Same.{same_tx}
use Rattle.sig_core.specs.Step.{Step}
use Rattle.frag_map.specs.Layout.{Layout}
use Rattle.tc_block.specs.Abort.{abort_end, abort_if, aborted_for, aborts_awaited, is_verifying, replica_count}
use Rattle.tc_block.specs.declared.phase.Phase.{Phase}
use Rattle.tc_block.specs.declared.phase.Phase.TheVariants.{Open, Verifying, Committing, Completing, Aborting}
use Rattle.tc_block.specs.declared.task.Task.{Task}
use Rattle.tc_block.specs.declared.task.Verdict.{Verdict}
use Rattle.tc_block.specs.declared.task.Verdict.TheVariants.{Fail, AbortAnew, Redrive}
use Rattle.tc_block.specs.declared.transaction.Transaction.{Transaction}
use Rattle.tc_block.specs.Live.{place_in, turn_of, turn_place, turn_value, turned, turned_if, without}
use Rattle.tc_block.specs.Operate.{fresh}
use Rattle.tc_block.specs.Part.{part_effects, rest_if}
use Rattle.tc_block.specs.Resume.{anew_if, aborted_anew, resume_by, resume_row, resume_step}
use Rattle.tc_block.specs.Sends.{entering, phase_sends}
use Rattle.tc_block.specs.State.{TcState}
use Rattle.tc_block.specs.Tc.{next_tx, tc_table}
use Rattle.tc_block.specs.Turn.{Turn, asking}
use Rattle.tc_block.proofs.TurnRows.{PlacedStep, goes, idles, lacks, lost, opens, placed_step, tells, turn_row}
use Rattle.tc_block.proofs.LiveSplit.{Live}

few_removed : {X : Type 0} (xs : List X) (i : ℕ) → length (remove xs i) ≤ length xs
few_removed [] zero = omega arith
few_removed [] (suc i) = omega arith
few_removed (x ∷ xs) zero = omega arith
few_removed (x ∷ xs) (suc i) = omega (arith, few_removed xs i)

same_set : {K X : Type 0} (es : List (K × X)) (i : ℕ) (w : X) → length (set_value_at es i w) ≡ length es
same_set [] i w = refl
same_set (e ∷ es) zero w = refl
same_set (e ∷ es) (suc i) w = omega (arith, same_set es i w)

few_inserted : (live : Live) (tx : TxId) (t : Transaction) → length (insert_entry same_tx live tx t) ≤ length live + 1
few_inserted [] tx t = omega arith
few_inserted (e ∷ es) tx t = by (same_tx tx e.0) (few_inserted es tx t)
  where
    by : (b : Bool) → length (insert_entry same_tx es tx t) ≤ length es + 1
        → length (if b then (e.0, t) ∷ es else e ∷ insert_entry same_tx es tx t) ≤ length (e ∷ es) + 1
    by true few = omega arith
    by false few = omega (arith, few)

abbrev Few : Step TcState → Type 0
Few step = length step.state.live ≤ 64

few_turned : (s : TcState) (at : ℕ) (turn : Turn) → length s.live ≤ 64 → Few (turned s at turn)
unfolding without
few_turned s at turn few = by turn.over
  where
    by : (b : Bool) → Few (turned_if s at turn b)
    by true = omega (arith, few, few_removed s.live at)
    by false = omega (arith, few, same_set s.live at turn.step.state)

-- no step leaves a coordinator more than it keeps
pub few_live : (s : TcState) (body : Body) → length s.live ≤ 64 → length (tc_table s body).state.live ≤ 64
few_live s body few = by (tc_table s body) (placed_step s body)
  where
    room : (b : Bool) → (b || (s.next_seq == 2 ^ 64 - 1)) ≡ false → b ≡ false
    room true is = absurd cc
    room false is = refl

    by : (step : Step TcState) → PlacedStep s body step → Few step
    by step (idles off is) = subst Few (sym is) few
    by step (lacks name about is) = subst Few (sym is) few
    by step (opens name about some is) =
        subst Few (sym is)
        (let under = leb-false 64 (length s.live) (room (nat_le 64 (length s.live)) some) in
        omega (arith, few_inserted s.live (next_tx s) fresh, under))
    by step (tells tx ahead about is) = subst Few (sym is) few
    by step (lost turns none is) = subst Few (sym is) few
    by step (goes turns t at split is) = subst Few (sym is) (few_turned s at (turn_row s body t) few)

-- and so of what an installation left to do
pub few_resumed : (s : TcState) (task : Task) (number : ℕ) → length s.live ≤ 64
    → length (resume_step s task number).state.live ≤ 64
unfolding resume_step
few_resumed s task number few = at_place (place_in s task.tx)
  where
    row : Transaction → Turn
    row t = resume_row s.node s.layout task.tx t task.verdict number

    at_value : (at : ℕ) (t : Option Transaction) → Few (turn_value s row at t)
    at_value at None = few
    at_value at (Some t) = few_turned s at (row t) few

    at_place : (o : Option ℕ) → Few (turn_place s row o)
    at_place None = few
    at_place (Some at) = at_value at (slice_get (values_of s.live) at)

few_taken : {X : Type 0} (n : ℕ) (xs : List X) → length (take n xs) ≤ n
few_taken zero xs = omega arith
few_taken (suc n) [] = omega arith
few_taken (suc n) (x ∷ xs) = omega (arith, few_taken n xs)

joined_length : {X : Type 0} (xs ys : List X) → length (xs ++ ys) ≡ length xs + length ys
joined_length [] ys = omega arith
joined_length (x ∷ xs) ys = omega (arith, joined_length xs ys)

few_rest : (node : ℕ) (tx : TxId) (at : ℕ) (b : Bool) → length (rest_if node tx at b) ≤ 1
few_rest node tx at true = omega arith
few_rest node tx at false = omega arith

few_part : (node : ℕ) (tx : TxId) (sends : List Outgoing) (at : ℕ) → length (part_effects node tx sends at).sends ≤ 9
unfolding part_effects
few_part node tx sends at =
    let more = nat_lt (at + 8) (length sends) in
    omega (
      arith,
      joined_length (take 8 (drop at sends)) (rest_if node tx at more),
      few_taken 8 (drop at sends),
      few_rest node tx at more,
    )

module _ (node : ℕ) (layout : Layout) (tx : TxId) where
  abbrev FewSent : Turn → Type 0
  FewSent turn = length turn.step.effects.sends ≤ 9

  few_entered : (t : Transaction) (phase : Phase) → length (entering node layout tx t phase).effects.sends ≤ 9
  unfolding entering
  few_entered t phase = few_part node tx (phase_sends layout tx phase t.touched) 0

  few_end : (cause : AbortCause) (b : Bool) → length (abort_end node tx cause b) ≤ 9
  few_end cause true = omega arith
  few_end cause false = omega arith

  few_aborted : (t : Transaction) (cause : AbortCause) → FewSent (aborted_for node layout tx t cause)
  unfolding aborted_for
  few_aborted t cause = by (aborts_awaited layout t == 0)
    where
      by : (b : Bool) → FewSent (abort_if node layout tx t cause b)
      by true = few_end cause (is_verifying t.phase)
      by false = few_entered t _

  few_anew : (t : Transaction) (cause : AbortCause) (verifying : Bool)
      → FewSent (aborted_anew node layout tx t cause verifying)
  unfolding aborted_anew
  few_anew t cause verifying = by (replica_count layout t.touched == 0)
    where
      by : (b : Bool) → FewSent (anew_if node layout tx t cause verifying b)
      by true = few_end cause verifying
      by false = few_entered t _

  few_by : (t : Transaction) (number : ℕ) (verdict : Verdict) (phase : Phase)
      → FewSent (resume_by node layout tx t number verdict phase)
  few_by t number Fail Open = few_aborted (asking t None) _
  few_by t number Fail Verifying = few_aborted (asking t None) _
  few_by t number AbortAnew (Aborting cause verifying awaited) = few_anew (asking t None) cause verifying
  few_by t number Redrive (Committing epoch awaited) = few_entered _ _
  few_by t number Redrive (Completing epoch awaited) = few_entered _ _
  few_by t number _ _ = omega arith

-- nine signals at most go out for one transaction
pub few_sent : (s : TcState) (task : Task) (number : ℕ) → length (resume_step s task number).effects.sends ≤ 9
unfolding resume_step resume_row
few_sent s task number = at_place (place_in s task.tx)
  where
    row : Transaction → Turn
    row t = resume_row s.node s.layout task.tx t task.verdict number

    Sent : Step TcState → Type 0
    Sent step = length step.effects.sends ≤ 9

    turn : (at : ℕ) (one : Turn) → FewSent s.node s.layout task.tx one → (b : Bool) → Sent (turned_if s at one b)
    turn at one few true = few
    turn at one few false = few

    at_value : (at : ℕ) (t : Option Transaction) → Sent (turn_value s row at t)
    at_value at None = omega arith
    at_value at (Some t) = turn at (row t) (few_by s.node s.layout task.tx t number task.verdict t.phase) (row t).over

    at_place : (o : Option ℕ) → Sent (turn_place s row o)
    at_place None = omega arith
    at_place (Some at) = at_value at (slice_get (values_of s.live) at)

-- and so behind what was sent before
pub few_behind : (xs : List Outgoing) (s : TcState) (task : Task) (number : ℕ)
    → length (xs ++ (resume_step s task number).effects.sends) ≤ length xs + 9
few_behind xs s task number =
    let sends = (resume_step s task number).effects.sends in
    omega (arith, joined_length xs sends, few_sent s task number)

pub ruleset counts = (few_live, few_resumed, few_behind)
