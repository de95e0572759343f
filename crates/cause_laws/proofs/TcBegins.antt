-- A coordinator turns a beginning away only where it was asked for one of that name, and has too many.
use Rattle.std.proofs.Common.{◌≡◌, ◌⊎◌, ◌==◌, ℕ, ◌-◌, ◌^◌, Bool, true, false, length, refl, sym, subst, inl, inr, arith}
use Rattle.std.proofs.lemmas.Bool.{eqb-true, or_cases}
use Rattle.std.proofs.lemmas.Bool.Decides.{nat_tests}
use Rattle.std.specs.Prelude.{nat_le, Option}
use Rattle.run_theory.proofs.EachSent.{each_mapped}
use Rattle.run_theory.specs.Lists.{Each}
use Rattle.sig_core.specs.declared.member.TxId.{TxId}
use Rattle.sig_core.specs.declared.outcome.AbortCause.{AbortCause}
use Rattle.sig_core.specs.declared.outs.Outgoing.{Outgoing}
use Rattle.sig_core.specs.declared.place.Place.{Place}
use Rattle.sig_core.specs.declared.signal.Body.{Body}
use Rattle.sig_core.specs.declared.signal.Body.TheVariants.{Client}
use Rattle.sig_core.specs.declared.signal.client.ClientSignal.TheVariants.{TcBeginRef, TcBeginReq}
use Rattle.sig_core.specs.Op.{key_of}
use Rattle.sig_core.specs.Place.{client}
use Rattle.sig_core.specs.Step.{Step}
use Rattle.frag_map.specs.Layout.{Layout, chain_of}
use Rattle.tc_block.proofs.EachTurn.{AbortForms, CommittedForms, TurnForms, rows_of}
use Rattle.tc_block.proofs.TurnRows.{PlacedStep, goes, idles, lacks, lost, opens, placed_step, tells, turn_by, turn_row}
use Rattle.tc_block.proofs.TurnRows.{tx_in}
use Rattle.tc_block.specs.Abort as abort
use Rattle.tc_block.specs.Complete as complete
use Rattle.tc_block.specs.declared.phase.Phase.{Phase}
use Rattle.tc_block.specs.declared.phase.Phase.TheVariants.{Open, Verifying, Committing, Completing, Aborting}
use Rattle.tc_block.specs.declared.tc.TheConstants.{TRANSACTIONS}
use Rattle.tc_block.specs.declared.transaction.Transaction.{Transaction}
use Rattle.tc_block.specs.Live.{turned_if}
use Rattle.tc_block.specs.Sends.{abort_of, entering, front_sends, go_on_if, wait_of}
use Rattle.tc_block.specs.State.{TcState}
use Rattle.tc_block.specs.Tc.{begin_if, begin_row, is_full, tc_table}
use Rattle.tc_block.specs.Turn.{Turn, going}
use Rattle.host_laws.proofs.coordinator.PhaseSends.{HasChains, entering_of_kind, rest_of_kind}
use Rattle.host_laws.proofs.hosts.SendKinds.{are_of, each_of}
use Rattle.cause_laws.specs.TurnedAway.{HasTooMany}

-- a beginning is turned away, to the client, only where one of its name was asked for, and there are too many
abbrev pub BeginTells : TcState → Body → Place → Body → Type 0
BeginTells s asked to (Client (TcBeginRef name)) = (to ≡ client) × ((asked ≡ Client (TcBeginReq name)) × HasTooMany s)
BeginTells s asked to other = Unit {0}

-- where it is full, it has too many
too_many : (s : TcState) → is_full s ≡ true → HasTooMany s
too_many s is = by (or_cases (nat_le TRANSACTIONS (length s.live)) (s.next_seq == 2 ^ 64 - 1) is)
  where
    by : (nat_le TRANSACTIONS (length s.live) ≡ true) ⊎ ((s.next_seq == 2 ^ 64 - 1) ≡ true) → HasTooMany s
    by (inl many) = inl (grind (arith, nat_tests, many))
    by (inr last) = inr (eqb-true s.next_seq (2 ^ 64 - 1) last)

-- a signal that turns no beginning away
abbrev is_other : Body → Bool
is_other (Client (TcBeginRef name)) = false
is_other _ = true

chains : (tx : TxId) → HasChains tx is_other
chains tx = record {
  commits = λ key epoch chain at. refl;
  completes = λ key chain at. refl;
  aborts = λ key. refl;
  goes_on = λ at. refl;
}

fronts : (tx : TxId) (phase : Phase) → are_of is_other (front_sends tx phase) ≡ true
unfolding front_sends
fronts tx (Completing epoch awaited) = refl
fronts tx (Committing epoch awaited) = refl
fronts tx (Aborting why verifying awaited) = refl
fronts tx Open = refl
fronts tx Verifying = refl

module _ (s : TcState) (body : Body) where
  abbrev Tells : Outgoing → Type 0
  Tells o = BeginTells s body o.to o.body

  abbrev TurnTells : Turn → Type 0
  TurnTells turn = Each Tells turn.step.effects.sends

  other_tells : (o : Outgoing) → is_other o.body ≡ true → Tells o
  other_tells o is = by o.body is
    where
      by : (b : Body) → is_other b ≡ true → BeginTells s body o.to b
      by (Client (TcBeginRef name)) is = absurd cc
      by _ is = tt

  module _ (node : ℕ) (layout : Layout) (tx : TxId) where
    enters : (t : Transaction) (phase : Phase) → TurnTells (going (entering node layout tx t phase))
    enters t phase =
        each_of is_other Tells other_tells (entering node layout tx t phase).effects.sends
        (entering_of_kind is_other layout tx (chains tx) node t phase (fronts tx phase))

    abort_ends : (why : AbortCause) (verifying : Bool) → Each Tells (abort.abort_end node tx why verifying)
    abort_ends why true = (tt, (tt, tt))
    abort_ends why false = (tt, tt)

    aborts : (t : Transaction) (why : AbortCause) → AbortForms node layout tx t why TurnTells
    aborts t why = record {
      enters = λ some. enters t (Aborting why (abort.is_verifying t.phase) (abort.aborts_awaited layout t));
      ends = λ none. abort_ends why (abort.is_verifying t.phase);
    }

    commits : (t : Transaction) (epoch : ℕ) → CommittedForms node layout tx t epoch TurnTells
    commits t epoch = record {
      enters = λ some. enters t (Completing epoch (complete.written_count t.touched));
      ends = λ none. (tt, (tt, tt));
    }

    -- no turn of a transaction turns a beginning away
    turns : (t : Transaction) → TurnForms node layout tx t body TurnTells
    turns t = record {
      stays = tt;
      goes_on = λ at.
          each_of is_other Tells other_tells (go_on_if node layout tx t at true).effects.sends
          (rest_of_kind is_other layout tx (chains tx) node t at (fronts tx t.phase));
      operates = λ op is can. (tt, tt);
      answers = λ key answer asked is on at. (tt, tt);
      late = λ key asked why verifying awaited on at.
          each_mapped Tells (abort_of tx key) (chain_of layout key) (λ m. tt);
      waits = λ asked on. each_mapped Tells (wait_of tx (key_of asked.op)) asked.chain (λ m. tt);
      decides = λ is ready. (tt, tt);
      commits = λ epoch is at some. enters t (Committing epoch (length t.touched));
      commits_none = λ epoch is at. commits t epoch;
      committed = λ epoch awaited at more. tt;
      committed_all = λ epoch awaited at. commits t epoch;
      completed = λ epoch awaited at more. tt;
      completed_all = λ epoch awaited at last. (tt, tt);
      rolls_back = λ is undecided unaborted. aborts t _;
      refuses = λ key why asked is on at. aborts _ why;
      aborted = λ why verifying awaited at more. tt;
      aborted_all = λ why verifying awaited at last. abort_ends why verifying;
    }

  abbrev StepTells : Step TcState → Type 0
  StepTells step = Each Tells step.effects.sends

  begins : (name : Option ℕ) → body ≡ Client (TcBeginReq name) → StepTells (begin_row s name)
  unfolding begin_row
  begins name is = by (is_full s) refl
    where
      by : (b : Bool) → is_full s ≡ b → StepTells (begin_if s name b)
      by true full = ((refl, (is, too_many s full)), tt)
      by false full = (tt, tt)

  -- what a transaction sends is all that the step of its coordinator does
  turned_tells : (at : ℕ) (turn : Turn) → TurnTells turn → (b : Bool) → StepTells (turned_if s at turn b)
  turned_tells at turn is true = is
  turned_tells at turn is false = is

-- whatever the coordinator takes
pub begins_tell : (s : TcState) (body : Body)
    → Each (λ (o : Outgoing). BeginTells s body o.to o.body) (tc_table s body).effects.sends
begins_tell s body = by (tc_table s body) refl (placed_step s body)
  where
    begun : (name : Option ℕ) → body ≡ Client (TcBeginReq name) → StepTells s body (tc_table s body)
    begun name about = subst (λ b. StepTells s body (tc_table s b)) (sym about) (begins s body name about)

    by : (step : Step TcState) → tc_table s body ≡ step → PlacedStep s body step → StepTells s body step
    by step same (idles off is) = subst (StepTells s body) (sym is) tt
    by step same (lacks name about is) = subst (StepTells s body) same (begun name about)
    by step same (opens name about room is) = subst (StepTells s body) same (begun name about)
    by step same (tells tx ahead about is) = subst (StepTells s body) (sym is) (tt, tt)
    by step same (lost turn none is) = subst (StepTells s body) (sym is) tt
    by step same (goes turn t at split is) =
        let own = turn_by s t (TurnTells s body) body
        (rows_of s.node s.layout (tx_in body) t body (TurnTells s body) (turns s body s.node s.layout (tx_in body) t))
        (λ off. tt) in
        subst (StepTells s body) (sym is) (turned_tells s body at (turn_row s body t) own (turn_row s body t).over)
