-- The coordinator marks nothing.
use Rattle.std.proofs.Common.{◌≡◌, ℕ, Bool, true, false, [], refl}
use Rattle.std.specs.Prelude.{None}
use Rattle.sig_core.specs.declared.member.TxId.{TxId}
use Rattle.sig_core.specs.declared.outcome.AbortCause.{AbortCause}
use Rattle.sig_core.specs.declared.signal.Body.{Body}
use Rattle.frag_map.specs.Layout.{Layout}
use Rattle.sig_core.specs.Step.{Step}
use Rattle.tc_block.specs.declared.transaction.Transaction.{Transaction}
use Rattle.tc_block.specs.Live.{turned_if}
use Rattle.tc_block.specs.Part.{part_effects}
use Rattle.tc_block.specs.Sends.{entering}
use Rattle.tc_block.specs.State.{TcState}
use Rattle.tc_block.specs.Tc.{tc_table}
use Rattle.tc_block.specs.Turn.{Turn, asking}
use Rattle.tc_block.proofs.EachTc.{tc_each}
use Rattle.tc_block.proofs.EachTurn.{AbortForms, CommittedForms, TurnForms, rows_of}

-- a step that marks nothing
abbrev pub HasNoMarks : {S : Type 0} → Step S → Type 0
HasNoMarks step = step.effects.marks ≡ []

abbrev pub TurnHasNoMarks : Turn → Type 0
TurnHasNoMarks turn = HasNoMarks turn.step

module _ (node : ℕ) (layout : Layout) (tx : TxId) where
  abort_marks : (t : Transaction) (why : AbortCause) → AbortForms node layout tx t why TurnHasNoMarks
  unfolding entering part_effects
  abort_marks t why = record { enters = λ some. refl; ends = λ none. refl }

  committed_marks : (t : Transaction) (epoch : ℕ) → CommittedForms node layout tx t epoch TurnHasNoMarks
  unfolding entering part_effects
  committed_marks t epoch = record { enters = λ some. refl; ends = λ none. refl }

  turn_marks : (t : Transaction) (body : Body) → TurnForms node layout tx t body TurnHasNoMarks
  unfolding entering part_effects
  turn_marks t body = record {
    stays = refl;
    goes_on = λ at. refl;
    operates = λ op is can. refl;
    answers = λ key answer asked is on at. refl;
    late = λ key asked why verifying awaited on at. refl;
    waits = λ asked on. refl;
    decides = λ is ready. refl;
    commits = λ epoch is at some. refl;
    commits_none = λ epoch is at. committed_marks t epoch;
    committed = λ epoch awaited at more. refl;
    committed_all = λ epoch awaited at. committed_marks t epoch;
    completed = λ epoch awaited at more. refl;
    completed_all = λ epoch awaited at last. refl;
    rolls_back = λ is undecided unaborted. abort_marks t _;
    refuses = λ key why asked is on at. abort_marks (asking t None) why;
    aborted = λ why verifying awaited at more. refl;
    aborted_all = λ why verifying awaited at last. refl;
  }

pub tc_marks : (s : TcState) (body : Body) → HasNoMarks (tc_table s body)
tc_marks s body =
    tc_each (λ tx t turn. TurnHasNoMarks turn) HasNoMarks s body (record {
      turns = λ tx t at split. rows_of s.node s.layout tx t body TurnHasNoMarks (turn_marks s.node s.layout tx t body);
      turned = λ tx t at split turn none. over at turn none turn.over;
      stays = refl;
      full = λ name. refl;
      begins = λ name. refl;
      passes = λ tx ahead. refl;
    })
  where
    over : (at : ℕ) (turn : Turn) → TurnHasNoMarks turn → (b : Bool) → HasNoMarks (turned_if s at turn b)
    over at turn none true = none
    over at turn none false = none
