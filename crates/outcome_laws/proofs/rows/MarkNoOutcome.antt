-- The rows of a node and their saver mark no decision and no report of an outcome, whatever they take.
use Rattle.std.proofs.Common.{◌≡◌, true, refl}
use Rattle.run_theory.proofs.Pasts.{each_map}
use Rattle.sig_core.specs.declared.mark.Mark.{Mark}
use Rattle.sig_core.specs.declared.mark.Mark.TheVariants.{Decided, Reported}
use Rattle.sig_core.specs.declared.signal.Signal.{Signal}
use Rattle.step_forms.specs.Does.{IsAmong}
use Rattle.lqh_views.specs.Words.{is_replica_mark}
use Rattle.lqh_saver.specs.Saver.{saver_row}
use Rattle.lqh_saver.specs.State.{SavingState}
use Rattle.lqh_saver.proofs.Walk.{saver_words}
use Rattle.outcome_laws.proofs.knowledge.MarksOfNoOutcome.{IsNoOutcome, MarksNone}

undecided : (mark : Mark) → is_replica_mark mark ≡ true → IsNoOutcome mark
undecided (Decided tx epoch) is = absurd cc
undecided (Reported tx outcome) is = absurd cc
undecided mark is = refl

pub rows_mark_none : (s : SavingState) (x : Signal) → MarksNone (saver_row s x)
rows_mark_none s x =
    each_map (IsAmong is_replica_mark) IsNoOutcome (saver_row s x).effects.marks undecided (saver_words.takes s x).1
