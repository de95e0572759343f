-- A coordinator makes no mark, whatever it takes and whatever view is installed, so it decides nothing and reports
-- nothing.
use Rattle.std.proofs.Common.{◌≡◌, [], ◌∷◌, List, refl, subst, sym}
use Rattle.std.proofs.lemmas.Bool.{true≢false}
use Rattle.run_theory.specs.Lists.{Each}
use Rattle.sig_core.specs.declared.mark.Mark.{Mark}
use Rattle.sig_core.specs.declared.signal.Signal.{Signal}
use Rattle.sig_core.specs.declared.view.View.{View}
use Rattle.step_forms.specs.Does.{IsAmong}
use Rattle.tc_views.specs.Coordinator.{coordinator_row}
use Rattle.tc_views.specs.State.{CoordinatorState}
use Rattle.tc_views.specs.Views.{install_row}
use Rattle.tc_views.specs.Words.{is_coordinator_mark}
use Rattle.tc_views.proofs.Walk.{coordinator_words}

nothing : (marks : List Mark) → Each (IsAmong is_coordinator_mark) marks → marks ≡ []
nothing [] all = refl
nothing (mark ∷ marks) all = absurd (true≢false (sym all.0))

pub coordinator_marks_none : (s : CoordinatorState) (x : Signal) → (coordinator_row s x).effects.marks ≡ []
coordinator_marks_none s x = nothing (coordinator_row s x).effects.marks (coordinator_words.takes s x).1

-- so anything holds of each
pub coordinator_marks : (P : Mark → Type 0) (s : CoordinatorState) (x : Signal)
    → Each P (coordinator_row s x).effects.marks
coordinator_marks P s x = subst (Each P) (sym (coordinator_marks_none s x)) tt

pub coordinator_installs_mark : (P : Mark → Type 0) (s : CoordinatorState) (view : View)
    → Each P (install_row s view).effects.marks
coordinator_installs_mark P s view =
    subst (Each P) (sym (nothing (install_row s view).effects.marks (coordinator_words.installs s view).1)) tt
