-- What marks tell of a stop.
use Rattle.std.proofs.Common.{◌≡◌, ◌++◌, Bool, true, false, List, [], ◌∷◌, refl, sym, ◌∙◌}
use Rattle.std.proofs.lemmas.Bool.{true≢false}
use Rattle.std.specs.Prelude.{is_some, None}
use Rattle.std.specs.List.{list_any}
use Rattle.run_theory.specs.Lists.{Each}
use Rattle.sig_core.specs.declared.mark.Mark.{Mark}
use Rattle.sig_core.specs.declared.mark.Mark.TheVariants.{Stopped}
use Rattle.sig_core.specs.declared.outcome.StopCause.{StopCause}
use Rattle.step_forms.specs.Does.{IsAmong}
use Rattle.node_views.specs.Row.{is_stop}
use Rattle.node_views.specs.Stop.{stop_in}

-- that a host stops is that there is a cause
pub stops_by_cause : (marks : List Mark) → list_any is_stop marks ≡ is_some (stop_in marks)
stops_by_cause [] = refl
stops_by_cause (Stopped cause ∷ marks) = refl
stops_by_cause (mark ∷ marks) = stops_by_cause marks

-- a mark that doesn't tell of a stop
abbrev pub GoesOn : Mark → Type 0
GoesOn mark = is_stop mark ≡ false

-- where none does the host goes on
pub none_stops : (marks : List Mark) → Each GoesOn marks → stop_in marks ≡ None
none_stops [] all = refl
none_stops (Stopped cause ∷ marks) all = absurd (true≢false all.0)
none_stops (mark ∷ marks) all = none_stops marks all.1

-- so where the marks are among others that don't
pub none_among : (among : Mark → Bool) → ((cause : StopCause) → among (Stopped cause) ≡ false) → (marks : List Mark)
    → Each (IsAmong among) marks → stop_in marks ≡ None
none_among among none [] all = refl
none_among among none (Stopped cause ∷ marks) all = absurd (true≢false (sym all.0 ∙ none cause))
none_among among none (mark ∷ marks) all = none_among among none marks all.1

-- behind marks that don't, and before them
pub stop_behind : (marks more : List Mark) → stop_in marks ≡ None → stop_in (marks ++ more) ≡ stop_in more
stop_behind [] more none = refl
stop_behind (Stopped cause ∷ marks) more none = absurd cc
stop_behind (mark ∷ marks) more none = stop_behind marks more none

pub stop_before : (marks more : List Mark) → stop_in more ≡ None → stop_in (marks ++ more) ≡ stop_in marks
stop_before [] more none = none
stop_before (Stopped cause ∷ marks) more none = refl
stop_before (mark ∷ marks) more none = stop_before marks more none
