-- A takeover marks nothing, whatever it takes: it decides no transaction, and reports none.
use Rattle.std.proofs.Common.{◌≡◌, [], ◌∷◌, List, refl, sym}
use Rattle.std.proofs.lemmas.Bool.{true≢false}
use Rattle.run_theory.specs.Lists.{Each}
use Rattle.sig_core.specs.declared.mark.Mark.{Mark}
use Rattle.sig_core.specs.declared.signal.Signal.{Signal}
use Rattle.step_forms.specs.Does.{IsAmong}
use Rattle.takeover_block.specs.State.{TakeoverState}
use Rattle.takeover_block.specs.Takeover.{takeover_row}
use Rattle.takeover_block.specs.Words.{is_takeover_mark}
use Rattle.takeover_block.proofs.Walk.{takeover_words}

nothing : (marks : List Mark) → Each (IsAmong is_takeover_mark) marks → marks ≡ []
nothing [] all = refl
nothing (mark ∷ marks) all = absurd (true≢false (sym all.0))

pub takeover_marks_nothing : (s : TakeoverState) (x : Signal) → (takeover_row s x).effects.marks ≡ []
takeover_marks_nothing s x = nothing (takeover_row s x).effects.marks (takeover_words.takes s x).1
