-- What is so of each part of what a step does is so of the whole.
use Rattle.std.proofs.Common.{◌≡◌, Bool, false, true, sym}
use Rattle.std.proofs.lemmas.Bool.{true≢false}
use Rattle.run_theory.proofs.Pasts.{each_append, each_map}
use Rattle.sig_core.specs.declared.mark.Mark.{Mark}
use Rattle.sig_core.specs.declared.outs.Outgoing.{Outgoing}
use Rattle.sig_core.specs.declared.signal.Body.{Body}
use Rattle.sig_core.specs.Step.{Effects, Step, joined}
use Rattle.step_forms.specs.Does.{Does, Have, IsAmong, IsWord, Speaks}

-- of two effects, one behind the other
pub joined_have : (P : Outgoing → Type 0) (M : Mark → Type 0) (first second : Effects) → Have P M first
    → Have P M second
    → Have P M (joined first second)
joined_have P M first second front behind = (
  each_append P first.sends second.sends front.0 behind.0,
  each_append M first.marks second.marks front.1 behind.1,
)

-- what follows for each follows for all
pub does_map : {S : Type 0} (P Q : Outgoing → Type 0) (M N : Mark → Type 0) (step : Step S)
    → ((sent : Outgoing) → P sent → Q sent) → ((mark : Mark) → M mark → N mark) → Does P M step → Does Q N step
does_map P Q M N step sends marks did =
    (each_map P Q step.effects.sends sends did.0, each_map M N step.effects.marks marks did.1)

-- what is so of each of its words and marks is so of all that a step does
pub speaks_do : {S : Type 0} (words : Body → Bool) (marks : Mark → Bool) (Q : Body → Type 0) (N : Mark → Type 0)
    (step : Step S) → ((body : Body) → words body ≡ true → Q body) → ((mark : Mark) → marks mark ≡ true → N mark)
    → Speaks words marks step → Does (λ (sent : Outgoing). Q sent.body) N step
speaks_do words marks Q N step of_words of_marks speaks =
    does_map (IsWord words) (λ sent. Q sent.body) (IsAmong marks) N step (λ sent is. of_words sent.body is) of_marks
    speaks
