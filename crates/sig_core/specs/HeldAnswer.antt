-- Answers as signals carry them.
use Rattle.std.specs.Prelude.{ℕ, List, Option, None, Some}
use Rattle.sig_core.specs.declared.held_answer.Plain.{Plain}
use Rattle.sig_core.specs.declared.held_answer.Plain.TheVariants as plain
use Rattle.sig_core.specs.declared.op.Answer.{Answer}
use Rattle.sig_core.specs.declared.op.Answer.TheVariants as answer

-- a value that was found is the answer, and without one it is what was said
abbrev pub answer_by : Option (List ℕ) → Plain → Answer
answer_by (Some value) _ = answer.Found value
answer_by None plain.Done = answer.Done
answer_by None plain.Missing = answer.Missing
answer_by None plain.E626 = answer.E626
answer_by None plain.E630 = answer.E630
