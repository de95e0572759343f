use Rattle.trace_check.specs.Answer.{NoneDiffers}
use Rattle.trace_check.proofs.compare.first_fault.Given as goal

-- none of the places so far differs
abbrev pub invariant-loop-place : goal.invariant-loop-place
invariant-loop-place l = NoneDiffers l.told l.made l.run l.place-index
