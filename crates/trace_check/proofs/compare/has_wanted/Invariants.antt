use Rattle.std.proofs.Common.{◌≡◌, drop}
use Rattle.trace_check.specs.Answer.{is_want}
use Rattle.trace_check.specs.Histories.{any_shows}
use Rattle.trace_check.proofs.compare.has_wanted.Given as goal

-- the steps that are left tell the answer
abbrev pub invariant-loop-step : goal.invariant-loop-step
invariant-loop-step l = any_shows is_want (drop l.step-index l.steps) ≡ any_shows is_want l.steps
