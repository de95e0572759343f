use Rattle.std.proofs.Common.{◌≡◌, drop}
use Rattle.trace_check.specs.Histories.{any_shows, is_sign}
use Rattle.trace_check.proofs.effects.has_sign.Given as goal

-- the steps that are left tell the answer
abbrev pub invariant-loop-step : goal.invariant-loop-step
invariant-loop-step l =
    any_shows (is_sign l.writes l.tx) (drop l.step-index l.steps) ≡ any_shows (is_sign l.writes l.tx) l.steps
