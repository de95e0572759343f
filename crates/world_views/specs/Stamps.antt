-- Stamps that follow one another.
use Rattle.std.specs.Prelude.{◌≡◌, ◌+◌, max, List, [], ◌∷◌}
use Rattle.world_core.specs.Machine.{last_stamp}
use Rattle.world_core.specs.Steps.{HostStep}

-- none is skipped: each step has the one behind the greater of those of the step before and of the signal that it took
abbrev pub HaveNextStamps : List HostStep → Type 0
HaveNextStamps [] = Unit {0}
HaveNextStamps (e ∷ log) = (e.step.stamp ≡ max (last_stamp log) e.step.taken.stamp + 1) × HaveNextStamps log
