-- Hosts that stopped for want of memory.
use Rattle.std.specs.Prelude.{◌≡◌, ℕ, ◌-◌, Bool, true, false, List, length, slice_get, Option, None, Some}
use Rattle.std.specs.List.{list_any}
use Rattle.run_theory.specs.Lists.{Each}
use Rattle.sig_core.specs.declared.log.HostLog.{HostLog}
use Rattle.sig_core.specs.declared.log.Life.{Life}
use Rattle.sig_core.specs.declared.log.LogStep.{LogStep}
use Rattle.sig_core.specs.declared.mark.Mark.{Mark}
use Rattle.sig_core.specs.declared.mark.Mark.TheVariants.{Stopped}
use Rattle.sig_core.specs.declared.outcome.StopCause.{StopCause}
use Rattle.sig_core.specs.declared.outcome.StopCause.TheVariants.{Clock, Disk, Memory}
use Rattle.world_core.specs.Steps.{HostStep}

abbrev pub wants : StopCause → Bool
wants Memory = true
wants _ = false

abbrev pub is_want : Mark → Bool
is_want (Stopped cause) = wants cause
is_want _ = false

abbrev pub is_last_want : Option LogStep → Bool
is_last_want None = false
is_last_want (Some step) = list_any is_want step.marks

-- the last step of a log stopped its host for want of memory
abbrev pub ends_by_want : HostLog → Bool
ends_by_want log = is_last_want (slice_get log.steps (length log.steps - 1))

-- a host of the life did so
abbrev pub has_wanted : Life → Bool
has_wanted life = list_any ends_by_want life.logs

-- a host gives up for want of memory or of stamps, or since its node's disk failed
abbrev pub gives_up_for : StopCause → Bool
gives_up_for Memory = true
gives_up_for Clock = true
gives_up_for (Disk count) = true
gives_up_for _ = false

-- a mark of a host that did so
abbrev pub gives_up : Mark → Bool
gives_up (Stopped cause) = gives_up_for cause
gives_up _ = false

-- no host of these logs gave up
abbrev pub NoneWants : (ℕ → List HostStep) → Type 0
NoneWants logs = (h : ℕ) → Each (λ e. list_any gives_up e.step.marks ≡ false) (logs h)
