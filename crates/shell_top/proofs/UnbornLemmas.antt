-- A life that was to begin, and didn't: how the session ends then.
use Rattle.std.proofs.Common.{◌≡◌, true, refl, sym, subst}
use Rattle.shell_top.specs.Chapters.{IsUnborn, ending_for, may_be_unborn}
use Rattle.shell_top.specs.declared.ended.Ending.{Ending}
use Rattle.shell_top.specs.Lives.{stops_early}
use Rattle.shell_top.specs.Seen.{Seen}
use Rattle.sig_core.specs.declared.fault.RestartFault.{RestartFault}
use Rattle.sig_core.specs.declared.fault.RestartFault.TheVariants as fault
use Rattle.sig_core.specs.declared.view.Shape.{Shape}

-- the ending for each fault of a restart is one that can come where no life goes on
for_fault_may : (f : RestartFault) → may_be_unborn (ending_for f) ≡ true
for_fault_may (fault.DiskFault node count) = refl
for_fault_may (fault.OtherShape found asked) = refl
for_fault_may (fault.Damaged node file at byte) = refl
for_fault_may (fault.UsedUp generation epoch) = refl
for_fault_may fault.NoMemory = refl

-- and one that may come before the script is done
for_fault_early : (f : RestartFault) → stops_early (ending_for f) ≡ true
for_fault_early (fault.DiskFault node count) = refl
for_fault_early (fault.OtherShape found asked) = refl
for_fault_early (fault.Damaged node file at byte) = refl
for_fault_early (fault.UsedUp generation epoch) = refl
for_fault_early fault.NoMemory = refl

pub unborn_may : (shape : Shape) (e : Ending) (opened seen : Seen) → IsUnborn shape e opened seen
    → may_be_unborn e ≡ true
unborn_may shape e opened seen unborn =
    subst (λ ending. may_be_unborn ending ≡ true) (sym unborn.is) (for_fault_may unborn.fault)

pub unborn_early : (shape : Shape) (e : Ending) (opened seen : Seen) → IsUnborn shape e opened seen
    → stops_early e ≡ true
unborn_early shape e opened seen unborn =
    subst (λ ending. stops_early ending ≡ true) (sym unborn.is) (for_fault_early unborn.fault)
