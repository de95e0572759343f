-- What a check of a trace finds, and its status.
use Rattle.std.proofs.Common.{◌≡◌, ℕ, List, arith, refl}
use Rattle.std.specs.Prelude.{Option}
use Rattle.shell_top.specs.Checked.{HasFound, IsChecked, telling_of}
use Rattle.shell_top.specs.declared.checked.Found.{Found}
use Rattle.shell_top.specs.declared.checked.Found.TheVariants.{NoMemory, ReadFault, Right, TooLong, Wrong}
use Rattle.shell_top.specs.Gathered.{IsGathered, IsUngathered}
use Rattle.shell_top.specs.declared.gathered.Ungathered.TheVariants as ungathered
use Rattle.trace_check.specs.declared.fault.TraceFault.TheVariants as fault

module _ (left now : Option (List ℕ)) (ReadFailed : Type 0) where
  -- all bytes were read
  pub found_in : (bytes : List ℕ) (found : Found) → IsGathered left now bytes → IsChecked found bytes
      → HasFound left now ReadFailed found
  found_in bytes (Right history) read checked = record {
    input = bytes;
    consumed = read.consumed;
    is = (read.at_end, read.short, checked);
    bounded = omega (arith, read.short);
  }
  found_in bytes (Wrong fault) read checked = record {
    input = bytes;
    consumed = read.consumed;
    is = (read.at_end, read.short, checked);
    bounded = omega (arith, read.short);
  }
  found_in bytes _ read checked = absurd checked

  -- or not
  pub found_long : IsUngathered left now ReadFailed ungathered.TooLong → HasFound left now ReadFailed TooLong
  found_long read =
      record { input = read.bytes; consumed = read.consumed; is = read.cause; bounded = read.short }

  pub found_fault : IsUngathered left now ReadFailed ungathered.Failed → HasFound left now ReadFailed ReadFault
  found_fault read =
      record { input = read.bytes; consumed = read.consumed; is = read.cause; bounded = read.short }

  pub found_want : IsUngathered left now ReadFailed ungathered.NoMemory → HasFound left now ReadFailed NoMemory
  found_want read = record { input = read.bytes; consumed = read.consumed; is = tt; bounded = read.short }

-- the source failed
pub checked_read : (found : Found) → (telling_of found).status ≡ 3 → found ≡ ReadFault
checked_read (Right history) is = absurd (omega (arith, is))
checked_read (Wrong (fault.NotTrace at)) is = absurd (omega (arith, is))
checked_read (Wrong fault.NotHosts) is = absurd (omega (arith, is))
checked_read (Wrong (fault.NotStep host step cause)) is = absurd (omega (arith, is))
checked_read (Wrong fault.NoMemory) is = absurd (omega (arith, is))
checked_read TooLong is = absurd (omega (arith, is))
checked_read ReadFault is = refl
checked_read NoMemory is = absurd (omega (arith, is))

-- nothing that is found tells of a sink that failed
pub checked_write : (found : Found) → (telling_of found).status ≡ 4 → ⊥
checked_write (Right history) is = omega (arith, is)
checked_write (Wrong (fault.NotTrace at)) is = omega (arith, is)
checked_write (Wrong fault.NotHosts) is = omega (arith, is)
checked_write (Wrong (fault.NotStep host step cause)) is = omega (arith, is)
checked_write (Wrong fault.NoMemory) is = omega (arith, is)
checked_write TooLong is = omega (arith, is)
checked_write ReadFault is = omega (arith, is)
checked_write NoMemory is = omega (arith, is)
