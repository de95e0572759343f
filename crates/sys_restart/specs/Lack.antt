-- What is wrong with a node's disk that lacks a slot.
use Rattle.std.specs.Prelude.{ℕ, get_or}
use Rattle.sig_core.specs.declared.fault.RestartFault.{RestartFault}
use Rattle.sig_core.specs.declared.fault.RestartFault.TheVariants.{Damaged}
use Rattle.sys_restart.specs.Files.{Files}

-- damage at the first byte of the file of such slots
abbrev pub lacking : ℕ → ℕ → Files → RestartFault
lacking node file files = Damaged node file 0 (get_or (files file) 0 0)
