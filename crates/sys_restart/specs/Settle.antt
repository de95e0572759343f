-- The calls by which a disk is settled, and the record behind them.
use Rattle.std.specs.Prelude.{ℕ, zero, suc, ◌+◌, List, [], ◌∷◌, map}
use Rattle.host_io.specs.Call.{Call, Synced}
use Rattle.host_io.specs.declared.limits.TheConstants.{FILES}
use Rattle.sig_core.specs.declared.fault.RestartFault.{RestartFault}
use Rattle.sig_core.specs.declared.fault.RestartFault.TheVariants.{Damaged, DiskFault, NoMemory, OtherShape, UsedUp}
use Rattle.sys_restart.specs.LifeCalls.{after_calls}

-- so many files are synced, from one on
abbrev pub syncs_from : ℕ → ℕ → List Call
syncs_from zero file = []
syncs_from (suc more) file = Synced file ∷ syncs_from more (file + 1)

-- each file of a disk is synced
unfoldable pub sync_calls : List Call
sync_calls = syncs_from FILES 0

-- the record of a disk, all of whose files were synced
abbrev pub settled_record : List Call → List Call
settled_record calls = after_calls sync_calls calls

-- those of all disks
abbrev pub settled_records : List (List Call) → List (List Call)
settled_records records = map settled_record records

-- a call of a disk failed
abbrev pub IsDiskFault : RestartFault → Type 0
IsDiskFault (DiskFault node count) = Unit {0}
IsDiskFault (OtherShape found asked) = ⊥
IsDiskFault (Damaged node file at byte) = ⊥
IsDiskFault (UsedUp generation epoch) = ⊥
IsDiskFault NoMemory = ⊥
