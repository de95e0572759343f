-- What disks tell: the bytes of their files.
use Rattle.std.specs.Prelude.{ℕ, ◌-◌, List, [], get_or}
use Rattle.host_io.specs.Call.{Call}
use Rattle.redo_log.specs.Stored.{files_of}

-- the bytes of the files of a disk, by their numbers
abbrev pub Files : Type 0
Files = ℕ → List ℕ

-- the files of the disks of a cluster, by their nodes
abbrev pub Disks : Type 0
Disks = ℕ → Files

-- those that records of calls tell, the first of which is that of node 1
abbrev pub disks_of : List (List Call) → Disks
disks_of records node = files_of (get_or records (node - 1) [])
