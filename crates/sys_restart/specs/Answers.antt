-- How what is read is answered.
use Rattle.std.specs.Prelude.{◌≡◌, ◌≤◌, ℕ, ◌-◌, Bool, true, false, List, length, get_or, Result, Ok, Err}
use Rattle.host_io.specs.Fault.{Rose}
use Rattle.sig_core.specs.declared.fault.ReadFault.{ReadFault}
use Rattle.sig_core.specs.declared.fault.ReadFault.TheVariants as read
use Rattle.sig_core.specs.declared.fault.RestartFault.{RestartFault}
use Rattle.sig_core.specs.declared.fault.RestartFault.TheVariants.{Damaged, DiskFault, NoMemory, OtherShape, UsedUp}

-- a fault of reading, with the node whose disk was read
abbrev pub of_node : ℕ → ReadFault → RestartFault
of_node node (read.DiskFault count) = DiskFault node count
of_node node (read.Damaged file at byte) = Damaged node file at byte
of_node node read.NoMemory = NoMemory

-- an answer, with the node whose disk was read
abbrev pub on_node : {A : Type 0} → ℕ → Result A ReadFault → Result A RestartFault
on_node node (Ok a) = Ok a
on_node node (Err fault) = Err (of_node node fault)

-- the fault isn't one of what the files hold: the disk failed, or memory was wanting
abbrev pub is_outer : ReadFault → Bool
is_outer (read.DiskFault count) = true
is_outer (read.Damaged file at byte) = false
is_outer read.NoMemory = true

abbrev pub is_outside : RestartFault → Bool
is_outside (DiskFault node count) = true
is_outside (OtherShape found asked) = false
is_outside (Damaged node file at byte) = false
is_outside (UsedUp generation epoch) = false
is_outside NoMemory = true

-- the answer is what the files tell, unless the disk failed or memory was wanting
abbrev pub Reads : {A : Type 0} → Result A ReadFault → Result A ReadFault → Type 0
Reads found (Ok a) = found ≡ Ok a
Reads found (Err fault) = is_outer fault ≡ false → found ≡ Err fault

-- the same of the files of several disks
abbrev pub ReadsAll : {A : Type 0} → Result A RestartFault → Result A RestartFault → Type 0
ReadsAll found (Ok a) = found ≡ Ok a
ReadsAll found (Err fault) = is_outside fault ≡ false → found ≡ Err fault

-- a fault of the disk is one only where its count rose, to that count
abbrev pub IsCause : ℕ → ℕ → ReadFault → Type 0
IsCause before now (read.DiskFault count) = Rose before now × (count ≡ now)
IsCause before now (read.Damaged file at byte) = Unit {0}
IsCause before now read.NoMemory = Unit {0}

abbrev pub HasCause : {A : Type 0} → ℕ → ℕ → Result A ReadFault → Type 0
HasCause before now (Ok a) = Unit {0}
HasCause before now (Err fault) = IsCause before now fault

-- the same of a node's disk
abbrev pub IsCauseOf : ℕ → ℕ → ℕ → RestartFault → Type 0
IsCauseOf node before now (DiskFault of count) = (of ≡ node) × Rose before now × (count ≡ now)
IsCauseOf node before now (OtherShape found asked) = Unit {0}
IsCauseOf node before now (Damaged of file at byte) = Unit {0}
IsCauseOf node before now (UsedUp generation epoch) = Unit {0}
IsCauseOf node before now NoMemory = Unit {0}

abbrev pub HasCauseOf : {A : Type 0} → ℕ → ℕ → ℕ → Result A RestartFault → Type 0
HasCauseOf node before now (Ok a) = Unit {0}
HasCauseOf node before now (Err fault) = IsCauseOf node before now fault

-- the count of faults of a node's disk, of those of all
abbrev pub count_of : List ℕ → ℕ → ℕ
count_of counts node = get_or counts (node - 1) 0

-- a fault of a disk is one only where there is such a node, and the count of its disk rose, to that count
abbrev pub IsCauseAmong : List ℕ → List ℕ → RestartFault → Type 0
IsCauseAmong before now (DiskFault node count) =
    (1 ≤ node) × (node ≤ length before) × Rose (count_of before node) (count_of now node)
    × (count ≡ count_of now node)
IsCauseAmong before now (OtherShape found asked) = Unit {0}
IsCauseAmong before now (Damaged node file at byte) = Unit {0}
IsCauseAmong before now (UsedUp generation epoch) = Unit {0}
IsCauseAmong before now NoMemory = Unit {0}

abbrev pub HasCauseAmong : {A : Type 0} → List ℕ → List ℕ → Result A RestartFault → Type 0
HasCauseAmong before now (Ok a) = Unit {0}
HasCauseAmong before now (Err fault) = IsCauseAmong before now fault

-- no count fell
abbrev pub AreSteady : List ℕ → List ℕ → Type 0
AreSteady before now = (k : ℕ) → get_or before k 0 ≤ get_or now k 0
