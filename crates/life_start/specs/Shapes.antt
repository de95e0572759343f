-- System slots of the shape of a cluster.
use Rattle.std.specs.Prelude.{◌≡◌, ◌≤◌, ℕ, true, List, IfSome, Option, Some, Ok}
use Rattle.host_io.specs.Call.{Call}
use Rattle.redo_log.specs.Stored.{files_of}
use Rattle.sig_core.specs.declared.slots.SystemSlot.{SystemSlot}
use Rattle.sig_core.specs.declared.view.Shape.{Shape}
use Rattle.sys_restart.specs.Latest.{same_shape}
use Rattle.sys_restart.specs.LifeCalls.{told_by}
use Rattle.sysfile_core.specs.declared.place.TheConstants.{SYSTEM_FILE}
use Rattle.sysfile_core.specs.Reading.{system_at}

-- At each of the two places of a system file a slot can be read, which is closed or of this shape.
abbrev pub AreOfShape : Shape → List ℕ → Type 0
AreOfShape shape bytes =
    (which : ℕ) → which ≤ 1
    → (slot : Option SystemSlot) × ((system_at which bytes ≡ Ok slot)
    × IfSome slot (λ (one : SystemSlot). same_shape one.shape shape ≡ true))

-- so it is on the disk of each node
abbrev pub HaveShape : Shape → List (Option (List Call)) → Type 0
HaveShape shape told =
    (node : ℕ) → 1 ≤ node → node ≤ shape.nodes → (calls : List Call) → told_by told node ≡ Some calls
    → AreOfShape shape (files_of calls SYSTEM_FILE)
