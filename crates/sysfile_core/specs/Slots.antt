-- The bytes of slots.
use Rattle.std.specs.Prelude.{◌≡◌, ℕ, ◌-◌, ◌/◌, ◌%◌, ◌^◌, ◌==◌, ◌&&◌, ◌||◌, not, Bool, true, nat_le, nat_lt, ◌<◌, ◌≤◌}
use Rattle.std.specs.Prelude.{List, [], ◌∷◌, ◌++◌, take, drop, slice_index, Option, None, Some, if◌then◌else◌}
use Rattle.std.specs.Int.{w64, from_be_bytes, to_be_bytes}
use Rattle.sig_core.specs.declared.slots.ControlSlot.{ControlSlot}
use Rattle.sysfile_core.specs.declared.control.TheConstants.{REDO_BYTES}
use Rattle.sysfile_core.specs.declared.place.TheConstants.{OPEN, VERSION}
use Rattle.sig_core.specs.declared.slots.SystemSlot.{SystemSlot}

-- the number of eight bytes at a place, the highest first
abbrev pub number_at : ℕ → List ℕ → ℕ
number_at at bytes = from_be_bytes w64 (take 8 (drop at bytes))

-- 1 to 8 nodes
abbrev pub are_nodes : ℕ → Bool
are_nodes nodes = nat_le 1 nodes && nat_le nodes 8

-- 1 to 4 replicas, which divide the number of nodes
abbrev pub are_replicas : ℕ → ℕ → Bool
are_replicas replicas nodes = nat_le 1 replicas && nat_le replicas 4 && (nodes % replicas == 0)

-- 1 to 32 fragments
abbrev pub are_fragments : ℕ → Bool
are_fragments fragments = nat_le 1 fragments && nat_le fragments 32

-- the mask names some of so many nodes, and no other
abbrev pub names_nodes : ℕ → ℕ → Bool
names_nodes mask nodes = nat_le 1 mask && (mask / 2 ^ nodes == 0)

-- what a system slot begins with
abbrev pub system_head : SystemSlot → List ℕ
system_head s =
    OPEN ∷ VERSION ∷ s.shape.nodes ∷ s.shape.replicas ∷ s.shape.fragments ∷ s.mask ∷ 0 ∷ 0 ∷ []

-- the bytes of a system slot whose gate is open
unfoldable pub system_bytes : SystemSlot → List ℕ
system_bytes s = system_head s ++ to_be_bytes w64 s.generation ++ to_be_bytes w64 s.epoch

-- the place of the first byte of an open system slot that doesn't fit
unfoldable pub system_fault : List ℕ → Option ℕ
system_fault bytes =
    if not (slice_index bytes 1 == VERSION)
    then Some 1
    else if not (are_nodes (slice_index bytes 2))
    then Some 2
    else if not (are_replicas (slice_index bytes 3) (slice_index bytes 2))
    then Some 3
    else if not (are_fragments (slice_index bytes 4))
    then Some 4
    else if not (names_nodes (slice_index bytes 5) (slice_index bytes 2))
    then Some 5
    else if not (slice_index bytes 6 == 0) then Some 6 else if not (slice_index bytes 7 == 0) then Some 7 else None

-- the system slot of these bytes
abbrev pub system_of : List ℕ → SystemSlot
system_of bytes = record {
  shape = record { nodes = slice_index bytes 2; replicas = slice_index bytes 3; fragments = slice_index bytes 4 };
  mask = slice_index bytes 5;
  generation = number_at 8 bytes;
  epoch = number_at 16 bytes;
}

-- a system slot that is read back
pub record IsSystemSlot (s : SystemSlot) : Type 0 where
  pub nodes : are_nodes s.shape.nodes ≡ true
  pub replicas : are_replicas s.shape.replicas s.shape.nodes ≡ true
  pub fragments : are_fragments s.shape.fragments ≡ true
  pub mask : names_nodes s.mask s.shape.nodes ≡ true
  pub generation : s.generation < 2 ^ 64
  pub epoch : s.epoch < 2 ^ 64

-- what a control slot begins with
abbrev pub control_head : ControlSlot → List ℕ
control_head s = OPEN ∷ VERSION ∷ s.ckpt_file ∷ s.parity ∷ 0 ∷ 0 ∷ 0 ∷ 0 ∷ []

-- the bytes of a control slot whose gate is open
unfoldable pub control_bytes : ControlSlot → List ℕ
control_bytes s =
    control_head s ++ to_be_bytes w64 s.generation ++ to_be_bytes w64 s.serial ++ to_be_bytes w64 s.saved
    ++ to_be_bytes w64 s.redo_start ++ to_be_bytes w64 s.redo_end ++ to_be_bytes w64 s.ckpt_size

-- redo ends at most 16,777,216 bytes behind its start
abbrev pub are_positions : ℕ → ℕ → Bool
are_positions start end = nat_le start end && nat_le (end - start) REDO_BYTES

-- the place of the first byte of an open control slot that doesn't fit
unfoldable pub control_fault : List ℕ → Option ℕ
control_fault bytes =
    if not (slice_index bytes 1 == VERSION)
    then Some 1
    else if nat_lt (slice_index bytes 2) 2 || nat_lt 3 (slice_index bytes 2)
    then Some 2
    else if nat_lt 1 (slice_index bytes 3)
    then Some 3
    else if not (slice_index bytes 4 == 0)
    then Some 4
    else if not (slice_index bytes 5 == 0)
    then Some 5
    else if not (slice_index bytes 6 == 0)
    then Some 6
    else if not (slice_index bytes 7 == 0)
    then Some 7
    else if not (are_positions (number_at 32 bytes) (number_at 40 bytes)) then Some 40 else None

-- the control slot of these bytes
abbrev pub control_of : List ℕ → ControlSlot
control_of bytes = record {
  ckpt_file = slice_index bytes 2;
  parity = slice_index bytes 3;
  generation = number_at 8 bytes;
  serial = number_at 16 bytes;
  saved = number_at 24 bytes;
  redo_start = number_at 32 bytes;
  redo_end = number_at 40 bytes;
  ckpt_size = number_at 48 bytes;
}

-- a control slot that is read back
pub record IsControlSlot (s : ControlSlot) : Type 0 where
  pub least_file : 2 ≤ s.ckpt_file
  pub most_file : s.ckpt_file ≤ 3
  pub parity : s.parity ≤ 1
  pub positions : are_positions s.redo_start s.redo_end ≡ true
  pub generation : s.generation < 2 ^ 64
  pub serial : s.serial < 2 ^ 64
  pub saved : s.saved < 2 ^ 64
  pub redo_start : s.redo_start < 2 ^ 64
  pub redo_end : s.redo_end < 2 ^ 64
  pub ckpt_size : s.ckpt_size < 2 ^ 64
