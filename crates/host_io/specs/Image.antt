-- What a crash may leave of a disk.
use Rattle.std.specs.Prelude.{◌≡◌, ℕ, ◌+◌, ◌≤◌, ◌<◌, Bool, false, nat_le, nat_lt, ◌&&◌, List, [], ◌∷◌, ◌++◌, length}
use Rattle.std.specs.Prelude.{get_or}
use Rattle.std.specs.List.{All}
use Rattle.host_io.specs.declared.limits.TheConstants.{FILES, FILE_SIZE}
use Rattle.host_io.specs.Call.{Call, Wrote, Tore, Synced, Lost}
use Rattle.host_io.specs.DiskState.{FileState, is_dirty, state_of}

abbrev pub AreBytes : List ℕ → Type 0
AreBytes bytes = All (λ byte. byte < 256) bytes

-- Bytes that a crash may leave of a file. They end between the synced end and the end as read, and below the synced
-- end they are those as read, but for what is dirty.
pub record IsImage (s : FileState) (image : List ℕ) : Type 0 where
  pub bytes : AreBytes image
  pub from_synced : s.synced ≤ length image
  pub to_end : length image ≤ length s.bytes
  pub clean : (at : ℕ) → at < s.synced → is_dirty s at ≡ false → get_or image at 0 ≡ get_or s.bytes at 0

-- what a crash may leave of all files at one moment: after the calls of a record
abbrev pub IsLeft : List Call → (ℕ → List ℕ) → Type 0
IsLeft calls image = (file : ℕ) → file < FILES → IsImage (state_of calls file) (image file)

-- Whatever a crash may have left at some moment since the clock showed this, each such image has the property. The
-- clock counts the calls of the record.
abbrev pub LeavesOnly : List Call → ℕ → ((ℕ → List ℕ) → Type 0) → Type 0
LeavesOnly calls clock Has =
    (newer older : List Call) → calls ≡ newer ++ older → clock ≤ length older → (image : ℕ → List ℕ)
    → IsLeft older image → Has image

-- a disk has this file, and places in it up to this end
abbrev pub IsPlace : ℕ → ℕ → Type 0
IsPlace file end = (file < FILES) × (end ≤ FILE_SIZE)

abbrev pub has_place : ℕ → ℕ → Bool
has_place file end = nat_lt file FILES && nat_le end FILE_SIZE

-- a call may come after those of a record
abbrev pub MayFollow : List Call → Call → Type 0
MayFollow calls (Wrote file at bytes) = IsPlace file (at + length bytes) × AreBytes bytes
MayFollow calls (Tore file at asked piece) =
    IsPlace file (at + length asked) × (length piece ≤ length asked) × AreBytes piece
MayFollow calls (Synced file) = file < FILES
MayFollow calls (Lost files) = (length files ≡ FILES) × IsLeft calls (λ file. get_or files file [])

-- the record of a disk that keeps to the model
abbrev pub IsRecord : List Call → Type 0
IsRecord [] = Unit {0}
IsRecord (call ∷ calls) = MayFollow calls call × IsRecord calls
