-- What the pieces of a log leave in files, and what replaying the bytes of records comes to there.
use Rattle.std.specs.Prelude.{◌≡◌, ℕ, ◌+◌, ◌-◌, ◌≤◌, ◌<◌, ◌==◌, false, if◌then◌else◌, List, [], ◌∷◌, length, take, drop}
use Rattle.std.specs.Prelude.{Result, Ok, Err}
use Rattle.std.specs.List.{flat_map}
use Rattle.host_io.specs.Call.{Call, Synced, Wrote}
use Rattle.host_io.specs.DiskState.{FileState, is_dirty, laid, state_of}
use Rattle.host_io.specs.Image.{IsLeft}
use Rattle.sig_core.specs.declared.journal.TheConstants.{JOURNAL_BYTES}
use Rattle.sig_core.specs.declared.redo.Redo.{Redo}
use Rattle.sig_core.specs.Table.{Rows}
use Rattle.sig_core.specs.Redo.{bytes_of}
use Rattle.sig_core.specs.declared.fault.ReadFault.{ReadFault}
use Rattle.sig_core.specs.declared.fault.ReadFault.TheVariants.{Damaged, DiskFault, NoMemory}
use Rattle.redo_log.specs.Laws.{LogCall, after_all, pieces_of, records_of}
use Rattle.sig_core.specs.declared.piece.Piece.{Piece}
use Rattle.redo_log.specs.LogState.{fresh_log}
use Rattle.sig_core.specs.Ring.{file_of, place_of}
use Rattle.redo_log.specs.Replaying.{AreRecords, log_bytes, replayed}
use Rattle.redo_log.specs.Stored.{AreStored, EachIsStored, ReplaysStored, files_of}

-- the bytes of files after a piece was laid down at its place
abbrev pub with_piece : Piece → (ℕ → List ℕ) → ℕ → List ℕ
with_piece piece files file = if piece.file == file then laid piece.at piece.bytes (files file) else files file

-- after many, the first of them first
abbrev pub with_pieces : List Piece → (ℕ → List ℕ) → ℕ → List ℕ
with_pieces [] files = files
with_pieces (piece ∷ pieces) files = with_pieces pieces (with_piece piece files)

-- a disk reads so after a write of a piece, and a sync leaves what it reads
abbrev pub WritesLayPieces : Type 0
WritesLayPieces =
    (piece : Piece) (calls : List Call) (file synced : ℕ)
    → (files_of (Wrote piece.file piece.at piece.bytes ∷ calls) file ≡ with_piece piece (files_of calls) file)
    × (files_of (Synced synced ∷ calls) file ≡ files_of calls file)

-- Whatever the calls on a fresh log, and whatever files held: after its pieces the bytes of its records, as many as
-- were given out, stand there at their places, from any position on that is at most 16,777,216 before their end.
abbrev pub PiecesAreStored : Type 0
PiecesAreStored =
    (generation parity from : ℕ) (calls : List LogCall) (files : ℕ → List ℕ) → let s = fresh_log generation parity in
    let flushed = (after_all calls s).flushed in
    from ≤ flushed → flushed ≤ from + JOURNAL_BYTES
    → AreStored (with_pieces (pieces_of calls s) files) parity from (flushed - from)
    (drop from (take flushed (flat_map bytes_of (records_of calls))))

-- the byte at the place of a position was synced and not written since
pub record IsSynced (s : FileState) (place : ℕ) : Type 0 where
  pub below : place < s.synced
  pub clean : is_dirty s place ≡ false

-- Bytes of a log that stand at their places and were synced still stand there in whatever a crash leaves.
abbrev pub SyncedBytesStay : Type 0
SyncedBytesStay =
    (calls : List Call) (parity from : ℕ) (bytes : List ℕ) (image : ℕ → List ℕ) → parity ≤ 1
    → ((behind : ℕ) → behind < length bytes
    → IsSynced (state_of calls (file_of parity (from + behind))) (place_of (from + behind)))
    → EachIsStored (files_of calls) parity from bytes → IsLeft calls image → EachIsStored image parity from bytes

-- the rows are what records make of those before, the newest first; want of memory and a fault of the disk say no more
abbrev pub AreReplayed : ℕ → Rows → List Redo → Rows → Result (Unit {0}) ReadFault → Type 0
AreReplayed epoch before newest rows (Ok done) = rows ≡ replayed epoch before newest
AreReplayed epoch before newest rows (Err NoMemory) = Unit {0}
AreReplayed epoch before newest rows (Err (DiskFault count)) = Unit {0}
AreReplayed epoch before newest rows (Err (Damaged file at byte)) = ⊥

-- where files have the bytes of records, just these are replayed
abbrev pub StoredRecordsAreReplayed : Type 0
StoredRecordsAreReplayed =
    (epoch parity from : ℕ) (files : ℕ → List ℕ) (before rows : Rows) (newest : List Redo)
    (result : Result (Unit {0}) ReadFault)
    → AreRecords newest → AreStored files parity from (length (log_bytes newest)) (log_bytes newest)
    → ReplaysStored epoch before files parity from (length (log_bytes newest)) rows result
    → AreReplayed epoch before newest rows result
