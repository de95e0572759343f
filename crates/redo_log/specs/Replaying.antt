-- What the records of a log make of rows.
use Rattle.std.specs.Prelude.{◌≡◌, ◌<◌, ℕ, ◌+◌, ◌-◌, ◌&&◌, Bool, cond, nat_le, if◌then◌else◌, List, [], ◌∷◌, ◌++◌}
use Rattle.std.specs.Prelude.{length, slice_index, Option, None, Some, Result, Ok, Err}
use Rattle.std.specs.FinMap as map
use Rattle.std.specs.Map.{lookup}
use Rattle.sig_core.specs.declared.redo.Redo.{Redo}
use Rattle.sig_core.specs.declared.redo.Redo.TheVariants.{Prepare, Commit, Abort}
use Rattle.sig_core.specs.Same.{same_key, same_tx}
use Rattle.sig_core.specs.Table.{Rows}
use Rattle.redo_format.specs.declared.fault.FormatFault.TheVariants.{NotRecord}
use Rattle.sig_core.specs.Redo.{bytes_of}
use Rattle.redo_format.specs.Records.{IsRecord}
use Rattle.redo_format.specs.Decoding.{decoded}
use Rattle.sig_core.specs.declared.fault.ReadFault.{ReadFault}
use Rattle.sig_core.specs.declared.fault.ReadFault.TheVariants.{Damaged, DiskFault, NoMemory}
use Rattle.redo_log.specs.declared.image_id.ImageId.{ImageId}
use Rattle.sig_core.specs.Ring.{file_of, place_of}

-- the two are of one transaction and one key
abbrev pub same_id : ImageId → ImageId → Bool
same_id one other = same_tx one.tx other.tx && same_key one.key other.key

-- images that transactions have prepared of keys; none is a deletion
abbrev pub Images : Type 0
Images = List (ImageId × Option (List ℕ))

-- the image of this transaction and key, where there is one
abbrev pub image_at : Images → ImageId → Option (Option (List ℕ))
image_at images id = lookup (same_id id) images

-- the transaction and the key of a record
abbrev pub id_of : Redo → ImageId
id_of (Prepare tx fragment key image) = record { tx = tx; key = key }
id_of (Commit tx epoch key) = record { tx = tx; key = key }
id_of (Abort tx key) = record { tx = tx; key = key }

-- the image that is prepared after a record: a commit and an abort use it up
abbrev pub prepared_by : Redo → Option (Option (List ℕ))
prepared_by (Prepare tx fragment key image) = Some image
prepared_by (Commit tx epoch key) = None
prepared_by (Abort tx key) = None

-- the image that a transaction has prepared of a key after some records, the newest first: that of the latest prepare
-- behind which it neither commits nor aborts
abbrev pub image_of : List Redo → ImageId → Option (Option (List ℕ))
image_of [] id = None
image_of (redo ∷ older) id = cond (same_id (id_of redo) id) (prepared_by redo) (image_of older id)

-- the image is the row of the key
abbrev pub with_image : Rows → List ℕ → Option (List ℕ) → Rows
with_image rows key None = map.remove rows key
with_image rows key (Some value) = map.insert rows key value

-- a commit makes the prepared image the row, if there is one, and the commit isn't later than the epoch
abbrev pub applied : ℕ → Redo → Option (Option (List ℕ)) → Rows → Rows
applied epoch (Prepare tx fragment key image) found rows = rows
applied epoch (Abort tx key) found rows = rows
applied epoch (Commit tx at key) None rows = rows
applied epoch (Commit tx at key) (Some image) rows = if nat_le at epoch then with_image rows key image else rows

-- rows after some records, the newest first
abbrev pub replayed : ℕ → Rows → List Redo → Rows
replayed epoch rows [] = rows
replayed epoch rows (redo ∷ older) = applied epoch redo (image_of older (id_of redo)) (replayed epoch rows older)

-- the bytes of records, the newest first
abbrev pub log_bytes : List Redo → List ℕ
log_bytes [] = []
log_bytes (redo ∷ older) = log_bytes older ++ bytes_of redo

abbrev pub AreRecords : List Redo → Type 0
AreRecords [] = Unit {0}
AreRecords (redo ∷ older) = IsRecord redo × AreRecords older

-- The bytes begin with those of some records, the newest first, and the rest follows. The rows are what these records
-- make
-- of the rows before.
pub record IsReplayed (epoch : ℕ) (before : Rows) (bytes : List ℕ) (rows : Rows) (newest : List Redo) (rest : List ℕ)
    : Type 0 where
  pub are : AreRecords newest
  pub split : bytes ≡ log_bytes newest ++ rest
  pub made : rows ≡ replayed epoch before newest

-- the byte of the log so far behind the position, at its place; 0 where the bytes end before it
abbrev pub damage : ℕ → ℕ → List ℕ → ℕ → ReadFault
damage parity from bytes behind =
    Damaged (file_of parity (from + behind)) (place_of (from + behind)) (slice_index bytes behind)

-- something stands behind some records that doesn't begin with one, and the fault names the first byte of it that fits
-- none
pub record IsDamaged (parity from : ℕ) (bytes rest : List ℕ) (at : ℕ) (fault : ReadFault) : Type 0 where
  pub some : 0 < length rest
  pub none : decoded rest ≡ Err (NotRecord at)
  pub named : fault ≡ damage parity from bytes (length bytes - length rest + at)

-- Bytes of a log from a position on are replayed: they are records, and the rows are what these make of the rows
-- before. Or
-- they are damaged, and then those before the damage have been replayed. Want of memory says no more.
abbrev pub Replays : ℕ → Rows → ℕ → ℕ → List ℕ → Rows → Result (Unit {0}) ReadFault → Type 0
Replays epoch before parity from bytes rows (Ok done) =
    (newest : List Redo) × IsReplayed epoch before bytes rows newest []
Replays epoch before parity from bytes rows (Err NoMemory) = Unit {0}
Replays epoch before parity from bytes rows (Err (DiskFault count)) = ⊥
Replays epoch before parity from bytes rows (Err (Damaged file at byte)) =
    (newest : List Redo) × ((rest : List ℕ) × ((place : ℕ)
    × (IsReplayed epoch before bytes rows newest rest × IsDamaged parity from bytes rest place (Damaged file at byte))))

-- bytes that are those of records aren't damaged
abbrev pub RecordsAreNotDamaged : Type 0
RecordsAreNotDamaged =
    (epoch parity from : ℕ) (before rows : Rows) (bytes : List ℕ) (newest : List Redo) (file at byte : ℕ)
    → AreRecords newest → bytes ≡ log_bytes newest
    → Replays epoch before parity from bytes rows (Err (Damaged file at byte)) → ⊥
