-- What reading and writing are to each other.
use Rattle.std.specs.Prelude.{◌≡◌, ℕ, ◌≤◌, ◌<◌, ◌^◌, List, [], ◌∷◌, ◌++◌, length, position, Option, None, Some, Ok}
use Rattle.std.specs.List.{flat_map}
use Rattle.std.specs.FinMap as map
use Rattle.sig_core.specs.Table.{Rows}
use Rattle.sig_core.specs.Word.{is_unprintable}
use Rattle.sig_core.specs.declared.key.TheConstants.{KEY_BYTES}
use Rattle.sig_core.specs.declared.value.TheConstants.{VALUE_BYTES}
use Rattle.sig_core.specs.declared.stored_row.StoredRow.{StoredRow}
use Rattle.lcp_store.specs.declared.row.Version.{Version}
use Rattle.lcp_store.specs.declared.row.Version.TheVariants.{First, Second}
use Rattle.sig_core.specs.Checkpoint.{head_bytes, row_bytes}
use Rattle.lcp_store.specs.Reading.{put_in, row_in, rows_in}

-- a word of `least` to `most` bytes, each of them printable
pub record IsWordOf (least most : ℕ) (word : List ℕ) : Type 0 where
  pub long_enough : least ≤ length word
  pub short_enough : length word ≤ most
  pub printable : position is_unprintable word ≡ None

-- an epoch that rows of the version have, not above the latest one
abbrev pub IsEpochOf : Version → ℕ → Option ℕ → Type 0
IsEpochOf First latest None = Unit {0}
IsEpochOf First latest (Some epoch) = ⊥
IsEpochOf Second latest None = ⊥
IsEpochOf Second latest (Some epoch) = epoch ≤ latest

-- a row of a checkpoint of the version
pub record IsRowOf (version : Version) (latest : ℕ) (row : StoredRow) : Type 0 where
  pub key : IsWordOf 1 KEY_BYTES row.key
  pub epoch : IsEpochOf version latest row.epoch
  pub value : IsWordOf 0 VALUE_BYTES row.value

-- rows of a checkpoint of the version
abbrev pub AreRowsOf : Version → ℕ → List StoredRow → Type 0
AreRowsOf version latest [] = Unit {0}
AreRowsOf version latest (row ∷ rows) = IsRowOf version latest row × AreRowsOf version latest rows

-- the bytes of a row, whatever stands behind them, are read as that row
abbrev pub RowsAreRead : Type 0
RowsAreRead =
    (version : Version) (latest : ℕ) (row : StoredRow) (rest : List ℕ) → latest < 2 ^ 64 → IsRowOf version latest row
    → row_in version latest (row_bytes row ++ rest) ≡ Ok (row, length (row_bytes row))

-- no row's bytes begin another's, and a row has one spelling
abbrev pub NoneBeginsAnother : Type 0
NoneBeginsAnother =
    (version : Version) (latest : ℕ) (one other : StoredRow) (rest : List ℕ) → latest < 2 ^ 64
    → IsRowOf version latest one → IsRowOf version latest other → row_bytes one ++ rest ≡ row_bytes other
    → (one ≡ other) × (rest ≡ [])

-- these rows and then those, of which the last of each key counts
abbrev pub all_in : Rows → List StoredRow → Rows
all_in rows [] = rows
all_in rows (row ∷ later) = all_in (put_in rows row) later

-- the bytes of rows, with the head in version 2, are read as these rows
abbrev pub CheckpointsAreRead : Type 0
CheckpointsAreRead =
    (file latest : ℕ) (rows : List StoredRow) → latest < 2 ^ 64
    → (AreRowsOf First latest rows → rows_in file latest (flat_map row_bytes rows) ≡ Ok (all_in map.empty rows))
    × (AreRowsOf Second latest rows → rows_in file latest (head_bytes ++ flat_map row_bytes rows) ≡ Ok
    (all_in map.empty rows))
