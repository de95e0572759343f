-- How the bytes of a checkpoint are read. Where they are none, the answer is how many of them are left from the first
-- on that
-- doesn't fit: 0 where they are just cut short.
use Rattle.std.specs.Prelude.{◌≡◌, ℕ, zero, suc, ◌+◌, ◌-◌, ◌||◌, ◌==◌, nat_lt, if◌then◌else◌, List, [], ◌∷◌, length}
use Rattle.std.specs.Prelude.{take, drop, position, slice_index, Option, None, Some, Result, Ok, Err}
use Rattle.std.specs.Int.{w64, from_be_bytes}
use Rattle.std.specs.FinMap as map
use Rattle.sig_core.specs.Word.{is_unprintable}
use Rattle.sig_core.specs.Table.{Rows}
use Rattle.sig_core.specs.declared.key.TheConstants.{KEY_BYTES}
use Rattle.sig_core.specs.declared.value.TheConstants.{VALUE_BYTES}
use Rattle.sig_core.specs.declared.stored_row.StoredRow.{StoredRow}
use Rattle.lcp_store.specs.declared.row.Version.{Version}
use Rattle.lcp_store.specs.declared.row.Version.TheVariants.{First, Second}
use Rattle.sig_core.specs.declared.fault.ReadFault.{ReadFault}
use Rattle.sig_core.specs.declared.fault.ReadFault.TheVariants.{Damaged, DiskFault, NoMemory}

-- the length of a word whose bytes are the first of `rest`, of which this one is spoilt or none
abbrev pub len_unless_spoilt : ℕ → List ℕ → Option ℕ → Result ℕ ℕ
len_unless_spoilt len rest (Some at) = Err (length rest - at)
len_unless_spoilt len rest None = if nat_lt (length rest) len then Err 0 else Ok len

-- the length of the word of `least` to `most` bytes that stands in front, behind its length
unfoldable pub word_len : ℕ → ℕ → List ℕ → Result ℕ ℕ
word_len least most [] = Err 0
word_len least most (len ∷ rest) =
    if nat_lt len least || nat_lt most len
    then Err (suc (length rest))
    else len_unless_spoilt len rest (position is_unprintable (take len rest))

-- the word of this length in front, and how many bytes it takes with its length
abbrev pub word_of_len : List ℕ → Result ℕ ℕ → Result (List ℕ × ℕ) ℕ
word_of_len bytes (Err left) = Err left
word_of_len bytes (Ok len) = Ok (take len (drop 1 bytes), len + 1)

-- the word of `least` to `most` bytes in front, and how many bytes it takes with its length
abbrev pub word_in : ℕ → ℕ → List ℕ → Result (List ℕ × ℕ) ℕ
word_in least most bytes = word_of_len bytes (word_len least most bytes)

-- the row epoch in front, not above the latest one, and how many bytes it takes: none in version 1
unfoldable pub epoch_in : Version → ℕ → List ℕ → Result (Option ℕ × ℕ) ℕ
epoch_in First latest bytes = Ok (None, 0)
epoch_in Second latest bytes =
    if nat_lt (length bytes) 8
    then Err 0
    else if nat_lt latest (from_be_bytes w64 (take 8 bytes)) then Err (length bytes) else Ok
    (Some (from_be_bytes w64 (take 8 bytes)), 8)

-- the row of this key and epoch, which take so many bytes, with the value behind them
abbrev pub with_value : List ℕ → Option ℕ → ℕ → Result (List ℕ × ℕ) ℕ → Result (StoredRow × ℕ) ℕ
with_value key epoch taken (Err left) = Err left
with_value key epoch taken (Ok value) = Ok (record { key = key; epoch = epoch; value = value.0 }, taken + value.1)

-- the row of this key, which takes so many bytes, with the epoch in front of the rest and the value behind it
abbrev pub with_epoch : List ℕ → ℕ → List ℕ → Result (Option ℕ × ℕ) ℕ → Result (StoredRow × ℕ) ℕ
with_epoch key taken rest (Err left) = Err left
with_epoch key taken rest (Ok epoch) =
    with_value key epoch.0 (taken + epoch.1) (word_in 0 VALUE_BYTES (drop epoch.1 rest))

-- the row of the key in front
abbrev pub with_key : Version → ℕ → List ℕ → Result (List ℕ × ℕ) ℕ → Result (StoredRow × ℕ) ℕ
with_key version latest bytes (Err left) = Err left
with_key version latest bytes (Ok key) =
    with_epoch key.0 key.1 (drop key.1 bytes) (epoch_in version latest (drop key.1 bytes))

-- the row in front, and how many bytes it takes
unfoldable pub row_in : Version → ℕ → List ℕ → Result (StoredRow × ℕ) ℕ
row_in version latest bytes = with_key version latest bytes (word_in 1 KEY_BYTES bytes)

-- the version behind a first byte 0
abbrev pub version_behind : List ℕ → Result (Version × ℕ) ℕ
version_behind [] = Err 0
version_behind (second ∷ rest) = if second == 2 then Ok (Second, 2) else Err (suc (length rest))

-- the version of a checkpoint, and how many bytes tell it: version 1 begins with a row, or is empty
unfoldable pub version_in : List ℕ → Result (Version × ℕ) ℕ
version_in [] = Ok (First, 0)
version_in (first ∷ rest) = if first == 0 then version_behind rest else Ok (First, 0)

-- the row goes to those before it, in place of the one that its key had
abbrev pub put_in : Rows → StoredRow → Rows
put_in rows row = map.insert rows row.key row.value

abbrev pub read_on : (Rows → List ℕ → Result Rows ℕ) → Rows → List ℕ → Result (StoredRow × ℕ) ℕ → Result Rows ℕ
read_on further rows bytes (Err left) = Err left
read_on further rows bytes (Ok found) = further (put_in rows found.0) (drop found.1 bytes)

-- these rows, and with them the at most `more` rows that the bytes are
abbrev pub rows_from : ℕ → Version → ℕ → Rows → List ℕ → Result Rows ℕ
rows_from zero version latest rows bytes = Ok rows
rows_from (suc more) version latest rows [] = Ok rows
rows_from (suc more) version latest rows (byte ∷ bytes) =
    read_on (rows_from more version latest) rows (byte ∷ bytes) (row_in version latest (byte ∷ bytes))

abbrev pub rows_behind : ℕ → List ℕ → Result (Version × ℕ) ℕ → Result Rows ℕ
rows_behind latest bytes (Err left) = Err left
rows_behind latest bytes (Ok version) = rows_from (length bytes) version.0 latest map.empty (drop version.1 bytes)

-- the byte of a file that doesn't fit, where so many are left from it on; 0 where they are cut short
abbrev pub damage : ℕ → List ℕ → ℕ → ReadFault
damage file bytes left = Damaged file (length bytes - left) (slice_index bytes (length bytes - left))

abbrev pub or_damage : ℕ → List ℕ → Result Rows ℕ → Result Rows ReadFault
or_damage file bytes (Err left) = Err (damage file bytes left)
or_damage file bytes (Ok rows) = Ok rows

-- the rows of a checkpoint in a file, none with a row epoch above the latest one
unfoldable pub rows_in : ℕ → ℕ → List ℕ → Result Rows ReadFault
rows_in file latest bytes = or_damage file bytes (rows_behind latest bytes (version_in bytes))

-- the answer is that of the bytes, but for want of memory
abbrev pub Reads : ℕ → ℕ → List ℕ → Result Rows ReadFault → Type 0
Reads file latest bytes (Err NoMemory) = Unit {0}
Reads file latest bytes (Err (DiskFault count)) = ⊥
Reads file latest bytes (Err (Damaged of at byte)) = rows_in file latest bytes ≡ Err (Damaged of at byte)
Reads file latest bytes (Ok rows) = rows_in file latest bytes ≡ Ok rows
