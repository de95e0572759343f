-- The records that a journal still has, and what a local checkpoint needs to know of them.
use Rattle.std.specs.Prelude.{ℕ, zero, suc, ◌+◌, Bool, true, false, if◌then◌else◌, List, [], ◌∷◌, drop, length}
use Rattle.std.specs.Prelude.{Option, Some, Result, Ok, Err}
use Rattle.sig_core.specs.declared.redo.Redo.{Redo}
use Rattle.sig_core.specs.declared.redo.Redo.TheVariants.{Prepare, Commit}
use Rattle.sig_core.specs.Journal.{OutletState}
use Rattle.sig_core.specs.Rows.{RowsState, record_state}
use Rattle.redo_format.specs.declared.fault.FormatFault.{FormatFault}
use Rattle.redo_format.specs.Decoding.{decoded}
use Rattle.lqh_saver.specs.State.{greater}

-- the record that was read, in front of those behind its bytes; none where there is none
abbrev pub records_by : Result (Redo × ℕ) FormatFault → (ℕ → List (Redo × ℕ)) → List (Redo × ℕ)
records_by (Err fault) behind = []
records_by (Ok found) behind = found ∷ behind found.1

-- the records that bytes begin with, at most so many, each with how many bytes it takes
unfoldable pub records_of : ℕ → List ℕ → List (Redo × ℕ)
records_of zero bytes = []
records_of (suc more) bytes = records_by (decoded bytes) (λ len. records_of more (drop len bytes))

-- those that a journal has still to give out
abbrev pub kept_records : OutletState → List (Redo × ℕ)
kept_records o = records_of (length o.left) o.left

-- there is a record, which isn't committed
abbrev pub is_open : Option Bool → Bool
is_open (Some false) = true
is_open _ = false

-- it prepares an image on which its transaction is still at work
abbrev pub is_unfinished : RowsState → Redo → Bool
is_unfinished rows (Prepare tx fragment key image) = is_open (record_state rows tx key)
is_unfinished rows _ = false

-- the position of the first such record, where the first of these stands at this one; the end where there is none
abbrev pub oldest_from : RowsState → ℕ → List (Redo × ℕ) → ℕ
oldest_from rows at [] = at
oldest_from rows at (found ∷ records) =
    if is_unfinished rows found.0 then at else oldest_from rows (at + found.1) records

abbrev pub oldest : RowsState → OutletState → ℕ
oldest rows o = oldest_from rows o.flushed (kept_records o)

-- the greater of an epoch and that of the record, if it commits something
abbrev pub noting : ℕ → Redo → ℕ
noting epoch (Commit tx at key) = greater epoch at
noting epoch _ = epoch

-- the greatest epoch of these records and of one before them
abbrev pub noted_from : ℕ → List (Redo × ℕ) → ℕ
noted_from epoch [] = epoch
noted_from epoch (found ∷ records) = noted_from (noting epoch found.0) records

abbrev pub noted : ℕ → OutletState → ℕ
noted floor o = noted_from floor (kept_records o)
