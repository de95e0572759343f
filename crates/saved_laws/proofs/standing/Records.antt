-- The records of events that follow others, and how many bytes they have.
use Rattle.std.proofs.Common.{◌≡◌, ◌≤◌, ◌∙◌, ◌+◌, List, [], ◌∷◌, ◌++◌, length, refl, ap, length-append, arith}
use Rattle.std.proofs.Common.{option_to_list}
use Rattle.std.specs.Prelude.{Option, None, Some}
use Rattle.redo_log.specs.Replaying.{AreRecords, log_bytes}
use Rattle.redo_log.proofs.ReplayLemmas.{some_bytes}
use Rattle.sig_core.specs.declared.redo.Redo.{Redo}
use Rattle.sig_core.specs.Redo.{bytes_of}
use Rattle.sig_core.specs.Rows.{RowsState}
use Rattle.local_ckpt.specs.Events.{Event}
use Rattle.journal_laws.specs.Events.{records_behind, records_if, rows_behind}
use Rattle.journal_laws.proofs.follow.Oldest.{bytes_append, records_append}

pub length_both : (newer older : List Redo)
    → length (log_bytes (newer ++ older)) ≡ length (log_bytes older) + length (log_bytes newer)
length_both newer older =
    ap length (bytes_append newer older) ∙ length-append (log_bytes older) (log_bytes newer)

pub older_records : (newer older : List Redo) → AreRecords (newer ++ older) → AreRecords older
older_records [] older are = are
older_records (newest ∷ newer) older are = older_records newer older are.1

-- where there are no bytes there are no records
pub no_bytes : (records : List Redo) → length (log_bytes records) ≤ 0 → records ≡ []
no_bytes [] none = refl
no_bytes (newest ∷ older) none =
    absurd (omega (arith, none, length-append (log_bytes older) (bytes_of newest), some_bytes newest))

-- an event more, or none
pub records_more : (s : RowsState) (event : Option Event) (older : List Event)
    → records_behind s (option_to_list event ++ older)
    ≡ records_if event (rows_behind s older) ++ records_behind s older
records_more s event older = records_append s (option_to_list event) older ∙ by event
  where
    by : (event : Option Event)
        → records_behind (rows_behind s older) (option_to_list event) ++ records_behind s older
        ≡ records_if event (rows_behind s older) ++ records_behind s older
    by None = refl
    by (Some event) = refl
