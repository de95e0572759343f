-- A local checkpoint that is written while transactions go on, and takes the place of all that was before it: of the
-- rows at first, and of the records of the journal before a position.
use Rattle.std.specs.Prelude.{◌≡◌, ◌≤◌, ◌<◌, ◌^◌, ℕ, List, [], ◌∷◌, ◌++◌, None, Ok}
use Rattle.std.specs.FinMap as map
use Rattle.sig_core.specs.declared.redo.Redo.{Redo}
use Rattle.sig_core.specs.Rows.{RowsState, next_place, row_of}
use Rattle.sig_core.specs.Table.{Rows}
use Rattle.lcp_store.specs.Reading.{rows_in}
use Rattle.redo_log.specs.Replaying.{replayed}
use Rattle.local_ckpt.specs.Events.{Event, Moment, next}
use Rattle.local_ckpt.specs.Laws.{HasPrepares, at_first, pieces_bytes}
use Rattle.local_ckpt.specs.Locking.{AreKept, KeepsLock}
use Rattle.journal_laws.specs.Events.{records_behind, rows_behind}

-- rows with nothing at work on them, none of a later epoch than this, and their table
pub record AreAtRest (noted : ℕ) (s : RowsState) (before : Rows) : Type 0 where
  pub kept : AreKept noted s
  pub idle : s.pending ≡ []
  pub table : (key : List ℕ) → map.get before key ≡ row_of s key

-- each of events keeps locks and commits nothing later than an epoch; the newest comes first
abbrev pub HaveKeptLocks : ℕ → RowsState → List Event → Type 0
HaveKeptLocks noted s [] = Unit {0}
HaveKeptLocks noted s (event ∷ older) = KeepsLock noted (rows_behind s older) event × HaveKeptLocks noted s older

-- the moment behind events, of which the newest comes first
abbrev pub moment_behind : Moment → List Event → Moment
moment_behind m [] = m
moment_behind m (event ∷ older) = next event (moment_behind m older)

-- What went on at the rows, the newest first, in four portions: what followed the walk; what went on while it was on
-- its way, with its own steps; what the journal had from the walk's position on as it began; and what the journal gave
-- up.
pub record Portions : Type 0 where
  pub later : List Event
  pub meanwhile : List Event
  pub nearer : List Event
  pub gone : List Event

-- what went on before the walk began, and until it ended
abbrev pub before_walk : Portions → List Event
before_walk p = p.nearer ++ p.gone

abbrev pub until_end : Portions → List Event
until_end p = p.meanwhile ++ before_walk p

-- all that went on, and what of it the journal still has
abbrev pub whole : Portions → List Event
whole p = p.later ++ until_end p

abbrev pub in_journal : Portions → List Event
in_journal p = p.later ++ (p.meanwhile ++ p.nearer)

module _ (s : RowsState) (p : Portions) where
  -- the records of all that went on, and those that the journal still has
  abbrev pub all_records : List Redo
  all_records = records_behind s (whole p)

  abbrev pub kept_records : List Redo
  kept_records = records_behind (rows_behind s p.gone) (in_journal p)

  -- the rows as the walk begins, and the records from its position on
  abbrev pub rows_at_walk : RowsState
  rows_at_walk = rows_behind s (before_walk p)

  abbrev pub records_at_walk : List Redo
  records_at_walk = records_behind (rows_behind s p.gone) p.nearer

  -- the moment at which the walk ends
  abbrev pub end_of_walk : ℕ → ℕ → ℕ → Moment
  end_of_walk file from epoch = moment_behind (at_first rows_at_walk records_at_walk file from epoch) p.meanwhile

  -- Until the walk ended who prepared had the lock, and no commit was later than is noted; as it began, the records
  -- from its position on had what was prepared.
  pub record MayBeCut (noted : ℕ) : Type 0 where
    pub locks : HaveKeptLocks noted s (until_end p)
    pub prepares : HasPrepares rows_at_walk records_at_walk

-- the walk has passed all rows
abbrev pub HasPassed : Moment → Type 0
HasPassed m = next_place m.rows m.walk.place ≡ None

-- the pieces that were given out are read as these rows, whichever epoch is saved, from the noted one on
abbrev pub AreReadAs : ℕ → ℕ → Moment → Rows → Type 0
AreReadAs noted file m rows =
    (saved : ℕ) → noted ≤ saved → saved < 2 ^ 64 → rows_in file saved (pieces_bytes m.pieces) ≡ Ok rows

-- up to each epoch from the noted one on the one rows and records come to what the others come to
abbrev pub ComeToTheSame : ℕ → Rows → List Redo → Rows → List Redo → Type 0
ComeToTheSame noted rows records before others =
    (epoch : ℕ) → noted ≤ epoch → replayed epoch rows records ≡ replayed epoch before others

-- What a walk has given out once it has passed all rows is a checkpoint, and its rows, with the records that the
-- journal still has, come to what the rows at first come to with the records of all that went on.
abbrev pub LocalCheckpointsStand : Type 0
LocalCheckpointsStand =
    (s : RowsState) (before : Rows) (noted : ℕ) (p : Portions) (file from epoch : ℕ) → AreAtRest noted s before
    → MayBeCut s p noted → HasPassed (end_of_walk s p file from epoch)
    → (rows : Rows) × AreReadAs noted file (end_of_walk s p file from epoch) rows
    × ComeToTheSame noted rows (kept_records s p) before (all_records s p)
