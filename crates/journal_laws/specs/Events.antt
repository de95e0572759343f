-- What a signal does to the rows of a node and to their journal.
use Rattle.std.specs.Prelude.{◌≡◌, ◌≤◌, ℕ, true, List, [], ◌∷◌, Option, None, Some, is_some}
use Rattle.sig_core.specs.declared.member.Member.{Member}
use Rattle.sig_core.specs.declared.redo.Redo.{Redo}
use Rattle.sig_core.specs.declared.signal.Body.{Body}
use Rattle.sig_core.specs.declared.signal.Body.TheVariants.{Chain}
use Rattle.sig_core.specs.declared.signal.chain.ChainSignal.TheVariants as chain
use Rattle.sig_core.specs.Journal.{OutletState, behind}
use Rattle.sig_core.specs.Rows.{RowsState}
use Rattle.sig_core.specs.Table.{Rows}
use Rattle.local_ckpt.specs.Events.{Commit, Event, changed, left_by, logged}
use Rattle.local_ckpt.specs.Orderly.{image_in}
use Rattle.lqh_block.specs.State.{LqhState}

-- records are appended, of which the newest comes first
abbrev pub behind_all : List Redo → OutletState → OutletState
behind_all [] o = o
behind_all (redo ∷ older) o = behind (behind_all older o) redo

-- what an event makes of rows, and the records that it adds; where there is none, nothing
abbrev pub changed_if : Option Event → RowsState → RowsState
changed_if None s = s
changed_if (Some event) s = changed event s

abbrev pub records_if : Option Event → RowsState → List Redo
records_if None s = []
records_if (Some event) s = logged event s []

-- a commit is one that a signal orders
abbrev pub IsOrdered : Option Event → Body → Type 0
IsOrdered (Some (Commit tx key epoch)) body =
    (members : List Member) × ((at : ℕ) × (body ≡ Chain (chain.Commit tx key epoch members at)))
IsOrdered event body = Unit {0}

-- and of what is prepared
abbrev pub IsOfPrepared : Option Event → RowsState → Type 0
IsOfPrepared (Some (Commit tx key epoch)) s = is_some (image_in s tx key) ≡ true
IsOfPrepared event s = Unit {0}

-- By this event, or by none, the rows of a node went from one state to another at a signal that says this.
pub record IsMadeBy (s t : LqhState) (body : Body) (event : Option Event) : Type 0 where
  pub rows : t.rows ≡ changed_if event s.rows
  pub outlet : t.outlet ≡ behind_all (records_if event s.rows) s.outlet
  pub ordered : IsOrdered event body
  pub prepared : IsOfPrepared event s.rows

-- the rows behind events, of which the newest comes first
abbrev pub rows_behind : RowsState → List Event → RowsState
rows_behind s [] = s
rows_behind s (event ∷ older) = changed event (rows_behind s older)

-- the records of the journal behind them, the newest first
abbrev pub records_behind : RowsState → List Event → List Redo
records_behind s [] = []
records_behind s (event ∷ older) = logged event (rows_behind s older) (records_behind s older)

-- The rows that are committed up to an epoch behind them, where these were before the first.
abbrev pub own_behind : ℕ → RowsState → Rows → List Event → Rows
own_behind epoch s before [] = before
own_behind epoch s before (event ∷ older) =
    left_by epoch event (rows_behind s older) (own_behind epoch s before older)

-- an event commits nothing later than an epoch, nor does any of these
abbrev pub IsUpTo : ℕ → Event → Type 0
IsUpTo epoch (Commit tx key at) = at ≤ epoch
IsUpTo epoch event = Unit {0}

abbrev pub AreUpTo : ℕ → List Event → Type 0
AreUpTo epoch [] = Unit {0}
AreUpTo epoch (event ∷ older) = IsUpTo epoch event × AreUpTo epoch older
