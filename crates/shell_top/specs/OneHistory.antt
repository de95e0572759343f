-- The lives of a session have one history, where the disks that it was given are fit for a life: that of each life up
-- to the epoch from which the next one starts.
use Rattle.std.specs.Prelude.{◌≡◌, ◌≤◌, ◌<◌, ℕ, ◌+◌, List, [], ◌∷◌, length}
use Rattle.std.specs.FinMap as map
use Rattle.life_start.specs.Begun.{HasBegun}
use Rattle.outcome_laws.specs.Decided.{IsMarked}
use Rattle.saved_laws.specs.History.{row_up_to}
use Rattle.serial_model.specs.Legal.{rows_of}
use Rattle.shell_top.specs.Chapters.{Chapter, Crash, Last, Living, RestartsAs, Unopened}
use Rattle.shell_top.specs.declared.ended.Ending.{Ending}
use Rattle.shell_top.specs.declared.ended.Ending.TheVariants.{NoMemory}
use Rattle.shell_top.specs.Fit.{AreFit}
use Rattle.shell_top.specs.Seen.{Seen}
use Rattle.sig_core.specs.declared.log.Life.{Life}
use Rattle.sig_core.specs.declared.mark.Mark.TheVariants.{Durable}
use Rattle.sig_core.specs.declared.view.Shape.{Shape}
use Rattle.sys_restart.specs.Files.{disks_of}
use Rattle.world_core.specs.Hosts.{hosts}
use Rattle.world_core.specs.Lives.{logs_of}
use Rattle.world_views.specs.Lives.{start_of}

-- A life goes on from the one before: it starts from an epoch that is below neither that from which the other one
-- started nor any that it reported durable, with the rows of its history up to there.
pub record GoesOnFrom (shape : Shape) (before life : Life) : Type 0 where
  pub least : before.start_epoch ≤ life.start_epoch
  pub durable :
      (h epoch : ℕ) → h < hosts (start_of shape before) → IsMarked (Durable epoch) (logs_of before h)
      → epoch ≤ life.start_epoch
  pub rows :
      (key : List ℕ)
      → map.get (rows_of life.start_rows) key
      ≡ row_up_to (start_of shape before) (logs_of before) life.start_epoch key

-- the first life goes on from none
abbrev pub GoesOnFromLast : Shape → List Chapter → Life → Type 0
GoesOnFromLast shape [] life = Unit {0}
GoesOnFromLast shape (c ∷ earlier) life = GoesOnFrom shape c.life life

-- A life behind chapters, of which the first is of this generation: its disks were fit as it was to begin, it began
-- with what a restart finds on them, as the next generation, and goes on from the last chapter.
pub record IsNext (shape : Shape) (first : ℕ) (earlier : List Chapter) (opened : Seen) (life : Life) : Type 0 where
  pub fit : AreFit shape opened
  pub begun :
      HasBegun shape (disks_of fit.records) (first + length earlier) life.start_epoch life.start_rows
  pub goes_on : GoesOnFromLast shape earlier life

-- So is the life of each chapter, and whatever a crash leaves of its disks, a restart comes to its history.
abbrev pub AreOneHistory : Shape → ℕ → List Chapter → Type 0
AreOneHistory shape first [] = Unit {0}
AreOneHistory shape first (c ∷ earlier) =
    AreOneHistory shape first earlier
    × ((next : IsNext shape first earlier c.opened c.life) × RestartsAs shape next.begun.restored c.left c.life)

-- So is the life in which the session ended, of which that is said unless memory was wanting. Behind a crash the disks
-- are fit for the next life; and so they were where one was to begin, and didn't.
abbrev pub IsLastOfHistory : Shape → Ending → ℕ → List Chapter → Seen → Last → Type 0
IsLastOfHistory shape ending first earlier now (Living life opened) =
    (next : IsNext shape first earlier opened life)
    × ((ending ≡ NoMemory → ⊥) → RestartsAs shape next.begun.restored now life)
IsLastOfHistory shape ending first earlier now (Crash c) =
    AreOneHistory shape first (c ∷ earlier) × AreFit shape now
IsLastOfHistory shape ending first earlier now (Unopened opened) = AreFit shape opened

-- from its first generation on, the lives of a session have one history
abbrev pub HaveOneHistory : Shape → Ending → List Chapter → Seen → Last → Type 0
HaveOneHistory shape ending chapters now last =
    (first : ℕ)
    × (AreOneHistory shape first chapters × IsLastOfHistory shape ending first chapters now last)
