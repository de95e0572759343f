-- A session's cluster, life after life, between two commands.
use Rattle.std.specs.Prelude.{◌≡◌, ◌<◌, ℕ, Bool, true, false, not, List, [], ◌∷◌, ◌++◌, length, map, option_map}
use Rattle.std.specs.Prelude.{MatchOption, Option, None, Some}
use Rattle.std.specs.Vec.{vec_capacity}
use Rattle.std.specs.Io.KnownBytes.{Appends}
use Rattle.disk_world.specs.declared.disk_world.DiskWorld.{DiskWorld}
use Rattle.shell_top.specs.Setting.{Setting, setting_of}
use Rattle.disk_world.specs.Disks.{disks_with}
use Rattle.disk_world.specs.Starting.{start_from}
use Rattle.frag_map.specs.Shape.{IsShape}
use Rattle.host_io.specs.Call.{Call}
use Rattle.node_disk.specs.Slots.{SlotsInUse}
use Rattle.restart_laws.specs.Lived.{AreFitFor, IsLived}
use Rattle.run_theory.specs.Lists.{Each}
use Rattle.script_lang.specs.declared.command.Command.{Command}
use Rattle.sig_core.specs.declared.log.Life.{Life}
use Rattle.sig_core.specs.declared.view.Shape.{Shape}
use Rattle.shell_top.specs.Chapters.{AreHandedOn, Chapter, IsChapter, IsRestored, IsUnborn}
use Rattle.shell_top.specs.Chapters.{asked_in, asked_in_all, chapter_text, chapters_text, is_refusal, life_text}
use Rattle.shell_top.specs.Chapters.{lives_of}
use Rattle.shell_top.specs.declared.ended.Ending.{Ending}
use Rattle.shell_top.specs.declared.ended.Ending.TheVariants as ending
use Rattle.shell_top.specs.declared.lives.Lives.{Lives}
use Rattle.shell_top.specs.Printed.{AppendsPart, Prints}
use Rattle.shell_top.specs.Seen.{HasGrown, HaveLost, Seen}
use Rattle.shell_top.specs.Served.{IsServed}
use Rattle.shell_top.specs.AllLives.{AreLives}
use Rattle.sys_restart.specs.declared.restored.Restored.{Restored}
use Rattle.world_core.specs.Start.{Start}
use Rattle.world_views.specs.Driven.{IsSound}
use Rattle.world_views.specs.Lives.{start_of}
use Rattle.world_views.specs.World.{Whole, is_down, new_world}
use Rattle.world_views.specs.WorldOf.{whole_of}

-- a session that ends so may have done only a first part of its script
abbrev pub stops_early : Ending → Bool
stops_early ending.WriteFault = true
stops_early ending.NoMemory = true
stops_early ending = is_refusal ending

-- a life that goes on: how it began, what its world is, and the slots in use of its disks
pub record Going : Type 0 where
  pub start : Start
  pub whole : Whole
  pub slots : List SlotsInUse

-- the life of a cluster of this shape that goes on in this setting
abbrev pub going_from : Shape → Setting → Whole → List SlotsInUse → Going
going_from shape setting whole slots =
    record { start = start_from shape setting.start setting.rows; whole = whole; slots = slots }

abbrev pub going_in : {D : Type 0} → Shape → DiskWorld D → Going
going_in shape w = going_from shape (setting_of w) (whole_of w.world) w.slots.items

-- the life that goes on, if one does
abbrev pub now_of : {D : Type 0} → Lives D → Option Going
now_of lives = option_map (going_in lives.shape) lives.world

-- a life as its end leaves it
abbrev pub life_of : Going → Life
life_of g =
    record { start_epoch = g.start.start_epoch; start_rows = g.start.rows; logs = g.whole.logs; slots = [] }

-- the lives that ended, and the one that goes on
abbrev pub all_lives : List Life → Option Going → List Life
all_lives ended None = ended
all_lives ended (Some g) = ended ++ life_of g ∷ []

-- a world that goes on is sound
abbrev pub IsGoing : Option Going → Type 0
IsGoing None = Unit {0}
IsGoing (Some g) = IsSound g.start g.whole

-- the disks, where they are
abbrev pub disks_by : {D : Type 0} → List D → Option (DiskWorld D) → List D
disks_by disks None = disks
disks_by disks (Some w) = w.disks.items

abbrev pub disks_of : {D : Type 0} → Lives D → List D
disks_of lives = disks_by lives.disks.items lives.world

-- there is room for the life that goes on
abbrev pub HasRoom : Option Going → ℕ → ℕ → Type 0
HasRoom None lives capacity = Unit {0}
HasRoom (Some g) lives capacity = lives < capacity

-- a cluster of a sound shape, a disk for each of its nodes, and room for the life that goes on
pub record AreKept {D : Type 0} (lives : Lives D) : Type 0 where
  pub shape : IsShape lives.shape
  pub disks : length (disks_of lives) ≡ lives.shape.nodes
  pub room : HasRoom (now_of lives) (length lives.ended.items) (vec_capacity lives.ended)

-- a life that began on disks of which the first was seen, and were fit for it, has come to what is seen of them now
abbrev pub IsLivedSince : Shape → (opened seen : Seen) → Going → Type 0
IsLivedSince shape opened seen g =
    (records : List (List Call)) → opened.told ≡ map Some records → (r : Restored) → AreFitFor shape r records
    → IsLived r g.whole (disks_with seen.told g.slots) g.start

-- a life began with what its disks had, in a world in which nothing has happened
pub record HasBegun (shape : Shape) (opened seen : Seen) (now : Option Going) : Type 0 where
  pub going : Going
  pub is : now ≡ Some going
  pub begins : going.start ≡ start_of shape (life_of going)
  pub restored : IsRestored shape opened (life_of going)
  pub fresh : going.whole ≡ new_world going.start
  pub lived : IsLivedSince shape opened seen going

-- a life that was to begin, and didn't
pub record IsUnopened (shape : Shape) (opened seen : Seen) (now : Option Going) (e : Ending) : Type 0 where
  pub none : now ≡ None
  pub unborn : IsUnborn shape e opened seen

-- a life goes on in which the cluster isn't down
abbrev pub is_up : Option Going → Bool
is_up None = false
is_up (Some g) = not (is_down g.whole)

-- where a life went on, the power of its disks was cut; else nothing was done to them
abbrev pub HaveLostPower : Option Going → (before now : Seen) → Type 0
HaveLostPower None before now = now ≡ before
HaveLostPower (Some g) before now = HaveLost before now

-- how the life that goes on began
abbrev pub start_in : Shape → Option Going → Start
start_in shape None = start_from shape 0 []
start_in shape (Some g) = g.start

-- the life behind these chapters has served these commands, and its text is this
pub record IsUp (shape : Shape) (chapters : List Chapter) (own : List Command) (text : List ℕ) (given seen : Seen)
    (ended : List Life) (g : Going) : Type 0 where
  pub opened : Seen
  pub disks : AreHandedOn given chapters opened × HasGrown opened seen
  pub begins : g.start ≡ start_of shape (life_of g)
  pub restored : IsRestored shape opened (life_of g)
  pub lived : IsLivedSince shape opened seen g
  pub were : ended ≡ lives_of chapters
  pub served : IsServed g.start own g.whole
  pub told : text ≡ life_text shape chapters (life_of g)

-- the cluster crashed behind these chapters, and these are the commands and the text of the last one
pub record IsCrashed (shape : Shape) (chapters : List Chapter) (own : List Command) (text : List ℕ) (given seen : Seen)
    (ended : List Life) : Type 0 where
  pub crash : Chapter
  pub disks : AreHandedOn given (crash ∷ chapters) seen
  pub is : IsChapter shape crash
  pub crashed : crash.crashed ≡ true
  pub asked : own ≡ asked_in crash
  pub were : ended ≡ lives_of chapters ++ crash.life ∷ []
  pub told : text ≡ chapter_text shape chapters crash

abbrev pub IsNow : Shape → List Chapter → List Command → List ℕ → (given seen : Seen) → List Life → Option Going
    → Type 0
IsNow shape chapters own text given seen ended None = IsCrashed shape chapters own text given seen ended
IsNow shape chapters own text given seen ended (Some g) = IsUp shape chapters own text given seen ended g

-- A cluster was asked for these commands, and this is the text of what came of them. It was given disks of which the
-- first was seen, and the second is seen now.
pub record AreServed (shape : Shape) (commands : List Command) (text : List ℕ) (given seen : Seen) (ended : List Life)
    (now : Option Going) : Type 0 where
  pub chapters : List Chapter
  pub own : List Command
  pub own_text : List ℕ
  pub are : Each (IsChapter shape) chapters
  pub asked : commands ≡ asked_in_all chapters ++ own
  pub told : text ≡ chapters_text shape chapters ++ own_text
  pub is_now : IsNow shape chapters own own_text given seen ended now

-- one command more was served, and its text printed
pub record HasObeyed (shape : Shape) (command : Command) (commands : List Command) (text : List ℕ) (given seen : Seen)
    (ended : List Life) (now : Option Going) (written written_now : Option (List ℕ)) : Type 0 where
  pub more : List ℕ
  pub served : AreServed shape (commands ++ command ∷ []) (text ++ more) given seen ended now
  pub printed : Appends written written_now more

-- or the session ends in it, whatever commands would have come behind it
pub record EndsIn (shape : Shape) (command : Command) (commands : List Command) (text : List ℕ) (given seen : Seen)
    (ended : List Life) (now : Option Going) (written written_now : Option (List ℕ)) (e : Ending) : Type 0 where
  pub told : List ℕ
  pub early : stops_early e ≡ true
  pub some : all_lives ended now ≡ [] → ⊥
  pub lived :
      (rest : List Command) → AreLives shape e (commands ++ command ∷ rest) given seen (all_lives ended now) told
  pub printed : (before : Option (List ℕ)) → Appends before written text → Prints e e before written_now told

-- how the printing of a line ends: it is printed, or a first part of it; or memory is wanting, and nothing is
abbrev pub IsLineTold : Option Ending → List ℕ → (written written_now : Option (List ℕ)) → Type 0
IsLineTold None line written written_now = Appends written written_now line
IsLineTold (Some ending.WriteFault) line written written_now = AppendsPart written written_now line
IsLineTold (Some ending.NoMemory) line written written_now = written_now ≡ written
IsLineTold (Some e) line written written_now = ⊥

abbrev pub Obeys : Shape → Command → (seen seen_now : Seen) → (ended ended_now : List Life) → (now next : Option Going)
    → (written written_now : Option (List ℕ)) → Option Ending → Type 0
Obeys shape command seen seen_now ended ended_now now next written written_now result =
    (commands : List Command) (text : List ℕ) (given : Seen) → AreServed shape commands text given seen ended now
    → MatchOption result (HasObeyed shape command commands text given seen_now ended_now next written written_now)
    (λ e. EndsIn shape command commands text given seen_now ended_now next written written_now e)
