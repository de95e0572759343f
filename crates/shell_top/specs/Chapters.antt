-- The chapters of a session: a life of the cluster that ended, and what came behind it, up to the next.
use Rattle.std.specs.Prelude.{◌≡◌, Bool, true, false, List, [], ◌∷◌, ◌++◌, ℕ, codes, map, Some, Ok}
use Rattle.host_io.specs.Call.{Call}
use Rattle.host_io.specs.Image.{IsLeft}
use Rattle.life_start.specs.Begun as life
use Rattle.life_start.specs.Refusals.{IsRefusedFor}
use Rattle.restart_laws.specs.Lived.{AreFitFor}
use Rattle.restart_laws.specs.Restart.{IsOfLife}
use Rattle.script_lang.specs.declared.command.Command.{Command}
use Rattle.script_lang.specs.declared.command.Command.TheVariants as command
use Rattle.script_lang.specs.ReplyText.{newline, reply_text}
use Rattle.shell_top.specs.declared.ended.Ending.{Ending}
use Rattle.shell_top.specs.declared.ended.Ending.TheVariants as ending
use Rattle.shell_top.specs.declared.ended.Ending.TheVariants.{NoMemory}
use Rattle.shell_top.specs.Fit.{HandsOn}
use Rattle.shell_top.specs.Lived.{IsLife}
use Rattle.shell_top.specs.Printed.{is_cut_short}
use Rattle.shell_top.specs.Seen.{HasGrown, HaveLost, Seen}
use Rattle.shell_top.specs.Told.{text_of}
use Rattle.sig_core.specs.declared.fault.RestartFault.{RestartFault}
use Rattle.sig_core.specs.declared.fault.RestartFault.TheVariants as fault
use Rattle.sig_core.specs.declared.log.Life.{Life}
use Rattle.sig_core.specs.declared.reply.ApiReply.TheVariants.{Crashed, Restarted}
use Rattle.sig_core.specs.declared.view.Shape.{Shape}
use Rattle.sys_restart.specs.Answers.{IsCauseAmong, is_outside}
use Rattle.sys_restart.specs.declared.restored.Restored.{Restored}
use Rattle.sys_restart.specs.Files.{Disks, disks_of}
use Rattle.sys_restart.specs.LifeCalls.{told_by}
use Rattle.sys_restart.specs.Restored.{restored_of}
use Rattle.world_core.specs.Lives.{logs_of}
use Rattle.world_views.specs.Lives.{start_of}
use Rattle.world_views.specs.Shell.{finds_down}

-- a life, the commands that it served, whether it ended by a crash, and the commands that were refused behind that; and
-- what was seen of the disks as it was to begin and as it ended
pub record Chapter : Type 0 where
  pub life : Life
  pub served : List Command
  pub crashed : Bool
  pub refused : List Command
  pub opened : Seen
  pub left : Seen

-- the commands behind the life of a chapter, but for the restart
abbrev pub crash_commands : Bool → List Command → List Command
crash_commands false refused = []
crash_commands true refused = command.Crash ∷ refused

-- the commands of a chapter, but for the restart that ended it
abbrev pub asked_in : Chapter → List Command
asked_in c = c.served ++ crash_commands c.crashed c.refused

-- the commands of chapters, of which the last one is named first
abbrev pub asked_in_all : List Chapter → List Command
asked_in_all [] = []
asked_in_all (c ∷ earlier) = asked_in_all earlier ++ (asked_in c ++ command.Restart ∷ [])

-- a cluster that crashed is down
abbrev pub down_lines : List Command → List ℕ
down_lines [] = []
down_lines (c ∷ refused) = (codes "down" ++ newline) ++ down_lines refused

abbrev pub crash_text : Bool → List Command → List ℕ
crash_text false refused = []
crash_text true refused = reply_text Crashed ++ down_lines refused

-- a life that isn't the first begins with a line that tells which epoch it restored
abbrev pub first_line : List Chapter → ℕ → List ℕ
first_line [] epoch = []
first_line (c ∷ earlier) epoch = reply_text (Restarted epoch)

-- the text of a life behind these chapters
abbrev pub life_text : Shape → List Chapter → Life → List ℕ
life_text shape earlier life =
    first_line earlier life.start_epoch ++ text_of (start_of shape life) (logs_of life 0)

-- of a chapter behind these
abbrev pub chapter_text : Shape → List Chapter → Chapter → List ℕ
chapter_text shape earlier c = life_text shape earlier c.life ++ crash_text c.crashed c.refused

-- and of all
abbrev pub chapters_text : Shape → List Chapter → List ℕ
chapters_text shape [] = []
chapters_text shape (c ∷ earlier) = chapters_text shape earlier ++ chapter_text shape earlier c

abbrev pub lives_of : List Chapter → List Life
lives_of [] = []
lives_of (c ∷ earlier) = lives_of earlier ++ c.life ∷ []

-- a life that didn't end by a crash was one of a cluster that was down
abbrev pub EndsBy : Shape → Chapter → Bool → Type 0
EndsBy shape c true = c.crashed ≡ true
EndsBy shape c false = (c.refused ≡ []) × (finds_down (start_of shape c.life) (logs_of c.life 0) ≡ true)

-- a life begins with what a restart makes of its disks, where each told its record as it was to begin
abbrev pub IsRestored : Shape → Seen → Life → Type 0
IsRestored shape opened l =
    (records : List (List Call)) → opened.told ≡ map Some records
    → (generation : ℕ) × life.HasBegun shape (disks_of records) generation l.start_epoch l.start_rows

-- Whatever a crash leaves of these disks of a life that began behind what was restored, a restart comes to its history.
abbrev pub RestartsAs : Shape → Restored → Seen → Life → Type 0
RestartsAs shape r left life =
    (images : Disks)
    → ((node : ℕ) (calls : List Call) → told_by left.told node ≡ Some calls → IsLeft calls (images node))
    → (found : Restored)
    × ((restored_of shape images ≡ Ok found) × IsOfLife (start_of shape life) r (logs_of life) found)

-- so it is of a life whose disks were fit for it
abbrev pub RestartsAsHistory : Shape → (opened left : Seen) → Life → Type 0
RestartsAsHistory shape opened left life =
    (records : List (List Call)) → opened.told ≡ map Some records → (r : Restored) → AreFitFor shape r records
    → RestartsAs shape r left life

-- What a chapter says: its life began with what its disks had, served these commands, and each was answered at quiet;
-- it ended by a crash, or the cluster was down; whatever a crash leaves of its disks, a restart comes to its history,
-- and behind a cut of their power they are fit for the next life.
pub record IsChapter (shape : Shape) (c : Chapter) : Type 0 where
  pub restored : IsRestored shape c.opened c.life
  pub life : IsLife shape ending.Finished c.served c.life
  pub ends : EndsBy shape c c.crashed
  pub restarts : RestartsAsHistory shape c.opened c.left c.life
  pub hands_on : HandsOn shape c.opened c.left

-- The disks of a cluster behind chapters, from those that it was given on: each life begins on the disks that the one
-- before left, whose power was cut at its end, and in it their records only grow.
abbrev pub AreHandedOn : Seen → List Chapter → Seen → Type 0
AreHandedOn given [] now = now ≡ given
AreHandedOn given (c ∷ earlier) now =
    AreHandedOn given earlier c.opened × (HasGrown c.opened c.left × HaveLost c.left now)

-- How a session ends: in a life; behind a crash; or a life was to begin, and didn't. The first and the last with what
-- was seen of the disks then.
pub data Last : Type 0 where
  Living : Life → Seen → Last
  Crash : Chapter → Last
  Unopened : Seen → Last

abbrev pub last_lives : Last → List Life
last_lives (Living life opened) = life ∷ []
last_lives (Crash c) = c.life ∷ []
last_lives (Unopened opened) = []

abbrev pub last_text : Shape → List Chapter → Last → List ℕ
last_text shape earlier (Living life opened) = life_text shape earlier life
last_text shape earlier (Crash c) = chapter_text shape earlier c
last_text shape earlier (Unopened opened) = []

-- the disks up to the end of the session
abbrev pub AreHandedBack : Seen → List Chapter → Last → Seen → Type 0
AreHandedBack given earlier (Living life opened) now = AreHandedOn given earlier opened × HasGrown opened now
AreHandedBack given earlier (Crash c) now = AreHandedOn given (c ∷ earlier) now
AreHandedBack given earlier (Unopened opened) now = AreHandedOn given earlier opened × HasGrown opened now

-- these are the first of some commands; all, where the session wasn't cut short
pub record AreFirst (ending : Ending) (first commands : List Command) : Type 0 where
  pub rest : List Command
  pub are : commands ≡ first ++ rest
  pub all : is_cut_short ending ≡ false → rest ≡ []

-- the endings where a life was to begin, and didn't, for what its disks are
abbrev pub is_refusal : Ending → Bool
is_refusal (ending.DiskFault node count) = true
is_refusal (ending.OtherShape found asked) = true
is_refusal (ending.Damaged node file at byte) = true
is_refusal (ending.UsedUp generation epoch) = true
is_refusal ending = false

-- how a session ends where a life was to begin, and didn't
abbrev pub ending_for : RestartFault → Ending
ending_for (fault.DiskFault node count) = ending.DiskFault node count
ending_for (fault.OtherShape found asked) = ending.OtherShape found asked
ending_for (fault.Damaged node file at byte) = ending.Damaged node file at byte
ending_for (fault.UsedUp generation epoch) = ending.UsedUp generation epoch
ending_for fault.NoMemory = ending.NoMemory

-- the endings that can come where no life goes on: these, want of memory, and words that are refused
abbrev pub may_be_unborn : Ending → Bool
may_be_unborn ending.Words = true
may_be_unborn ending.NoMemory = true
may_be_unborn ending = is_refusal ending

-- Why a life didn't begin that was to begin on disks of which this was seen, and is now: a disk's count of faults rose;
-- what the disks told is refused; or memory was wanting.
pub record IsUnborn (shape : Shape) (ending : Ending) (opened now : Seen) : Type 0 where
  pub fault : RestartFault
  pub is : ending ≡ ending_for fault
  pub cause : IsCauseAmong opened.faults now.faults fault
  pub refused :
      (records : List (List Call)) → opened.told ≡ map Some records → is_outside fault ≡ false
      → IsRefusedFor shape (disks_of records) now.told fault

-- what is said of a session that ends so, of whose commands these came behind the last restart, and of its disks; of
-- what a restart from them comes to nothing where memory was wanting in a life that went on
abbrev pub IsLast : Shape → Ending → List Command → Seen → Last → Type 0
IsLast shape ending commands now (Living life opened) =
    IsRestored shape opened life × IsLife shape ending commands life × (is_refusal ending ≡ false)
    × ((ending ≡ NoMemory → ⊥) → RestartsAsHistory shape opened now life × HandsOn shape opened now)
IsLast shape ending commands now (Crash c) =
    IsChapter shape c × (c.crashed ≡ true) × (is_refusal ending ≡ false) × AreFirst ending (asked_in c) commands
IsLast shape ending commands now (Unopened opened) = IsUnborn shape ending opened now
