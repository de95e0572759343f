-- What a session did: what it read and printed, and why it ended.
use Rattle.std.specs.Prelude.{◌≡◌, ℕ, ◌+◌, ◌*◌, ◌≤◌, Bool, true, false, List, [], ◌++◌, length, Option, None, Some}
use Rattle.std.specs.Prelude.{MatchOption}
use Rattle.std.specs.Io.KnownBytes.{Consumes, Appends, IsAtEnd}
use Rattle.script_lang.specs.declared.command.Command.{Command}
use Rattle.sig_core.specs.declared.view.Shape.{Shape}
use Rattle.sig_core.specs.declared.log.Life.{Life}
use Rattle.shell_top.specs.declared.ended.Ending.{Ending}
use Rattle.shell_top.specs.declared.ended.Ending.TheVariants.{Finished, Words, Refused, ReadFault, WriteFault, NoMemory}
use Rattle.shell_top.specs.declared.ended.Ending.TheVariants.{Damaged, DiskFault, OtherShape, TooLong, UsedUp}
use Rattle.shell_top.specs.declared.session.Session.{Session}
use Rattle.shell_top.specs.Chapters.{may_be_unborn}
use Rattle.shell_top.specs.Lives.{AreServed, Going, all_lives, now_of}
use Rattle.shell_top.specs.Printed.{Prints, is_cut_short}
use Rattle.shell_top.specs.Script.{Script, script_from}
use Rattle.shell_top.specs.Seen.{Seen}
use Rattle.shell_top.specs.AllLives.{AreLives}
use Rattle.shell_top.specs.Text.{fault_line, status_after}

-- the script ends the session as finished: at `quit`, or at its end
abbrev pub is_finished : Bool → Option Ending → Bool
is_finished ended (Some Finished) = true
is_finished ended None = ended
is_finished ended last = false

-- whether a script, read so far or to its end, ends a session so
abbrev pub Ends : Ending → Bool → Script → Type 0
Ends Finished ended script = is_finished ended script.last ≡ true
Ends Words ended script = Unit {0}
Ends (Refused line fault) ended script = script.last ≡ Some (Refused line fault)
Ends ReadFault ended script = (ended ≡ false) × (script.last ≡ None)
Ends WriteFault ended script = Unit {0}
Ends NoMemory ended script = Unit {0}
Ends (TooLong line) ended script = script.last ≡ Some (TooLong line)
Ends (DiskFault node count) ended script = Unit {0}
Ends (OtherShape found asked) ended script = Unit {0}
Ends (Damaged node file at byte) ended script = Unit {0}
Ends (UsedUp generation epoch) ended script = Unit {0}

-- how many nodes the script may name
abbrev pub nodes_of : Option Shape → ℕ
nodes_of None = 0
nodes_of (Some shape) = shape.nodes

-- The lives of a session whose words ask for this shape, if for any, and its disks: none, and as they were, where the
-- words were refused.
abbrev pub HaveLived : Option Shape → Ending → List Command → (given now : Seen) → List Life → List ℕ → Type 0
HaveLived None ending commands given now lives text = (lives ≡ []) × (text ≡ []) × (now ≡ given)
HaveLived (Some shape) ending commands given now lives text = AreLives shape ending commands given now lives text

-- The session of a cluster of the shape that its words asked for. It read `input`, and up to its end where `ended`. It
-- printed the text of its lives, in which the commands of its lines were asked for, up to the first fault, and then the
-- line of the fault by which it was meant to end. It was meant to end by a fault of the source or the sink only where
-- that failed. Where its replies were cut short, it ended for that. Where the words asked for no cluster, the session
-- ended for that, or for want of memory. Where there was no life, nothing was read. The nodes' disks were given so, and
-- are left so.
pub record IsSession (asked : Option Shape) (left left_now written written_now : Option (List ℕ))
    (ReadFailed WriteFailed : Type 0) (given now : Seen) (ending : Ending) (lives : List Life) : Type 0 where
  pub input : List ℕ
  pub text : List ℕ
  pub ended : Bool
  pub meant : Ending
  pub consumed : Consumes left left_now input
  pub at_end : ended ≡ true → IsAtEnd left_now
  pub ends : Ends meant ended (script_from (nodes_of asked) ended 1 input)
  pub read_cause : meant ≡ ReadFault → ReadFailed
  pub write_cause : meant ≡ WriteFault → WriteFailed
  pub cut_short : is_cut_short meant ≡ true → ending ≡ meant
  pub told : Prints ending meant written written_now (text ++ fault_line meant)
  pub lived : HaveLived asked meant (script_from (nodes_of asked) ended 1 input).commands given now lives text
  pub none_read : lives ≡ [] → (may_be_unborn meant ≡ true) × (input ≡ [])
  pub words_refused : meant ≡ Words → asked ≡ None
  pub bounded : length input ≤ 513 * 65536 + 1024

-- a session, and the status that tells how it ended, and whether a host wanted memory
pub record HasSession (asked : Option Shape) (left left_now written written_now : Option (List ℕ))
    (ReadFailed WriteFailed : Type 0) (given now : Seen) (status : ℕ) (lives : List Life) : Type 0 where
  pub ending : Ending
  pub session : IsSession asked left left_now written written_now ReadFailed WriteFailed given now ending lives
  pub told : status ≡ status_after ending lives

-- commands in front of a script
abbrev pub after : List Command → Script → Script
after commands script = record { commands = commands ++ script.commands; last = script.last }

-- The session is at this line: it read `consumed` and what is held, the cluster was asked for the commands of the lines
-- before, and what came of them is printed.
pub record IsUnderWay (shape : Shape) (left left_now written written_now : Option (List ℕ)) (given seen : Seen)
    (line : ℕ) (held : List ℕ) (ended : List Life) (now : Option Going) : Type 0 where
  pub consumed : List ℕ
  pub commands : List Command
  pub text : List ℕ
  pub read : Consumes left left_now (consumed ++ held)
  pub lines : (at_end : Bool) (more : List ℕ)
      → script_from shape.nodes at_end 1 (consumed ++ more) ≡ after commands (script_from shape.nodes at_end line more)
  pub printed : Appends written written_now text
  pub served : AreServed shape commands text given seen ended now
  pub line_low : line ≤ 65537
  pub held_short : length held ≤ 1024
  pub consumed_short : length consumed + 513 ≤ 513 * line

-- The lines are read, or can be read no further, and the text of the lives is printed, or printing was cut short.
pub record AreLinesDone (shape : Shape) (left left_now written written_now : Option (List ℕ)) (given seen : Seen)
    (ending : Ending) (lives : List Life) : Type 0 where
  pub input : List ℕ
  pub text : List ℕ
  pub ended : Bool
  pub consumed : Consumes left left_now input
  pub at_end : ended ≡ true → IsAtEnd left_now
  pub ends : Ends ending ended (script_from shape.nodes ended 1 input)
  pub told : Prints ending ending written written_now text
  pub lived : AreLives shape ending (script_from shape.nodes ended 1 input).commands given seen lives text
  pub some : lives ≡ [] → ⊥
  pub no_words : ending ≡ Words → ⊥
  pub bounded : length input ≤ 513 * 65536 + 1024

-- all lives of a session, with the one that goes on
abbrev pub lives_in : {D : Type 0} → Session D → List Life
lives_in session = all_lives session.lives.ended.items (now_of session.lives)

abbrev pub IsAt : {D : Type 0} → Session D → (left left_now written written_now : Option (List ℕ)) → (given seen : Seen)
    → Type 0
IsAt session left left_now written written_now given seen =
    IsUnderWay session.lives.shape left left_now written written_now given seen session.line session.reader
    session.lives.ended.items (now_of session.lives)

-- a session that is under way goes on, or it ends with its lines done
abbrev pub GoesOn : {D : Type 0} → Session D → Session D → (left_old left_new written_old written_new : Option (List ℕ))
    → (seen_old seen_new : Seen) → Option Ending → Type 0
GoesOn old new left_old left_new written_old written_new seen_old seen_new result =
    (left written : Option (List ℕ)) (given : Seen) → IsAt old left left_old written written_old given seen_old
    → MatchOption result
    ((new.lives.shape ≡ old.lives.shape) × IsAt new left left_new written written_new given seen_new)
    (λ ending. AreLinesDone old.lives.shape left left_new written written_new given seen_new ending (lives_in new))

-- a session that is under way ends with its lines done
abbrev pub GoesToEnd : {D : Type 0} → Session D → Session D
    → (left_old left_new written_old written_new : Option (List ℕ)) → (seen_old seen_new : Seen) → Ending → Type 0
GoesToEnd old new left_old left_new written_old written_new seen_old seen_new ending =
    (left written : Option (List ℕ)) (given : Seen) → IsAt old left left_old written written_old given seen_old
    → AreLinesDone old.lives.shape left left_new written written_new given seen_new ending (lives_in new)
