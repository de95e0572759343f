-- What a session prints.
use Rattle.std.specs.Prelude.{ℕ, ◌&&◌, Bool, true, not, if◌then◌else◌, List, [], ◌∷◌, ◌++◌, codes}
use Rattle.std.specs.Fmt.{decimal}
use Rattle.std.specs.List.{list_any}
use Rattle.sig_core.specs.declared.log.Life.{Life}
use Rattle.sig_core.specs.declared.reply.ApiReply.{ApiReply}
use Rattle.sig_core.specs.declared.view.Shape.{Shape}
use Rattle.shell_top.specs.declared.ended.Ending.{Ending}
use Rattle.shell_top.specs.declared.ended.Ending.TheVariants.{Finished, Words, Refused, ReadFault, WriteFault, NoMemory}
use Rattle.shell_top.specs.declared.ended.Ending.TheVariants.{Damaged, DiskFault, OtherShape, TooLong, UsedUp}
use Rattle.script_lang.specs.Fault.{code_of}
use Rattle.script_lang.specs.ReplyText.{newline, reply_text}
use Rattle.shell_top.specs.Stopped.{has_wanted}

-- the lines of replies
abbrev pub reply_lines : List ApiReply → List ℕ
reply_lines [] = []
reply_lines (reply ∷ replies) = reply_text reply ++ reply_lines replies

-- the line that tells that the cluster is down now, where it wasn't before
abbrev pub down_line : Bool → Bool → List ℕ
down_line before now = if now && not before then codes "down" ++ newline else []

-- the nodes, the replicas and the fragments of a shape
abbrev pub shape_words : Shape → List ℕ
shape_words shape =
    decimal shape.nodes ++ codes " " ++ decimal shape.replicas ++ codes " " ++ decimal shape.fragments

-- the line that is printed last, where the session ends by a fault that has one
abbrev pub fault_line : Ending → List ℕ
fault_line Finished = []
fault_line Words = codes "words refused" ++ newline
fault_line (Refused line fault) =
    codes "line " ++ decimal line ++ codes " refused " ++ decimal (code_of fault) ++ newline
fault_line ReadFault = codes "read fault" ++ newline
fault_line WriteFault = []
fault_line NoMemory = []
fault_line (TooLong line) = codes "line " ++ decimal line ++ codes " too long" ++ newline
fault_line (DiskFault node count) = codes "disk " ++ decimal node ++ codes " fault" ++ newline
fault_line (OtherShape found asked) =
    codes "shape " ++ shape_words found ++ codes " not " ++ shape_words asked ++ newline
fault_line (Damaged node file at byte) =
    codes "damaged node " ++ decimal node ++ codes " file " ++ decimal file ++ codes " at " ++ decimal at
    ++ codes " byte " ++ decimal byte ++ newline
fault_line (UsedUp generation epoch) = codes "numbers used up" ++ newline

-- the exit status
abbrev pub status_of : Ending → ℕ
status_of Finished = 0
status_of Words = 1
status_of (Refused line fault) = 2
status_of ReadFault = 3
status_of WriteFault = 4
status_of NoMemory = 5
status_of (DiskFault node count) = 6
status_of (OtherShape found asked) = 7
status_of (Damaged node file at byte) = 8
status_of (TooLong line) = 9
status_of (UsedUp generation epoch) = 10

-- of a session with these lives: one that is finished tells of want of memory where a host stopped for that
abbrev pub status_by : Bool → Ending → ℕ
status_by true Finished = status_of NoMemory
status_by wanted ending = status_of ending

abbrev pub status_after : Ending → List Life → ℕ
status_after ending lives = status_by (list_any has_wanted lives) ending
