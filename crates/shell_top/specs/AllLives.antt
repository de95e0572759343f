-- The lives of a session, as it ends.
use Rattle.std.specs.Prelude.{◌≡◌, ℕ, List, ◌++◌}
use Rattle.run_theory.specs.Lists.{Each}
use Rattle.script_lang.specs.declared.command.Command.{Command}
use Rattle.shell_top.specs.Chapters.{AreHandedBack, Chapter, IsChapter, IsLast, Last, asked_in_all, chapters_text}
use Rattle.shell_top.specs.Chapters.{last_lives, last_text, lives_of}
use Rattle.shell_top.specs.declared.ended.Ending.{Ending}
use Rattle.shell_top.specs.Fit.{AreFit}
use Rattle.shell_top.specs.OneHistory.{HaveOneHistory}
use Rattle.shell_top.specs.Seen.{Seen}
use Rattle.sig_core.specs.declared.log.Life.{Life}
use Rattle.sig_core.specs.declared.view.Shape.{Shape}

-- The lives of a session of a cluster of this shape, which was asked for these commands and has this text: chapters,
-- the last one first, and how it ended. It was given disks of which the first was seen, and leaves the second; where
-- those were fit for a life, its lives have one history.
pub record AreLives (shape : Shape) (ending : Ending) (commands : List Command) (given now : Seen) (lives : List Life)
    (text : List ℕ) : Type 0 where
  pub chapters : List Chapter
  pub last : Last
  pub own : List Command
  pub are : Each (IsChapter shape) chapters
  pub is_last : IsLast shape ending own now last
  pub disks : AreHandedBack given chapters last now
  pub asked : commands ≡ asked_in_all chapters ++ own
  pub all : lives ≡ lives_of chapters ++ last_lives last
  pub told : text ≡ chapters_text shape chapters ++ last_text shape chapters last
  pub history : AreFit shape given → HaveOneHistory shape ending chapters now last
