-- What the program does, by what its words ask for.
use Rattle.std.specs.Prelude.{ℕ, List, Option, None, Some}
use Rattle.shell_top.specs.Checked.{HasChecked}
use Rattle.shell_top.specs.declared.words.Asked.{Asked}
use Rattle.shell_top.specs.declared.words.Asked.TheVariants.{Check, Replies, Trace}
use Rattle.shell_top.specs.Seen.{Seen}
use Rattle.shell_top.specs.Session.{HasSession}
use Rattle.shell_top.specs.Traced.{HasTraced}
use Rattle.sig_core.specs.declared.log.Life.{Life}

-- A session and its replies, also where the words are refused; a session and its trace; or the check of a trace. The
-- disks of the nodes of a session were given so, and are left so; to those of a check nothing is done.
abbrev pub HasRun : Option Asked → (left left_now written written_now : Option (List ℕ))
    → (ReadFailed WriteFailed : Type 0) → (given now : Seen) → (status : ℕ) → List Life → Type 0
HasRun None left left_now written written_now ReadFailed WriteFailed given now status lives =
    HasSession None left left_now written written_now ReadFailed WriteFailed given now status lives
HasRun (Some (Replies shape)) left left_now written written_now ReadFailed WriteFailed given now status lives =
    HasSession (Some shape) left left_now written written_now ReadFailed WriteFailed given now status lives
HasRun (Some (Trace shape)) left left_now written written_now ReadFailed WriteFailed given now status lives =
    HasTraced shape left left_now written written_now ReadFailed WriteFailed given now status lives
HasRun (Some Check) left left_now written written_now ReadFailed WriteFailed given now status lives =
    HasChecked left left_now written written_now ReadFailed WriteFailed status lives
