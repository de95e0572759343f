-- The phases of a closing, by the confirmations of the members.
use Rattle.std.specs.Prelude.{ℕ, ◌==◌, ◌&&◌, Bool, true, false, not, [], Some}
use Rattle.sig_core.specs.declared.mark.Mark.TheVariants.{Closed, Durable}
use Rattle.sig_core.specs.Step.{Step, stay}
use Rattle.gcp_master.specs.declared.local.Local.{Local}
use Rattle.gcp_master.specs.declared.local.LocalStage.TheVariants.{Switching}
use Rattle.gcp_master.specs.declared.orders.Ended.{Ended}
use Rattle.gcp_master.specs.declared.orders.Ended.TheVariants.{Micro, Global}
use Rattle.gcp_master.specs.declared.phase.Phase.{Phase}
use Rattle.gcp_master.specs.declared.phase.Phase.TheVariants.{Resting, Preparing, Committing, Closing, Saving, Copying}
use Rattle.gcp_master.specs.declared.phase.Run.{Run}
use Rattle.gcp_master.specs.declared.voices.Voice.{Voice}
use Rattle.gcp_master.specs.Begin.{begins}
use Rattle.gcp_master.specs.Numbers.{is_first}
use Rattle.gcp_master.specs.Sends.{entering, marking}
use Rattle.gcp_master.specs.State.{MasterState, all_in, at_phase, counted, counts}

-- the members prepare: when all have, they are to commit
abbrev pub prepared_if : MasterState → Run → Bool → Step MasterState
prepared_if s run true = entering s (Committing run)
prepared_if s run false = stay s

abbrev pub prepare_if : MasterState → Voice → Run → Bool → Step MasterState
prepare_if s voice run true = prepared_if (counted s voice) run (all_in 1 (counted s voice))
prepare_if s voice run false = stay s

abbrev pub prepare_by : MasterState → Voice → ℕ → Phase → Step MasterState
prepare_by s voice epoch (Preparing run) = prepare_if s voice run (run.epoch == epoch && counts s voice)
prepare_by s voice epoch _ = stay s

unfoldable pub prepare_row : MasterState → Voice → ℕ → Step MasterState
prepare_row s voice epoch = prepare_by s voice epoch s.phase

-- nothing up to the epoch is unfinished at any member, and no takeover has yet to end: it is closed
abbrev pub closed_if : MasterState → Run → Bool → Step MasterState
closed_if s run true = marking (Closed run.epoch) (entering s (Closing run))
closed_if s run false = stay s

unfoldable pub close_if_all : MasterState → Run → Step MasterState
close_if_all s run = closed_if s run (not s.owed && all_in 1 s)

abbrev pub finish_if : MasterState → Voice → Run → Bool → Step MasterState
finish_if s voice run true = close_if_all (counted s voice) run
finish_if s voice run false = stay s

abbrev pub finish_by : MasterState → Voice → ℕ → Phase → Step MasterState
finish_by s voice epoch (Committing run) = finish_if s voice run (run.epoch == epoch && counts s voice)
finish_by s voice epoch _ = stay s

unfoldable pub finish_row : MasterState → Voice → ℕ → Step MasterState
finish_row s voice epoch = finish_by s voice epoch s.phase

-- the takeover of this view has ended
abbrev pub takeover_by : MasterState → Phase → Step MasterState
takeover_by s (Committing run) = close_if_all s run
takeover_by s _ = stay s

unfoldable pub takeover_row : MasterState → Step MasterState
takeover_row s = takeover_by (record s { owed = false }) s.phase

-- a closing has ended: what is asked for begins
abbrev pub ended : MasterState → Run → Ended → Step MasterState
ended s run what = begins (record (at_phase s (Resting run.next)) { front = Some what }) run.next false

-- both blocks of all members have noted that the epoch is closed: a global checkpoint saves it, and a micro closing has
-- ended
abbrev pub noted_by : MasterState → Run → Bool → Step MasterState
noted_by s run true = entering s (Saving run)
noted_by s run false = ended s run (Micro run.epoch)

abbrev pub noted_if : MasterState → Run → Bool → Step MasterState
noted_if s run true = noted_by s run (is_first run.next)
noted_if s run false = stay s

abbrev pub note_if : MasterState → Voice → Run → Bool → Step MasterState
note_if s voice run true = noted_if (counted s voice) run (all_in 2 (counted s voice))
note_if s voice run false = stay s

abbrev pub note_by : MasterState → Voice → ℕ → Phase → Step MasterState
note_by s voice epoch (Closing run) = note_if s voice run (run.epoch == epoch && counts s voice)
note_by s voice epoch _ = stay s

unfoldable pub note_row : MasterState → Voice → ℕ → Step MasterState
note_row s voice epoch = note_by s voice epoch s.phase

-- the members save: when all have, they are to write the system file
abbrev pub saved_if : MasterState → Run → Bool → Step MasterState
saved_if s run true = entering s (Copying run)
saved_if s run false = stay s

abbrev pub save_if : MasterState → Voice → Run → Bool → Step MasterState
save_if s voice run true = saved_if (counted s voice) run (all_in 1 (counted s voice))
save_if s voice run false = stay s

abbrev pub save_by : MasterState → Voice → ℕ → Phase → Step MasterState
save_by s voice epoch (Saving run) = save_if s voice run (run.epoch == epoch && counts s voice)
save_by s voice epoch _ = stay s

unfoldable pub save_row : MasterState → Voice → ℕ → Step MasterState
save_row s voice epoch = save_by s voice epoch s.phase

-- behind a global checkpoint that a local one asked for the rows are to switch
abbrev pub switching_if : Local → ℕ → Bool → Local
switching_if local epoch true = record { stage = Switching epoch; voices = [] }
switching_if local epoch false = local

abbrev pub switching : MasterState → Run → MasterState
switching s run = record s { local = switching_if s.local run.epoch run.local }

-- the members write the system file: when all have, the epoch is durable
abbrev pub copied_if : MasterState → Run → Bool → Step MasterState
copied_if s run true =
    marking (Durable run.epoch)
    (ended (switching s run) run (Global run.epoch run.copy run.local))
copied_if s run false = stay s

abbrev pub copy_if : MasterState → Voice → Run → Bool → Step MasterState
copy_if s voice run true = copied_if (counted s voice) run (all_in 1 (counted s voice))
copy_if s voice run false = stay s

abbrev pub copy_by : MasterState → Voice → ℕ → Phase → Step MasterState
copy_by s voice epoch (Copying run) = copy_if s voice run (run.epoch == epoch && counts s voice)
copy_by s voice epoch _ = stay s

unfoldable pub copy_row : MasterState → Voice → ℕ → Step MasterState
copy_row s voice epoch = copy_by s voice epoch s.phase
