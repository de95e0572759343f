-- A master marks that its host stops just where the numbers of epochs are used up.
use Rattle.std.proofs.Common.{◌≡◌, ℕ, Bool, true, false, refl}
use Rattle.std.specs.Prelude.{◌==◌, ◌&&◌, is_some, nat_lt, not, Some}
use Rattle.sig_core.specs.declared.signal.Body.{Body}
use Rattle.sig_core.specs.declared.signal.Body.TheVariants.{Host, Takeover, Epoch, Checkpoint}
use Rattle.sig_core.specs.declared.signal.Signal.{Signal}
use Rattle.sig_core.specs.declared.signal.checkpoint.CheckpointSignal.{CheckpointSignal}
use Rattle.sig_core.specs.declared.signal.checkpoint.CheckpointSignal.TheVariants.{LcpReq, LcpFragRep, LcpSwitchConf}
use Rattle.sig_core.specs.declared.signal.epoch.EpochSignal.{EpochSignal}
use Rattle.sig_core.specs.declared.signal.epoch.EpochSignal.TheVariants.{GcpReq, MicroReq, GcpPrepareConf}
use Rattle.sig_core.specs.declared.signal.epoch.EpochSignal.TheVariants.{GcpNodeFinish, GcpClosedConf, GcpSaveConf}
use Rattle.sig_core.specs.declared.signal.epoch.EpochSignal.TheVariants.{CopyGciConf, GcpOrd, GcpStateConf}
use Rattle.sig_core.specs.declared.signal.host.HostSignal.TheVariants.{Continue}
use Rattle.sig_core.specs.declared.signal.host.Work.TheVariants.{Members}
use Rattle.sig_core.specs.declared.signal.takeover.TakeoverSignal.TheVariants.{TakeoverEnd}
use Rattle.sig_core.specs.Step.{Step}
use Rattle.gcp_master.specs.declared.known.Known.{Known}
use Rattle.gcp_master.specs.declared.known.Told.{Told}
use Rattle.gcp_master.specs.declared.local.LocalStage.{LocalStage}
use Rattle.gcp_master.specs.declared.local.LocalStage.TheVariants.{Idle, Walking, Switching}
use Rattle.gcp_master.specs.declared.local.LocalStage.TheVariants as stage
use Rattle.gcp_master.specs.declared.orders.Ended.TheVariants.{Micro, Global}
use Rattle.gcp_master.specs.declared.phase.Asked.{Asked}
use Rattle.gcp_master.specs.declared.phase.Phase.{Phase}
use Rattle.gcp_master.specs.declared.phase.Phase.TheVariants.{Unordered, Gathering, Resting, Preparing, Committing}
use Rattle.gcp_master.specs.declared.phase.Phase.TheVariants.{Closing, Saving, Copying}
use Rattle.gcp_master.specs.declared.phase.Run.{Run}
use Rattle.gcp_master.specs.declared.sends.TheConstants.{SENDS}
use Rattle.gcp_master.specs.declared.voices.Voice.{Voice}
use Rattle.gcp_master.specs.Begin.{begins, begins_if, begun}
use Rattle.gcp_master.specs.Closing.{close_if_all, closed_if, copied_if, copy_by, copy_if, copy_row, finish_by}
use Rattle.gcp_master.specs.Closing.{finish_if}
use Rattle.gcp_master.specs.Closing.{finish_row, note_by, note_if, note_row, noted_by, noted_if, prepare_by, prepare_if}
use Rattle.gcp_master.specs.Closing.{prepare_row, prepared_if, save_by, save_if, save_row, saved_if, switching}
use Rattle.gcp_master.specs.Closing.{takeover_by, takeover_row}
use Rattle.gcp_master.specs.Known.{resumed}
use Rattle.gcp_master.specs.Local.{all_local, counted_local, counts_local, hear_switch_if, hear_walk_if, switched_by}
use Rattle.gcp_master.specs.Local.{switched_if, switched_row, walk_by, walk_if, walk_row, walked_by, walked_if}
use Rattle.gcp_master.specs.Local.{walked_row}
use Rattle.gcp_master.specs.Master.{epoch_table, local_table, master_row, master_table, told}
use Rattle.gcp_master.specs.Numbers.{is_first}
use Rattle.gcp_master.specs.Requests.{asked_by, asked_row, global_asked, local_asked, micro_asked}
use Rattle.gcp_master.specs.Resume.{is_president, knowing, learned_if, order_by, order_row, resume_at, state_by}
use Rattle.gcp_master.specs.Resume.{state_if}
use Rattle.gcp_master.specs.Resume.{state_row, told_all_if}
use Rattle.gcp_master.specs.Sends.{go_on_if, go_on_row, list_effects, listing}
use Rattle.gcp_master.specs.Spent.{asked_spent, body_spent, copied_spent_if, copy_spent, copy_spent_by, copy_spent_if}
use Rattle.gcp_master.specs.Spent.{epoch_spent, hear_walk_spent_if, local_spent, master_stops, note_spent}
use Rattle.gcp_master.specs.Spent.{note_spent_by}
use Rattle.gcp_master.specs.Spent.{note_spent_if, noted_spent_by, noted_spent_if, resumed_spent_if, spent_at}
use Rattle.gcp_master.specs.Spent.{state_spent}
use Rattle.gcp_master.specs.Spent.{state_spent_by, state_spent_if, stop_if, walked_spent, walked_spent_by}
use Rattle.gcp_master.specs.Spent.{walked_spent_if}
use Rattle.gcp_master.specs.State.{MasterState, all_in, at_phase, at_stage, counted, counts}
use Rattle.gcp_master.specs.Voices.{is_among}
use Rattle.node_views.specs.Stop.{stop_in}

-- the marks of a step tell of a stop just where the numbers are used up
abbrev TellsIf : Bool → Step MasterState → Type 0
TellsIf spent t = stop_in t.effects.marks ≡ stop_if spent

listing_goes : (s : MasterState) (at : ℕ) → TellsIf false (listing s at)
unfolding listing list_effects
listing_goes s at = refl

begins_tells : (s : MasterState) (current : ℕ) (listed : Bool)
    → TellsIf (begun s current).spent (begins s current listed)
unfolding begins
begins_tells s current listed = by (begun s current).state (begun s current).spent listed
  where
    by : (t : MasterState) (spent listed : Bool) → TellsIf spent (begins_if t spent listed)
    by t true listed = refl
    by t false true = refl
    by t false false = listing_goes t 0

-- where more is asked for
rests_tells : (s : MasterState) (phase : Phase) → TellsIf (spent_at s phase) (asked_by s phase)
rests_tells s (Resting current) = begins_tells s current (is_some s.front)
rests_tells s _ = refl

asked_tells : (s : MasterState) (asked : Asked) → TellsIf (asked_spent s asked) (asked_row s asked)
unfolding asked_row asked_spent
asked_tells s asked = rests_tells (record s { asked = asked }) s.phase

-- where a block tells how far it is
resumes_tells : (s : MasterState) (phase : Phase) → TellsIf (spent_at s phase) (resume_at s phase)
resumes_tells s (Resting current) = begins_tells s current false
resumes_tells s phase = listing_goes (at_phase s phase) 0

state_tells : (s : MasterState) (voice : Voice) (t : Told) → TellsIf (state_spent s voice t) (state_row s voice t)
unfolding state_row state_spent
state_tells s voice t = by s.phase
  where
    all : (now : MasterState) (known : Known) (b : Bool)
        → TellsIf (resumed_spent_if now known b) (told_all_if now known b)
    all now known true = resumes_tells now (resumed known)
    all now known false = refl

    counts_if : (known : Known) (b : Bool) → TellsIf (state_spent_if s voice known b) (state_if s voice known b)
    counts_if known true = all (knowing (counted s voice) known) known (all_in 2 (counted s voice))
    counts_if known false = refl

    by : (phase : Phase) → TellsIf (state_spent_by s voice t phase) (state_by s voice t phase)
    by (Gathering known) = counts_if (learned_if known t (is_among s.view.full voice.member)) (counts s voice)
    by _ = refl

-- where a closing goes on
note_tells : (s : MasterState) (voice : Voice) (epoch : ℕ) → TellsIf (note_spent s voice epoch) (note_row s voice epoch)
unfolding note_row note_spent
note_tells s voice epoch = by s.phase
  where
    ends : (now : MasterState) (run : Run) (b : Bool) → TellsIf (noted_spent_by now run b) (noted_by now run b)
    ends now run true = listing_goes (at_phase now (Saving run)) 0
    ends now run false =
        begins_tells (record (at_phase now (Resting run.next)) { front = Some (Micro run.epoch) }) run.next false

    all : (now : MasterState) (run : Run) (b : Bool) → TellsIf (noted_spent_if now run b) (noted_if now run b)
    all now run true = ends now run (is_first run.next)
    all now run false = refl

    counts_if : (run : Run) (b : Bool) → TellsIf (note_spent_if s voice run b) (note_if s voice run b)
    counts_if run true = all (counted s voice) run (all_in 2 (counted s voice))
    counts_if run false = refl

    by : (phase : Phase) → TellsIf (note_spent_by s voice epoch phase) (note_by s voice epoch phase)
    by (Closing run) = counts_if run (run.epoch == epoch && counts s voice)
    by _ = refl

copy_tells : (s : MasterState) (voice : Voice) (epoch : ℕ) → TellsIf (copy_spent s voice epoch) (copy_row s voice epoch)
unfolding copy_row copy_spent
copy_tells s voice epoch = by s.phase
  where
    all : (t : MasterState) (run : Run) (b : Bool) → TellsIf (copied_spent_if t run b) (copied_if t run b)
    all t run true =
        begins_tells
        (record (at_phase (switching t run) (Resting run.next)) { front = Some (Global run.epoch run.copy run.local) })
        run.next false
    all t run false = refl

    counts_if : (run : Run) (b : Bool) → TellsIf (copy_spent_if s voice run b) (copy_if s voice run b)
    counts_if run true = all (counted s voice) run (all_in 1 (counted s voice))
    counts_if run false = refl

    by : (phase : Phase) → TellsIf (copy_spent_by s voice epoch phase) (copy_by s voice epoch phase)
    by (Copying run) = counts_if run (run.epoch == epoch && counts s voice)
    by _ = refl

prepare_goes : (s : MasterState) (voice : Voice) (epoch : ℕ) → TellsIf false (prepare_row s voice epoch)
unfolding prepare_row
prepare_goes s voice epoch = by s.phase
  where
    all : (now : MasterState) (run : Run) (b : Bool) → TellsIf false (prepared_if now run b)
    all now run true = listing_goes (at_phase now (Committing run)) 0
    all now run false = refl

    counts_if : (run : Run) (b : Bool) → TellsIf false (prepare_if s voice run b)
    counts_if run true = all (counted s voice) run (all_in 1 (counted s voice))
    counts_if run false = refl

    by : (phase : Phase) → TellsIf false (prepare_by s voice epoch phase)
    by (Preparing run) = counts_if run (run.epoch == epoch && counts s voice)
    by _ = refl

closes_goes : (s : MasterState) (run : Run) → TellsIf false (close_if_all s run)
unfolding close_if_all
closes_goes s run = by (not s.owed && all_in 1 s)
  where
    by : (b : Bool) → TellsIf false (closed_if s run b)
    by true = listing_goes (at_phase s (Closing run)) 0
    by false = refl

finish_goes : (s : MasterState) (voice : Voice) (epoch : ℕ) → TellsIf false (finish_row s voice epoch)
unfolding finish_row
finish_goes s voice epoch = by s.phase
  where
    counts_if : (run : Run) (b : Bool) → TellsIf false (finish_if s voice run b)
    counts_if run true = closes_goes (counted s voice) run
    counts_if run false = refl

    by : (phase : Phase) → TellsIf false (finish_by s voice epoch phase)
    by (Committing run) = counts_if run (run.epoch == epoch && counts s voice)
    by _ = refl

takeover_goes : (s : MasterState) → TellsIf false (takeover_row s)
unfolding takeover_row
takeover_goes s = by (record s { owed = false }) s.phase
  where
    by : (now : MasterState) (phase : Phase) → TellsIf false (takeover_by now phase)
    by now (Committing run) = closes_goes now run
    by now _ = refl

save_goes : (s : MasterState) (voice : Voice) (epoch : ℕ) → TellsIf false (save_row s voice epoch)
unfolding save_row
save_goes s voice epoch = by s.phase
  where
    all : (now : MasterState) (run : Run) (b : Bool) → TellsIf false (saved_if now run b)
    all now run true = listing_goes (at_phase now (Copying run)) 0
    all now run false = refl

    counts_if : (run : Run) (b : Bool) → TellsIf false (save_if s voice run b)
    counts_if run true = all (counted s voice) run (all_in 1 (counted s voice))
    counts_if run false = refl

    by : (phase : Phase) → TellsIf false (save_by s voice epoch phase)
    by (Saving run) = counts_if run (run.epoch == epoch && counts s voice)
    by _ = refl

order_goes : (s : MasterState) → TellsIf false (order_row s)
unfolding order_row
order_goes s = by s.phase
  where
    by : (phase : Phase) → TellsIf false (order_by s phase)
    by Unordered = listing_goes _ 0
    by _ = refl

go_on_goes : (s : MasterState) (number at : ℕ) → TellsIf false (go_on_row s number at)
unfolding go_on_row
go_on_goes s number at = by (number == s.view.number && nat_lt at SENDS)
  where
    by : (b : Bool) → TellsIf false (go_on_if s at b)
    by true = listing_goes s at
    by false = refl

-- where a local checkpoint goes on
walk_goes : (s : MasterState) → TellsIf false (walk_row s)
unfolding walk_row
walk_goes s = by s.local.stage
  where
    first : (b : Bool) → TellsIf false (walk_if s b)
    first true = refl
    first false = refl

    by : (at : LocalStage) → TellsIf false (walk_by s at)
    by Idle = first (is_president s.member s.view)
    by _ = refl

walked_tells : (s : MasterState) (voice : Voice) → TellsIf (walked_spent s voice) (walked_row s voice)
unfolding walked_row walked_spent
walked_tells s voice = by s.local.stage
  where
    all : (now : MasterState) (b : Bool) → TellsIf (walked_spent_if now b) (walked_if now b)
    all now true = asked_tells (at_stage now stage.Closing) (local_asked now.asked)
    all now false = refl

    counts_if : (b : Bool) → TellsIf (hear_walk_spent_if s voice b) (hear_walk_if s voice b)
    counts_if true = all (counted_local s voice) (all_local (counted_local s voice))
    counts_if false = refl

    by : (at : LocalStage) → TellsIf (walked_spent_by s voice at) (walked_by s voice at)
    by Walking = counts_if (counts_local s voice)
    by _ = refl

switched_goes : (s : MasterState) (voice : Voice) → TellsIf false (switched_row s voice)
unfolding switched_row
switched_goes s voice = by s.local.stage
  where
    all : (now : MasterState) (epoch : ℕ) (b : Bool) → TellsIf false (switched_if now epoch b)
    all now epoch true = refl
    all now epoch false = refl

    counts_if : (epoch : ℕ) (b : Bool) → TellsIf false (hear_switch_if s voice epoch b)
    counts_if epoch true = all (counted_local s voice) epoch (all_local (counted_local s voice))
    counts_if epoch false = refl

    by : (at : LocalStage) → TellsIf false (switched_by s voice at)
    by (Switching epoch) = counts_if epoch (counts_local s voice)
    by _ = refl

-- whatever it takes
pub master_tells : (s : MasterState) (x : Signal) → stop_in (master_row s x).effects.marks ≡ master_stops s x
master_tells s x = by x.body
  where
    voice : Voice
    voice = record { member = x.member; from = x.from }

    epochs : (signal : EpochSignal) → TellsIf (epoch_spent s voice signal) (epoch_table s voice signal)
    epochs (GcpReq by) = asked_tells s (global_asked s.asked x.member.node)
    epochs MicroReq = asked_tells s (micro_asked s.asked)
    epochs GcpOrd = order_goes s
    epochs (GcpStateConf current prepared next closed saved durable) =
        state_tells s voice (told current prepared next closed saved durable)
    epochs (GcpPrepareConf epoch) = prepare_goes s voice epoch
    epochs (GcpNodeFinish epoch) = finish_goes s voice epoch
    epochs (GcpClosedConf epoch) = note_tells s voice epoch
    epochs (GcpSaveConf epoch) = save_goes s voice epoch
    epochs (CopyGciConf epoch) = copy_tells s voice epoch
    epochs _ = refl

    locals : (signal : CheckpointSignal) → TellsIf (local_spent s voice signal) (local_table s voice signal)
    locals LcpReq = walk_goes s
    locals (LcpFragRep epoch) = walked_tells s voice
    locals LcpSwitchConf = switched_goes s voice
    locals _ = refl

    by : (body : Body) → TellsIf (body_spent s voice body) (master_table s voice x.view.number body)
    by (Host (Continue Members at)) = go_on_goes s x.view.number at
    by (Takeover TakeoverEnd) = takeover_goes s
    by (Epoch signal) = epochs signal
    by (Checkpoint signal) = locals signal
    by _ = refl
