-- What is asked for: nothing but the beginning of a closing takes it away.
use Rattle.std.proofs.Common.{◌≡◌, ℕ, ◌==◌, ◌&&◌, ◌||◌, ◌⊎◌, Bool, true, false, not, refl, ap, ◌∙◌, inl, inr}
use Rattle.std.proofs.lemmas.Bool.{false≢true}
use Rattle.std.specs.Prelude.{Option, None, Some, is_some, if◌then◌else◌}
use Rattle.sig_core.specs.declared.signal.Body.{Body}
use Rattle.sig_core.specs.declared.signal.Body.TheVariants.{Host, Takeover, Epoch, Checkpoint}
use Rattle.sig_core.specs.declared.signal.checkpoint.CheckpointSignal.{CheckpointSignal}
use Rattle.sig_core.specs.declared.signal.checkpoint.CheckpointSignal.TheVariants.{LcpReq, LcpFragRep, LcpSwitchConf}
use Rattle.sig_core.specs.declared.signal.epoch.EpochSignal.{EpochSignal}
use Rattle.sig_core.specs.declared.signal.epoch.EpochSignal.TheVariants.{GcpReq, MicroReq, GcpPrepareConf}
use Rattle.sig_core.specs.declared.signal.epoch.EpochSignal.TheVariants.{GcpNodeFinish, GcpClosedConf, GcpSaveConf}
use Rattle.sig_core.specs.declared.signal.epoch.EpochSignal.TheVariants.{CopyGciConf, GcpOrd, GcpStateConf}
use Rattle.sig_core.specs.declared.signal.host.HostSignal.TheVariants.{Continue}
use Rattle.sig_core.specs.declared.signal.host.Work.TheVariants.{Members}
use Rattle.sig_core.specs.declared.signal.takeover.TakeoverSignal.TheVariants.{TakeoverEnd}
use Rattle.gcp_master.specs.declared.known.Known.{Known}
use Rattle.gcp_master.specs.declared.known.Told.{Told}
use Rattle.gcp_master.specs.declared.local.LocalStage.{LocalStage}
use Rattle.gcp_master.specs.declared.local.LocalStage.TheVariants as stage
use Rattle.gcp_master.specs.declared.orders.Ended.{Ended}
use Rattle.gcp_master.specs.declared.orders.Ended.TheVariants.{Micro, Global}
use Rattle.gcp_master.specs.declared.phase.Asked.{Asked}
use Rattle.gcp_master.specs.declared.phase.Phase.{Phase}
use Rattle.gcp_master.specs.declared.phase.Phase.TheVariants.{Unordered, Gathering, Resting, Preparing, Committing}
use Rattle.gcp_master.specs.declared.phase.Phase.TheVariants.{Closing, Saving, Copying}
use Rattle.gcp_master.specs.declared.phase.Run.{Run}
use Rattle.gcp_master.specs.declared.voices.Voice.{Voice}
use Rattle.gcp_master.specs.Begin.{begin_global, begin_if, begin_micro, begins, begins_if, begun, is_global_asked}
use Rattle.gcp_master.specs.Closing.{close_if_all, closed_if, copied_if, copy_by, copy_if, copy_row, ended, finish_by}
use Rattle.gcp_master.specs.Closing.{finish_if, finish_row, note_by, note_if, note_row, noted_by, noted_if, prepare_by}
use Rattle.gcp_master.specs.Closing.{prepare_if, prepare_row, prepared_if, save_by, save_if, save_row, saved_if}
use Rattle.gcp_master.specs.Closing.{switching, takeover_by, takeover_row}
use Rattle.gcp_master.specs.Known.{resumed}
use Rattle.gcp_master.specs.Laws.{KeepsGlobal, KeepsMicro, RequestsAreKept}
use Rattle.gcp_master.specs.Local.{all_local, counted_local, counts_local, hear_switch_if, hear_walk_if, switched_by}
use Rattle.gcp_master.specs.Local.{switched_if, switched_row, walk_by, walk_if, walk_row, walked_by, walked_if}
use Rattle.gcp_master.specs.Local.{walked_row}
use Rattle.gcp_master.specs.Master.{epoch_table, local_table, master_table}
use Rattle.gcp_master.specs.Numbers.{is_first, next_global, next_micro}
use Rattle.gcp_master.specs.Requests.{asked_by, asked_row, global_asked, local_asked, micro_asked}
use Rattle.gcp_master.specs.Resume.{knowing, learned_if, order_by, order_row, resume_at, state_by, state_if, state_row}
use Rattle.gcp_master.specs.Resume.{is_president, told_all_if}
use Rattle.gcp_master.specs.Sends.{entering, go_on_if, go_on_row, listing, told_if}
use Rattle.gcp_master.specs.State.{MasterState, all_in, at_phase, at_stage, counted, counts}
use Rattle.gcp_master.specs.Voices.{is_among}
use Rattle.gcp_master.proofs.TwiceLemmas.{listed_phase}

-- a list leaves what is asked for
listed_asked : (s : MasterState) (at : ℕ) → (listing s at).state.asked ≡ s.asked
unfolding listing
listed_asked s at = by _
  where
    by : (left : Bool) → (told_if s left).asked ≡ s.asked
    by true = refl
    by false = refl

-- where this was asked for, it still is, or a master of which it was has begun what is asked for
record Begins (asked : Asked) (state : MasterState) : Type 0 where
  before : MasterState
  current : ℕ
  same : before.asked ≡ asked
  left : state.asked ≡ (begun before current).state.asked
  phase : state.phase ≡ (begun before current).state.phase

abbrev Moves : Asked → MasterState → Type 0
Moves asked state = (state.asked ≡ asked) ⊎ Begins asked state

begins_moves : (s : MasterState) (current : ℕ) (listed : Bool) → Moves s.asked (begins s current listed).state
unfolding begins
begins_moves s current listed =
    inr (record {
      before = s;
      current = current;
      same = refl;
      left = left (begun s current).state (begun s current).spent listed;
      phase = phase (begun s current).state (begun s current).spent listed;
    })
  where
    left : (now : MasterState) (spent listed : Bool) → (begins_if now spent listed).state.asked ≡ now.asked
    left now true listed = refl
    left now false true = refl
    left now false false = listed_asked now 0

    phase : (now : MasterState) (spent listed : Bool) → (begins_if now spent listed).state.phase ≡ now.phase
    phase now true listed = refl
    phase now false true = refl
    phase now false false = listed_phase now 0

-- the rows
asked_moves : (s : MasterState) (asked : Asked) → Moves asked (asked_row s asked).state
unfolding asked_row
asked_moves s asked = by s.phase
  where
    by : (phase : Phase) → Moves asked (asked_by (record s { asked = asked }) phase).state
    by (Resting current) = begins_moves (record s { asked = asked }) current (is_some s.front)
    by _ = inl refl

enters : (s : MasterState) (phase : Phase) → Moves s.asked (entering s phase).state
enters s phase = inl (listed_asked (at_phase s phase) 0)

ends : (s : MasterState) (run : Run) (what : Ended) → Moves s.asked (ended s run what).state
ends s run what = begins_moves (record (at_phase s (Resting run.next)) { front = Some what }) run.next false

prepare_moves : (s : MasterState) (v : Voice) (epoch : ℕ) → Moves s.asked (prepare_row s v epoch).state
unfolding prepare_row
prepare_moves s v epoch = by s.phase
  where
    by_all : (run : Run) (all : Bool) → Moves s.asked (prepared_if (counted s v) run all).state
    by_all run true = enters (counted s v) (Committing run)
    by_all run false = inl refl

    by_if : (run : Run) (counting : Bool) → Moves s.asked (prepare_if s v run counting).state
    by_if run true = by_all run (all_in 1 (counted s v))
    by_if run false = inl refl

    by : (phase : Phase) → Moves s.asked (prepare_by s v epoch phase).state
    by (Preparing run) = by_if run (run.epoch == epoch && counts s v)
    by _ = inl refl

close_moves : (s : MasterState) (run : Run) → Moves s.asked (close_if_all s run).state
unfolding close_if_all
close_moves s run = by (not s.owed && all_in 1 s)
  where
    by : (all : Bool) → Moves s.asked (closed_if s run all).state
    by true = enters s (Closing run)
    by false = inl refl

finish_moves : (s : MasterState) (v : Voice) (epoch : ℕ) → Moves s.asked (finish_row s v epoch).state
unfolding finish_row
finish_moves s v epoch = by s.phase
  where
    by_if : (run : Run) (counting : Bool) → Moves s.asked (finish_if s v run counting).state
    by_if run true = close_moves (counted s v) run
    by_if run false = inl refl

    by : (phase : Phase) → Moves s.asked (finish_by s v epoch phase).state
    by (Committing run) = by_if run (run.epoch == epoch && counts s v)
    by _ = inl refl

takeover_moves : (s : MasterState) → Moves s.asked (takeover_row s).state
unfolding takeover_row
takeover_moves s = by s.phase
  where
    by : (phase : Phase) → Moves s.asked (takeover_by (record s { owed = false }) phase).state
    by (Committing run) = close_moves (record s { owed = false }) run
    by _ = inl refl

note_moves : (s : MasterState) (v : Voice) (epoch : ℕ) → Moves s.asked (note_row s v epoch).state
unfolding note_row
note_moves s v epoch = by s.phase
  where
    by_first : (run : Run) (first : Bool) → Moves s.asked (noted_by (counted s v) run first).state
    by_first run true = enters (counted s v) (Saving run)
    by_first run false = ends (counted s v) run (Micro run.epoch)

    by_all : (run : Run) (all : Bool) → Moves s.asked (noted_if (counted s v) run all).state
    by_all run true = by_first run (is_first run.next)
    by_all run false = inl refl

    by_if : (run : Run) (counting : Bool) → Moves s.asked (note_if s v run counting).state
    by_if run true = by_all run (all_in 2 (counted s v))
    by_if run false = inl refl

    by : (phase : Phase) → Moves s.asked (note_by s v epoch phase).state
    by (Closing run) = by_if run (run.epoch == epoch && counts s v)
    by _ = inl refl

save_moves : (s : MasterState) (v : Voice) (epoch : ℕ) → Moves s.asked (save_row s v epoch).state
unfolding save_row
save_moves s v epoch = by s.phase
  where
    by_all : (run : Run) (all : Bool) → Moves s.asked (saved_if (counted s v) run all).state
    by_all run true = enters (counted s v) (Copying run)
    by_all run false = inl refl

    by_if : (run : Run) (counting : Bool) → Moves s.asked (save_if s v run counting).state
    by_if run true = by_all run (all_in 1 (counted s v))
    by_if run false = inl refl

    by : (phase : Phase) → Moves s.asked (save_by s v epoch phase).state
    by (Saving run) = by_if run (run.epoch == epoch && counts s v)
    by _ = inl refl

copy_moves : (s : MasterState) (v : Voice) (epoch : ℕ) → Moves s.asked (copy_row s v epoch).state
unfolding copy_row
copy_moves s v epoch = by s.phase
  where
    by_all : (run : Run) (all : Bool) → Moves s.asked (copied_if (counted s v) run all).state
    by_all run true = ends (switching (counted s v) run) run (Global run.epoch run.copy run.local)
    by_all run false = inl refl

    by_if : (run : Run) (counting : Bool) → Moves s.asked (copy_if s v run counting).state
    by_if run true = by_all run (all_in 1 (counted s v))
    by_if run false = inl refl

    by : (phase : Phase) → Moves s.asked (copy_by s v epoch phase).state
    by (Copying run) = by_if run (run.epoch == epoch && counts s v)
    by _ = inl refl

order_moves : (s : MasterState) → Moves s.asked (order_row s).state
unfolding order_row
order_moves s = by s.phase
  where
    by : (phase : Phase) → Moves s.asked (order_by s phase).state
    by Unordered = enters s _
    by _ = inl refl

state_moves : (s : MasterState) (v : Voice) (told : Told) → Moves s.asked (state_row s v told).state
unfolding state_row
state_moves s v told = by s.phase
  where
    by_phase : (known : Known) (phase : Phase) → Moves s.asked (resume_at (knowing (counted s v) known) phase).state
    by_phase known (Resting current) = begins_moves (knowing (counted s v) known) current false
    by_phase known Unordered = enters (knowing (counted s v) known) Unordered
    by_phase known (Gathering k) = enters (knowing (counted s v) known) (Gathering k)
    by_phase known (Preparing run) = enters (knowing (counted s v) known) (Preparing run)
    by_phase known (Committing run) = enters (knowing (counted s v) known) (Committing run)
    by_phase known (Closing run) = enters (knowing (counted s v) known) (Closing run)
    by_phase known (Saving run) = enters (knowing (counted s v) known) (Saving run)
    by_phase known (Copying run) = enters (knowing (counted s v) known) (Copying run)

    by_all : (known : Known) (all : Bool) → Moves s.asked (told_all_if (knowing (counted s v) known) known all).state
    by_all known true = by_phase known (resumed known)
    by_all known false = inl refl

    by_if : (known : Known) (counting : Bool) → Moves s.asked (state_if s v known counting).state
    by_if known true = by_all known (all_in 2 (counted s v))
    by_if known false = inl refl

    by : (phase : Phase) → Moves s.asked (state_by s v told phase).state
    by (Gathering known) = by_if (learned_if known told (is_among s.view.full v.member)) (counts s v)
    by _ = inl refl

go_on_moves : (s : MasterState) (number at : ℕ) → Moves s.asked (go_on_row s number at).state
unfolding go_on_row
go_on_moves s number at = by _
  where
    by : (own : Bool) → Moves s.asked (go_on_if s at own).state
    by true = inl (listed_asked s at)
    by false = inl refl

-- what was asked for before a signal is asked for by now, before something begins
record Asks (s : MasterState) (state : MasterState) : Type 0 where
  asked : Asked
  global : s.asked.global ≡ true → asked.global ≡ true
  micro : s.asked.micro ≡ true → asked.micro ≡ true
  moves : Moves asked state

the_same : (s state : MasterState) → Moves s.asked state → Asks s state
the_same s state moves = record { asked = s.asked; global = λ e. e; micro = λ e. e; moves = moves }

global_micro : (asked : Asked) (node : ℕ) → (global_asked asked node).micro ≡ asked.micro
global_micro asked node = by (node == 0)
  where
    by : (client : Bool)
        → (if client then record asked { global = true } else record asked { copy = true }).micro ≡ asked.micro
    by true = refl
    by false = refl

global_global : (asked : Asked) (node : ℕ) → asked.global ≡ true → (global_asked asked node).global ≡ true
global_global asked node e = by (node == 0)
  where
    by : (client : Bool)
        → (if client then record asked { global = true } else record asked { copy = true }).global ≡ true
    by true = refl
    by false = e

epoch_asks : (s : MasterState) (v : Voice) (signal : EpochSignal) → Asks s (epoch_table s v signal).state
epoch_asks s v (GcpReq by) =
    record {
      asked = global_asked s.asked v.member.node;
      global = global_global s.asked v.member.node;
      micro = λ e. global_micro s.asked v.member.node ∙ e;
      moves = asked_moves s (global_asked s.asked v.member.node);
    }
epoch_asks s v MicroReq =
    record {
      asked = micro_asked s.asked;
      global = λ e. e;
      micro = λ e. refl;
      moves = asked_moves s (micro_asked s.asked);
    }
epoch_asks s v GcpOrd = the_same s _ (order_moves s)
epoch_asks s v (GcpStateConf current prepared next closed saved durable) =
    let told : Told = record {
      current = current;
      prepared = prepared;
      next = next;
      closed = closed;
      saved = saved;
      durable = durable;
    } in the_same s _ (state_moves s v told)
epoch_asks s v (GcpPrepareConf epoch) = the_same s _ (prepare_moves s v epoch)
epoch_asks s v (GcpNodeFinish epoch) = the_same s _ (finish_moves s v epoch)
epoch_asks s v (GcpClosedConf epoch) = the_same s _ (note_moves s v epoch)
epoch_asks s v (GcpSaveConf epoch) = the_same s _ (save_moves s v epoch)
epoch_asks s v (CopyGciConf epoch) = the_same s _ (copy_moves s v epoch)
epoch_asks s v _ = the_same s s (inl refl)

-- local checkpoints
walk_moves : (s : MasterState) → Moves s.asked (walk_row s).state
unfolding walk_row
walk_moves s = by s.local.stage
  where
    by_if : (first : Bool) → Moves s.asked (walk_if s first).state
    by_if true = inl refl
    by_if false = inl refl

    by : (at : LocalStage) → Moves s.asked (walk_by s at).state
    by stage.Idle = by_if (is_president s.member s.view)
    by _ = inl refl

walked_asks : (s : MasterState) (v : Voice) → Asks s (walked_row s v).state
unfolding walked_row
walked_asks s v = by s.local.stage
  where
    stays : (now : MasterState) → now.asked ≡ s.asked → Asks s now
    stays now same = the_same s now (inl same)

    by_all : (all : Bool) → Asks s (walked_if (counted_local s v) all).state
    by_all true =
        record {
          asked = local_asked s.asked;
          global = λ e. e;
          micro = λ e. e;
          moves = asked_moves (at_stage (counted_local s v) stage.Closing) (local_asked s.asked);
        }
    by_all false = stays (counted_local s v) refl

    by_if : (counting : Bool) → Asks s (hear_walk_if s v counting).state
    by_if true = by_all (all_local (counted_local s v))
    by_if false = stays s refl

    by : (at : LocalStage) → Asks s (walked_by s v at).state
    by stage.Walking = by_if (counts_local s v)
    by _ = stays s refl

switched_moves : (s : MasterState) (v : Voice) → Moves s.asked (switched_row s v).state
unfolding switched_row
switched_moves s v = by s.local.stage
  where
    by_all : (epoch : ℕ) (all : Bool) → Moves s.asked (switched_if (counted_local s v) epoch all).state
    by_all epoch true = inl refl
    by_all epoch false = inl refl

    by_if : (epoch : ℕ) (counting : Bool) → Moves s.asked (hear_switch_if s v epoch counting).state
    by_if epoch true = by_all epoch (all_local (counted_local s v))
    by_if epoch false = inl refl

    by : (at : LocalStage) → Moves s.asked (switched_by s v at).state
    by (stage.Switching epoch) = by_if epoch (counts_local s v)
    by _ = inl refl

local_asks : (s : MasterState) (v : Voice) (signal : CheckpointSignal) → Asks s (local_table s v signal).state
local_asks s v LcpReq = the_same s _ (walk_moves s)
local_asks s v (LcpFragRep epoch) = walked_asks s v
local_asks s v LcpSwitchConf = the_same s _ (switched_moves s v)
local_asks s v _ = the_same s s (inl refl)

asks : (s : MasterState) (v : Voice) (number : ℕ) (body : Body) → Asks s (master_table s v number body).state
asks s v number (Host (Continue Members at)) = the_same s _ (go_on_moves s number at)
asks s v number (Takeover TakeoverEnd) = the_same s _ (takeover_moves s)
asks s v number (Epoch signal) = epoch_asks s v signal
asks s v number (Checkpoint signal) = local_asks s v signal
asks s v number _ = the_same s s (inl refl)

-- what begins takes away what it serves, and nothing else
begun_micro : (before : MasterState) (current : ℕ) → before.asked.micro ≡ true → KeepsMicro (begun before current).state
unfolding begun
begun_micro before current e = by (is_global_asked before.asked) before.asked.micro e
  where
    by_global : (next : Option ℕ) → KeepsMicro (begin_global before current next).state
    by_global None = inl e
    by_global (Some next) = inl e

    by_micro : (next : Option ℕ) → next_micro current ≡ next → KeepsMicro (begin_micro before current next).state
    by_micro None is = inl e
    by_micro (Some next) is =
        inr (record { epoch = current; next = next; copy = false; local = false }, (refl, is))

    by : (global micro : Bool) → micro ≡ true → KeepsMicro (begin_if before current global micro).state
    by true micro m = by_global (next_global current)
    by false true m = by_micro (next_micro current) refl
    by false false m = absurd (false≢true m)

begun_global : (before : MasterState) (current : ℕ) → before.asked.global ≡ true
    → KeepsGlobal (begun before current).state
unfolding begun
begun_global before current e =
    by before.asked.global (before.asked.copy || before.asked.local) before.asked.micro e
  where
    by_global : (next : Option ℕ) → next_global current ≡ next → KeepsGlobal (begin_global before current next).state
    by_global None is = inl e
    by_global (Some next) is =
        inr (record { epoch = current; next = next; copy = before.asked.copy; local = before.asked.local }, (refl, is))

    by : (global other micro : Bool) → global ≡ true
        → KeepsGlobal (begin_if before current (global || other) micro).state
    by true other micro m = by_global (next_global current) refl
    by false other micro m = absurd (false≢true m)

kept_micro : (asked : Asked) (state : MasterState) → Moves asked state → asked.micro ≡ true → KeepsMicro state
kept_micro asked state (inl same) e = inl (ap (λ (a : Asked). a.micro) same ∙ e)
kept_micro asked state (inr b) e = by (begun_micro b.before b.current (ap (λ (a : Asked). a.micro) b.same ∙ e))
  where
    by : KeepsMicro (begun b.before b.current).state → KeepsMicro state
    by (inl kept) = inl (ap (λ (a : Asked). a.micro) b.left ∙ kept)
    by (inr (run, (is, next))) = inr (run, (b.phase ∙ is, next))

kept_global : (asked : Asked) (state : MasterState) → Moves asked state → asked.global ≡ true → KeepsGlobal state
kept_global asked state (inl same) e = inl (ap (λ (a : Asked). a.global) same ∙ e)
kept_global asked state (inr b) e = by (begun_global b.before b.current (ap (λ (a : Asked). a.global) b.same ∙ e))
  where
    by : KeepsGlobal (begun b.before b.current).state → KeepsGlobal state
    by (inl kept) = inl (ap (λ (a : Asked). a.global) b.left ∙ kept)
    by (inr (run, (is, next))) = inr (run, (b.phase ∙ is, next))

pub requests_are_kept : RequestsAreKept
requests_are_kept s x =
    let a = asks s (record { member = x.member; from = x.from }) x.view.number x.body in (
      λ e. kept_global a.asked _ a.moves (a.global e),
      λ e. kept_micro a.asked _ a.moves (a.micro e),
    )
