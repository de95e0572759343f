-- What holds of each form of step of a master of checkpoints holds of what it does at each signal.
use Rattle.std.proofs.Common.{◌≡◌, ◌==◌, ◌&&◌, ◌⊎◌, ◌≤◌, ◌<◌, ℕ, Bool, true, false, not, nat_lt, [], refl, ap}
use Rattle.std.proofs.Common.{sym, ◌∙◌, inl, inr, arith, subst}
use Rattle.std.proofs.lemmas.Bool.{and_parts, eqb-true, not-true}
use Rattle.std.proofs.lemmas.Bool.Decides.{nat_tests}
use Rattle.std.specs.Prelude.{if◌then◌else◌, Option, None, Some, is_some}
use Rattle.sig_core.specs.declared.place.BlockId.{BlockId}
use Rattle.sig_core.specs.declared.mark.Mark.TheVariants.{Closed, Durable, Stopped}
use Rattle.sig_core.specs.declared.outcome.StopCause.TheVariants.{Clock}
use Rattle.sig_core.specs.declared.signal.Body.{Body}
use Rattle.sig_core.specs.declared.signal.Body.TheVariants.{Host, Takeover, Epoch, Checkpoint}
use Rattle.sig_core.specs.declared.signal.Signal.{Signal}
use Rattle.sig_core.specs.declared.signal.checkpoint.CheckpointSignal.{CheckpointSignal}
use Rattle.sig_core.specs.declared.signal.checkpoint.CheckpointSignal.TheVariants.{LcpReq, LcpFragRep, LcpSwitchConf}
use Rattle.sig_core.specs.declared.signal.epoch.EpochSignal.{EpochSignal}
use Rattle.sig_core.specs.declared.signal.epoch.EpochSignal.TheVariants.{GcpReq, MicroReq, GcpPrepareConf}
use Rattle.sig_core.specs.declared.signal.epoch.EpochSignal.TheVariants.{GcpNodeFinish, GcpClosedConf, GcpSaveConf}
use Rattle.sig_core.specs.declared.signal.epoch.EpochSignal.TheVariants.{CopyGciConf, GcpOrd, GcpStateConf}
use Rattle.sig_core.specs.declared.signal.host.HostSignal.TheVariants.{Continue}
use Rattle.sig_core.specs.declared.signal.host.Work.TheVariants.{Members}
use Rattle.sig_core.specs.declared.signal.takeover.TakeoverSignal.TheVariants.{TakeoverEnd}
use Rattle.sig_core.specs.declared.place.BlockId.TheVariants.{Lqh}
use Rattle.sig_core.specs.Step.{Step, and_mark, nothing, sends_only, stay}
use Rattle.gcp_master.specs.declared.known.Known.{Known}
use Rattle.gcp_master.specs.declared.known.Told.{Told}
use Rattle.gcp_master.specs.declared.local.LocalStage.{LocalStage}
use Rattle.gcp_master.specs.declared.local.LocalStage.TheVariants as stage
use Rattle.gcp_master.specs.declared.orders.Ended.{Ended}
use Rattle.gcp_master.specs.declared.orders.Ended.TheVariants.{Micro, Global}
use Rattle.gcp_master.specs.declared.orders.Order.TheVariants.{Walk}
use Rattle.gcp_master.specs.declared.phase.Asked.{Asked}
use Rattle.gcp_master.specs.declared.phase.Phase.{Phase}
use Rattle.gcp_master.specs.declared.phase.Phase.TheVariants.{Unordered, Gathering, Resting, Preparing, Committing}
use Rattle.gcp_master.specs.declared.phase.Phase.TheVariants.{Closing, Saving, Copying}
use Rattle.gcp_master.specs.declared.phase.Run.{Run}
use Rattle.gcp_master.specs.declared.sends.TheConstants.{SENDS}
use Rattle.gcp_master.specs.declared.voices.Voice.{Voice}
use Rattle.gcp_master.specs.Begin.{begin_global, begin_if, begin_micro, begins, begins_if, begun, is_global_asked}
use Rattle.gcp_master.specs.Closing.{close_if_all, closed_if, copied_if, copy_by, copy_if, copy_row, finish_by}
use Rattle.gcp_master.specs.Closing.{finish_if, finish_row, note_by, note_if, note_row, noted_by, noted_if, prepare_by}
use Rattle.gcp_master.specs.Closing.{prepare_if, prepare_row, prepared_if, save_by, save_if, save_row, saved_if}
use Rattle.gcp_master.specs.Closing.{switching, takeover_by, takeover_row}
use Rattle.gcp_master.specs.Known.{last_run, nothing_known, resumed}
use Rattle.gcp_master.specs.Local.{all_local, counted_local, counts_local, hear_switch_if, hear_walk_if, local_told}
use Rattle.gcp_master.specs.Local.{switched_by, switched_if, switched_row, walk_by, walk_if, walk_row, walked_by}
use Rattle.gcp_master.specs.Local.{walked_if, walked_row}
use Rattle.gcp_master.specs.Master.{epoch_table, local_table, master_row, master_table, told}
use Rattle.gcp_master.specs.Numbers.{is_first, next_global, next_micro}
use Rattle.gcp_master.specs.Requests.{asked_by, asked_row, global_asked, local_asked, micro_asked}
use Rattle.gcp_master.specs.Resume.{knowing, learned_if, order_by, order_row, resume_at, state_by, state_if, state_row}
use Rattle.gcp_master.specs.Resume.{is_president, told_all_if}
use Rattle.gcp_master.specs.Sends.{entering, go_on_if, go_on_row, listing, marking, orders_at}
use Rattle.gcp_master.specs.State.{MasterState, all_in, at_phase, at_stage, counted, counts}
use Rattle.gcp_master.specs.Voices.{is_among}

-- who sent a signal
abbrev pub voice_of : Signal → Voice
voice_of x = record { member = x.member; from = x.from }

-- what a signal tells
abbrev pub state_body : Told → Body
state_body told = Epoch (GcpStateConf told.current told.prepared told.next told.closed told.saved told.durable)

-- what is known when a block of a member has told this too
abbrev pub known_with : MasterState → Voice → Known → Told → Known
known_with s voice known told = learned_if known told (is_among s.view.full voice.member)

-- no confirmations are counted yet, of what begins here
abbrev pub beginning : MasterState → Phase → Asked → MasterState
beginning s phase asked = record s { phase = phase; asked = asked; voices = [] }

-- what a master that rests in this epoch begins, and what is asked for behind that
pub data Begins (s : MasterState) (current : ℕ) : Phase → Asked → Type 0 where
  a_global : (next : ℕ) → is_global_asked s.asked ≡ true → next_global current ≡ Some next
      → Begins s current
      (Preparing (record { epoch = current; next = next; copy = s.asked.copy; local = s.asked.local }))
      (record { global = false; copy = false; local = false; micro = s.asked.micro })
  a_micro : (next : ℕ) → is_global_asked s.asked ≡ false → s.asked.micro ≡ true → next_micro current ≡ Some next
      → Begins s current (Preparing (record { epoch = current; next = next; copy = false; local = false }))
      (record s.asked { micro = false })
  nothing_asked : is_global_asked s.asked ≡ false → s.asked.micro ≡ false
      → Begins s current (Resting current) s.asked

-- the number that is to follow is used up
pub data IsSpent (s : MasterState) (current : ℕ) : Type 0 where
  no_global : is_global_asked s.asked ≡ true → next_global current ≡ None → IsSpent s current
  no_micro : is_global_asked s.asked ≡ false → s.asked.micro ≡ true → next_micro current ≡ None → IsSpent s current

-- the host stops
abbrev pub stopping : MasterState → Step MasterState
stopping s = record { state = s; effects = and_mark nothing (Stopped Clock) }

-- a master that rests in this epoch begins what is asked for, behind a list that is under way or at once
pub record BeginOutcomes (s : MasterState) (current : ℕ) (behind : Bool) (R : Step MasterState → Type 0) : Type 0 where
  pub stops : IsSpent s current → R (stopping s)
  pub follows : (phase : Phase) (asked : Asked) → Begins s current phase asked → behind ≡ true
      → R (stay (beginning s phase asked))
  pub begins : (phase : Phase) (asked : Asked) → Begins s current phase asked → behind ≡ false
      → R (listing (beginning s phase asked) 0)

-- where a master goes on by what all have told: it begins the last order anew, commits it, or writes its system file
pub data Resumes (known : Known) : Phase → Type 0 where
  to_prepare : known.greatest < known.next → Resumes known (Preparing (last_run known))
  to_commit : known.next ≤ known.greatest → Resumes known (Committing (last_run known))
  to_copy : known.next ≤ known.greatest → known.next ≤ known.least → Resumes known (Copying (last_run known))

-- the signal asks for a closing, and this is asked for then
pub data IsAsked (s : MasterState) (x : Signal) : Asked → Type 0 where
  for_global : (by : BlockId) → x.body ≡ Epoch (GcpReq by) → IsAsked s x (global_asked s.asked x.member.node)
  for_micro : x.body ≡ Epoch MicroReq → IsAsked s x (micro_asked s.asked)

-- a closing has ended: its master rests in the epoch that follows, and is to tell of it
abbrev pub at_end : MasterState → Run → Ended → MasterState
at_end s run what = record (at_phase s (Resting run.next)) { front = Some what }

-- no takeover is owed any more
abbrev pub not_owing : MasterState → MasterState
not_owing s = record s { owed = false }

abbrev pub heard_one : MasterState → Signal → MasterState
heard_one s x = counted s (voice_of x)

-- the rows of a member have confirmed what a local checkpoint ordered
abbrev pub heard_local : MasterState → Signal → MasterState
heard_local s x = counted_local s (voice_of x)

-- the rows of the full members are to write what they have
abbrev pub walking : MasterState → Step MasterState
walking s = record { state = at_stage s stage.Walking; effects = sends_only (orders_at Lqh Walk s.view.full) }

-- they have, and a global checkpoint is asked for
abbrev pub have_walked : MasterState → MasterState
have_walked s = record (at_stage s stage.Closing) { asked = local_asked s.asked }

-- the client is told that they have switched
abbrev pub telling_local : MasterState → ℕ → Step MasterState
telling_local s epoch = record { state = at_stage s stage.Idle; effects = sends_only (local_told epoch) }

-- a checkpoint is durable: where a local one asked for it the rows are to switch
abbrev pub at_durable : MasterState → Run → MasterState
at_durable s run = at_end (switching s run) run (Global run.epoch run.copy run.local)

-- R is of each step that the master may take at the signal
pub record MasterOutcomes (s : MasterState) (x : Signal) (R : Step MasterState → Type 0) : Type 0 where
  -- the signal is for others, doesn't fit the phase, or comes from who was heard, or isn't in the view
  pub stays : R (stay s)
  -- it goes on with its list
  pub goes_on : (at : ℕ) → x.body ≡ Host (Continue Members at) → (x.view.number == s.view.number) ≡ true
      → nat_lt at SENDS ≡ true → R (listing s at)
  -- a closing is asked for, while another is under way, and while none is
  pub asks : (asked : Asked) → IsAsked s x asked → R (stay (record s { asked = asked }))
  pub asks_resting : (asked : Asked) (current : ℕ) → IsAsked s x asked → s.phase ≡ Resting current
      → BeginOutcomes (record s { asked = asked }) current (is_some s.front) R
  -- it is ordered to go on
  pub is_ordered : x.body ≡ Epoch GcpOrd → s.phase ≡ Unordered → R (entering s (Gathering nothing_known))
  -- a block tells how far it is, the last one or not
  pub learns : (known : Known) (t : Told) → x.body ≡ state_body t → s.phase ≡ Gathering known
      → counts s (voice_of x) ≡ true → all_in 2 (heard_one s x) ≡ false
      → R (stay (knowing (heard_one s x) (known_with s (voice_of x) known t)))
  pub resumes : (known : Known) (t : Told) (phase : Phase) → x.body ≡ state_body t → s.phase ≡ Gathering known
      → counts s (voice_of x) ≡ true → all_in 2 (heard_one s x) ≡ true
      → resumed (known_with s (voice_of x) known t) ≡ phase → Resumes (known_with s (voice_of x) known t) phase
      → R (entering (knowing (heard_one s x) (known_with s (voice_of x) known t)) phase)
  pub resumes_resting : (known : Known) (t : Told) → x.body ≡ state_body t → s.phase ≡ Gathering known
      → counts s (voice_of x) ≡ true → all_in 2 (heard_one s x) ≡ true
      → (known_with s (voice_of x) known t).next ≤ (known_with s (voice_of x) known t).greatest
      → (known_with s (voice_of x) known t).next ≤ (known_with s (voice_of x) known t).least
      → BeginOutcomes (knowing (heard_one s x) (known_with s (voice_of x) known t))
      (known_with s (voice_of x) known t).next false R
  -- a member has prepared, the last one or not
  pub prepares : (run : Run) → x.body ≡ Epoch (GcpPrepareConf run.epoch) → s.phase ≡ Preparing run
      → counts s (voice_of x) ≡ true → all_in 1 (heard_one s x) ≡ false → R (stay (heard_one s x))
  pub commits : (run : Run) → x.body ≡ Epoch (GcpPrepareConf run.epoch) → s.phase ≡ Preparing run
      → counts s (voice_of x) ≡ true → all_in 1 (heard_one s x) ≡ true
      → R (entering (heard_one s x) (Committing run))
  -- a member has ended what has the epoch, or a takeover has ended, the last one or not
  pub finishes : (run : Run) → x.body ≡ Epoch (GcpNodeFinish run.epoch) → s.phase ≡ Committing run
      → counts s (voice_of x) ≡ true → (not s.owed && all_in 1 (heard_one s x)) ≡ false → R (stay (heard_one s x))
  pub closes : (run : Run) → x.body ≡ Epoch (GcpNodeFinish run.epoch) → s.phase ≡ Committing run
      → counts s (voice_of x) ≡ true → s.owed ≡ false → all_in 1 (heard_one s x) ≡ true
      → R (marking (Closed run.epoch) (entering (heard_one s x) (Closing run)))
  pub is_over : x.body ≡ Takeover TakeoverEnd → R (stay (not_owing s))
  pub closes_over : (run : Run) → x.body ≡ Takeover TakeoverEnd → s.phase ≡ Committing run
      → all_in 1 (not_owing s) ≡ true → R (marking (Closed run.epoch) (entering (not_owing s) (Closing run)))
  -- a block has noted that the epoch is closed, the last one or not: a checkpoint goes on, a micro closing has ended
  pub notes : (run : Run) → x.body ≡ Epoch (GcpClosedConf run.epoch) → s.phase ≡ Closing run
      → counts s (voice_of x) ≡ true → all_in 2 (heard_one s x) ≡ false → R (stay (heard_one s x))
  pub goes_saving : (run : Run) → x.body ≡ Epoch (GcpClosedConf run.epoch) → s.phase ≡ Closing run
      → counts s (voice_of x) ≡ true → all_in 2 (heard_one s x) ≡ true → is_first run.next ≡ true
      → R (entering (heard_one s x) (Saving run))
  pub ends_micro : (run : Run) → x.body ≡ Epoch (GcpClosedConf run.epoch) → s.phase ≡ Closing run
      → counts s (voice_of x) ≡ true → all_in 2 (heard_one s x) ≡ true → is_first run.next ≡ false
      → BeginOutcomes (at_end (heard_one s x) run (Micro run.epoch)) run.next false R
  -- a member has saved, and has written its system file, the last one or not
  pub saves : (run : Run) → x.body ≡ Epoch (GcpSaveConf run.epoch) → s.phase ≡ Saving run
      → counts s (voice_of x) ≡ true → all_in 1 (heard_one s x) ≡ false → R (stay (heard_one s x))
  pub goes_copying : (run : Run) → x.body ≡ Epoch (GcpSaveConf run.epoch) → s.phase ≡ Saving run
      → counts s (voice_of x) ≡ true → all_in 1 (heard_one s x) ≡ true
      → R (entering (heard_one s x) (Copying run))
  pub copies : (run : Run) → x.body ≡ Epoch (CopyGciConf run.epoch) → s.phase ≡ Copying run
      → counts s (voice_of x) ≡ true → all_in 1 (heard_one s x) ≡ false → R (stay (heard_one s x))
  pub ends_global : (run : Run) → x.body ≡ Epoch (CopyGciConf run.epoch) → s.phase ≡ Copying run
      → counts s (voice_of x) ≡ true → all_in 1 (heard_one s x) ≡ true
      → BeginOutcomes (at_durable (heard_one s x) run) run.next false (λ step. R (marking (Durable run.epoch) step))
  -- a local checkpoint is asked for, of the president, while none is under way
  pub walks : x.body ≡ Checkpoint LcpReq → s.local.stage ≡ stage.Idle → is_president s.member s.view ≡ true
      → R (walking s)
  -- the rows of a member have written what they had, the last ones or not: then a global checkpoint is asked for, while
  -- another is under way, and while none is
  pub hears_walk : (epoch : ℕ) → x.body ≡ Checkpoint (LcpFragRep epoch) → s.local.stage ≡ stage.Walking
      → counts_local s (voice_of x) ≡ true → all_local (heard_local s x) ≡ false → R (stay (heard_local s x))
  pub asks_walked : (epoch : ℕ) → x.body ≡ Checkpoint (LcpFragRep epoch) → s.local.stage ≡ stage.Walking
      → counts_local s (voice_of x) ≡ true → all_local (heard_local s x) ≡ true → R (stay (have_walked s))
  pub asks_walked_resting : (epoch current : ℕ) → x.body ≡ Checkpoint (LcpFragRep epoch)
      → s.local.stage ≡ stage.Walking → counts_local s (voice_of x) ≡ true → all_local (heard_local s x) ≡ true
      → s.phase ≡ Resting current → BeginOutcomes (have_walked s) current (is_some s.front) R
  -- they have switched, the last ones or not
  pub hears_switch : (epoch : ℕ) → x.body ≡ Checkpoint LcpSwitchConf → s.local.stage ≡ stage.Switching epoch
      → counts_local s (voice_of x) ≡ true → all_local (heard_local s x) ≡ false → R (stay (heard_local s x))
  pub ends_local : (epoch : ℕ) → x.body ≡ Checkpoint LcpSwitchConf → s.local.stage ≡ stage.Switching epoch
      → counts_local s (voice_of x) ≡ true → all_local (heard_local s x) ≡ true → R (telling_local s epoch)

pub begins_outcomes : (s : MasterState) (current : ℕ) (behind : Bool) (R : Step MasterState → Type 0)
    → BeginOutcomes s current behind R → R (begins s current behind)
unfolding begins begun
begins_outcomes s current behind R forms = by (is_global_asked s.asked) refl s.asked.micro refl
  where
    begun_by : (phase : Phase) (asked : Asked) → Begins s current phase asked → (b : Bool) → behind ≡ b
        → R (begins_if (beginning s phase asked) false b)
    begun_by phase asked is true behind_it = forms.follows phase asked is behind_it
    begun_by phase asked is false at_once = forms.begins phase asked is at_once

    global : is_global_asked s.asked ≡ true → (o : Option ℕ) → next_global current ≡ o
        → R (begins_if (begin_global s current o).state (begin_global s current o).spent behind)
    global wanted None is = forms.stops (no_global wanted is)
    global wanted (Some next) is = begun_by _ _ (a_global next wanted is) behind refl

    micro : is_global_asked s.asked ≡ false → s.asked.micro ≡ true → (o : Option ℕ) → next_micro current ≡ o
        → R (begins_if (begin_micro s current o).state (begin_micro s current o).spent behind)
    micro other wanted None is = forms.stops (no_micro other wanted is)
    micro other wanted (Some next) is = begun_by _ _ (a_micro next other wanted is) behind refl

    by : (b : Bool) → is_global_asked s.asked ≡ b → (c : Bool) → s.asked.micro ≡ c
        → R (begins_if (begin_if s current b c).state (begin_if s current b c).spent behind)
    by true wanted c is = global wanted (next_global current) refl
    by false none true wanted = micro none wanted (next_micro current) refl
    by false none false nor = begun_by _ _ (nothing_asked none nor) behind refl

below : (one other : ℕ) → nat_lt one other ≡ true → one < other
below one other e = grind (arith, nat_tests)

not_below : (one other : ℕ) → nat_lt one other ≡ false → other ≤ one
not_below one other e = grind (arith, nat_tests)

-- where all have told the master goes on so, or has nothing to go on with
pub resumed_is : (known : Known)
    → Resumes known (resumed known)
    ⊎ ((resumed known ≡ Resting known.next) × ((known.next ≤ known.greatest) × (known.next ≤ known.least)))
resumed_is known =
    by (nat_lt known.greatest known.next) refl (nat_lt known.least known.next) refl (nat_lt known.closed known.epoch)
    (is_first known.next && nat_lt known.saved known.epoch) (is_first known.next && nat_lt known.durable known.epoch)
  where
    chosen : (none some noted saved durable : Bool) → Phase
    chosen none some noted saved durable =
        if none then Preparing (last_run known)
        else if some then Committing (last_run known)
        else if noted then Committing (last_run known)
        else if saved then Committing (last_run known)
        else if durable then Copying (last_run known)
        else Resting known.next

    by : (none : Bool) → nat_lt known.greatest known.next ≡ none → (some : Bool)
        → nat_lt known.least known.next ≡ some → (noted saved durable : Bool)
        → Resumes known (chosen none some noted saved durable)
        ⊎ ((chosen none some noted saved durable ≡ Resting known.next)
        × ((known.next ≤ known.greatest) × (known.next ≤ known.least)))
    by true e some f noted saved durable = inl (to_prepare (below _ _ e))
    by false e true f noted saved durable = inl (to_commit (not_below _ _ e))
    by false e false f true saved durable = inl (to_commit (not_below _ _ e))
    by false e false f false true durable = inl (to_commit (not_below _ _ e))
    by false e false f false false true = inl (to_copy (not_below _ _ e) (not_below _ _ f))
    by false e false f false false false = inr (refl, (not_below _ _ e, not_below _ _ f))

module _ (s : MasterState) (x : Signal) (R : Step MasterState → Type 0) (forms : MasterOutcomes s x R) where
  abbrev voice : Voice
  voice = voice_of x

  went_on : (at : ℕ) → x.body ≡ Host (Continue Members at) → R (go_on_row s x.view.number at)
  unfolding go_on_row
  went_on at is = by (x.view.number == s.view.number && nat_lt at SENDS) refl
    where
      by : (b : Bool) → (x.view.number == s.view.number && nat_lt at SENDS) ≡ b → R (go_on_if s at b)
      by true on =
          let parts = and_parts (x.view.number == s.view.number) (nat_lt at SENDS) on in
          forms.goes_on at is parts.0 parts.1
      by false off = forms.stays

  asked_for : (asked : Asked) → IsAsked s x asked → R (asked_row s asked)
  unfolding asked_row
  asked_for asked is = by s.phase refl
    where
      by : (phase : Phase) → s.phase ≡ phase → R (asked_by (record s { asked = asked }) phase)
      by (Resting current) at =
          begins_outcomes (record s { asked = asked }) current (is_some s.front) R
          (forms.asks_resting asked current is at)
      by _ at = forms.asks asked is

  ordered : x.body ≡ Epoch GcpOrd → R (order_row s)
  unfolding order_row
  ordered is = by s.phase refl
    where
      by : (phase : Phase) → s.phase ≡ phase → R (order_by s phase)
      by Unordered at = forms.is_ordered is at
      by _ at = forms.stays

  told_by : (t : Told) → x.body ≡ state_body t → R (state_row s voice t)
  unfolding state_row
  told_by t is = by s.phase refl
    where
      resumes : (known : Known) → s.phase ≡ Gathering known → counts s voice ≡ true
          → all_in 2 (heard_one s x) ≡ true → (phase : Phase) → resumed (known_with s voice known t) ≡ phase
          → Resumes (known_with s voice known t) phase
          ⊎ ((phase ≡ Resting (known_with s voice known t).next)
          × (((known_with s voice known t).next ≤ (known_with s voice known t).greatest)
          × ((known_with s voice known t).next ≤ (known_with s voice known t).least)))
          → R (resume_at (knowing (heard_one s x) (known_with s voice known t)) phase)
      resumes known at on all _ same (inl (to_prepare low)) =
          forms.resumes known t _ is at on all same (to_prepare low)
      resumes known at on all _ same (inl (to_commit most)) =
          forms.resumes known t _ is at on all same (to_commit most)
      resumes known at on all _ same (inl (to_copy most least)) =
          forms.resumes known t _ is at on all same (to_copy most least)
      resumes known at on all phase same (inr (rests, (most, least))) =
          subst (λ phase. R (resume_at (knowing (heard_one s x) (known_with s voice known t)) phase)) (sym rests)
          (begins_outcomes (knowing (heard_one s x) (known_with s voice known t)) (known_with s voice known t).next
          false R (forms.resumes_resting known t is at on all most least))

      all_told : (known : Known) → s.phase ≡ Gathering known → counts s voice ≡ true → (b : Bool)
          → all_in 2 (heard_one s x) ≡ b
          → R (told_all_if (knowing (heard_one s x) (known_with s voice known t)) (known_with s voice known t) b)
      all_told known at on true all =
          resumes known at on all (resumed (known_with s voice known t)) refl
          (resumed_is (known_with s voice known t))
      all_told known at on false some = forms.learns known t is at on some

      heard : (known : Known) → s.phase ≡ Gathering known → (b : Bool) → counts s voice ≡ b
          → R (state_if s voice (known_with s voice known t) b)
      heard known at true on = all_told known at on (all_in 2 (heard_one s x)) refl
      heard known at false off = forms.stays

      by : (phase : Phase) → s.phase ≡ phase → R (state_by s voice t phase)
      by (Gathering known) at = heard known at (counts s voice) refl
      by _ at = forms.stays

  -- a confirmation of this epoch counts
  named : (run : Run) (epoch : ℕ) → (run.epoch == epoch && counts s voice) ≡ true → epoch ≡ run.epoch
  named run epoch on = sym (eqb-true run.epoch epoch (and_parts (run.epoch == epoch) (counts s voice) on).0)

  fresh : (run : Run) (epoch : ℕ) → (run.epoch == epoch && counts s voice) ≡ true → counts s voice ≡ true
  fresh run epoch on = (and_parts (run.epoch == epoch) (counts s voice) on).1

  prepared : (epoch : ℕ) → x.body ≡ Epoch (GcpPrepareConf epoch) → R (prepare_row s voice epoch)
  unfolding prepare_row
  prepared epoch is = by s.phase refl
    where
      all : (run : Run) → x.body ≡ Epoch (GcpPrepareConf run.epoch) → s.phase ≡ Preparing run
          → counts s voice ≡ true → (b : Bool) → all_in 1 (heard_one s x) ≡ b → R (prepared_if (heard_one s x) run b)
      all run own at on true each = forms.commits run own at on each
      all run own at on false some = forms.prepares run own at on some

      heard : (run : Run) → s.phase ≡ Preparing run → (b : Bool) → (run.epoch == epoch && counts s voice) ≡ b
          → R (prepare_if s voice run b)
      heard run at true on =
          all run (is ∙ ap (λ n. Epoch (GcpPrepareConf n)) (named run epoch on)) at (fresh run epoch on)
          (all_in 1 (heard_one s x)) refl
      heard run at false off = forms.stays

      by : (phase : Phase) → s.phase ≡ phase → R (prepare_by s voice epoch phase)
      by (Preparing run) at = heard run at (run.epoch == epoch && counts s voice) refl
      by _ at = forms.stays

  finished : (epoch : ℕ) → x.body ≡ Epoch (GcpNodeFinish epoch) → R (finish_row s voice epoch)
  unfolding finish_row close_if_all
  finished epoch is = by s.phase refl
    where
      all : (run : Run) → x.body ≡ Epoch (GcpNodeFinish run.epoch) → s.phase ≡ Committing run
          → counts s voice ≡ true → (b : Bool) → (not s.owed && all_in 1 (heard_one s x)) ≡ b
          → R (closed_if (heard_one s x) run b)
      all run own at on true each =
          let parts = and_parts (not s.owed) (all_in 1 (heard_one s x)) each in
          forms.closes run own at on (not-true s.owed parts.0) parts.1
      all run own at on false some = forms.finishes run own at on some

      heard : (run : Run) → s.phase ≡ Committing run → (b : Bool) → (run.epoch == epoch && counts s voice) ≡ b
          → R (finish_if s voice run b)
      heard run at true on =
          all run (is ∙ ap (λ n. Epoch (GcpNodeFinish n)) (named run epoch on)) at (fresh run epoch on)
          (not s.owed && all_in 1 (heard_one s x)) refl
      heard run at false off = forms.stays

      by : (phase : Phase) → s.phase ≡ phase → R (finish_by s voice epoch phase)
      by (Committing run) at = heard run at (run.epoch == epoch && counts s voice) refl
      by _ at = forms.stays

  over : x.body ≡ Takeover TakeoverEnd → R (takeover_row s)
  unfolding takeover_row close_if_all
  over is = by s.phase refl
    where
      all : (run : Run) → s.phase ≡ Committing run → (b : Bool) → (true && all_in 1 (not_owing s)) ≡ b
          → R (closed_if (not_owing s) run b)
      all run at true each = forms.closes_over run is at each
      all run at false some = forms.is_over is

      by : (phase : Phase) → s.phase ≡ phase → R (takeover_by (not_owing s) phase)
      by (Committing run) at = all run at (true && all_in 1 (not_owing s)) refl
      by _ at = forms.is_over is

  noted : (epoch : ℕ) → x.body ≡ Epoch (GcpClosedConf epoch) → R (note_row s voice epoch)
  unfolding note_row
  noted epoch is = by s.phase refl
    where
      first : (run : Run) → x.body ≡ Epoch (GcpClosedConf run.epoch) → s.phase ≡ Closing run
          → counts s voice ≡ true → all_in 2 (heard_one s x) ≡ true → (b : Bool) → is_first run.next ≡ b
          → R (noted_by (heard_one s x) run b)
      first run own at on all true global = forms.goes_saving run own at on all global
      first run own at on all false micro =
          begins_outcomes (at_end (heard_one s x) run (Micro run.epoch)) run.next false R
          (forms.ends_micro run own at on all micro)

      all : (run : Run) → x.body ≡ Epoch (GcpClosedConf run.epoch) → s.phase ≡ Closing run
          → counts s voice ≡ true → (b : Bool) → all_in 2 (heard_one s x) ≡ b → R (noted_if (heard_one s x) run b)
      all run own at on true each = first run own at on each (is_first run.next) refl
      all run own at on false some = forms.notes run own at on some

      heard : (run : Run) → s.phase ≡ Closing run → (b : Bool) → (run.epoch == epoch && counts s voice) ≡ b
          → R (note_if s voice run b)
      heard run at true on =
          all run (is ∙ ap (λ n. Epoch (GcpClosedConf n)) (named run epoch on)) at (fresh run epoch on)
          (all_in 2 (heard_one s x)) refl
      heard run at false off = forms.stays

      by : (phase : Phase) → s.phase ≡ phase → R (note_by s voice epoch phase)
      by (Closing run) at = heard run at (run.epoch == epoch && counts s voice) refl
      by _ at = forms.stays

  saved : (epoch : ℕ) → x.body ≡ Epoch (GcpSaveConf epoch) → R (save_row s voice epoch)
  unfolding save_row
  saved epoch is = by s.phase refl
    where
      all : (run : Run) → x.body ≡ Epoch (GcpSaveConf run.epoch) → s.phase ≡ Saving run → counts s voice ≡ true
          → (b : Bool) → all_in 1 (heard_one s x) ≡ b → R (saved_if (heard_one s x) run b)
      all run own at on true each = forms.goes_copying run own at on each
      all run own at on false some = forms.saves run own at on some

      heard : (run : Run) → s.phase ≡ Saving run → (b : Bool) → (run.epoch == epoch && counts s voice) ≡ b
          → R (save_if s voice run b)
      heard run at true on =
          all run (is ∙ ap (λ n. Epoch (GcpSaveConf n)) (named run epoch on)) at (fresh run epoch on)
          (all_in 1 (heard_one s x)) refl
      heard run at false off = forms.stays

      by : (phase : Phase) → s.phase ≡ phase → R (save_by s voice epoch phase)
      by (Saving run) at = heard run at (run.epoch == epoch && counts s voice) refl
      by _ at = forms.stays

  copied : (epoch : ℕ) → x.body ≡ Epoch (CopyGciConf epoch) → R (copy_row s voice epoch)
  unfolding copy_row
  copied epoch is = by s.phase refl
    where
      all : (run : Run) → x.body ≡ Epoch (CopyGciConf run.epoch) → s.phase ≡ Copying run → counts s voice ≡ true
          → (b : Bool) → all_in 1 (heard_one s x) ≡ b → R (copied_if (heard_one s x) run b)
      all run own at on true each =
          begins_outcomes (at_durable (heard_one s x) run) run.next false
          (λ step. R (marking (Durable run.epoch) step)) (forms.ends_global run own at on each)
      all run own at on false some = forms.copies run own at on some

      heard : (run : Run) → s.phase ≡ Copying run → (b : Bool) → (run.epoch == epoch && counts s voice) ≡ b
          → R (copy_if s voice run b)
      heard run at true on =
          all run (is ∙ ap (λ n. Epoch (CopyGciConf n)) (named run epoch on)) at (fresh run epoch on)
          (all_in 1 (heard_one s x)) refl
      heard run at false off = forms.stays

      by : (phase : Phase) → s.phase ≡ phase → R (copy_by s voice epoch phase)
      by (Copying run) at = heard run at (run.epoch == epoch && counts s voice) refl
      by _ at = forms.stays

  walks_for : x.body ≡ Checkpoint LcpReq → R (walk_row s)
  unfolding walk_row
  walks_for is = by s.local.stage refl
    where
      asked : s.local.stage ≡ stage.Idle → (b : Bool) → is_president s.member s.view ≡ b → R (walk_if s b)
      asked at true first = forms.walks is at first
      asked at false other = forms.stays

      by : (at : LocalStage) → s.local.stage ≡ at → R (walk_by s at)
      by stage.Idle at = asked at (is_president s.member s.view) refl
      by _ at = forms.stays

  walked : (epoch : ℕ) → x.body ≡ Checkpoint (LcpFragRep epoch) → R (walked_row s voice)
  unfolding walked_row asked_row
  walked epoch is = by s.local.stage refl
    where
      asked : s.local.stage ≡ stage.Walking → counts_local s voice ≡ true → all_local (heard_local s x) ≡ true
          → (phase : Phase) → s.phase ≡ phase → R (asked_by (have_walked s) phase)
      asked at on all (Resting current) rests =
          begins_outcomes (have_walked s) current (is_some s.front) R
          (forms.asks_walked_resting epoch current is at on all rests)
      asked at on all _ rests = forms.asks_walked epoch is at on all

      every : s.local.stage ≡ stage.Walking → counts_local s voice ≡ true → (b : Bool)
          → all_local (heard_local s x) ≡ b → R (walked_if (heard_local s x) b)
      every at on true all = asked at on all s.phase refl
      every at on false some = forms.hears_walk epoch is at on some

      heard : s.local.stage ≡ stage.Walking → (b : Bool) → counts_local s voice ≡ b → R (hear_walk_if s voice b)
      heard at true on = every at on (all_local (heard_local s x)) refl
      heard at false off = forms.stays

      by : (at : LocalStage) → s.local.stage ≡ at → R (walked_by s voice at)
      by stage.Walking at = heard at (counts_local s voice) refl
      by _ at = forms.stays

  switched : x.body ≡ Checkpoint LcpSwitchConf → R (switched_row s voice)
  unfolding switched_row
  switched is = by s.local.stage refl
    where
      every : (epoch : ℕ) → s.local.stage ≡ stage.Switching epoch → counts_local s voice ≡ true → (b : Bool)
          → all_local (heard_local s x) ≡ b → R (switched_if (heard_local s x) epoch b)
      every epoch at on true all = forms.ends_local epoch is at on all
      every epoch at on false some = forms.hears_switch epoch is at on some

      heard : (epoch : ℕ) → s.local.stage ≡ stage.Switching epoch → (b : Bool) → counts_local s voice ≡ b
          → R (hear_switch_if s voice epoch b)
      heard epoch at true on = every epoch at on (all_local (heard_local s x)) refl
      heard epoch at false off = forms.stays

      by : (at : LocalStage) → s.local.stage ≡ at → R (switched_by s voice at)
      by (stage.Switching epoch) at = heard epoch at (counts_local s voice) refl
      by _ at = forms.stays

  takes_locals : (signal : CheckpointSignal) → x.body ≡ Checkpoint signal → R (local_table s voice signal)
  takes_locals LcpReq is = walks_for is
  takes_locals (LcpFragRep epoch) is = walked epoch is
  takes_locals LcpSwitchConf is = switched is
  takes_locals _ is = forms.stays

  takes_epochs : (signal : EpochSignal) → x.body ≡ Epoch signal → R (epoch_table s voice signal)
  takes_epochs (GcpReq by) is = asked_for (global_asked s.asked x.member.node) (for_global by is)
  takes_epochs MicroReq is = asked_for (micro_asked s.asked) (for_micro is)
  takes_epochs GcpOrd is = ordered is
  takes_epochs (GcpStateConf current prepared next closed saved durable) is =
      told_by (told current prepared next closed saved durable) is
  takes_epochs (GcpPrepareConf epoch) is = prepared epoch is
  takes_epochs (GcpNodeFinish epoch) is = finished epoch is
  takes_epochs (GcpClosedConf epoch) is = noted epoch is
  takes_epochs (GcpSaveConf epoch) is = saved epoch is
  takes_epochs (CopyGciConf epoch) is = copied epoch is
  takes_epochs _ is = forms.stays

  takes : (body : Body) → x.body ≡ body → R (master_table s voice x.view.number body)
  takes (Host (Continue Members at)) is = went_on at is
  takes (Takeover TakeoverEnd) is = over is
  takes (Epoch signal) is = takes_epochs signal is
  takes (Checkpoint signal) is = takes_locals signal is
  takes _ is = forms.stays

-- whatever it takes
pub master_outcomes : (s : MasterState) (x : Signal) (R : Step MasterState → Type 0) → MasterOutcomes s x R
    → R (master_row s x)
master_outcomes s x R forms = takes s x R forms x.body refl
