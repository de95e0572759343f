-- What a master does at something of a closing, while no copying waits for one: it tells the blocks that take something
-- of closings, and none waits then.
use Rattle.std.proofs.Common.{◌≡◌, ◌&&◌, ℕ, Bool, true, false, not, List, ◌∙◌, refl, ap}
use Rattle.std.proofs.lemmas.Bool.{false≢true}
use Rattle.std.specs.Prelude.{◌==◌, is_some, Option, None, Some}
use Rattle.gcp_master.specs.declared.orders.Ended.{Ended}
use Rattle.gcp_master.specs.declared.orders.Ended.TheVariants.{Micro, Global}
use Rattle.gcp_master.specs.declared.orders.Order.{Order}
use Rattle.gcp_master.specs.declared.orders.Order.TheVariants as order
use Rattle.gcp_master.specs.declared.phase.Asked.{Asked}
use Rattle.gcp_master.specs.declared.phase.Phase.{Phase}
use Rattle.gcp_master.specs.declared.phase.Phase.TheVariants as phase
use Rattle.gcp_master.specs.declared.phase.Run.{Run}
use Rattle.gcp_master.specs.declared.voices.Voice.{Voice}
use Rattle.gcp_master.specs.Begin.{begin_global, begin_if, begin_micro, begins, begins_if, begun, is_global_asked}
use Rattle.gcp_master.specs.Closing.{close_if_all, closed_if, copied_if, copy_by, copy_if, copy_row, ended, finish_by}
use Rattle.gcp_master.specs.Closing.{finish_if, finish_row, note_by, note_if, note_row, noted_by, noted_if, prepare_by}
use Rattle.gcp_master.specs.Closing.{prepare_if, prepare_row, prepared_if, save_by, save_if, save_row, saved_if}
use Rattle.gcp_master.specs.Closing.{switching}
use Rattle.gcp_master.specs.Master.{epoch_table, master_row, master_table}
use Rattle.gcp_master.specs.Numbers.{is_first, next_global, next_micro}
use Rattle.gcp_master.specs.Orders.{order_body}
use Rattle.gcp_master.specs.Requests.{asked_by, asked_row, global_asked, micro_asked}
use Rattle.gcp_master.specs.Sends.{entering, front_sends, go_on_if, go_on_row, list_effects, listing, master_sends}
use Rattle.gcp_master.specs.Sends.{order_at, orders_at, phase_sends, to_both, to_copying, to_each, to_switch, told_if}
use Rattle.gcp_master.specs.State.{MasterState, all_in, at_phase, counted, counts}
use Rattle.run_theory.specs.Lists.{Each}
use Rattle.run_theory.proofs.EachSent.{each_drop, each_mapped, each_take}
use Rattle.run_theory.proofs.Pasts.{each_append}
use Rattle.sig_core.specs.declared.mark.Mark.{Mark}
use Rattle.sig_core.specs.declared.mark.Mark.TheVariants as mark
use Rattle.sig_core.specs.declared.member.Member.{Member}
use Rattle.sig_core.specs.declared.outcome.StopCause.TheVariants.{Clock}
use Rattle.sig_core.specs.declared.outs.Outgoing.{Outgoing}
use Rattle.sig_core.specs.declared.place.BlockId.{BlockId}
use Rattle.sig_core.specs.declared.place.BlockId.TheVariants as block
use Rattle.sig_core.specs.declared.portion.TheConstants.{PORTION}
use Rattle.sig_core.specs.declared.signal.Body.{Body}
use Rattle.sig_core.specs.declared.signal.Body.TheVariants.{Host, Epoch}
use Rattle.sig_core.specs.declared.signal.Signal.{Signal}
use Rattle.sig_core.specs.declared.signal.epoch.EpochSignal.{EpochSignal}
use Rattle.sig_core.specs.declared.signal.epoch.EpochSignal.TheVariants as epoch
use Rattle.sig_core.specs.declared.signal.host.HostSignal.TheVariants.{Continue}
use Rattle.sig_core.specs.declared.signal.host.Work.TheVariants.{Members}
use Rattle.sig_core.specs.declared.view.View.{View}
use Rattle.sig_core.specs.Place.{checkpoints}
use Rattle.sig_core.specs.Portion.{portion, rest, rest_if}
use Rattle.sig_core.specs.Step.{Step, stay}
use Rattle.peace_laws.specs.Alike.{IsForNone, IsFrontNear, IsMasterNear, IsPhaseNear}
use Rattle.peace_laws.specs.Peace.{is_for_closing, is_order}
use Rattle.peace_laws.specs.Steps.{asks_master}

-- what a main part may send
abbrev pub Told : Outgoing → Type 0
Told sent = (is_for_closing sent.to.block sent.body ≡ true) × (asks_master sent.body ≡ false)

-- its orders, to each member
orders_told : (to : BlockId) (order : Order) (members : List Member)
    → ((member : Member) → Told (order_at to order member)) → Each Told (orders_at to order members)
orders_told to order members is = each_mapped Told (order_at to order) members is

each_told : (to : BlockId) (order : Order) (view : View) → ((member : Member) → Told (order_at to order member))
    → Each Told (to_each to order view)
unfolding to_each
each_told to order view is =
    each_append Told (orders_at to order view.full) (orders_at to order view.starting)
    (orders_told to order view.full is) (orders_told to order view.starting is)

both_told : (order : Order) (view : View) → ((member : Member) → Told (order_at block.Dih order member))
    → ((member : Member) → Told (order_at block.Lqh order member)) → Each Told (to_both order view)
unfolding to_both
both_told order view epochs rows =
    each_append Told (to_each block.Dih order view) (to_each block.Lqh order view)
    (each_told block.Dih order view epochs) (each_told block.Lqh order view rows)

copying_told : (node epoch : ℕ) (copy : Bool) → copy ≡ false → Each Told (to_copying node epoch copy)
copying_told node epoch false is = tt
copying_told node epoch true is = absurd cc

switching_told : (view : View) (local : Bool) → local ≡ false → Each Told (to_switch view local)
switching_told view false is = tt
switching_told view true is = absurd cc

front_told : (node : ℕ) (view : View) (front : Option Ended) → IsFrontNear front
    → Each Told (front_sends node view front)
unfolding front_sends order_body
front_told node view None is = tt
front_told node view (Some (Micro epoch)) is = ((refl, refl), tt)
front_told node view (Some (Global epoch copy local)) is =
    each_append Told (to_both (order.Done epoch) view) _
    (both_told (order.Done epoch) view (λ member. (refl, refl)) (λ member. (refl, refl))) (
      (refl, refl),
      each_append Told (to_copying node epoch copy) (to_switch view local) (copying_told node epoch copy is.0)
          (switching_told view local is.1),
    )

phase_told : (view : View) (p : Phase) → IsPhaseNear p → Each Told (phase_sends view p)
unfolding phase_sends order_body
phase_told view phase.Unordered is = tt
phase_told view (phase.Gathering known) is = absurd is
phase_told view (phase.Resting current) is = tt
phase_told view (phase.Preparing run) is = each_told block.Dih _ view (λ member. (refl, refl))
phase_told view (phase.Committing run) is = each_told block.Dih _ view (λ member. (refl, refl))
phase_told view (phase.Closing run) is = both_told _ view (λ member. (refl, refl)) (λ member. (refl, refl))
phase_told view (phase.Saving run) is = each_told block.Lqh _ view (λ member. (refl, refl))
phase_told view (phase.Copying run) is = each_told block.Dih _ view (λ member. (refl, refl))

all_told : (s : MasterState) → IsMasterNear s → Each Told (master_sends s)
unfolding master_sends
all_told s near =
    each_append Told (front_sends s.member.node s.view s.front) (phase_sends s.view s.phase)
    (front_told s.member.node s.view s.front near.front) (phase_told s.view s.phase near.phase)

-- a mark of a closing: of the end of an epoch, or that the numbers of epochs are used up
abbrev pub IsClosingMark : Mark → Type 0
IsClosingMark (mark.Stopped Clock) = Unit {0}
IsClosingMark (mark.Closed epoch) = Unit {0}
IsClosingMark (mark.Durable epoch) = Unit {0}
IsClosingMark mark = ⊥

-- a step after which no copying waits, and what it sends
pub record MasterSteps (t : Step MasterState) : Type 0 where
  pub near : IsMasterNear t.state
  pub sends : Each Told t.effects.sends
  pub marks : Each IsClosingMark t.effects.marks

stays : (s : MasterState) → IsMasterNear s → MasterSteps (stay s)
stays s near = record { near = near; sends = tt; marks = tt }

rest_told : (node at : ℕ) (more : Bool) → Each Told (rest_if (checkpoints node) Members at more)
rest_told node at true = ((refl, refl), tt)
rest_told node at false = tt

sends_told : (s : MasterState) (at : ℕ) → IsMasterNear s → Each Told (list_effects s at).sends
unfolding list_effects
sends_told s at near =
    each_append Told (portion (master_sends s) at) (rest (checkpoints s.member.node) Members (master_sends s) at)
    (each_take Told PORTION _ (each_drop Told at (master_sends s) (all_told s near)))
    (rest_told s.member.node at _)

told_near : (s : MasterState) (more : Bool) → IsMasterNear s → IsMasterNear (told_if s more)
told_near s true near = near
told_near s false near = record { phase = near.phase; front = tt; asked = near.asked }

lists : (s : MasterState) (at : ℕ) → IsMasterNear s → MasterSteps (listing s at)
unfolding listing list_effects
lists s at near = record { near = told_near s _ near; sends = sends_told s at near; marks = tt }

enters : (s : MasterState) (p : Phase) → IsMasterNear s → IsPhaseNear p → MasterSteps (entering s p)
enters s p near is = lists (at_phase s p) 0 (record { phase = is; front = tt; asked = near.asked })

-- a closing begins
begun_near : (s : MasterState) (current : ℕ) (global micro : Bool) → IsMasterNear s
    → IsMasterNear (begin_if s current global micro).state
begun_near s current true micro near = by (next_global current)
  where
    by : (next : Option ℕ) → IsMasterNear (begin_global s current next).state
    by None = near
    by (Some next) = record { phase = near.asked; front = near.front; asked = (refl, refl) }
begun_near s current false true near = by (next_micro current)
  where
    by : (next : Option ℕ) → IsMasterNear (begin_micro s current next).state
    by None = near
    by (Some next) = record { phase = (refl, refl); front = near.front; asked = near.asked }
begun_near s current false false near = record { phase = tt; front = near.front; asked = near.asked }

begins_by : (s : MasterState) (spent listed : Bool) → IsMasterNear s → MasterSteps (begins_if s spent listed)
begins_by s true listed near = record { near = near; sends = tt; marks = (tt, tt) }
begins_by s false true near = stays s near
begins_by s false false near = lists s 0 near

begins_near : (s : MasterState) (current : ℕ) (listed : Bool) → IsMasterNear s → MasterSteps (begins s current listed)
unfolding begins begun
begins_near s current listed near =
    begins_by (begun s current).state (begun s current).spent listed
    (begun_near s current (is_global_asked s.asked) s.asked.micro near)

-- one is asked for
asks_by : (s : MasterState) (p : Phase) → IsMasterNear s → MasterSteps (asked_by s p)
asks_by s (phase.Resting current) near = begins_near s current (is_some s.front) near
asks_by s p near = stays s near

asks : (s : MasterState) (asked : Asked) → IsMasterNear s → IsForNone asked.copy asked.local
    → MasterSteps (asked_row s asked)
unfolding asked_row
asks s asked near is =
    asks_by (record s { asked = asked }) s.phase (record { phase = near.phase; front = near.front; asked = is })

global_none : (asked : Asked) (node : ℕ) → node ≡ 0 → IsForNone asked.copy asked.local
    → IsForNone (global_asked asked node).copy (global_asked asked node).local
global_none asked node client none = (
  ap (λ n. (global_asked asked n).copy) client ∙ none.0,
  ap (λ n. (global_asked asked n).local) client ∙ none.1,
)

-- a member confirms
module _ (s : MasterState) (voice : Voice) (near : IsMasterNear s) where
  heard : IsMasterNear (counted s voice)
  heard = record { phase = near.phase; front = near.front; asked = near.asked }

  prepares : (epoch : ℕ) (p : Phase) → IsPhaseNear p → MasterSteps (prepare_by s voice epoch p)
  prepares epoch (phase.Preparing run) is = by (run.epoch == epoch && counts s voice)
    where
      entered : (all : Bool) → MasterSteps (prepared_if (counted s voice) run all)
      entered true = enters (counted s voice) (phase.Committing run) heard is
      entered false = stays (counted s voice) heard

      by : (b : Bool) → MasterSteps (prepare_if s voice run b)
      by true = entered (all_in 1 (counted s voice))
      by false = stays s near
  prepares epoch p is = stays s near

  finishes : (epoch : ℕ) (p : Phase) → IsPhaseNear p → MasterSteps (finish_by s voice epoch p)
  unfolding close_if_all
  finishes epoch (phase.Committing run) is = by (run.epoch == epoch && counts s voice)
    where
      entered : (all : Bool) → MasterSteps (closed_if (counted s voice) run all)
      entered true =
          let step = enters (counted s voice) (phase.Closing run) heard is in
          record { near = step.near; sends = step.sends; marks = (tt, step.marks) }
      entered false = stays (counted s voice) heard

      by : (b : Bool) → MasterSteps (finish_if s voice run b)
      by true = entered (not s.owed && all_in 1 (counted s voice))
      by false = stays s near
  finishes epoch p is = stays s near

  ends : (run : Run) (what : Ended) → IsFrontNear (Some what) → MasterSteps (ended (counted s voice) run what)
  ends run what is =
      begins_near _ run.next false (record { phase = tt; front = is; asked = near.asked })

  ends_global : (run : Run) → IsForNone run.copy run.local
      → MasterSteps (ended (switching (counted s voice) run) run (Global run.epoch run.copy run.local))
  ends_global run is =
      begins_near _ run.next false (record { phase = tt; front = is; asked = near.asked })

  notes : (epoch : ℕ) (p : Phase) → IsPhaseNear p → MasterSteps (note_by s voice epoch p)
  notes epoch (phase.Closing run) is = by (run.epoch == epoch && counts s voice)
    where
      noted : (first : Bool) → MasterSteps (noted_by (counted s voice) run first)
      noted true = enters (counted s voice) (phase.Saving run) heard is
      noted false = ends run (Micro run.epoch) tt

      entered : (all : Bool) → MasterSteps (noted_if (counted s voice) run all)
      entered true = noted (is_first run.next)
      entered false = stays (counted s voice) heard

      by : (b : Bool) → MasterSteps (note_if s voice run b)
      by true = entered (all_in 2 (counted s voice))
      by false = stays s near
  notes epoch p is = stays s near

  saves : (epoch : ℕ) (p : Phase) → IsPhaseNear p → MasterSteps (save_by s voice epoch p)
  saves epoch (phase.Saving run) is = by (run.epoch == epoch && counts s voice)
    where
      entered : (all : Bool) → MasterSteps (saved_if (counted s voice) run all)
      entered true = enters (counted s voice) (phase.Copying run) heard is
      entered false = stays (counted s voice) heard

      by : (b : Bool) → MasterSteps (save_if s voice run b)
      by true = entered (all_in 1 (counted s voice))
      by false = stays s near
  saves epoch p is = stays s near

  copies : (epoch : ℕ) (p : Phase) → IsPhaseNear p → MasterSteps (copy_by s voice epoch p)
  copies epoch (phase.Copying run) is = by (run.epoch == epoch && counts s voice)
    where
      entered : (all : Bool) → MasterSteps (copied_if (counted s voice) run all)
      entered true =
          let step = ends_global run is in
          record { near = step.near; sends = step.sends; marks = (tt, step.marks) }
      entered false = stays (counted s voice) heard

      by : (b : Bool) → MasterSteps (copy_if s voice run b)
      by true = entered (all_in 1 (counted s voice))
      by false = stays s near
  copies epoch p is = stays s near

  by_signal : (signal : EpochSignal) → is_order block.GcpMaster signal ≡ true
      → (asks_master (Epoch signal) ≡ true → voice.member.node ≡ 0) → MasterSteps (epoch_table s voice signal)
  unfolding prepare_row finish_row note_row save_row copy_row
  by_signal (epoch.GcpReq by) is client =
      asks s (global_asked s.asked voice.member.node) near
      (global_none s.asked voice.member.node (client refl) near.asked)
  by_signal epoch.MicroReq is client = asks s (micro_asked s.asked) near near.asked
  by_signal (epoch.GcpPrepareConf closed) is client = prepares closed s.phase near.phase
  by_signal (epoch.GcpNodeFinish closed) is client = finishes closed s.phase near.phase
  by_signal (epoch.GcpClosedConf closed) is client = notes closed s.phase near.phase
  by_signal (epoch.GcpSaveConf closed) is client = saves closed s.phase near.phase
  by_signal (epoch.CopyGciConf closed) is client = copies closed s.phase near.phase
  by_signal signal is client = absurd (false≢true is)

  goes_on : (number at : ℕ) → MasterSteps (go_on_row s number at)
  unfolding go_on_row
  goes_on number at = by _
    where
      by : (b : Bool) → MasterSteps (go_on_if s at b)
      by true = lists s at near
      by false = stays s near

  by_body : (number : ℕ) (body : Body) → is_for_closing block.GcpMaster body ≡ true
      → (asks_master body ≡ true → voice.member.node ≡ 0) → MasterSteps (master_table s voice number body)
  by_body number (Epoch signal) is client = by_signal signal is client
  by_body number (Host (Continue Members at)) is client = goes_on number at
  by_body number body is client = absurd (false≢true is)

-- so at all of it
pub master_steps : (s : MasterState) (x : Signal) → IsMasterNear s → is_for_closing block.GcpMaster x.body ≡ true
    → (asks_master x.body ≡ true → x.member.node ≡ 0) → MasterSteps (master_row s x)
master_steps s x near is client =
    by_body s (record { member = x.member; from = x.from }) near x.view.number x.body is client
