-- A closing that is under way: what is true of it at each moment.
use Rattle.std.specs.Prelude.{◌≡◌, ◌≤◌, ◌<◌, ◌⊎◌, ℕ, zero, suc, ◌+◌, Bool, true, false, not, List, [], ◌∷◌, ◌++◌}
use Rattle.std.specs.Prelude.{length, drop, None, Some}
use Rattle.api_views.specs.declared.closings.Closing.{Closing}
use Rattle.api_views.specs.declared.closings.Closing.TheVariants.{Gcp, Micro}
use Rattle.api_views.specs.Closings.{closed_reply}
use Rattle.api_views.specs.State.{ClientState}
use Rattle.dih_node.specs.State.{DihState}
use Rattle.frag_map.specs.Replicas.{first_start}
use Rattle.gcp_master.specs.declared.orders.Ended.{Ended}
use Rattle.gcp_master.specs.declared.orders.Ended.TheVariants as ended
use Rattle.gcp_master.specs.declared.orders.Order.{Order}
use Rattle.gcp_master.specs.declared.orders.Order.TheVariants as order
use Rattle.gcp_master.specs.declared.phase.Phase.{Phase}
use Rattle.gcp_master.specs.declared.phase.Phase.TheVariants as phase
use Rattle.gcp_master.specs.declared.phase.Run.{Run}
use Rattle.gcp_master.specs.declared.voices.Voice.{Voice}
use Rattle.gcp_master.specs.Orders.{mask_of}
use Rattle.gcp_master.specs.Sends.{master_sends, order_at}
use Rattle.gcp_master.specs.State.{MasterState, all_in}
use Rattle.gcp_master.specs.Voices.{is_heard, is_of}
use Rattle.node_views.specs.declared.main_part.MainPart.{MainPart}
use Rattle.node_views.specs.declared.parts.Parts.{Parts}
use Rattle.node_views.specs.declared.parts.Parts.TheVariants.{Shell, Main, Tc}
use Rattle.run_theory.specs.Counts.{one_if}
use Rattle.run_theory.specs.Lists.{Each, IsIn}
use Rattle.sig_core.specs.declared.outs.Outgoing.{Outgoing}
use Rattle.sig_core.specs.declared.place.BlockId.{BlockId}
use Rattle.sig_core.specs.declared.place.BlockId.TheVariants as block
use Rattle.sig_core.specs.declared.signal.Body.TheVariants.{Epoch}
use Rattle.sig_core.specs.declared.signal.epoch.EpochSignal.{EpochSignal}
use Rattle.sig_core.specs.declared.signal.epoch.EpochSignal.TheVariants as signal
use Rattle.sig_core.specs.declared.signal.host.Work.TheVariants.{Members}
use Rattle.sig_core.specs.Place.{checkpoints, client}
use Rattle.sig_core.specs.Portion.{go_on_at}
use Rattle.sig_core.specs.Step.{to_place}
use Rattle.world_core.specs.Start.{Start}
use Rattle.calm_laws.specs.Alike.{first}
use Rattle.peace_laws.specs.Closing.{Course, HasRows, host_in, main}
use Rattle.peace_laws.specs.Moments.{Moment}

-- The stages of a closing, in each of which the members are to do something.
pub data Stage : Type 0 where
  Prepares : Stage
  Commits : Stage
  Closes : Stage
  Saves : Stage
  Copies : Stage

abbrev pub run_of : Course → Run
run_of c = record { epoch = c.epoch; next = c.next; copy = false; local = false }

abbrev pub phase_of : Course → Stage → Phase
phase_of c Prepares = phase.Preparing (run_of c)
phase_of c Commits = phase.Committing (run_of c)
phase_of c Closes = phase.Closing (run_of c)
phase_of c Saves = phase.Saving (run_of c)
phase_of c Copies = phase.Copying (run_of c)

-- what is ordered then, of which blocks of each member, and how they confirm it
abbrev pub order_of : Start → Course → Stage → Order
order_of start c Prepares = order.Prepare c.epoch c.next
order_of start c Commits = order.Commit c.epoch c.next
order_of start c Closes = order.Close c.epoch
order_of start c Saves = order.Save c.epoch
order_of start c Copies = order.Copy c.epoch (mask_of (first start).full)

abbrev pub is_ordered : Stage → Bool → Bool
is_ordered Prepares rows = not rows
is_ordered Commits rows = not rows
is_ordered Closes rows = true
is_ordered Saves rows = rows
is_ordered Copies rows = not rows

abbrev pub blocks_of : Stage → ℕ
blocks_of Closes = 2
blocks_of stage = 1

abbrev pub answer_of : Course → Stage → EpochSignal
answer_of c Prepares = signal.GcpPrepareConf c.epoch
answer_of c Commits = signal.GcpNodeFinish c.epoch
answer_of c Closes = signal.GcpClosedConf c.epoch
answer_of c Saves = signal.GcpSaveConf c.epoch
answer_of c Copies = signal.CopyGciConf c.epoch

-- the epochs, or the rows, of the member at a place
abbrev pub block_of : Bool → BlockId
block_of false = block.Dih
block_of true = block.Lqh

abbrev pub voice_of : ℕ → Bool → Voice
voice_of place rows = record { member = first_start (place + 1); from = record { 0 = host_in place rows } }

abbrev pub order_to : Order → ℕ → Bool → Outgoing
order_to order place rows = order_at (block_of rows) order (first_start (place + 1))

abbrev pub answer : EpochSignal → Outgoing
answer signal = to_place (checkpoints 1) (Epoch signal)

-- the master's signal to itself to go on with its list
abbrev pub going_on : ℕ → Outgoing
going_on at = go_on_at (checkpoints 1) Members at

-- what is told at the end
abbrev pub ended_by : ℕ → Closing → Ended
ended_by epoch Micro = ended.Micro epoch
ended_by epoch kind = ended.Global epoch false false

abbrev pub ended_of : Course → Ended
ended_of c = ended_by c.epoch c.kind

abbrev pub report_by : ℕ → Closing → EpochSignal
report_by epoch Micro = signal.MicroRep epoch
report_by epoch kind = signal.GcpRep epoch

abbrev pub report_of : Course → Outgoing
report_of c = to_place client (Epoch (report_by c.epoch c.kind))

-- A member's epochs: it is in the epoch that ends, or has gone on to the next.
abbrev pub HasGoneOn : Course → DihState → Type 0
HasGoneOn c d = (d.current ≡ c.next) × (d.next ≡ c.next)

pub record IsMember (c : Course) (d : DihState) : Type 0 where
  pub counted : d.counted ≡ []
  pub held : d.held ≡ []
  pub order_none : d.order ≡ None
  pub at : (d.current ≡ c.epoch) ⊎ HasGoneOn c d

abbrev pub HasMember : Course → Parts → Type 0
HasMember c (Tc p) = IsMember c p.dih
HasMember c parts = ⊥

abbrev pub HasCommitted : Course → Parts → Type 0
HasCommitted c (Tc p) = HasGoneOn c p.dih
HasCommitted c parts = ⊥

-- at a moment, of the member at a place
abbrev pub CommittedAt : Course → Moment → ℕ → Type 0
CommittedAt c m place = HasCommitted c (m.parts (host_in place false))

-- The client's side is to be told of the end, or was.
abbrev pub ShellHas : (ClientState → Type 0) → Parts → Type 0
ShellHas P (Shell p) = P p.client
ShellHas P parts = ⊥

pub record IsClient (start : Start) (s : ClientState) : Type 0 where
  pub view : s.api.view ≡ first start
  pub replies : s.api.replies ≡ []

abbrev pub IsUntold : Course → Moment → Type 0
IsUntold c m = ShellHas (λ s. s.closing ≡ Some c.kind) (m.parts 0) × (m.replies ≡ c.before)

abbrev pub IsAnswered : Course → Moment → Type 0
IsAnswered c m =
    ShellHas (λ s. s.closing ≡ None) (m.parts 0) × (m.replies ≡ c.before ++ closed_reply c.kind c.epoch ∷ [])

-- What may be under way from one host to another: an order of this closing to a member,
abbrev pub IsOrder : Course → Order → Type 0
IsOrder c order.State = ⊥
IsOrder c (order.Prepare epoch next) = (epoch ≡ c.epoch) × (next ≡ c.next)
IsOrder c (order.Commit epoch next) = (epoch ≡ c.epoch) × (next ≡ c.next)
IsOrder c order.Walk = ⊥
IsOrder c order.Switch = ⊥
IsOrder c order = Unit {0}

-- with the mask of all members, where it has one,
abbrev pub HasMask : Start → Order → Type 0
HasMask start (order.Copy epoch mask) = mask ≡ mask_of (first start).full
HasMask start order = Unit {0}

pub record AnOrder (start : Start) (c : Course) (i j : ℕ) (one : Outgoing) : Type 0 where
  pub place : ℕ
  pub low : place < start.shape.nodes
  pub rows : Bool
  pub order : Order
  pub fits : IsOrder c order
  pub mask : HasMask start order
  pub from : i ≡ main
  pub to : j ≡ host_in place rows
  pub is : one ≡ order_to order place rows

-- an answer of a member, which has gone on where it says so,
abbrev pub IsAnswer : Type 0 → EpochSignal → Type 0
IsAnswer committed (signal.GcpPrepareConf epoch) = Unit {0}
IsAnswer committed (signal.GcpNodeFinish epoch) = committed
IsAnswer committed (signal.GcpClosedConf epoch) = Unit {0}
IsAnswer committed (signal.GcpSaveConf epoch) = Unit {0}
IsAnswer committed (signal.CopyGciConf epoch) = Unit {0}
IsAnswer committed signal = ⊥

pub record AnAnswer (start : Start) (c : Course) (m : Moment) (i j : ℕ) (one : Outgoing) : Type 0 where
  pub place : ℕ
  pub low : place < start.shape.nodes
  pub rows : Bool
  pub signal : EpochSignal
  pub fits : IsAnswer (CommittedAt c m place) signal
  pub from : i ≡ host_in place rows
  pub to : j ≡ main
  pub is : one ≡ answer signal

-- the master's own signal to go on with its list, of which something is left,
pub record GoingOn (start : Start) (i j : ℕ) (one : Outgoing) : Type 0 where
  pub at : ℕ
  pub low : at ≤ start.shape.nodes + start.shape.nodes
  pub from : i ≡ main
  pub to : j ≡ main
  pub is : one ≡ going_on at

-- and the report to the client.
pub record AReport (c : Course) (i j : ℕ) (one : Outgoing) : Type 0 where
  pub from : i ≡ main
  pub to : j ≡ 0
  pub is : one ≡ report_of c

abbrev pub IsLetter : Start → Course → Moment → ℕ → ℕ → Outgoing → Type 0
IsLetter start c m i j one =
    AnOrder start c i j one ⊎ (AnAnswer start c m i j one ⊎ (GoingOn start i j one ⊎ AReport c i j one))

-- What a member owes to a stage: its answer was heard, or is under way, or the order is under way to it, or stands in
-- what the master has yet to send.
pub record IsUnsent (start : Start) (m : Moment) (s : MasterState) (one : Outgoing) : Type 0 where
  pub at : ℕ
  pub low : at ≤ start.shape.nodes + start.shape.nodes
  pub coming : IsIn (going_on at) (m.under_way main main)
  pub left : IsIn one (drop at (master_sends s))

abbrev pub IsOwed : Start → Course → Stage → Moment → MasterState → ℕ → Bool → Type 0
IsOwed start c stage m s place rows =
    (is_heard s.voices (voice_of place rows) ≡ true)
    ⊎ (IsIn (answer (answer_of c stage)) (m.under_way (host_in place rows) main)
    ⊎ (IsIn (order_to (order_of start c stage) place rows) (m.under_way main (host_in place rows))
    ⊎ IsUnsent start m s (order_to (order_of start c stage) place rows)))

-- how many of the first so many members have answered with this block
abbrev pub heard_count : List Voice → Bool → ℕ → ℕ
heard_count voices rows zero = 0
heard_count voices rows (suc n) = one_if (is_heard voices (voice_of n rows)) + heard_count voices rows n

-- a voice that was heard says of its member that it has gone on, where that was asked
abbrev pub IsTrue : Start → Course → Moment → Stage → Voice → Type 0
IsTrue start c m Commits voice =
    (place : ℕ) → place < start.shape.nodes → is_of (first_start (place + 1)) voice ≡ true → CommittedAt c m place
IsTrue start c m stage voice = Unit {0}

-- the members have gone on before this stage, and a checkpoint alone comes to this one
abbrev pub is_later : Stage → Bool
is_later Prepares = false
is_later Commits = false
is_later stage = true

abbrev pub is_saving : Stage → Bool
is_saving Saves = true
is_saving Copies = true
is_saving stage = false

-- A stage is under way: not all have answered.
pub record IsAt (start : Start) (c : Course) (stage : Stage) (m : Moment) (s : MasterState) : Type 0 where
  pub phase_is : s.phase ≡ phase_of c stage
  pub front : s.front ≡ None
  pub owed : (place : ℕ) → place < start.shape.nodes → (rows : Bool) → is_ordered stage rows ≡ true
      → IsOwed start c stage m s place rows
  pub heard : Each (IsTrue start c m stage) s.voices
  pub few : length s.voices
      ≤ heard_count s.voices false start.shape.nodes + heard_count s.voices true start.shape.nodes
  pub missing : all_in (blocks_of stage) s ≡ false
  pub committed : is_later stage ≡ true → (place : ℕ) → place < start.shape.nodes → CommittedAt c m place
  pub global : is_saving stage ≡ true → c.kind ≡ Gcp

-- All stages are over: the client was told, or is to be.
pub record IsLeft (start : Start) (c : Course) (m : Moment) (s : MasterState) : Type 0 where
  pub front : s.front ≡ Some (ended_of c)
  pub global : c.kind ≡ Gcp
  pub at : ℕ
  pub low : at ≤ start.shape.nodes + start.shape.nodes
  pub coming : IsIn (going_on at) (m.under_way main main)

pub record IsOver (start : Start) (c : Course) (m : Moment) (s : MasterState) : Type 0 where
  pub phase_is : s.phase ≡ phase.Resting c.next
  pub committed : (place : ℕ) → place < start.shape.nodes → CommittedAt c m place
  pub report : IsAnswered c m ⊎ (IsIn (report_of c) (m.under_way main 0) ⊎ IsLeft start c m s)
  pub front : (s.front ≡ None) ⊎ IsLeft start c m s

-- the president's master, of which nothing more is asked
pub record IsMaster (start : Start) (s : MasterState) : Type 0 where
  pub member : s.member ≡ first_start 1
  pub view : s.view ≡ first start
  pub asked : s.asked ≡ record { global = false; copy = false; local = false; micro = false }
  pub owed : s.owed ≡ false

-- A closing that is under way, or over.
pub record IsUnderWay (start : Start) (c : Course) (m : Moment) : Type 0 where
  pub main_part : MainPart
  pub main_is : m.parts main ≡ Main main_part
  pub master : IsMaster start main_part.master
  pub stage : ((stage : Stage) × IsAt start c stage m main_part.master) ⊎ IsOver start c m main_part.master
  pub shell : ShellHas (IsClient start) (m.parts 0)
  pub told : IsUntold c m ⊎ IsAnswered c m
  pub epochs : (place : ℕ) → place < start.shape.nodes → HasMember c (m.parts (host_in place false))
  pub rows : (place : ℕ) → place < start.shape.nodes → HasRows (m.parts (host_in place true))
  pub letters : (i j : ℕ) (one : Outgoing) → IsIn one (m.under_way i j) → IsLetter start c m i j one
