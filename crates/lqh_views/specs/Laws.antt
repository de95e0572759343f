-- What is true of the steps of a node's rows under views.
use Rattle.std.specs.Prelude.{◌≡◌, ℕ, Bool, true, false, not, List, [], slice_get, Option, None, Some}
use Rattle.run_theory.specs.Lists.{Each}
use Rattle.sig_core.specs.declared.member.Member.{Member}
use Rattle.sig_core.specs.declared.member.TxId.{TxId}
use Rattle.sig_core.specs.declared.outs.Outgoing.{Outgoing}
use Rattle.sig_core.specs.declared.rows.PendingRecord.{PendingRecord}
use Rattle.sig_core.specs.declared.signal.Body.{Body}
use Rattle.sig_core.specs.declared.signal.Body.TheVariants.{Host, Membership, Takeover, Epoch}
use Rattle.sig_core.specs.declared.signal.Signal.{Signal}
use Rattle.sig_core.specs.declared.signal.epoch.EpochSignal.TheVariants.{GcpClosed, GcpSaveReq, GcpStateReq}
use Rattle.sig_core.specs.declared.signal.host.HostSignal.TheVariants.{Continue}
use Rattle.sig_core.specs.declared.signal.host.Work.TheVariants.{Granted, Expired, Report}
use Rattle.sig_core.specs.declared.signal.membership.MembershipSignal.TheVariants.{FenceReq}
use Rattle.sig_core.specs.declared.signal.takeover.RecordState.TheVariants as state
use Rattle.sig_core.specs.declared.signal.takeover.TakeoverSignal.TheVariants.{LqhTransReq, LqhTransConf}
use Rattle.sig_core.specs.declared.view.View.{View}
use Rattle.sig_core.specs.Step.{Step}
use Rattle.row_locks.specs.Keeping.{left_to}
use Rattle.row_locks.specs.Tables.{lock_at}
use Rattle.lqh_block.specs.Lqh.{lqh_row}
use Rattle.lqh_block.specs.State.{LqhState}
use Rattle.lqh_block.specs.Views.{goes_on_holding, is_coordinated}
use Rattle.lqh_views.specs.Address.{about}
use Rattle.lqh_views.specs.Replica.{installed, is_stale, replica_row}
use Rattle.lqh_views.specs.Report.{is_orphaned}
use Rattle.lqh_views.specs.State.{ReplicaState, with_lqh}

-- the signal is of the rows within a view: it is about no fence, no report and no epoch, and isn't one of an older view
-- about waits
abbrev pub is_of_rows_by : ReplicaState → Signal → Body → Bool
is_of_rows_by s x (Membership (FenceReq proposal)) = false
is_of_rows_by s x (Takeover LqhTransReq) = false
is_of_rows_by s x (Host (Continue Report at)) = false
is_of_rows_by s x (Host (Continue Granted at)) = not (is_stale s x)
is_of_rows_by s x (Host (Continue Expired at)) = not (is_stale s x)
is_of_rows_by s x (Epoch (GcpClosed epoch)) = false
is_of_rows_by s x (Epoch (GcpSaveReq epoch)) = false
is_of_rows_by s x (Epoch GcpStateReq) = false
is_of_rows_by s x _ = true

abbrev pub is_of_rows : ReplicaState → Signal → Bool
is_of_rows s x = is_of_rows_by s x x.body

abbrev pub IsCoordinated : List Member → Option TxId → Type 0
IsCoordinated full None = Unit {0}
IsCoordinated full (Some tx) = is_coordinated full tx ≡ true

-- where the signal tells of the end of a transaction's part in a row, its coordinator is a full member of the view
abbrev pub IsCalm : View → Outgoing → Type 0
IsCalm view send = IsCoordinated view.full (about send.body)

-- a step of the rows, and all else stays
abbrev pub beside : ReplicaState → Step LqhState → Step ReplicaState
beside s step = record { state = with_lqh s step.state; effects = step.effects }

-- where all that are told so are full members, a step at a signal of the rows is that of the rows
abbrev pub CalmSteps : Type 0
CalmSteps =
    (s : ReplicaState) (x : Signal) → is_of_rows s x ≡ true
    → Each (IsCalm s.lqh.layout.view) (lqh_row s.lqh x).effects.sends
    → replica_row s x ≡ beside s (lqh_row s.lqh x)

-- nobody waits
pub record IsQuiet (s : ReplicaState) : Type 0 where
  pub requests : s.lqh.waiting ≡ []
  pub queues : (key : List ℕ) → (lock_at s.lqh.locks key).queue ≡ []

-- whoever holds a lock has a record on its key, or a coordinator that is a full member
pub record AreHeldRightly (s : ReplicaState) : Type 0 where
  pub each : (key : List ℕ)
      → Each (λ holder. goes_on_holding s.lqh.rows s.lqh.layout.view.full key holder.tx ≡ true)
      (lock_at s.lqh.locks key).holders

-- after an installation that is so, of each key those go on holding its lock of whom it is so, in the same order, and
-- no report is under way
pub record IsEntered (s now : ReplicaState) : Type 0 where
  pub quiet : IsQuiet now
  pub rightly : AreHeldRightly now
  pub same : (key : List ℕ)
      → lock_at now.lqh.locks key
      ≡ left_to (goes_on_holding s.lqh.rows now.lqh.layout.view.full key) (lock_at s.lqh.locks key)
  pub over : now.report ≡ None

abbrev pub InstallationsEndWaits : Type 0
InstallationsEndWaits = (s : ReplicaState) (view : View) → IsEntered s (installed s view)

-- a record of a transaction whose coordinator isn't a full member, which is committed or isn't
pub record HasRecord (s : ReplicaState) (tx : TxId) (key : List ℕ) (committed : Bool) : Type 0 where
  pub at : ℕ
  pub one : PendingRecord
  pub there : slice_get s.lqh.rows.pending at ≡ Some one
  pub orphaned : is_orphaned s.lqh.layout.view.full one.tx ≡ true
  pub is_tx : one.tx ≡ tx
  pub is_key : one.key ≡ key
  pub is_committed : one.committed ≡ committed

-- a marker of one, of this epoch
pub record HasMarker (s : ReplicaState) (tx : TxId) (key : List ℕ) (epoch : ℕ) : Type 0 where
  pub at : ℕ
  pub there : slice_get s.lqh.markers at ≡ Some (record { tx = tx; key = key; epoch = epoch })
  pub orphaned : is_orphaned s.lqh.layout.view.full tx ≡ true

-- what a signal tells a takeover is so
abbrev pub TellsTruly : ReplicaState → Body → Type 0
TellsTruly s (Takeover (LqhTransConf tx key state.Prepared epoch)) = HasRecord s tx key false × (epoch ≡ 0)
TellsTruly s (Takeover (LqhTransConf tx key state.Committed epoch)) =
    (has : HasRecord s tx key true) × (has.one.epoch ≡ epoch)
TellsTruly s (Takeover (LqhTransConf tx key state.Marker epoch)) = HasMarker s tx key epoch
TellsTruly s _ = Unit {0}

-- whatever is told to a takeover is so in the state in which it is told
abbrev pub ReportsAreTrue : Type 0
ReportsAreTrue =
    (s : ReplicaState) (x : Signal) → Each (λ send. TellsTruly s send.body) (replica_row s x).effects.sends
