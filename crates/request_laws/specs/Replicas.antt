-- One key of a node's rows under views: what each signal does to it, and each installation.
use Rattle.std.specs.Prelude.{◌≡◌, ℕ, Bool, true, false, List, []}
use Rattle.sig_core.specs.declared.member.TxId.{TxId}
use Rattle.sig_core.specs.declared.signal.Body.{Body}
use Rattle.sig_core.specs.declared.signal.Body.TheVariants.{Epoch, Host, Membership, Takeover}
use Rattle.sig_core.specs.declared.signal.Signal.{Signal}
use Rattle.sig_core.specs.declared.signal.host.HostSignal.TheVariants.{Continue}
use Rattle.sig_core.specs.declared.signal.host.Work.TheVariants.{Expired, Granted, Report}
use Rattle.sig_core.specs.declared.signal.membership.MembershipSignal.TheVariants.{FenceReq}
use Rattle.sig_core.specs.declared.signal.takeover.TakeoverSignal.TheVariants.{LqhTransReq}
use Rattle.sig_core.specs.declared.view.View.{View}
use Rattle.row_locks.specs.Keeping.{left_to}
use Rattle.lqh_block.specs.Views.{goes_on_holding}
use Rattle.lqh_views.specs.Replica.{installed, is_stale, replica_row}
use Rattle.lqh_views.specs.State.{ReplicaState}
use Rattle.key_laws.specs.Replica.{Event, Replica, at_key, event_at, key_after, rests}
use Rattle.host_laws.specs.ReplicaLaws.{IsWell}

-- an event of the rows, unless the signal is of an older view
abbrev pub event_if : Event → Bool → Event
event_if event true = rests
event_if event false = event

-- what a signal does to the key: what it does within a view, but for fences, reports, epochs, and waits of an older
-- view
abbrev pub event_by : List ℕ → ReplicaState → Signal → Body → Event
event_by key s x (Membership (FenceReq proposal)) = rests
event_by key s x (Takeover LqhTransReq) = rests
event_by key s x (Host (Continue Report at)) = rests
event_by key s x (Host (Continue Granted at)) = event_if (event_at key s.lqh x.body) (is_stale s x)
event_by key s x (Host (Continue Expired at)) = event_if (event_at key s.lqh x.body) (is_stale s x)
event_by key s x (Epoch signal) = rests
event_by key s x body = event_at key s.lqh x.body

abbrev pub event_under : List ℕ → ReplicaState → Signal → Event
event_under key s x = event_by key s x x.body

-- a view is installed: all waits end, and of the holders those stay whose transactions pass a test
abbrev pub key_installed : (TxId → Bool) → Replica → Replica
key_installed stays r = record { cell = r.cell; lock = left_to stays r.lock; waiting = [] }

abbrev pub SignalsAreEvents : Type 0
SignalsAreEvents =
    (s : ReplicaState) (x : Signal) (key : List ℕ) → IsWell s.lqh
    → at_key key (replica_row s x).state.lqh ≡ key_after (event_under key s x) (at_key key s.lqh)

abbrev pub SignalsKeepWell : Type 0
SignalsKeepWell = (s : ReplicaState) (x : Signal) → IsWell s.lqh → IsWell (replica_row s x).state.lqh

-- who has a record on the key, or whose coordinator is a full member, goes on holding its lock
abbrev pub InstallationsAreEvents : Type 0
InstallationsAreEvents =
    (s : ReplicaState) (view : View) (key : List ℕ) → IsWell s.lqh
    → at_key key (installed s view).lqh ≡ key_installed (goes_on_holding s.lqh.rows view.full key) (at_key key s.lqh)

abbrev pub InstallationsKeepWell : Type 0
InstallationsKeepWell = (s : ReplicaState) (view : View) → IsWell s.lqh → IsWell (installed s view).lqh
