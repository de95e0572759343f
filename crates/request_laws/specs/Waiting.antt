-- What stands of the rows of a member after every log, and of the requests that wait there beside the queues of their
-- locks.
use Rattle.std.specs.Prelude.{◌≡◌, ℕ, true, List}
use Rattle.std.specs.List.{list_any}
use Rattle.run_theory.specs.Lists.{Each, IsIn}
use Rattle.sig_core.specs.declared.member.Member.{Member}
use Rattle.sig_core.specs.declared.signal.Signal.{Signal}
use Rattle.sig_core.specs.declared.view.View.{View}
use Rattle.row_locks.specs.declared.claim.Wait.{Wait}
use Rattle.row_locks.specs.Orderly.{IsOrderly}
use Rattle.lqh_block.specs.declared.request.Request.{Request}
use Rattle.lqh_block.specs.Work.{work_mode}
use Rattle.lqh_views.specs.Replica.{installed, replica_row}
use Rattle.lqh_views.specs.State.{ReplicaState}
use Rattle.key_laws.specs.LockLaws.{is_attended}
use Rattle.key_laws.specs.PrimaryEvents.{AreAlone, NoneOf}
use Rattle.key_laws.specs.Replica.{Event, Replica, asks, at_key, commits, completes, is_by, key_after}
use Rattle.host_laws.specs.ReplicaLaws.{IsWell}
use Rattle.world_core.specs.Start.{NobodyStarts, Start, made}
use Rattle.world_core.specs.Steps.{HostStep}
use Rattle.request_laws.specs.Blocks.{rows_after}
use Rattle.request_laws.specs.Replicas.{event_under}

abbrev pub RowsAreWell : Type 0
RowsAreWell =
    (start : Start) → NobodyStarts start → (member : Member) → IsIn member (made start) → (log : List HostStep)
    → IsWell (rows_after start member log).lqh

-- each wait in the queue of the key has a request of its transaction among those that wait for it
abbrev pub HaveRequests : Replica → Type 0
HaveRequests r = Each (λ (wait : Wait). list_any (is_by wait.tx) r.waiting ≡ true) r.lock.queue

-- whatever happens to the key
abbrev pub EventsKeepRequests : Type 0
EventsKeepRequests = (event : Event) (r : Replica) → HaveRequests r → HaveRequests (key_after event r)

-- and so after every log
abbrev pub WaitsHaveRequests : Type 0
WaitsHaveRequests =
    (start : Start) → NobodyStarts start → (member : Member) → IsIn member (made start)
    → (log : List HostStep) (key : List ℕ)
    → HaveRequests (at_key key (rows_after start member log).lqh)

-- The transaction of each request holds the key's lock as it needs to, or waits for it; and no two requests for the key
-- are of one transaction.
pub record AreAttended (r : Replica) : Type 0 where
  pub attended : Each (λ (q : Request). is_attended r.lock q.tx (work_mode q.work) ≡ true) r.waiting
  pub alone : AreAlone r.waiting

-- What this needs of the rest of the machine: a transaction asks for nothing on the key while a request of it waits for
-- it, and isn't committed or completed there.
abbrev pub IsOneByOne : Replica → Event → Type 0
IsOneByOne r (asks q refused) = NoneOf q.tx r.waiting
IsOneByOne r (commits tx true) = NoneOf tx r.waiting
IsOneByOne r (completes tx) = NoneOf tx r.waiting
IsOneByOne r event = Unit {0}

abbrev pub EventsKeepAttended : Type 0
EventsKeepAttended =
    (event : Event) (r : Replica) → IsOrderly r.lock → IsOneByOne r event → AreAttended r
    → AreAttended (key_after event r)

-- the same of the rows' steps
abbrev pub SignalsKeepAttended : Type 0
SignalsKeepAttended =
    (s : ReplicaState) (x : Signal) (key : List ℕ) → IsWell s.lqh
    → IsOneByOne (at_key key s.lqh) (event_under key s x) → AreAttended (at_key key s.lqh)
    → AreAttended (at_key key (replica_row s x).state.lqh)

abbrev pub InstalledAreAttended : Type 0
InstalledAreAttended = (s : ReplicaState) (view : View) (key : List ℕ) → AreAttended (at_key key (installed s view).lqh)
