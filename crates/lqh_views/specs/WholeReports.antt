-- What a takeover was told when its report ends.
use Rattle.std.specs.Prelude.{◌≡◌, ◌⊎◌, ℕ, zero, suc, ◌==◌, Bool, true, false, List, [], ◌∷◌, ◌++◌, filter, length, map}
use Rattle.std.specs.Prelude.{reverse, take}
use Rattle.std.specs.List.{list_any}
use Rattle.run_theory.specs.Lists.{Each, IsIn}
use Rattle.sig_core.specs.declared.member.TxId.{TxId}
use Rattle.sig_core.specs.declared.outs.Outgoing.{Outgoing}
use Rattle.sig_core.specs.declared.signal.Body.{Body}
use Rattle.sig_core.specs.declared.signal.Body.TheVariants.{Host, Takeover}
use Rattle.sig_core.specs.declared.signal.Signal.{Signal}
use Rattle.sig_core.specs.declared.signal.host.HostSignal.TheVariants.{Continue}
use Rattle.sig_core.specs.declared.signal.host.Work.TheVariants as work
use Rattle.sig_core.specs.declared.signal.takeover.RecordState.TheVariants as state
use Rattle.sig_core.specs.declared.signal.takeover.TakeoverSignal.TheVariants.{LqhTransEnd, LqhTransReq}
use Rattle.sig_core.specs.declared.view.View.{View}
use Rattle.sig_core.specs.Place.{takeover}
use Rattle.sig_core.specs.Rows.{is_of}
use Rattle.sig_core.specs.Step.{Step, stay, to_place}
use Rattle.lqh_block.specs.Commit.{is_marker}
use Rattle.lqh_views.specs.declared.report.Report.{Report}
use Rattle.lqh_views.specs.Replica.{installed, replica_row}
use Rattle.lqh_views.specs.Report.{is_orphaned, is_orphaned_marker, is_orphaned_record, told, told_marker, told_record}
use Rattle.lqh_views.specs.State.{ReplicaState}

-- the block takes a signal, or its host installs a view
pub data Event : Type 0 where
  Takes : Signal → Event
  Installs : View → Event

abbrev pub step_at : ReplicaState → Event → Step ReplicaState
step_at s (Takes x) = replica_row s x
step_at s (Installs view) = stay (installed s view)

-- the state after a signal and what came behind it, the newest first
abbrev pub since : ReplicaState → Signal → List Event → ReplicaState
since s ask [] = (replica_row s ask).state
since s ask (e ∷ earlier) = (step_at (since s ask earlier) e).state

-- all that was sent from that signal on, in order
abbrev pub sent_since : ReplicaState → Signal → List Event → List Outgoing
sent_since s ask [] = (replica_row s ask).effects.sends
sent_since s ask (e ∷ earlier) = sent_since s ask earlier ++ (step_at (since s ask earlier) e).effects.sends

-- so in the state in which that signal was taken, and in each in which something behind it came
abbrev pub Stands : (ReplicaState → Bool) → ReplicaState → Signal → List Event → Type 0
Stands has s ask [] = has s ≡ true
Stands has s ask (e ∷ earlier) = (has (since s ask earlier) ≡ true) × Stands has s ask earlier

-- the signal asks for a report
abbrev pub asks : Body → Bool
asks (Takeover LqhTransReq) = true
asks _ = false

abbrev pub asks_at : Event → Bool
asks_at (Takes x) = asks x.body
asks_at (Installs view) = false

abbrev pub the_end : ℕ → Outgoing
the_end to = to_place (takeover to) (Takeover LqhTransEnd)

-- the signal is the end of a report
abbrev pub ends : Body → Bool
ends (Takeover LqhTransEnd) = true
ends _ = false

abbrev pub before_if : Outgoing → List Outgoing → Bool → List Outgoing
before_if send rest true = []
before_if send rest false = send ∷ rest

-- the signals in front of the first end
abbrev pub before_end : List Outgoing → List Outgoing
before_end [] = []
before_end (send ∷ sends) = before_if send (before_end sends) (ends send.body)

-- the signal asks for a report, nothing behind it does, and the takeover that asked was told the end
pub record IsReported (s : ReplicaState) (ask : Signal) (events : List Event) : Type 0 where
  pub asked : ask.body ≡ Takeover LqhTransReq
  pub once : Each (λ e. asks_at e ≡ false) events
  pub over : IsIn (the_end ask.member.node) (sent_since s ask events)

-- the transaction has a record on the key, or a marker
abbrev pub has_record : TxId → List ℕ → ReplicaState → Bool
has_record tx key s = list_any (is_of tx key) s.lqh.rows.pending

abbrev pub has_marker : TxId → List ℕ → ReplicaState → Bool
has_marker tx key s = list_any (is_marker tx key) s.lqh.markers

-- a takeover was told of the record, and of the marker
abbrev pub IsRecordTold : ℕ → TxId → List ℕ → List Outgoing → Type 0
IsRecordTold to tx key sent =
    IsIn (told to tx key state.Prepared 0) sent ⊎ ((epoch : ℕ) × IsIn (told to tx key state.Committed epoch) sent)

abbrev pub IsMarkerTold : ℕ → TxId → List ℕ → List Outgoing → Type 0
IsMarkerTold to tx key sent = (epoch : ℕ) × IsIn (told to tx key state.Marker epoch) sent

-- what a takeover that asked was told before the end
abbrev pub heard : ReplicaState → Signal → List Event → List Outgoing
heard s ask events = before_end (sent_since s ask events)

-- a record that stood all the while was told before the end, and so was a marker
pub record IsWhole (s : ReplicaState) (ask : Signal) (events : List Event) (tx : TxId) (key : List ℕ) : Type 0 where
  pub records : Stands (has_record tx key) s ask events → IsRecordTold ask.member.node tx key (heard s ask events)
  pub markers : Stands (has_marker tx key) s ask events → IsMarkerTold ask.member.node tx key (heard s ask events)

-- whatever comes between, a report leaves out none of an orphaned transaction
abbrev pub ReportsLeaveNothingOut : Type 0
ReportsLeaveNothingOut =
    (s : ReplicaState) (ask : Signal) (events : List Event) → IsReported s ask events
    → (tx : TxId) (key : List ℕ) → is_orphaned s.lqh.layout.view.full tx ≡ true → IsWhole s ask events tx key

-- the entries before a place that pass a test, from the last to the first
abbrev pub from_the_last : {X : Type 0} → (X → Bool) → List X → ℕ → List X
from_the_last p xs before = reverse (filter p (take before xs))

-- what is left of a report to tell, in order
abbrev pub left_to_tell : ReplicaState → Report → List Outgoing
left_to_tell s r =
    map (told_record r.to) (from_the_last (is_orphaned_record s.lqh.layout.view.full) s.lqh.rows.pending r.records)
    ++ map (told_marker r.to) (from_the_last (is_orphaned_marker s.lqh.layout.view.full) s.lqh.markers r.markers)
    ++ the_end r.to ∷ []

-- a report of all that there is
abbrev pub whole : ReplicaState → ℕ → Report
whole s to = record { to = to; records = length s.lqh.rows.pending; markers = length s.lqh.markers }

-- the block's own signal to go on with a report, of this view
pub record IsOwn (view : View) (x : Signal) : Type 0 where
  pub at : ℕ
  pub body : x.body ≡ Host (Continue work.Report at)
  pub same : (x.view.number == view.number) ≡ true

-- the first signals of so many steps at this one, in order
abbrev pub told_alone : ReplicaState → Signal → ℕ → List Outgoing
told_alone s x zero = []
told_alone s x (suc n) = take 1 (replica_row s x).effects.sends ++ told_alone (replica_row s x).state x n

-- where nothing comes between, a report tells each entry once and in order, and then the end
abbrev pub ReportsTellEachOnce : Type 0
ReportsTellEachOnce =
    (s : ReplicaState) (ask own : Signal) (n : ℕ) → ask.body ≡ Takeover LqhTransReq → IsOwn s.lqh.layout.view own
    → take 1 (replica_row s ask).effects.sends ++ told_alone (replica_row s ask).state own n
    ≡ take (suc n) (left_to_tell s (whole s ask.member.node))
