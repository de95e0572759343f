-- What the rest of the machine owes one key of a replica at each event, and at a decision.
use Rattle.world_core.specs.Hosts.{home}
use Rattle.std.specs.List.{list_any}
use Rattle.std.specs.Prelude.{◌≡◌, ◌≢◌, ◌⊎◌, ℕ, Bool, true, false, List}
use Rattle.run_theory.specs.Lists.{Each}
use Rattle.world_core.specs.Steps.{HostStep}
use Rattle.sig_core.specs.declared.member.TxId.{TxId}
use Rattle.sig_core.specs.declared.op.Answer.{Answer}
use Rattle.sig_core.specs.declared.op.Op.{Op}
use Rattle.sig_core.specs.declared.signal.Body.TheVariants.{Epoch}
use Rattle.sig_core.specs.declared.signal.epoch.EpochSignal.TheVariants.{DiVerifyReq}
use Rattle.lqh_block.specs.declared.request.Request.{Request}
use Rattle.world_core.specs.Machine.{after}
use Rattle.world_core.specs.Marks.{has_mark}
use Rattle.world_core.specs.Start.{Start}
use Rattle.key_laws.specs.BackupEvents.{IsImage}
use Rattle.host_laws.specs.Causes.{is_decision}
use Rattle.key_laws.specs.PrimaryEvents.{IsOperation, NoneOf}
use Rattle.key_laws.specs.Replica.{Event, aborts, asks, commits, completes}
use Rattle.host_laws.specs.ReplicaLaws.{event_in}
use Rattle.run_laws.specs.Circle.{IsSettledFor, at_host}
use Rattle.run_laws.specs.Completions.{IsCommittedAtAll}
use Rattle.run_laws.specs.GivenUp.{is_carried_out, is_given_up}
use Rattle.run_laws.specs.Routes.{primary_host}
use Rattle.run_laws.specs.Transit.{Comes, IsRun, logs_of}

-- its coordinator's node has decided it
abbrev pub is_decided : Start → (ℕ → List HostStep) → TxId → Bool
is_decided start logs tx = has_mark (is_decision tx) (logs (home start tx))

-- it is given up, or not decided
abbrev pub IsUndecided : Start → (ℕ → List HostStep) → TxId → Type 0
IsUndecided start logs tx = (is_given_up start logs tx ≡ true) ⊎ (is_decided start logs tx ≡ false)

-- it is decided, and its coordinator carries that out
pub record IsCarriedOut (start : Start) (logs : ℕ → List HostStep) (tx : TxId) : Type 0 where
  pub decided : is_decided start logs tx ≡ true
  pub carried : is_carried_out start logs tx ≡ true

-- operations are for the primary of a key, and images for the others
pub record IsForReplica (start : Start) (key : List ℕ) (h : ℕ) (q : Request) : Type 0 where
  pub operation : h ≡ primary_host start key → IsOperation q
  pub image : h ≢ primary_host start key → IsImage q

-- Requests of a transaction come one at a time, and of none that is decided; a commit of one that is, to the primary
-- last; a
-- completion when all replicas have committed; an abort of a transaction that is given up.
abbrev pub IsOwed : Start → (ℕ → List HostStep) → List ℕ → ℕ → Event → Type 0
IsOwed start logs key h (asks q refused) =
    IsForReplica start key h q × (NoneOf q.tx (at_host start logs key h).waiting × IsUndecided start logs q.tx)
IsOwed start logs key h (commits tx true) =
    (h ≡ primary_host start key) × (NoneOf tx (at_host start logs key h).waiting × IsCarriedOut start logs tx)
IsOwed start logs key h (commits tx false) = (h ≢ primary_host start key) × IsCarriedOut start logs tx
IsOwed start logs key h (completes tx) =
    NoneOf tx (at_host start logs key h).waiting × IsCommittedAtAll start logs tx key
IsOwed start logs key h (aborts tx) = is_given_up start logs tx ≡ true
IsOwed start logs key h event = Unit {0}

abbrev pub EventsAreOwed : Type 0
EventsAreOwed =
    (start : Start) (es : List HostStep) (e : HostStep) (key : List ℕ) → Comes start es e
    → IsOwed start (logs_of start es) key e.host
    (event_in key (after start e.host (logs_of start es e.host)) e.step.taken)

-- who waits at a replica isn't decided
abbrev pub WaitersAreUndecided : Type 0
WaitersAreUndecided =
    (start : Start) (es : List HostStep) (key : List ℕ) (h : ℕ) → IsRun start es
    → Each (λ (q : Request). IsUndecided start (logs_of start es) q.tx) (at_host start (logs_of start es) key h).waiting

-- what a decision finds: the request for the epoch came to the coordinator's node, and the transaction is settled for
-- each key
pub record IsDecidedWith (start : Start) (logs : ℕ → List HostStep) (e : HostStep) (tx : TxId) : Type 0 where
  pub ops : List (Op × Answer)
  pub request : e.step.taken.body ≡ Epoch (DiVerifyReq tx ops)
  pub home_is : e.host ≡ home start tx
  pub settled : (key : List ℕ) → IsSettledFor start logs tx ops key

abbrev pub DecidedAreSettled : Type 0
DecidedAreSettled =
    (start : Start) (es : List HostStep) (e : HostStep) (tx : TxId) → Comes start es e
    → list_any (is_decision tx) e.step.marks ≡ true
    → is_given_up start (logs_of start es) tx ≡ false
    → IsDecidedWith start (logs_of start es) e tx
