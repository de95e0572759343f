-- The operations of a transaction are under way one at a time, in each view.
use Rattle.std.specs.Prelude.{◌≡◌, ◌≢◌, ◌≤◌, ◌+◌, ◌&&◌, ◌==◌, ◌||◌, if◌then◌else◌, ℕ, Bool, true, false, List, [], ◌∷◌}
use Rattle.std.specs.Prelude.{Option, None, Some, is_some}
use Rattle.std.specs.List.{count_by}
use Rattle.run_theory.specs.Counts.{total}
use Rattle.run_theory.specs.Lists.{IsIn}
use Rattle.run_theory.specs.Links.{sent_by}
use Rattle.sig_core.specs.declared.member.Member.{Member}
use Rattle.sig_core.specs.declared.member.TxId.{TxId}
use Rattle.sig_core.specs.declared.signal.Signal.{Signal}
use Rattle.sig_core.specs.Same.{same_tx}
use Rattle.tc_block.specs.declared.transaction.Transaction.{Transaction}
use Rattle.tc_block.specs.Complete.{one_if}
use Rattle.lqh_block.specs.declared.request.Request.{Request}
use Rattle.lqh_views.specs.State.{ReplicaState}
use Rattle.world_core.specs.Hosts.{hosts}
use Rattle.world_core.specs.Start.{Start, made}
use Rattle.world_core.specs.Steps.{Addressed, HostStep}
use Rattle.run_laws.specs.Tokens.{is_token}
use Rattle.view_laws.specs.Order.{sound_machine}
use Rattle.view_laws.specs.Runs.{view_after}
use Rattle.moment_laws.specs.Moments.{IsMoment, current, logs_of}
use Rattle.moment_laws.specs.Places.{ldm_of, tc_of}
use Rattle.outcome_laws.specs.Counts.{coordinator_member}
use Rattle.request_laws.specs.Blocks.{coordinator_after, rows_after}
use Rattle.request_laws.specs.Drives.{asked_in}
use Rattle.request_laws.specs.Ways.{entry_of, has_gone_back}

-- requests of the transaction that wait at the rows of a node
abbrev pub count_waiting : TxId → ReplicaState → ℕ
count_waiting tx s = count_by (λ (q : Request). same_tx q.tx tx) s.lqh.waiting

-- how many signals that pass a test the steps of a log sent, and took from links
abbrev pub sent_along : Start → (Signal → Bool) → ℕ → List HostStep → ℕ
sent_along start p h [] = 0
sent_along start p h (e ∷ log) =
    count_by (λ (x : Addressed). p x.signal) (sent_by (sound_machine start) h log e) + sent_along start p h log

abbrev pub taken_along : Start → (Signal → Bool) → List HostStep → ℕ
taken_along start p [] = 0
taken_along start p (e ∷ log) =
    (if (sound_machine start).asked e then 0 else one_if (p e.step.taken)) + taken_along start p log

-- all hosts together
abbrev pub all_sent : Start → (Signal → Bool) → (ℕ → List HostStep) → ℕ
all_sent start p logs = total (hosts start) (λ h. sent_along start p h (logs h))

abbrev pub all_taken : Start → (Signal → Bool) → (ℕ → List HostStep) → ℕ
all_taken start p logs = total (hosts start) (λ h. taken_along start p (logs h))

-- of a view
abbrev pub is_token_in : TxId → ℕ → Signal → Bool
is_token_in tx number x = is_token tx x.body && (x.view.number == number)

-- the sum over members
abbrev pub total_of : List Member → (Member → ℕ) → ℕ
total_of [] f = 0
total_of (member ∷ members) f = f member + total_of members f

-- the transaction has an operation unanswered
abbrev pub has_asked : Option Transaction → Bool
has_asked None = false
has_asked (Some t) = is_some t.asked

-- of the view of this number
module _ (start : Start) (tx : TxId) (number : ℕ) where
  -- requests that wait at the rows of a member, if their host stands in the view behind its log
  abbrev pub waits_behind : Member → List HostStep → ℕ
  waits_behind member log =
      if (view_after start (ldm_of start member) log).number == number
      then count_waiting tx (rows_after start member log) else 0

  -- Behind a log of its coordinator's host one may be under way if the last operation was asked for in the view, and is
  -- unanswered, or the transaction is given up.
  abbrev pub may_behind : List HostStep → Bool
  may_behind log =
      let member = coordinator_member tx in
      (has_gone_back start member tx log || has_asked (entry_of (coordinator_after start member log) tx))
      && (asked_in start member tx log == number)

-- of all hosts with these logs
module _ (start : Start) (logs : ℕ → List HostStep) (tx : TxId) (number : ℕ) where
  abbrev pub waiting_at : Member → ℕ
  waiting_at member = waits_behind start tx number member (logs (ldm_of start member))

  abbrev pub all_waiting : ℕ
  all_waiting = total_of (made start) waiting_at

  abbrev pub may_go : Bool
  may_go = may_behind start tx number (logs (tc_of start (coordinator_member tx)))

  abbrev pub budget : ℕ
  budget = one_if may_go

-- the number of the current view
abbrev pub number_now : Start → (ℕ → List HostStep) → ℕ
number_now start logs = (current start logs).number

-- of the current view, what was sent and what waits is no more than what was taken and may be under way
abbrev pub OneAtATime : Type 0
OneAtATime =
    (start : Start) (all : ℕ → List HostStep) (es : List HostStep) → IsMoment start all es → (tx : TxId)
    → IsIn (coordinator_member tx) (made start)
    → all_sent start (is_token_in tx (number_now start (logs_of start es))) (logs_of start es)
    + all_waiting start (logs_of start es) tx (number_now start (logs_of start es))
    ≤ all_taken start (is_token_in tx (number_now start (logs_of start es))) (logs_of start es)
    + budget start (logs_of start es) tx (number_now start (logs_of start es))

-- no more of these signals is taken than was sent, whichever of them are counted
abbrev pub TakesAreFew : Type 0
TakesAreFew =
    (start : Start) (all : ℕ → List HostStep) (es : List HostStep) → IsMoment start all es → (p : Signal → Bool)
    → ((x : Signal) → p x ≡ true → (tx : TxId) × (is_token tx x.body ≡ true))
    → all_taken start p (logs_of start es) ≤ all_sent start p (logs_of start es)

-- in the view of this number nothing of the transaction waits, and none of its signals is under way
pub record IsQuiet (start : Start) (logs : ℕ → List HostStep) (tx : TxId) (number : ℕ) : Type 0 where
  pub waits : (member : Member) → IsIn member (made start) → waiting_at start logs tx number member ≡ 0
  pub goes : all_sent start (is_token_in tx number) logs ≡ all_taken start (is_token_in tx number) logs

-- so it is where none may be under way
abbrev pub QuietUnlessAsked : Type 0
QuietUnlessAsked =
    (start : Start) (all : ℕ → List HostStep) (es : List HostStep) → IsMoment start all es → (tx : TxId)
    → IsIn (coordinator_member tx) (made start)
    → may_go start (logs_of start es) tx (number_now start (logs_of start es)) ≡ false
    → IsQuiet start (logs_of start es) tx (number_now start (logs_of start es))

-- In the view of this number nothing of the transaction waits, one signal of it is under way, and it may.
pub record IsAlone (start : Start) (logs : ℕ → List HostStep) (tx : TxId) (number : ℕ) : Type 0 where
  pub waits : (member : Member) → IsIn member (made start) → waiting_at start logs tx number member ≡ 0
  pub goes : all_sent start (is_token_in tx number) logs ≡ all_taken start (is_token_in tx number) logs + 1
  pub may : may_go start logs tx number ≡ true

-- so it was of one that is taken, before the event
abbrev pub TakenIsAlone : Type 0
TakenIsAlone =
    (start : Start) (all : ℕ → List HostStep) (e : HostStep) (es : List HostStep) → IsMoment start all (e ∷ es)
    → (tx : TxId) → IsIn (coordinator_member tx) (made start) → (sound_machine start).asked e ≡ false
    → is_token_in tx (number_now start (logs_of start (e ∷ es))) e.step.taken ≡ true
    → IsAlone start (logs_of start es) tx (number_now start (logs_of start (e ∷ es)))

-- In the view of this number one request of the transaction waits at the rows of a member, and no other anywhere; none
-- of its signals is under way, and it may.
pub record WaitsAlone (start : Start) (logs : ℕ → List HostStep) (tx : TxId) (number : ℕ) (member : Member) : Type 0
  where
    pub here : waiting_at start logs tx number member ≡ 1
    pub elsewhere : (other : Member) → IsIn other (made start) → other ≢ member
        → waiting_at start logs tx number other ≡ 0
    pub goes : all_sent start (is_token_in tx number) logs ≡ all_taken start (is_token_in tx number) logs
    pub may : may_go start logs tx number ≡ true

-- so it is of one that waits
abbrev pub WaitingIsAlone : Type 0
WaitingIsAlone =
    (start : Start) (all : ℕ → List HostStep) (es : List HostStep) → IsMoment start all es → (tx : TxId)
    → IsIn (coordinator_member tx) (made start) → (member : Member) → IsIn member (made start)
    → 1 ≤ waiting_at start (logs_of start es) tx (number_now start (logs_of start es)) member
    → WaitsAlone start (logs_of start es) tx (number_now start (logs_of start es)) member
