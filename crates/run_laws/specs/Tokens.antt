-- The operations of a transaction are under way one at a time.
use Rattle.node_core.specs.Blocks.{lqh_of}
use Rattle.std.specs.Prelude.{◌≤◌, ◌+◌, if◌then◌else◌, ℕ, Bool, true, false, is_some, List, Option, None, Some}
use Rattle.world_core.specs.Steps.{Addressed, HostStep}
use Rattle.sig_core.specs.declared.member.TxId.{TxId}
use Rattle.sig_core.specs.declared.signal.Body.{Body}
use Rattle.sig_core.specs.declared.signal.Body.TheVariants.{Chain}
use Rattle.sig_core.specs.declared.signal.chain.ChainSignal.TheVariants.{LqhKeyReq, LqhKeyConf, LqhKeyRef}
use Rattle.sig_core.specs.Same.{same_tx}
use Rattle.lqh_block.specs.declared.request.Request.{Request}
use Rattle.tc_block.specs.declared.transaction.Transaction.{Transaction}
use Rattle.node_core.specs.declared.host.Host.{Host}
use Rattle.world_core.specs.Hosts.{first_hosts}
use Rattle.world_core.specs.Machine.{after}
use Rattle.world_core.specs.Start.{Start}
use Rattle.tc_block.specs.Phases.{is_aborting}
use Rattle.run_theory.specs.Counts.{one_if, tally, total}
use Rattle.run_laws.specs.GivenUp.{is_given_up}
use Rattle.run_laws.specs.Live.{live_at}
use Rattle.run_laws.specs.Transit.{AreInTransit, IsRun, logs_of}

-- the signal asks a replica for a part of an operation of the transaction, or answers one
abbrev pub is_token : TxId → Body → Bool
is_token tx (Chain (LqhKeyReq other work chain at)) = same_tx other tx
is_token tx (Chain (LqhKeyConf other key answer)) = same_tx other tx
is_token tx (Chain (LqhKeyRef other key cause)) = same_tx other tx
is_token tx body = false

abbrev pub tokens_in : TxId → List Addressed → ℕ
tokens_in tx xs = tally (λ (x : Addressed). is_token tx x.signal.body) xs

-- requests of the transaction wait here for a lock
abbrev pub waiting_in : TxId → Host → ℕ
waiting_in tx host = tally (λ (q : Request). same_tx q.tx tx) (lqh_of host).waiting

abbrev pub waiting_all : Start → (ℕ → List HostStep) → TxId → ℕ
waiting_all start logs tx = total (first_hosts start) (λ h. waiting_in tx (after start h (logs h)))

-- how many parts of operations of the transaction are in transit or wait
abbrev pub tokens : Start → (ℕ → List HostStep) → List Addressed → TxId → ℕ
tokens start logs xs tx = tokens_in tx xs + waiting_all start logs tx

-- How many there may be: one where it has an operation unanswered, or is aborted; else none.
abbrev pub budget_of : Transaction → ℕ
budget_of t = if is_aborting t.phase then 1 else one_if (is_some t.asked)

abbrev pub budget_by : Bool → Option Transaction → ℕ
budget_by given_up (Some t) = budget_of t
budget_by true None = 1
budget_by false None = 0

abbrev pub budget : Start → (ℕ → List HostStep) → TxId → ℕ
budget start logs tx = budget_by (is_given_up start logs tx) (live_at start logs tx)

abbrev pub OneAtATime : Type 0
OneAtATime =
    (start : Start) (es : List HostStep) (xs : List Addressed) (tx : TxId) → IsRun start es → AreInTransit start es xs
    → tokens start (logs_of start es) xs tx ≤ budget start (logs_of start es) tx
