-- What is asked of replicas stands alone.
use Rattle.std.specs.Prelude.{◌≡◌, ℕ, true, false, List}
use Rattle.world_core.specs.Steps.{HostStep}
use Rattle.sig_core.specs.declared.member.TxId.{TxId}
use Rattle.node_core.specs.Requests.{is_request}
use Rattle.world_core.specs.Start.{Start}
use Rattle.key_laws.specs.PrimaryEvents.{NoneOf}
use Rattle.run_laws.specs.Circle.{at_host}
use Rattle.run_laws.specs.GivenUp.{is_carried_out}
use Rattle.run_laws.specs.Owed.{IsUndecided}
use Rattle.run_laws.specs.Tokens.{is_token}
use Rattle.run_laws.specs.Transit.{Comes, IsRun, logs_of}

-- no request of a transaction waits where another part of an operation of it comes, nor where it is carried out
abbrev pub NoneWaitBeside : Type 0
NoneWaitBeside =
    (start : Start) (es : List HostStep) (e : HostStep) (tx : TxId) (key : List ℕ) (h : ℕ) → Comes start es e
    → is_request e.step.taken.body ≡ false
    → is_token tx e.step.taken.body ≡ true
    → NoneOf tx (at_host start (logs_of start es) key h).waiting

abbrev pub NoneWaitWhereCarriedOut : Type 0
NoneWaitWhereCarriedOut =
    (start : Start) (es : List HostStep) (tx : TxId) (key : List ℕ) (h : ℕ) → IsRun start es
    → is_carried_out start (logs_of start es) tx ≡ true
    → NoneOf tx (at_host start (logs_of start es) key h).waiting

-- no part of an operation of a decided transaction comes, unless that is given up
abbrev pub ComersAreUndecided : Type 0
ComersAreUndecided =
    (start : Start) (es : List HostStep) (e : HostStep) (tx : TxId) → Comes start es e
    → is_request e.step.taken.body ≡ false → is_token tx e.step.taken.body ≡ true
    → IsUndecided start (logs_of start es) tx
