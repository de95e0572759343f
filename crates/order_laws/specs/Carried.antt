-- Who is carried out and has let go of a key doesn't come back to it.
use Rattle.std.specs.Prelude.{◌≡◌, ℕ, true, List}
use Rattle.sig_core.specs.declared.member.TxId.{TxId}
use Rattle.world_core.specs.Start.{Start}
use Rattle.world_core.specs.Steps.{HostStep}
use Rattle.run_laws.specs.Circle.{at_host}
use Rattle.run_laws.specs.GivenUp.{is_carried_out}
use Rattle.run_laws.specs.Transit.{IsRun, logs_of}
use Rattle.order_laws.specs.Gone.{IsOut}
use Rattle.order_laws.specs.LetGo.{has_let_go}

-- a transaction that is carried out is out of each lock that it has let go of
abbrev pub CarriedOutStayOut : Type 0
CarriedOutStayOut =
    (start : Start) (es : List HostStep) (key : List ℕ) (h : ℕ) (tx : TxId) → IsRun start es
    → is_carried_out start (logs_of start es) tx ≡ true → has_let_go start (logs_of start es) key h tx ≡ true
    → IsOut tx (at_host start (logs_of start es) key h).lock
