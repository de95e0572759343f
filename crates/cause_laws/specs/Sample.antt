-- Logs of a life in which an abort was reported, for which the client had asked.
use Rattle.std.specs.Prelude.{ℕ, zero, suc, List, [], ◌∷◌, Some}
use Rattle.frag_map.specs.Shape.{IsShape}
use Rattle.run_theory.specs.Lists.{IsIn, IsPast}
use Rattle.sig_core.specs.declared.mark.Mark.{Mark}
use Rattle.sig_core.specs.declared.mark.Mark.TheVariants.{Reported}
use Rattle.sig_core.specs.declared.member.TxId.{TxId}
use Rattle.sig_core.specs.declared.outcome.AbortCause.TheVariants.{Request}
use Rattle.sig_core.specs.declared.outcome.Outcome.TheVariants.{Aborted}
use Rattle.sig_core.specs.declared.request.ApiReq.TheVariants.{Abort, Begin}
use Rattle.sig_core.specs.declared.signal.Body.TheVariants.{Client}
use Rattle.sig_core.specs.declared.signal.client.ClientSignal.TheVariants.{TcBeginConf, TcBeginReq, TcRollbackRep}
use Rattle.sig_core.specs.declared.signal.client.ClientSignal.TheVariants.{TcRollbackReq}
use Rattle.sig_core.specs.declared.signal.Signal.{Signal}
use Rattle.sig_core.specs.Place.{client, coordinator}
use Rattle.sig_core.specs.Step.{to_place}
use Rattle.world_core.specs.Hosts.{Membership, first_membership}
use Rattle.world_core.specs.Machine.{headed, request_signal}
use Rattle.world_core.specs.Start.{Start, fresh}
use Rattle.world_core.specs.Steps.{HostStep}
use Rattle.run_laws.specs.Laws.{IsClosedCut}

-- a cluster of one node, with one fragment
abbrev pub lone : Start
lone = fresh (record { nodes = 1; replicas = 1; fragments = 1 })

abbrev pub one : Membership
one = first_membership lone

-- the first transaction of node 1
abbrev pub first_tx : TxId
first_tx = record { tc = 1; start = 0; seq = 1 }

-- a step of a host with this stamp and these marks, and the signal that it took
abbrev pub marked : ℕ → ℕ → List Mark → Signal → HostStep
marked h stamp marks x = record { host = h; step = record { stamp = stamp; taken = x; marks = marks } }

-- the shell's host before the report: the client asks for transaction 7 at node 1, is told that it has begun, and asks
-- to abort it
abbrev pub before_report : List HostStep
before_report =
    marked 0 4 [] (request_signal one 3 (Abort 7))
    ∷ marked 0 3 [] (headed one 2 2 0 (to_place client (Client (TcBeginConf (Some 7) first_tx))))
    ∷ marked 0 1 [] (request_signal one 0 (Begin 7 (Some 1)))
    ∷ []

-- the abort is reported
abbrev pub report : HostStep
report =
    marked 0 6 (Reported first_tx (Aborted Request) ∷ [])
    (headed one 2 5 1 (to_place client (Client (TcRollbackRep first_tx Request))))

-- the logs of all hosts: node 1's coordinator begins the transaction, and aborts it
abbrev pub aborted : ℕ → List HostStep
aborted zero = report ∷ before_report
aborted (suc (suc zero)) =
    marked 2 5 [] (headed one 0 4 1 (to_place (coordinator 1) (Client (TcRollbackReq first_tx))))
    ∷ marked 2 2 [] (headed one 0 1 0 (to_place (coordinator 1) (Client (TcBeginReq (Some 7)))))
    ∷ []
aborted h = []

-- these logs are a closed cut of themselves, and have that report
pub record SampleIsAborted : Type 0 where
  pub shape : IsShape lone.shape
  pub cut : IsClosedCut lone aborted aborted
  pub reported : IsPast (report ∷ before_report) (aborted 0)
  pub marked_so : IsIn (Reported first_tx (Aborted Request)) report.step.marks
