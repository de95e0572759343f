-- Quiet logs of a life in which a transaction has begun.
use Rattle.world_core.specs.Hosts.{Membership, first_membership}
use Rattle.std.specs.Prelude.{◌≡◌, ℕ, zero, suc, List, [], ◌∷◌, None, Some}
use Rattle.api_block.specs.declared.opened.Doing.TheVariants.{Ready}
use Rattle.api_block.specs.declared.opened.OpenTransaction.{OpenTransaction}
use Rattle.world_core.specs.Steps.{HostStep}
use Rattle.sig_core.specs.declared.member.TxId.{TxId}
use Rattle.sig_core.specs.declared.request.ApiReq.TheVariants.{Begin}
use Rattle.sig_core.specs.declared.signal.Body.TheVariants.{Client}
use Rattle.sig_core.specs.declared.signal.Signal.{Signal}
use Rattle.sig_core.specs.declared.signal.client.ClientSignal.TheVariants.{TcBeginReq, TcBeginConf}
use Rattle.sig_core.specs.Place.{client, coordinator}
use Rattle.sig_core.specs.Step.{to_place}
use Rattle.world_core.specs.Machine.{headed, request_signal}
use Rattle.world_core.specs.Start.{Start, fresh}
use Rattle.answer_laws.specs.Answered.{AreQuiet}
use Rattle.host_laws.specs.OpenedAfter.{opened_after}

-- a step of a host with this stamp and no marks, and the signal that it took
abbrev pub takes : ℕ → ℕ → Signal → HostStep
takes h stamp x = record { host = h; step = record { stamp = stamp; taken = x; marks = [] } }

-- a cluster of one node, with one fragment
abbrev pub lone : Start
lone = fresh (record { nodes = 1; replicas = 1; fragments = 1 })

abbrev pub one : Membership
one = first_membership lone

-- the first transaction of node 1
abbrev pub first_tx : TxId
first_tx = record { tc = 1; start = 0; seq = 1 }

-- the client asks for transaction 7 at node 1, which begins it, and is told so
abbrev pub sample : ℕ → List HostStep
sample zero =
    takes 0 3 (headed one 2 2 0 (to_place client (Client (TcBeginConf (Some 7) first_tx))))
    ∷ takes 0 1 (request_signal one 0 (Begin 7 (Some 1)))
    ∷ []
sample (suc (suc zero)) = takes 2 2 (headed one 0 1 0 (to_place (coordinator 1) (Client (TcBeginReq (Some 7))))) ∷ []
sample h = []

-- transaction 7, which takes commands
abbrev pub seventh : OpenTransaction
seventh = record { name = Some 7; node = 1; tx = Some first_tx; operations = 0; doing = Ready; ahead = None }

-- these logs are quiet, and have that transaction
pub record SampleIsQuiet : Type 0 where
  pub quiet : AreQuiet lone sample
  pub opened : opened_after lone sample ≡ seventh ∷ []
