-- A commit that was served, in a life of one node.
use Rattle.std.specs.Prelude.{◌≡◌, ℕ, zero, suc, List, [], ◌∷◌, Some}
use Rattle.world_core.specs.Steps.{HostStep}
use Rattle.sig_core.specs.declared.mark.Mark.{Mark}
use Rattle.sig_core.specs.declared.mark.Mark.TheVariants.{Decided, Reported}
use Rattle.sig_core.specs.declared.outcome.Outcome.TheVariants.{Committed}
use Rattle.sig_core.specs.declared.request.ApiReq.TheVariants.{Commit}
use Rattle.sig_core.specs.declared.signal.Body.TheVariants.{Client, Epoch}
use Rattle.sig_core.specs.declared.signal.Signal.{Signal}
use Rattle.sig_core.specs.declared.signal.client.ClientSignal.TheVariants.{TcCommitAck, TcCommitConf, TcCommitReq}
use Rattle.sig_core.specs.declared.signal.epoch.EpochSignal.TheVariants.{DiVerifyConf, DiVerifyEnd, DiVerifyReq}
use Rattle.sig_core.specs.Place.{client, coordinator, epochs, rows_of}
use Rattle.sig_core.specs.Step.{to_place}
use Rattle.world_core.specs.Machine.{headed, request_signal}
use Rattle.api_block.specs.declared.opened.Doing.TheVariants.{Ready}
use Rattle.host_laws.specs.OpenedAfter.{opened_after}
use Rattle.answer_laws.specs.Sample.{first_tx, lone, one, sample, seventh, takes}
use Rattle.command_laws.specs.Served.{IsServedBetween, named_in}

-- a step with this stamp and these marks, and the signal that it took
abbrev pub marked : ℕ → ℕ → List Mark → Signal → HostStep
marked h stamp marks x = record { host = h; step = record { stamp = stamp; taken = x; marks = marks } }

-- behind the quiet logs in which transaction 7 is open, it is committed: the client asks for that, the node's
-- coordinator gets
-- an epoch and tells the client, and the rows of the node hear that the client knows
abbrev pub committed : ℕ → List HostStep
committed zero =
    marked 0 8 (Reported first_tx (Committed 1) ∷ [])
    (headed one 2 7 1 (to_place client (Client (TcCommitConf first_tx 1))))
    ∷ takes 0 4 (request_signal one 3 (Commit 7))
    ∷ sample zero
committed (suc (suc (suc zero))) =
    takes 3 9 (headed one 0 8 0 (to_place (rows_of 1) (Client (TcCommitAck first_tx)))) ∷ []
committed (suc (suc zero)) =
    takes 2 8 (headed one 2 7 2 (to_place (epochs 1) (Epoch (DiVerifyEnd first_tx))))
    ∷ takes 2 7 (headed one 2 6 1 (to_place (coordinator 1) (Epoch (DiVerifyConf first_tx 1))))
    ∷ marked 2 6 (Decided first_tx 1 ∷ []) (headed one 2 5 0 (to_place (epochs 1) (Epoch (DiVerifyReq first_tx []))))
    ∷ takes 2 5 (headed one 0 4 1 (to_place (coordinator 1) (Client (TcCommitReq first_tx))))
    ∷ sample (suc (suc zero))
committed h = []

-- so there is a commit that was served, of a transaction that takes commands
pub record SampleIsServed : Type 0 where
  pub served : IsServedBetween lone sample committed (Commit 7)
  pub named : named_in (opened_after lone sample) 7 ≡ Some seventh
  pub ready : seventh.doing ≡ Ready
