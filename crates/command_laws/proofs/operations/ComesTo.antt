-- What each operation and each commit of a transaction with a name comes to.
use Rattle.std.proofs.Common.{◌⊎◌, inl, inr}
use Rattle.std.specs.Prelude.{Some}
use Rattle.sig_core.specs.declared.request.ApiReq.TheVariants as request
use Rattle.answer_laws.proofs.Answers.{each_answered}
use Rattle.host_laws.specs.OpenedAfter.{opened_after}
use Rattle.command_laws.proofs.ends.Committed.{commits_committed}
use Rattle.command_laws.proofs.operations.Answered.{operations_answered}
use Rattle.command_laws.proofs.begins.TurnedDown.{TakesCommands, TakesOperations, commit_taken, operation_taken}
use Rattle.command_laws.specs.Answers.{CommitComesTo, CommitsComeTo, IsLeftWaiting, OperationComesTo, OperationsComeTo}
use Rattle.command_laws.specs.Served.{StillWaits}
use Rattle.command_laws.specs.TurnedDown.{IsTurnedDown}

pub operations_come_to : OperationsComeTo
operations_come_to start was now name op served = by (operation_taken start was now name op served)
  where
    left : {A B : Type 0} → (tx : _) → A ⊎ (B ⊎ StillWaits start now name tx) → A ⊎ (B ⊎ IsLeftWaiting start now name)
    left tx (inl a) = inl a
    left tx (inr (inl b)) = inr (inl b)
    left tx (inr (inr waits)) = inr (inr (record { tx = tx; waits = waits }))

    by : IsTurnedDown start was now (request.Operate (Some name) op) ⊎ TakesOperations (opened_after start was) name
        → OperationComesTo start was now name op
    by (inl turned) = inl turned
    by (inr t) =
        inr (left t.takes.tx (operations_answered each_answered start was now name op t.takes.item t.takes.tx served
        t.takes.named t.takes.ready t.takes.own t.few))

pub commits_come_to : CommitsComeTo
commits_come_to start was now name served = by (commit_taken start was now name served)
  where
    by : IsTurnedDown start was now (request.Commit name) ⊎ TakesCommands (opened_after start was) name
        → CommitComesTo start was now name
    by (inl turned) = inl turned
    by (inr t) = inr (record {
      tx = t.tx;
      committed = commits_committed each_answered start was now name t.item t.tx served t.named t.ready
          t.own;
    })
