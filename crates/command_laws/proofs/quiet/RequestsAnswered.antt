-- Each request is answered.
use Rattle.std.proofs.Common.{◌⊎◌, ℕ, List, inl, inr}
use Rattle.std.specs.Prelude.{None, Some}
use Rattle.run_theory.proofs.Pasts.{past_trans}
use Rattle.sig_core.specs.declared.member.TxId.{TxId}
use Rattle.sig_core.specs.declared.op.Op.{Op}
use Rattle.sig_core.specs.declared.outcome.AbortCause.TheVariants as cause
use Rattle.sig_core.specs.declared.outcome.Outcome.TheVariants as outcome
use Rattle.sig_core.specs.declared.request.ApiReq.{ApiReq}
use Rattle.sig_core.specs.declared.request.ApiReq.TheVariants as request
use Rattle.world_core.specs.Start.{Start}
use Rattle.world_core.specs.Steps.{HostStep}
use Rattle.answer_laws.proofs.Answers.{each_answered}
use Rattle.command_laws.proofs.ends.AbortAnswered.{aborts_answered}
use Rattle.command_laws.proofs.begins.Begins.{begin_comes_to}
use Rattle.command_laws.proofs.operations.ComesTo.{commits_come_to, operations_come_to}
use Rattle.command_laws.proofs.ends.Committed.{commits_committed}
use Rattle.command_laws.proofs.dumps.Dump.{digest_comes_to, rows_come_to}
use Rattle.command_laws.proofs.ends.EndsOnce.{abort_once, commit_once}
use Rattle.command_laws.proofs.lone.GivenUp.{alone_given_up}
use Rattle.command_laws.proofs.operations.HeldUp.{each_held_up}
use Rattle.command_laws.proofs.waits.HoldersTold.{holders_told}
use Rattle.command_laws.proofs.lone.Answered.{lone_answered}
use Rattle.command_laws.proofs.lone.Committed.{lone_committed}
use Rattle.command_laws.proofs.dumps.NoDump.{IsIdle, none_under_way}
use Rattle.command_laws.proofs.operations.Answered.{operations_answered}
use Rattle.command_laws.proofs.quiet.ServedBetween.{requests_served}
use Rattle.command_laws.proofs.rounds.Ticks.{ticks}
use Rattle.command_laws.proofs.begins.TurnedDown.{refused_where_due}
use Rattle.command_laws.proofs.waits.Aborted.{waiting_aborts_heard}
use Rattle.command_laws.specs.Alone.{IsRefusedAlone, IsTurnedAway, WaitsAlone}
use Rattle.command_laws.specs.Answers.{AnswersRequest, IsAbortedAs, LoneComesTo, RequestsAreAnswered}
use Rattle.command_laws.specs.Begun.{TakesCommands}
use Rattle.command_laws.specs.Once.{IsToldOnce}
use Rattle.command_laws.specs.Served.{IsAnsweredAlone, IsServedBetween, IsToldCommitted}

lone_comes_to : (start : Start) (was now : ℕ → List HostStep) (op : Op)
    → IsServedBetween start was now (request.Operate None op) → LoneComesTo start was now
lone_comes_to start was now op served = by (lone_answered each_answered start was now op served)
  where
    by : IsAnsweredAlone start was now ⊎ (IsRefusedAlone start was now ⊎
        (IsTurnedAway start was now ⊎ WaitsAlone start was now)) → LoneComesTo start was now
    by (inl answered) = inl (record {
      answered = answered;
      committed = lone_committed each_answered start was now op served answered;
    })
    by (inr other) = inr other

answers_request : (start : Start) (was now : ℕ → List HostStep) → IsIdle start was → (r : ApiReq)
    → IsServedBetween start was now r
    → AnswersRequest start was now r
answers_request start was now idle (request.Operate (Some name) op) served = (
  operations_come_to start was now name op served,
  (λ tx t. operations_answered each_answered start was now name op t.takes.item tx served t.takes.named t.takes.ready
      t.takes.own t.few),
)
answers_request start was now idle (request.Operate None op) served = lone_comes_to start was now op served
answers_request start was now idle (request.Commit name) served =
    (commits_come_to start was now name served, told)
  where
    told : (tx : TxId) → TakesCommands start was name tx
        → IsToldCommitted start was now name tx × IsToldOnce start was now name
    told tx t =
        let c = commits_committed each_answered start was now name t.item tx served t.named t.ready t.own in
        (c, commit_once start was now name t.item tx served t.named t.ready t.own (outcome.Committed c.epoch) c.told)
answers_request start was now idle (request.Abort name) served = (
  told,
  (λ tx t. waiting_aborts_heard start was now name tx served t),
)
  where
    told : (tx : TxId) → TakesCommands start was name tx
        → IsAbortedAs start was now name × IsToldOnce start was now name
    told tx t =
        let a = aborts_answered each_answered start was now name t.item tx served t.named t.ready t.own in
        (a, abort_once start was now name t.item tx served t.named t.ready t.own (outcome.Aborted cause.Request) a)
answers_request start was now idle request.Pending served = λ first waits left. (
  holders_told each_answered each_held_up start first was now waits served left,
  alone_given_up start first was now waits served left,
)
answers_request start was now idle (request.Begin name at) served = begin_comes_to start was now name at served
answers_request start was now idle (request.Tick round of) served = ticks start was now round of served
answers_request start was now idle (request.Rows node) served = rows_come_to start was now idle node served
answers_request start was now idle (request.Digest node) served = digest_comes_to start was now idle node served
answers_request start was now idle _ served = tt

pub requests_answered : RequestsAreAnswered
requests_answered start logs shape right within asked newer e before r at is on =
    let moments = requests_served start logs shape right within asked newer e before r at is on in
    record {
      moments = moments;
      answers = answers_request start moments.was moments.now
          (none_under_way start logs right within asked shape moments.was moments.served.before
          (λ h. past_trans (moments.served.cut h) (moments.within h)))
          r moments.served;
      turned_down = refused_where_due start moments.was moments.now r moments.served;
      left = λ t inside. each_answered start moments.now t moments.served.since inside;
    }
