-- An operation of a transaction that takes commands is answered, or refused for want of room or of time, or waits for a
-- lock.
use Rattle.std.proofs.Common.{◌≡◌, ◌⊎◌, ◌<◌, ℕ, List, [], ◌∷◌, ◌++◌, sym, subst, inl, inr, arith}
use Rattle.std.specs.Prelude.{Option, Some}
use Rattle.sig_core.specs.declared.member.TxId.{TxId}
use Rattle.sig_core.specs.declared.op.Op.{Op}
use Rattle.sig_core.specs.declared.reply.ApiReply.TheVariants.{Answered}
use Rattle.sig_core.specs.declared.request.ApiReq.TheVariants.{Operate}
use Rattle.api_block.specs.declared.operate.TheConstants.{OPERATIONS}
use Rattle.api_block.specs.declared.opened.Doing.{Doing}
use Rattle.api_block.specs.declared.opened.Doing.TheVariants.{Operating, Ready}
use Rattle.api_block.specs.declared.opened.OpenTransaction.{OpenTransaction}
use Rattle.node_core.specs.Blocks.{api_of}
use Rattle.world_core.specs.Hosts.{home}
use Rattle.world_core.specs.Machine.{after, step_after}
use Rattle.world_core.specs.Start.{Start}
use Rattle.world_core.specs.Steps.{HostStep}
use Rattle.run_laws.proofs.hosts.AlongSteps.{live_tx}
use Rattle.answer_laws.specs.Answered.{EachIsAnswered, IsOpenAt, WaitsForLock, is_answered_by}
use Rattle.host_laws.specs.OpenedAfter.{opened_after, opened_in}
use Rattle.command_laws.proofs.ends.Committed.{sent_append}
use Rattle.command_laws.proofs.operations.EarlySteps.{IsOpenNow, OpenOption, is_wish_to}
use Rattle.command_laws.proofs.ends.EndsWell.{ended_well, replied}
use Rattle.command_laws.proofs.hosts.Entries.{HasOne}
use Rattle.command_laws.proofs.hosts.EntryGoes.{HasAnswered, HasEnded, operate_goes}
use Rattle.command_laws.proofs.quiet.First.{IsFirst, first_step, request_first}
use Rattle.command_laws.proofs.hosts.BlockSteps.{api_seen}
use Rattle.command_laws.proofs.operations.Asks.{AreNamed, IsAskedFor, named_since, operate_first}
use Rattle.command_laws.proofs.quiet.ReadyAtQuiet.{named_at, ready_open}
use Rattle.command_laws.proofs.quiet.Since.{sent_since}
use Rattle.command_laws.proofs.operations.TellsSince.{OnTc}
use Rattle.command_laws.specs.Served.{IsAnsweredAs, IsRefusedAs, IsServedBetween, OperationsAreAnswered, StillWaits}
use Rattle.command_laws.specs.Served.{named_in}

module _ (answered : EachIsAnswered) (start : Start) (was now : ℕ → List HostStep) (name : ℕ) (op : Op)
    (t : OpenTransaction) (tx : TxId) (served : IsServedBetween start was now (Operate (Some name) op))
    (named : named_in (opened_after start was) name ≡ Some t) (ready : t.doing ≡ Ready) (own : t.tx ≡ Some tx)
    (few : t.operations < OPERATIONS) where
  f : IsFirst start was now (Operate (Some name) op)
  f = request_first start was now (Operate (Some name) op) served

  were : AreNamed tx (opened_after start was)
  were = named_at start was served.before name t tx named own

  asked : IsAskedFor tx name (api_seen (step_after start 0 (was 0) f.first))
  asked = subst (IsAskedFor tx name) (sym (first_step start was now (Operate (Some name) op) f))
      (operate_first (api_of (after start 0 (was 0))) name op t tx named ready own few were)

  is_open : IsOpenAt tx (after start (home start tx) (was (home start tx)))
  is_open = ready_open start was served.before name t tx named own answered ready

  open_was : (h : ℕ) → home start tx ≡ h → OnTc (IsOpenNow tx) (after start h (was h))
  open_was h at =
      let o : IsOpenAt tx (after start h (was h)) = subst (λ k. IsOpenAt tx (after start k (was k))) at is_open in
      record { open_now = subst OpenOption (sym (live_tx start tx h (was h) o.transaction o.live)) o.phase }

  -- nobody wishes for its commit or abort
  no_wishes : sent_since start (is_wish_to tx) 0 (f.later ++ f.first ∷ []) (was 0) ≡ 0
  no_wishes = omega (
    arith,
    sent_append start (is_wish_to tx) 0 f.later (f.first ∷ []) (was 0),
    (named_since tx start f.later (f.first ∷ was 0) f.plain asked.named).1,
    asked.wishes,
  )

  still_waits : HasOne tx (Some name) Operating (opened_after start now) → StillWaits start now name tx
  still_waits has = record {
    item = has.item;
    inside = has.inside;
    called = has.called;
    own = has.own;
    does = has.does;
    waits = by has.item.doing has.item.tx has.does has.own (answered start now has.item served.since has.inside);
  }
    where
      by : (doing : Doing) (o : Option TxId) → doing ≡ Operating → o ≡ Some tx → is_answered_by start now doing o
          → WaitsForLock start now tx
      by doing o is some all =
          subst (λ p. is_answered_by start now Operating p) some (subst (λ d. is_answered_by start now d o) is all)

  refused : HasEnded tx (Some name) start f.later (f.first ∷ was 0) → IsRefusedAs start was now name
  refused ended =
      let w = ended_well start was now (Operate (Some name) op) served f tx no_wishes open_was (Some name) ended in
      record { cause = w.cause; told = w.told; refusal = w.refusal }

  operation_answered : IsAnsweredAs start was now name ⊎ (IsRefusedAs start was now name ⊎ StillWaits start now name tx)
  operation_answered = by (operate_goes tx (Some name) start f.later (f.first ∷ was 0) f.plain asked.has)
    where
      by : HasOne tx (Some name) Operating (opened_in (after start 0 (f.later ++ f.first ∷ was 0)))
          ⊎ (HasAnswered (Some name) start f.later (f.first ∷ was 0) ⊎ HasEnded tx (Some name) start f.later
          (f.first ∷ was 0))
          → IsAnsweredAs start was now name ⊎ (IsRefusedAs start was now name ⊎ StillWaits start now name tx)
      by (inl has) = inr (inr
          (still_waits (subst (λ log. HasOne tx (Some name) Operating (opened_in (after start 0 log))) (sym f.is) has)))
      by (inr (inl a)) = inl (record {
        answer = a.answering.answer;
        told = replied start was now (Operate (Some name) op) served f a.newer a.step a.older
            (Answered (Some name) a.answering.answer) a.is a.answering.told;
      })
      by (inr (inr ended)) = inr (inl (refused ended))

-- so it is where each command is answered
pub operations_answered : EachIsAnswered → OperationsAreAnswered
operations_answered answered start was now name op t tx served named ready own few =
    operation_answered answered start was now name op t tx served named ready own few
