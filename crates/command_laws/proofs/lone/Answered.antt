-- An operation alone is answered, or refused for want of room or of time, or its transaction can't begin, or it waits
-- for a lock.
use Rattle.std.proofs.Common.{◌≡◌, ◌⊎◌, ℕ, true, false, List, [], ◌∷◌, ◌++◌, sym, ap, ◌∙◌, subst, inl, inr}
use Rattle.std.proofs.Common.{append_assoc, arith}
use Rattle.std.specs.Prelude.{Option, None, Some}
use Rattle.run_theory.proofs.Pasts.{each_before}
use Rattle.run_theory.specs.Lists.{Each}
use Rattle.sig_core.specs.declared.member.TxId.{TxId}
use Rattle.sig_core.specs.declared.op.Op.{Op}
use Rattle.sig_core.specs.declared.reply.ApiReply.TheVariants.{Answered, Refused}
use Rattle.sig_core.specs.declared.reply.Refusal.TheVariants.{TooManyOpen}
use Rattle.sig_core.specs.declared.request.ApiReq.TheVariants.{Operate}
use Rattle.frag_map.specs.Layout.{first_view}
use Rattle.api_block.specs.declared.opened.Doing.{Doing}
use Rattle.api_block.specs.declared.opened.Doing.TheVariants.{Operating}
use Rattle.api_block.specs.Opened.{has_tx, is_beginning}
use Rattle.node_core.specs.Blocks.{api_of}
use Rattle.node_core.specs.Requests.{is_request}
use Rattle.world_core.specs.Hosts.{home}
use Rattle.world_core.specs.Machine.{after, step_after}
use Rattle.world_core.specs.Start.{Start}
use Rattle.world_core.specs.Steps.{HostStep}
use Rattle.run_theory.proofs.Tally.{tally_append}
use Rattle.run_theory.specs.Counts.{one_if}
use Rattle.answer_laws.proofs.Begins.{no_begin}
use Rattle.host_laws.proofs.hosts.ShellHost.{shell_after}
use Rattle.host_laws.proofs.hosts.LinkCounts.{steps}
use Rattle.answer_laws.proofs.Lives.{holds_at, once_started}
use Rattle.host_laws.proofs.coordinator.Lives.{is_start}
use Rattle.answer_laws.specs.Answered.{EachIsAnswered, WaitsForLock, is_answered_by}
use Rattle.host_laws.specs.OpenedAfter.{opened_after, opened_in}
use Rattle.run_laws.proofs.transit.Weighing.{none_passes}
use Rattle.command_laws.proofs.ends.Committed.{calm_at, sent_append}
use Rattle.command_laws.proofs.operations.EarlySteps.{IsOpenNow, OpenOption, is_wish_to}
use Rattle.command_laws.proofs.ends.EndsWell.{ended_well, replied}
use Rattle.command_laws.proofs.hosts.Entries.{HasOne}
use Rattle.command_laws.proofs.hosts.EntryGoes.{HasAnswered, HasEnded, IsAnswering, IsEnding, operate_goes}
use Rattle.command_laws.proofs.quiet.First.{IsFirst, first_step, request_first}
use Rattle.command_laws.proofs.quiet.Homes.{unborn_there}
use Rattle.command_laws.proofs.hosts.BlockSteps.{api_seen}
use Rattle.command_laws.proofs.begins.Lone.{HasBegun, IsAlone, IsAskedAlone, WasRefused, alone_first, begin_goes}
use Rattle.command_laws.proofs.lone.Wishes.{wishes_since}
use Rattle.command_laws.proofs.quiet.Since.{sent_since}
use Rattle.command_laws.proofs.operations.TellsSince.{OnTc}
use Rattle.command_laws.specs.Alone.{IsRefusedAlone, IsTurnedAway, LoneOperationsAreAnswered, WaitsAlone}
use Rattle.command_laws.specs.Served.{IsAnsweredAlone, IsServedBetween}

-- what was so behind some steps and a log was so behind that log
module _ (start : Start) (newer : List HostStep) (step : HostStep) (older log : List HostStep) where
  same_log : (some : List HostStep) → some ++ (step ∷ (older ++ log)) ≡ (some ++ step ∷ older) ++ log
  same_log some = sym (append_assoc some (step ∷ older) log)

  answered_before : (name : Option ℕ) → HasAnswered name start newer (step ∷ (older ++ log))
      → HasAnswered name start (newer ++ step ∷ older) log
  answered_before name a = record {
    newer = a.newer;
    step = a.step;
    older = a.older ++ step ∷ older;
    is = ap (λ w. w ++ step ∷ older) a.is ∙ append_assoc a.newer (a.step ∷ a.older) (step ∷ older);
    answering =
        subst (λ l. IsAnswering name (after start 0 l) (step_after start 0 l a.step)) (same_log a.older) a.answering;
  }

  ended_before : (tx : TxId) (name : Option ℕ) → HasEnded tx name start newer (step ∷ (older ++ log))
      → HasEnded tx name start (newer ++ step ∷ older) log
  ended_before tx name ended = record {
    newer = ended.newer;
    step = ended.step;
    older = ended.older ++ step ∷ older;
    is = ap (λ w. w ++ step ∷ older) ended.is ∙ append_assoc ended.newer (ended.step ∷ ended.older) (step ∷ older);
    ending = subst (λ l. IsEnding tx name (after start 0 l) ended.step.step.taken.body
        (step_after start 0 l ended.step)) (same_log ended.older) ended.ending;
  }

-- the API's view stays the first
pub shell_view : (start : Start) (log : List HostStep)
    → (api_of (after start 0 log)).view ≡ first_view start.shape.nodes
shell_view start log = let s = shell_after start log in ap (λ g. (api_of g).view) s.is ∙ s.view

module _ (answered : EachIsAnswered) (start : Start) (was now : ℕ → List HostStep) (op : Op)
    (served : IsServedBetween start was now (Operate None op)) where
  abbrev Result : Type 0
  Result = IsAnsweredAlone start was now ⊎
      (IsRefusedAlone start was now ⊎ (IsTurnedAway start was now ⊎ WaitsAlone start was now))

  f : IsFirst start was now (Operate None op)
  f = request_first start was now (Operate None op) served

  asked : IsAskedAlone op (api_seen (step_after start 0 (was 0) f.first))
  asked = subst (IsAskedAlone op) (sym (first_step start was now (Operate None op) f))
      (alone_first start (api_of (after start 0 (was 0))) op (shell_view start (was 0)) served.before.shape.nodes_some
      (calm_at start was served.before))

  answered_alone : HasAnswered None start f.later (f.first ∷ was 0) → IsAnsweredAlone start was now
  answered_alone a = record {
    answer = a.answering.answer;
    told = replied start was now (Operate None op) served f a.newer a.step a.older (Answered None a.answering.answer)
        a.is a.answering.told;
  }

  turned_away : WasRefused op start f.later (f.first ∷ was 0) → IsTurnedAway start was now
  turned_away r =
      replied start was now (Operate None op) served f r.newer r.step r.older (Refused None TooManyOpen) r.is r.told

  not_beginning : IsAlone op (opened_after start now) → ⊥
  not_beginning has = let both : true ≡ false = sym (ap is_beginning has.does)
      ∙ no_begin start now has.item served.since has.inside in cc

  module _ (wishes : (tx : TxId) → sent_since start (is_wish_to tx) 0 f.later (f.first ∷ was 0) ≡ 0)
      (b : HasBegun op start f.later (f.first ∷ was 0)) where
    abbrev rest : List HostStep
    rest = b.older ++ f.first ∷ was 0

    now_is : now 0 ≡ b.newer ++ b.step ∷ rest
    now_is = f.is ∙ ap (λ w. w ++ f.first ∷ was 0) b.is ∙ append_assoc b.newer (b.step ∷ b.older) (f.first ∷ was 0)

    -- it hadn't begun before
    unbegun : steps (is_start b.tx) (was 0) ≡ 0
    unbegun =
        omega (
          arith,
          once_started start b.tx now served.since,
          ap (steps (is_start b.tx)) now_is,
          tally_append (λ (e : HostStep). is_start b.tx e.step.taken.to e.step.taken.body) b.newer (b.step ∷ rest),
          tally_append (λ (e : HostStep). is_start b.tx e.step.taken.to e.step.taken.body) b.older (f.first ∷ was 0),
          ap one_if b.begun,
        )

    no_wishes : sent_since start (is_wish_to b.tx) 0 (f.later ++ f.first ∷ []) (was 0) ≡ 0
    no_wishes = omega (
      arith,
      sent_append start (is_wish_to b.tx) 0 f.later (f.first ∷ []) (was 0),
      wishes b.tx,
      asked.wishes b.tx,
    )

    open_was : (h : ℕ) → home start b.tx ≡ h → OnTc (IsOpenNow b.tx) (after start h (was h))
    open_was h at =
        record { open_now = subst OpenOption (sym (unborn_there start was served.before b.tx h unbegun)) tt }

    refused : HasEnded b.tx None start f.later (f.first ∷ was 0) → IsRefusedAlone start was now
    refused ended =
        let w = ended_well start was now (Operate None op) served f b.tx no_wishes open_was None ended in
        record { cause = w.cause; told = w.told; refusal = w.refusal }

    waits_alone : HasOne b.tx None Operating (opened_after start now) → WaitsAlone start was now
    waits_alone has = record {
      tx = b.tx;
      item = has.item;
      inside = has.inside;
      called = has.called;
      own = has.own;
      does = has.does;
      waits = by has.item.doing has.item.tx has.does has.own (answered start now has.item served.since has.inside);
      begun_since = none_passes (has_tx b.tx) (opened_after start was)
          (omega (arith, (holds_at start b.tx was served.before).few, unbegun));
    }
      where
        by : (doing : Doing) (o : Option TxId) → doing ≡ Operating → o ≡ Some b.tx → is_answered_by start now doing o
            → WaitsForLock start now b.tx
        by doing o is some all =
            subst (λ p. is_answered_by start now Operating p) some (subst (λ d. is_answered_by start now d o) is all)

    plain_newer : Each (λ (e : HostStep). is_request e.step.taken.body ≡ false) b.newer
    plain_newer = each_before (λ (e : HostStep). is_request e.step.taken.body ≡ false) b.newer (b.step ∷ b.older)
        (subst (Each (λ (e : HostStep). is_request e.step.taken.body ≡ false)) b.is f.plain)

    begun_result : Result
    begun_result = by (operate_goes b.tx None start b.newer (b.step ∷ rest) plain_newer b.has)
      where
        by : HasOne b.tx None Operating (opened_in (after start 0 (b.newer ++ b.step ∷ rest)))
            ⊎ (HasAnswered None start b.newer (b.step ∷ rest) ⊎ HasEnded b.tx None start b.newer (b.step ∷ rest))
            → Result
        by (inl has) = inr (inr (inr (waits_alone (subst (λ log. HasOne b.tx None Operating
            (opened_in (after start 0 log))) (sym now_is) has))))
        by (inr (inl a)) = inl (answered_alone (subst (λ later. HasAnswered None start later (f.first ∷ was 0))
            (sym b.is) (answered_before start b.newer b.step b.older (f.first ∷ was 0) None a)))
        by (inr (inr ended)) = inr (inl (refused (subst (λ later. HasEnded b.tx None start later (f.first ∷ was 0))
            (sym b.is) (ended_before start b.newer b.step b.older (f.first ∷ was 0) b.tx None ended))))

  lone_result : Result
  lone_result = by (wishes_since start f.later (f.first ∷ was 0) f.plain)
      (begin_goes op start f.later (f.first ∷ was 0) f.plain asked.alone)
    where
      by : HasAnswered None start f.later (f.first ∷ was 0)
          ⊎ ((tx : TxId) → sent_since start (is_wish_to tx) 0 f.later (f.first ∷ was 0) ≡ 0)
          → IsAlone op (opened_in (after start 0 (f.later ++ f.first ∷ was 0)))
          ⊎ (HasBegun op start f.later (f.first ∷ was 0) ⊎ WasRefused op start f.later (f.first ∷ was 0)) → Result
      by (inl a) goes = inl (answered_alone a)
      by (inr wishes) (inl has) =
          absurd (not_beginning (subst (λ log. IsAlone op (opened_in (after start 0 log))) (sym f.is) has))
      by (inr wishes) (inr (inl b)) = begun_result wishes b
      by (inr wishes) (inr (inr r)) = inr (inr (inl (turned_away r)))

-- so it is where each command is answered
pub lone_answered : EachIsAnswered → LoneOperationsAreAnswered
lone_answered each start was now op served = lone_result each start was now op served
