-- An operation alone that had to wait is given up: its transaction is aborted at the client's request.
use Rattle.std.proofs.Common.{◌≡◌, ℕ, true, List, [], ◌∷◌, length, refl, sym, ap, ◌∙◌, subst}
use Rattle.std.specs.Prelude.{None, Some}
use Rattle.run_theory.specs.Lists.{IsIn}
use Rattle.sig_core.specs.declared.member.TxId.{TxId}
use Rattle.sig_core.specs.declared.reply.ApiReply.TheVariants.{Pending}
use Rattle.sig_core.specs.declared.reply.Waiting.TheVariants.{HeldBy}
use Rattle.sig_core.specs.declared.request.ApiReq.TheVariants as request
use Rattle.sig_core.specs.declared.signal.Body.TheVariants.{Client}
use Rattle.sig_core.specs.declared.signal.client.ClientSignal.TheVariants.{TcRollbackReq}
use Rattle.sig_core.specs.Place.{coordinator_of}
use Rattle.sig_core.specs.Step.{sending}
use Rattle.api_block.specs.Api.{request_row}
use Rattle.api_block.specs.declared.opened.OpenTransaction.{OpenTransaction}
use Rattle.api_block.specs.Opened.{behind, is_unanswered}
use Rattle.api_block.specs.State.{ApiState, replied}
use Rattle.api_block.specs.Wait.{name_of, pending_by}
use Rattle.node_core.specs.Blocks.{api_of}
use Rattle.node_core.specs.Replies.{is_left_open}
use Rattle.world_core.specs.Machine.{after}
use Rattle.world_core.specs.Start.{Start}
use Rattle.world_core.specs.Steps.{HostStep}
use Rattle.host_laws.proofs.api.Begins.{in_middle}
use Rattle.host_laws.specs.OpenedAfter.{opened_after}
use Rattle.answer_laws.proofs.Answers.{each_answered}
use Rattle.command_laws.proofs.operations.HeldUp.{each_held_up}
use Rattle.command_laws.proofs.waits.HoldersTold.{IsWaiting, about, i, left_own, tells, w}
use Rattle.command_laws.proofs.waits.Aborted.{heard}
use Rattle.command_laws.proofs.waits.Api.{IsAboutOne, IsOwn, pending_is}
use Rattle.command_laws.specs.Aborts.{IsAbortHeard, IsGivenUp}
use Rattle.command_laws.specs.Served.{IsServedBetween, own_in}

module _ (start : Start) (was mid now : ℕ → List HostStep) (t : OpenTransaction)
    (first_served : IsServedBetween start was mid request.Waits)
    (then_served : IsServedBetween start mid now request.Pending)
    (own : own_in (after start 0 (was 0)) ≡ Some t) (unanswered : is_unanswered t.doing ≡ true) where
  abbrev s : ApiState
  s = api_of (after start 0 (mid 0))

  entry : IsOwn (api_of (after start 0 (was 0))) t
  entry = i each_answered each_held_up start was mid now t first_served then_served own unanswered

  waiting : IsWaiting t
  waiting = w each_answered each_held_up start was mid now t first_served then_served own unanswered

  who : TxId
  who = (tells each_answered each_held_up start was mid now t first_served then_served own unanswered).who

  about_it : IsAboutOne entry.front t entry.back (Some (length entry.front)) (Some who) s
  unfolding entry who
  about_it =
      subst (λ a. IsAboutOne entry.front t entry.back (Some (length entry.front)) a s)
      (tells each_answered each_held_up start was mid now t first_served then_served own unanswered).is
      (about each_answered each_held_up start was mid now t first_served then_served own unanswered)

  in_mid : IsIn (behind t (Some who)) (opened_after start mid)
  in_mid =
      subst (IsIn (behind t (Some who))) (sym about_it.opened)
      (in_middle entry.front (behind t (Some who)) entry.back)

  module _ (tx : TxId) (own_tx : t.tx ≡ Some tx) (nameless : t.name ≡ None) where
    row_is : request_row s request.Pending
        ≡ sending (replied s (Pending None (HeldBy (name_of s who)) ∷ [])) (coordinator_of tx)
        (Client (TcRollbackReq tx))
    unfolding request_row
    row_is =
        pending_is s entry.front t entry.back who about_it unanswered
        ∙ ap (λ name. pending_by s (name_of s who) name t.tx) nameless
        ∙ ap (pending_by s (name_of s who) None) own_tx

    given_up : IsAbortHeard start mid now None
    given_up =
        heard start mid now request.Pending None tx (behind t (Some who)) then_served in_mid nameless own_tx
        waiting.does
        (replied s (Pending None (HeldBy (name_of s who)) ∷ [])) refl row_is

-- so it is where a command left something of its own unanswered
pub alone_given_up : (start : Start) (first was now : ℕ → List HostStep) → IsServedBetween start first was request.Waits
    → IsServedBetween start was now request.Pending → is_left_open (after start 0 (first 0)) ≡ true
    → IsGivenUp start first was now
alone_given_up start first was now first_served then_served left t tx own nameless own_tx =
    let l = left_own (after start 0 (first 0)) left in
    let both : Some l.t ≡ Some t = sym l.own ∙ own in
    let same : l.t ≡ t = cc in
    given_up start first was now t first_served then_served own
    (subst (λ (x : OpenTransaction). is_unanswered x.doing ≡ true) same l.unanswered) tx own_tx nameless
