-- An abort of a transaction whose operation waits: its coordinator takes the wish before anything else, so it is
-- being aborted at the client's request then, and is neither answered nor ended otherwise; and where nothing is under
-- way
-- no transaction that is being aborted has an operation unanswered, so it has ended.
use Rattle.std.proofs.Common.{◌≡◌, ◌≢◌, ◌⊎◌, ◌<◌, ℕ, zero, suc, true, false, List, [], ◌∷◌, ◌++◌, refl, sym, ap, ◌∙◌}
use Rattle.std.proofs.Common.{subst, inl, inr, append_assoc}
use Rattle.std.proofs.lemmas.Bool.{cases_eq, false≢true, true≢false}
use Rattle.std.proofs.lemmas.List.{append_cancel_right}
use Rattle.std.specs.Prelude.{Option, None, Some}
use Rattle.run_theory.specs.Cuts.{IsCut}
use Rattle.run_theory.specs.Lists.{Each, IsIn}
use Rattle.sig_core.proofs.Keys.{same_tx-self}
use Rattle.sig_core.specs.declared.member.TxId.{TxId}
use Rattle.sig_core.specs.declared.outcome.AbortCause.TheVariants as cause
use Rattle.sig_core.specs.declared.outcome.Outcome.TheVariants as outcome
use Rattle.sig_core.specs.declared.outs.Outgoing.{Outgoing}
use Rattle.sig_core.specs.declared.reply.ApiReply.TheVariants.{Ended}
use Rattle.sig_core.specs.declared.request.ApiReq.{ApiReq}
use Rattle.sig_core.specs.declared.request.ApiReq.TheVariants.{Abort}
use Rattle.sig_core.specs.declared.signal.Body.{Body}
use Rattle.sig_core.specs.declared.signal.Body.TheVariants.{Client}
use Rattle.sig_core.specs.declared.signal.client.ClientSignal.TheVariants.{TcCommitConf, TcKeyConf, TcRollbackReq}
use Rattle.sig_core.specs.declared.signal.client.ClientSignal.TheVariants.{TcRollbackRep}
use Rattle.sig_core.specs.Place.{coordinator_of}
use Rattle.sig_core.specs.Step.{Step, sending, to_place}
use Rattle.api_block.specs.Api.{request_row}
use Rattle.api_block.specs.declared.opened.Doing.TheVariants.{Operating}
use Rattle.api_block.specs.declared.opened.OpenTransaction.{OpenTransaction}
use Rattle.api_block.specs.State.{ApiState, about}
use Rattle.node_core.specs.Blocks.{api_of, tc_of}
use Rattle.node_core.specs.declared.host.Host.{Host}
use Rattle.node_core.specs.Replies.{replies_of}
use Rattle.node_core.specs.Requests.{is_request}
use Rattle.tc_block.specs.declared.phase.Phase.{Phase}
use Rattle.tc_block.specs.declared.phase.Phase.TheVariants.{Open, Verifying, Committing, Completing, Aborting}
use Rattle.tc_block.specs.declared.transaction.Transaction.{Transaction}
use Rattle.tc_block.specs.Phases.{is_aborting}
use Rattle.world_core.specs.Hosts.{home, first_hosts}
use Rattle.world_core.specs.Machine.{after, step_after}
use Rattle.world_core.specs.Start.{Start}
use Rattle.world_core.specs.Steps.{HostStep}
use Rattle.host_laws.proofs.api.Begins.{in_middle}
use Rattle.host_laws.proofs.hosts.ShellHost.{IsShell, shell_after}
use Rattle.host_laws.proofs.coordinator.Keys.{answer_of}
use Rattle.host_laws.proofs.coordinator.Steps.{live_early}
use Rattle.host_laws.specs.Live.{of_live}
use Rattle.host_laws.specs.OpenedAfter.{opened_after, opened_in}
use Rattle.run_laws.proofs.hosts.AlongSteps.{live_tx}
use Rattle.answer_laws.proofs.Lives.{live_low}
use Rattle.command_laws.proofs.ends.AbortAnswered.{ends_right}
use Rattle.command_laws.proofs.ends.AbortFirst.{abort_found}
use Rattle.command_laws.proofs.ends.AbortSteps.{wrong_of}
use Rattle.command_laws.proofs.ends.AbortTurns.{is_loose}
use Rattle.command_laws.proofs.hosts.BlockSteps.{api_seen}
use Rattle.command_laws.proofs.ends.Committed.{cut_at_first}
use Rattle.command_laws.proofs.ends.EndsWell.{replied}
use Rattle.command_laws.proofs.hosts.Entries.{HasOne, IsNamed, named_found}
use Rattle.command_laws.proofs.hosts.EntryGoes.{HasEnded, HasReplied, fails_at_end, fails_in, waiting_goes}
use Rattle.command_laws.proofs.quiet.First.{IsFirst, first_step, request_first, with_first}
use Rattle.command_laws.proofs.quiet.FirstTaken.{IsTaken, first_taken}
use Rattle.command_laws.proofs.operations.HeldUp.{each_held_up}
use Rattle.command_laws.proofs.quiet.Homes.{sound_at}
use Rattle.command_laws.proofs.quiet.NoAbortWaits.{no_abort_waits}
use Rattle.command_laws.proofs.ends.RolledSteps.{IsRolledNow, RolledOption, WishedOption, is_stray, rolled_since}
use Rattle.command_laws.proofs.ends.RolledSteps.{stray_none, stray_of, wished_after}
use Rattle.command_laws.proofs.ends.RolledTurns.{IsWished, is_wished}
use Rattle.command_laws.proofs.quiet.Since.{none_taken, sent_since}
use Rattle.command_laws.proofs.operations.TellsSince.{OnTc, away_since}
use Rattle.command_laws.specs.Aborts.{HasOperation, IsAbortHeard, WaitingAbortsAreHeard}
use Rattle.command_laws.specs.Served.{IsHeldUp, IsServedBetween, replies_since}
use Rattle.command_laws.proofs.operations.TellsOnce.{is_wish_back_to}

stray_wrong : (tx : TxId) (body : Body) → stray_of tx body ≡ false → wrong_of tx body ≡ false
stray_wrong tx (Client (TcCommitConf other epoch)) e = e
stray_wrong tx (Client (TcRollbackRep other why)) e = e
stray_wrong tx _ e = refl

answer_stray : (tx : TxId) (body : Body) → answer_of tx body ≡ true → stray_of tx body ≡ true
answer_stray tx (Client (TcKeyConf other answer)) e = e
answer_stray tx _ e = absurd (false≢true e)

as_asked : (phase : Phase) → is_loose true phase ≡ true → is_aborting phase ≡ true
as_asked (Aborting why verifying awaited) e = refl
as_asked Open e = cc
as_asked Verifying e = cc
as_asked (Committing epoch awaited) e = cc
as_asked (Completing epoch awaited) e = cc

-- the shell's host has no transactions of a coordinator
none_at_shell : (start : Start) (log : List HostStep) (tx : TxId) (u : Transaction)
    → IsIn (tx, u) (tc_of (after start 0 log)).live → ⊥
none_at_shell start log tx u live =
    let sh : IsShell start (after start 0 log) = shell_after start log in
    subst (λ (g : Host). IsIn (tx, u) (tc_of g).live → ⊥) (sym sh.is) (λ none. none) live

-- A request whose step does no more than to wish for the abort of a transaction, as far as those that are open are
-- concerned.
module _ (start : Start) (was now : ℕ → List HostStep) (request : ApiReq) (called : Option ℕ) (tx : TxId)
    (item : OpenTransaction) (served : IsServedBetween start was now request)
    (there : IsIn item (opened_after start was)) (called_is : item.name ≡ called) (own : item.tx ≡ Some tx)
    (operating : item.doing ≡ Operating) (next : ApiState)
    (same : next.opened ≡ (api_of (after start 0 (was 0))).opened)
    (row_is : request_row (api_of (after start 0 (was 0))) request
    ≡ sending next (coordinator_of tx) (Client (TcRollbackReq tx))) where
  f : IsFirst start was now request
  f = request_first start was now request served

  abbrev cut : IsCut was now
  cut = cut_at_first was now f.later f.first f.is served.cut

  abbrev out : Outgoing
  out = to_place (coordinator_of tx) (Client (TcRollbackReq tx))

  first_is : api_seen (step_after start 0 (was 0) f.first)
      ≡ sending next (coordinator_of tx) (Client (TcRollbackReq tx))
  first_is = first_step start was now request f ∙ row_is

  has : HasOne tx called Operating (opened_in (after start 0 (f.first ∷ was 0)))
  has = subst (λ (step : Step ApiState). HasOne tx called Operating step.state.opened) (sym first_is)
      (record {
        item = item;
        inside = subst (IsIn item) (sym same) there;
        own = own;
        called = called_is;
        does = operating;
      })

  one_sent : (step_after start 0 (was 0) f.first).effects.sends ≡ out ∷ []
  one_sent = ap (λ (step : Step ApiState). step.effects.sends) first_is

  held : IsHeldUp start was tx
  held = each_held_up start was item served.before there tx own operating

  low : home start tx < first_hosts start
  low = live_low start was tx held.transaction served.before (home start tx) held.live

  taken_so : IsTaken start was now request served f out one_sent low now
  taken_so = first_taken start was now request served f out one_sent low

  away_from_shell : (h : ℕ) → home start tx ≡ h → with_first was f.first h ≡ was h
  away_from_shell zero at =
      absurd (none_at_shell start (was 0) tx held.transaction
      (subst (λ k. IsIn (tx, held.transaction) (tc_of (after start k (was k))).live) at held.live))
  away_from_shell (suc h) at = refl

  home_log : now (home start tx) ≡ taken_so.newer ++ taken_so.step ∷ was (home start tx)
  home_log = taken_so.is ∙ ap (λ log. taken_so.newer ++ taken_so.step ∷ log) (away_from_shell (home start tx) refl)

  newer_is : (cut (home start tx)).newer ≡ taken_so.newer ++ taken_so.step ∷ []
  newer_is =
      append_cancel_right (cut (home start tx)).newer (taken_so.newer ++ taken_so.step ∷ []) (was (home start tx))
      (sym (cut (home start tx)).is ∙ home_log
      ∙ sym (append_assoc taken_so.newer (taken_so.step ∷ []) (was (home start tx))))

  is_roll_taken : is_wish_back_to tx taken_so.step.step.taken.to taken_so.step.step.taken.body ≡ true
  is_roll_taken =
      subst (λ to. is_wish_back_to tx to taken_so.step.step.taken.body ≡ true) (sym taken_so.to)
      (subst (λ body. is_wish_back_to tx (coordinator_of tx) body ≡ true) (sym taken_so.body) (same_tx-self tx))

  rolled_was : OnTc (IsRolledNow tx false) (after start (home start tx) (was (home start tx)))
  rolled_was =
      let live = live_tx start tx (home start tx) (was (home start tx)) held.transaction held.live in
      let wished : IsWished held.transaction =
      subst WishedOption live (wished_after tx start (home start tx) (was (home start tx))) in
      let fine : is_loose false held.transaction.phase ≡ true =
      ap (λ o. is_wished o held.transaction.phase) (sym held.unanswered) ∙ wished in
      record {
        rolled = subst (RolledOption false) (sym live) fine;
        early = live_early tx (tc_of (after start (home start tx) (was (home start tx)))) held.transaction live
            (sound_at start tx (home start tx) (was (home start tx))).own;
      }

  run : (sent_since start (is_stray tx) (home start tx) (taken_so.newer ++ taken_so.step ∷ []) (was (home start tx)) ≡
      0)
      × OnTc (IsRolledNow tx true) (after start (home start tx) (taken_so.newer ++ taken_so.step ∷ was (home start tx)))
  run =
      rolled_since tx start (home start tx) taken_so.newer (was (home start tx)) taken_so.step is_roll_taken rolled_was

  silent : (h : ℕ) → h < first_hosts start → sent_since start (is_stray tx) h (cut h).newer (was h) ≡ 0
  silent h under = by (cases_eq (home start tx) h)
    where
      by : (home start tx ≡ h) ⊎ (home start tx ≢ h) → sent_since start (is_stray tx) h (cut h).newer (was h) ≡ 0
      by (inl same) =
          subst (λ k. sent_since start (is_stray tx) k (cut k).newer (was k) ≡ 0) same
          (ap (λ newer. sent_since start (is_stray tx) (home start tx) newer (was (home start tx))) newer_is ∙ run.0)
      by (inr differs) =
          stray_none tx start h (cut h).newer (was h) (away_since start tx h under differs (cut h).newer (was h))

  none_stray : Each (λ (e : HostStep). is_request e.step.taken.body ≡ false
      → is_stray tx e.step.taken.to e.step.taken.body ≡ false) (f.later ++ f.first ∷ [])
  none_stray = none_taken start was now served.before served.since cut (is_stray tx) silent 0

  ended_right : HasEnded tx called start f.later (f.first ∷ was 0)
      → IsIn (Ended called (outcome.Aborted cause.Request)) (replies_since start was now)
  ended_right ended =
      replied start was now request served f ended.newer ended.step ended.older
      (Ended called (outcome.Aborted cause.Request)) ended.is
      (ended.ending.told
      ∙ ap (λ end. replies_of (after start 0 (ended.older ++ f.first ∷ was 0)) ++ Ended called end ∷ [])
      (ends_right tx ended.step.step.taken.body ended.ending.outcome ended.ending.about
      (stray_wrong tx ended.step.step.taken.body
      (fails_at_end tx called start f.later (f.first ∷ was 0) f.first (is_stray tx) ended f.plain none_stray))))

  not_replied : HasReplied tx called start f.later (f.first ∷ was 0) → ⊥
  not_replied a =
      false≢true (sym (fails_in f.later f.first (is_stray tx) a.answered.step
      (subst (IsIn a.answered.step) (sym a.answered.is) (in_middle a.answered.newer a.answered.step a.answered.older))
      f.plain none_stray) ∙ answer_stray tx a.answered.step.step.taken.body a.about)

  -- its operation isn't unanswered any more, since at quiet that of no transaction that is being aborted is
  none_waits : HasOne tx called Operating (opened_after start now) → ⊥
  none_waits one =
      true≢false (sym (as_asked held_now.transaction.phase (subst (RolledOption true) live_now rolled_now.rolled))
      ∙ no_abort_waits start now (home start tx) tx held_now.transaction held_now.asked served.since
      (live_low start now tx held_now.transaction served.since (home start tx) held_now.live) held_now.live
      held_now.unanswered)
    where
      held_now : IsHeldUp start now tx
      held_now = each_held_up start now one.item served.since one.inside tx one.own one.does

      live_now : of_live tx (tc_of (after start (home start tx) (now (home start tx)))).live ≡ Some held_now.transaction
      live_now = live_tx start tx (home start tx) (now (home start tx)) held_now.transaction held_now.live

      rolled_now : OnTc (IsRolledNow tx true) (after start (home start tx) (now (home start tx)))
      rolled_now = subst (λ log. OnTc (IsRolledNow tx true) (after start (home start tx) log)) (sym home_log) run.1

  pub heard : IsAbortHeard start was now called
  heard = by (waiting_goes tx called start f.later (f.first ∷ was 0) f.plain has)
    where
      by : HasOne tx called Operating (opened_in (after start 0 (f.later ++ f.first ∷ was 0)))
          ⊎ (HasReplied tx called start f.later (f.first ∷ was 0)
          ⊎ HasEnded tx called start f.later (f.first ∷ was 0))
          → IsAbortHeard start was now called
      by (inl one) =
          absurd (none_waits (subst (λ log. HasOne tx called Operating (opened_in (after start 0 log))) (sym f.is) one))
      by (inr (inl a)) = absurd (not_replied a)
      by (inr (inr ended)) = ended_right ended

-- so it is of an abort
abort_heard : (start : Start) (was now : ℕ → List HostStep) (name : ℕ) (tx : TxId)
    → IsServedBetween start was now (Abort name) → HasOperation start was name tx
    → IsAbortHeard start was now (Some name)
unfolding request_row
abort_heard start was now name tx served op =
    heard start was now (Abort name) (Some name) tx op.item served there n.called op.own op.operating
    (about (api_of (after start 0 (was 0))) None) refl
    (abort_found (api_of (after start 0 (was 0))) name op.item tx op.own n)
  where
    n : IsNamed (opened_after start was) name op.item
    n = named_found (opened_after start was) name op.item op.named

    there : IsIn op.item (opened_after start was)
    there =
        subst (λ x. IsIn x (opened_after start was)) n.item
        (subst (IsIn n.focus.item) (sym n.focus.is) (in_middle n.focus.front n.focus.item n.focus.back))

pub waiting_aborts_heard : WaitingAbortsAreHeard
waiting_aborts_heard start was now name tx served op = abort_heard start was now name tx served op
