-- An abort of a transaction that takes commands ends in its being aborted at the client's request.
use Rattle.std.proofs.Common.{◌≡◌, ◌⊎◌, ◌<◌, ◌≤◌, ◌+◌, ℕ, zero, suc, Bool, true, false, List, [], ◌∷◌, ◌++◌, refl, sym}
use Rattle.std.proofs.Common.{ap, ◌∙◌, subst, inl, inr, arith}
use Rattle.std.specs.Prelude.{if◌then◌else◌, Some}
use Rattle.run_theory.proofs.Pasts.{each_map}
use Rattle.run_theory.specs.Cuts.{IsCut}
use Rattle.run_theory.specs.Lists.{Each, IsIn}
use Rattle.sig_core.proofs.Keys.{same_tx-self}
use Rattle.sig_core.specs.declared.member.TxId.{TxId}
use Rattle.sig_core.specs.declared.outcome.AbortCause.{AbortCause}
use Rattle.sig_core.specs.declared.outcome.AbortCause.TheVariants as cause
use Rattle.sig_core.specs.declared.outcome.Outcome.{Outcome}
use Rattle.sig_core.specs.declared.outcome.Outcome.TheVariants as outcome
use Rattle.sig_core.specs.declared.outs.Outgoing.{Outgoing}
use Rattle.sig_core.specs.declared.place.Place.{Place}
use Rattle.sig_core.specs.declared.reply.ApiReply.TheVariants.{Ended}
use Rattle.sig_core.specs.declared.request.ApiReq.TheVariants.{Abort}
use Rattle.sig_core.specs.declared.signal.Body.{Body}
use Rattle.sig_core.specs.declared.signal.Body.TheVariants.{Client}
use Rattle.sig_core.specs.declared.signal.client.ClientSignal.TheVariants.{TcCommitConf, TcKeyReq, TcCommitReq}
use Rattle.sig_core.specs.declared.signal.client.ClientSignal.TheVariants.{TcRollbackRep}
use Rattle.sig_core.specs.Same.{same_tx}
use Rattle.api_block.specs.declared.opened.Doing.TheVariants.{Ready}
use Rattle.api_block.specs.declared.opened.OpenTransaction.{OpenTransaction}
use Rattle.node_core.specs.Blocks.{api_of, tc_of}
use Rattle.node_core.specs.Replies.{replies_of}
use Rattle.node_core.specs.Requests.{is_request}
use Rattle.world_core.specs.Hosts.{home, first_hosts}
use Rattle.world_core.specs.Machine.{after, step_after}
use Rattle.world_core.specs.Start.{Start}
use Rattle.world_core.specs.Steps.{HostStep}
use Rattle.run_theory.specs.Counts.{one_if}
use Rattle.run_laws.proofs.hosts.AlongSteps.{live_tx}
use Rattle.host_laws.proofs.hosts.LinkCounts.{steps}
use Rattle.answer_laws.proofs.Lives.{live_low}
use Rattle.host_laws.proofs.api.Wishes.{is_tc, second_fails, sends_of}
use Rattle.answer_laws.specs.Answered.{EachIsAnswered, IsOpenAt}
use Rattle.host_laws.specs.OpenedAfter.{opened_after, opened_in}
use Rattle.command_laws.proofs.ends.AbortFirst.{IsAbortAsked, abort_first}
use Rattle.command_laws.proofs.ends.AbortSteps.{IsLooseNow, LooseOption, is_more_to, is_wrong, more_of}
use Rattle.command_laws.proofs.ends.AbortSteps.{host_run, rolled, wrong_of}
use Rattle.command_laws.proofs.ends.AbortTurns.{is_loose, is_requested}
use Rattle.command_laws.proofs.hosts.ApiChanges.{outcome_in}
use Rattle.command_laws.proofs.ends.Committed.{cut_at_first, sent_append}
use Rattle.command_laws.proofs.operations.EarlySteps.{is_wish_to}
use Rattle.command_laws.proofs.ends.EndsWell.{replied}
use Rattle.command_laws.proofs.hosts.Entries.{HasOne}
use Rattle.command_laws.proofs.hosts.EntryGoes.{HasEnded, entry_goes, fails_at_end}
use Rattle.command_laws.proofs.ends.FirmHosts.{is_push_to}
use Rattle.command_laws.proofs.quiet.First.{IsFirst, first_step, request_first}
use Rattle.command_laws.proofs.waits.HoldersTold.{sent_to_append}
use Rattle.command_laws.proofs.quiet.Homes.{sound_at}
use Rattle.command_laws.proofs.hosts.BlockSteps.{api_seen}
use Rattle.command_laws.proofs.operations.Asks.{AreNamed, named_since}
use Rattle.command_laws.proofs.hosts.Pushes.{calm_since, is_node_kind, node_since}
use Rattle.command_laws.proofs.quiet.ReadyAtQuiet.{named_at, opens, ready_open}
use Rattle.command_laws.proofs.ends.Reported.{OutcomeOf, ending_is}
use Rattle.command_laws.proofs.quiet.Since.{none_taken, sent_since, arrives}
use Rattle.host_laws.proofs.coordinator.Steps.{live_early}
use Rattle.command_laws.proofs.operations.TellsSince.{OnTc}
use Rattle.command_laws.proofs.hosts.Tests.{none_at}
use Rattle.command_laws.specs.Aborts.{ReadyAbortsAreAnswered}
use Rattle.command_laws.specs.Served.{IsServedBetween, named_in, replies_since}
use Rattle.command_laws.proofs.operations.TellsOnce.{is_wish_back_to}

-- an end that isn't wrong is an abort at the client's request
pub ends_right : (tx : TxId) (body : Body) (end : Outcome) → outcome_in body ≡ Some (tx, end) → wrong_of tx body ≡ false
    → end ≡ outcome.Aborted cause.Request
ends_right tx (Client (TcCommitConf one epoch)) end is right =
    absurd (let same : same_tx one tx ≡ true = ap (λ (e : OutcomeOf). same_tx e.0 tx)
    (ending_is (one, outcome.Committed epoch) (tx, end) is) ∙ same_tx-self tx in
    let off : false ≡ true = sym right ∙ same in cc)
ends_right tx (Client (TcRollbackRep one why)) end is right =
    ap (λ (e : OutcomeOf). e.1) (sym (ending_is (one, outcome.Aborted why) (tx, end) is))
    ∙ by why (requested (is_requested why) right (ap (λ (e : OutcomeOf). same_tx e.0 tx)
    (ending_is (one, outcome.Aborted why) (tx, end) is) ∙ same_tx-self tx))
  where
    requested : (b : Bool) → (if b then false else same_tx one tx) ≡ false → same_tx one tx ≡ true → b ≡ true
    requested true off same = refl
    requested false off same = let both : false ≡ true = sym off ∙ same in cc

    by : (why : AbortCause) → is_requested why ≡ true → outcome.Aborted why ≡ outcome.Aborted cause.Request
    by cause.Request e = refl
    by _ e = cc
ends_right tx _ end is right = cc

-- an operation or a commit that is asked for counts as one or the other
more_less : (tx : TxId) (to : Place) (body : Body)
    → one_if (is_more_to tx to body) ≤ one_if (is_wish_to tx to body) + one_if (is_push_to tx to body)
more_less tx to (Client (TcKeyReq one op)) = omega arith
more_less tx to (Client (TcCommitReq one)) = omega arith
more_less tx to _ = omega (arith, ap one_if (second_fails (is_tc to.block) refl))

fewer_sent : (tx : TxId) (sends : List Outgoing)
    → sends_of (is_more_to tx) sends ≤ sends_of (is_wish_to tx) sends + sends_of (is_push_to tx) sends
fewer_sent tx [] = omega arith
fewer_sent tx (o ∷ sends) = omega (arith, fewer_sent tx sends, more_less tx o.to o.body)

fewer_since : (start : Start) (tx : TxId) (h : ℕ) (newer log : List HostStep)
    → sent_since start (is_more_to tx) h newer log
    ≤ sent_since start (is_wish_to tx) h newer log + sent_since start (is_push_to tx) h newer log
fewer_since start tx h [] log = omega arith
fewer_since start tx h (e ∷ newer) log =
    omega (arith, fewer_since start tx h newer log, fewer_sent tx (step_after start h (newer ++ log) e).effects.sends)

more_request : (tx : TxId) (to : Place) (body : Body) → is_request body ≡ true → is_more_to tx to body ≡ false
more_request tx to body is = second_fails (is_tc to.block) (plain body is)
  where
    plain : (b : Body) → is_request b ≡ true → more_of tx b ≡ false
    plain (Client (TcKeyReq one op)) r = cc
    plain (Client (TcCommitReq one)) r = cc
    plain _ r = refl

more_node : (tx : TxId) (to : Place) (body : Body) → is_node_kind body ≡ true → is_more_to tx to body ≡ false
more_node tx to body e = second_fails (is_tc to.block) (plain body e)
  where
    plain : (b : Body) → is_node_kind b ≡ true → more_of tx b ≡ false
    plain (Client (TcKeyReq one op)) k = cc
    plain (Client (TcCommitReq one)) k = cc
    plain _ k = refl

-- where the wish came in one of these steps it was asked for
was_rolled : (tx : TxId) (newer : List HostStep) → 1 ≤ steps (is_wish_back_to tx) newer → rolled tx newer ≡ true
was_rolled tx [] some = absurd (omega (arith, some))
was_rolled tx (e ∷ newer) some = by (is_wish_back_to tx e.step.taken.to e.step.taken.body) refl (was_rolled tx newer)
  where
    by : (b : Bool) → is_wish_back_to tx e.step.taken.to e.step.taken.body ≡ b
        → (1 ≤ steps (is_wish_back_to tx) newer → rolled tx newer ≡ true) → (if b then true else rolled tx newer) ≡ true
    by true is rest = refl
    by false is rest = rest (omega (arith, some, ap one_if is))

module _ (answered : EachIsAnswered) (start : Start) (was now : ℕ → List HostStep) (name : ℕ) (t : OpenTransaction)
    (tx : TxId) (served : IsServedBetween start was now (Abort name))
    (named : named_in (opened_after start was) name ≡ Some t) (ready : t.doing ≡ Ready) (own : t.tx ≡ Some tx) where
  f : IsFirst start was now (Abort name)
  f = request_first start was now (Abort name) served

  abbrev cut : IsCut was now
  cut = cut_at_first was now f.later f.first f.is served.cut

  were : AreNamed tx (opened_after start was)
  were = named_at start was served.before name t tx named own

  asked : IsAbortAsked start tx name (api_seen (step_after start 0 (was 0) f.first))
  asked = subst (IsAbortAsked start tx name) (sym (first_step start was now (Abort name) f))
      (abort_first start (api_of (after start 0 (was 0))) name t tx named ready own were)

  is_open : IsOpenAt tx (after start (home start tx) (was (home start tx)))
  is_open = ready_open start was served.before name t tx named own answered ready

  loose_was : (h : ℕ) → home start tx ≡ h → OnTc (IsLooseNow tx false) (after start h (was h))
  loose_was h at =
      let o : IsOpenAt tx (after start h (was h)) = subst (λ k. IsOpenAt tx (after start k (was k))) at is_open in
      let sound = sound_at start tx h (was h) in
      let live = live_tx start tx h (was h) o.transaction o.live in
      record {
        loose = subst (LooseOption false) (sym live) (ap (is_loose false) o.phase, o.asked);
        early = live_early tx (tc_of (after start h (was h))) o.transaction live sound.own;
      }

  no_more : (h : ℕ) → sent_since start (is_more_to tx) h (cut h).newer (was h) ≡ 0
  no_more zero =
      omega (
        arith,
        sent_append start (is_more_to tx) 0 f.later (f.first ∷ []) (was 0),
        fewer_since start tx 0 f.later (f.first ∷ was 0),
        (named_since tx start f.later (f.first ∷ was 0) f.plain asked.named).1,
        (calm_since tx start f.later (f.first ∷ was 0) f.plain asked.named.calm).1,
        asked.more,
      )
  no_more (suc h) = node_since start (is_more_to tx) (more_node tx) h (cut (suc h)).newer (was (suc h))

  none_more : (h : ℕ) → Each (λ (e : HostStep). is_more_to tx e.step.taken.to e.step.taken.body ≡ false) (cut h).newer
  none_more h =
      each_map (λ (e : HostStep). is_request e.step.taken.body ≡ false → is_more_to tx e.step.taken.to e.step.taken.body
      ≡ false) (λ (e : HostStep). is_more_to tx e.step.taken.to e.step.taken.body ≡ false) (cut h).newer
      (none_at (is_more_to tx) (more_request tx))
      (none_taken start was now served.before served.since cut (is_more_to tx) (λ i low. no_more i) h)

  run : (h : ℕ) → h < first_hosts start → (sent_since start (is_wrong tx) h (cut h).newer (was h) ≡ 0)
      × (home start tx ≡ h → OnTc (IsLooseNow tx (rolled tx (cut h).newer)) (after start h ((cut h).newer ++ was h)))
  run h low = host_run tx start h low (cut h).newer (was h) (none_more h) (loose_was h)

  none_wrong : Each (λ (e : HostStep). is_request e.step.taken.body ≡ false → is_wrong tx e.step.taken.to
      e.step.taken.body ≡ false) (f.later ++ f.first ∷ [])
  none_wrong = none_taken start was now served.before served.since cut (is_wrong tx) (λ i low. (run i low).0) 0

  ended_right : HasEnded tx (Some name) start f.later (f.first ∷ was 0)
      → IsIn (Ended (Some name) (outcome.Aborted cause.Request)) (replies_since start was now)
  ended_right ended =
      replied start was now (Abort name) served f ended.newer ended.step ended.older
      (Ended (Some name) (outcome.Aborted cause.Request)) ended.is
      (ended.ending.told ∙ ap (λ end. replies_of (after start 0 (ended.older ++ f.first ∷ was 0)) ++ Ended (Some name)
      end ∷ []) (ends_right tx ended.step.step.taken.body ended.ending.outcome ended.ending.about right))
    where
      right : wrong_of tx ended.step.step.taken.body ≡ false
      right = fails_at_end tx (Some name) start f.later (f.first ∷ was 0) f.first (is_wrong tx) ended f.plain none_wrong

  -- its coordinator is there
  home_low : home start tx < first_hosts start
  home_low = live_low start was tx is_open.transaction served.before (home start tx) is_open.live

  -- the wish comes to it
  rolls_arrive : rolled tx (cut (home start tx)).newer ≡ true
  rolls_arrive =
      was_rolled tx (cut (home start tx)).newer
      (arrives start was now served.before served.since cut (is_wish_back_to tx) 0 (home start tx) (omega arith)
      home_low
      (omega (
        arith,
        sent_to_append start (is_wish_back_to tx) 0 (home start tx) f.later (f.first ∷ []) (was 0),
        asked.rolls,
      )))

  -- so it isn't open any more
  closed : IsOpenAt tx (after start (home start tx) (now (home start tx))) → ⊥
  closed o =
      let live = live_tx start tx (home start tx) (now (home start tx)) o.transaction o.live in
      let loose : OnTc (IsLooseNow tx true) (after start (home start tx) (now (home start tx))) =
      subst (λ log. OnTc (IsLooseNow tx true) (after start (home start tx) log)) (sym (cut (home start tx)).is)
      (subst (λ c. OnTc (IsLooseNow tx c)
      (after start (home start tx) ((cut (home start tx)).newer ++ was (home start tx)))) rolls_arrive
      ((run (home start tx) home_low).1 refl)) in
      let both : false ≡ true = ap (is_loose true) (sym o.phase) ∙ (subst (LooseOption true) live loose.loose).0 in
      cc

  still_ready : HasOne tx (Some name) Ready (opened_after start now) → ⊥
  still_ready has = closed (opens start now tx has.item.doing has.item.tx has.does has.own
      (answered start now has.item served.since has.inside))

  abort_told : IsIn (Ended (Some name) (outcome.Aborted cause.Request)) (replies_since start was now)
  abort_told = by (entry_goes tx (Some name) Ready refl (λ e. cc) start f.later (f.first ∷ was 0) f.plain asked.has)
    where
      by : HasOne tx (Some name) Ready (opened_in (after start 0 (f.later ++ f.first ∷ was 0)))
          ⊎ HasEnded tx (Some name) start f.later (f.first ∷ was 0)
          → IsIn (Ended (Some name) (outcome.Aborted cause.Request)) (replies_since start was now)
      by (inl has) = absurd (still_ready (subst (λ log. HasOne tx (Some name) Ready (opened_in (after start 0 log)))
          (sym f.is) has))
      by (inr ended) = ended_right ended

-- so it is where each command is answered
pub aborts_answered : EachIsAnswered → ReadyAbortsAreAnswered
aborts_answered answered start was now name t tx served named ready own =
    abort_told answered start was now name t tx served named ready own
