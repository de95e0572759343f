-- What becomes of a transaction with something unanswered at a step of its coordinator's host: it is undecided behind
-- it, or was given up.
use Rattle.std.proofs.Common.{◌≡◌, ◌⊎◌, ◌++◌, ◌&&◌, ◌==◌, ◌||◌, ◌≤◌, ◌∙◌, ℕ, Bool, true, false, not, List, [], ◌∷◌}
use Rattle.std.proofs.Common.{refl, sym, ap, subst, inl, inr, arith}
use Rattle.std.proofs.lemmas.Bool.{eqb-true, or_cases, true≢false}
use Rattle.std.specs.Prelude.{if◌then◌else◌, None, Some}
use Rattle.run_theory.specs.Lists.{IsIn}
use Rattle.sig_core.specs.declared.member.Member.{Member}
use Rattle.sig_core.specs.declared.member.TxId.{TxId}
use Rattle.sig_core.specs.declared.outs.Outgoing.{Outgoing}
use Rattle.sig_core.specs.declared.signal.Body.{Body}
use Rattle.tc_block.specs.declared.phase.Asked.{Asked}
use Rattle.tc_block.specs.declared.phase.Phase.{Phase}
use Rattle.tc_block.specs.declared.phase.Phase.TheVariants.{Aborting, Committing, Completing, Open, Verifying}
use Rattle.tc_block.specs.declared.transaction.Transaction.{Transaction}
use Rattle.tc_block.specs.Doom.{is_among, is_undecided}
use Rattle.tc_block.specs.Phases.{is_aborting}
use Rattle.tc_block.specs.Turn.{Turn}
use Rattle.tc_views.specs.State.{CoordinatorState}
use Rattle.node_views.specs.WellFormed.{is_well_formed}
use Rattle.host_laws.proofs.coordinator.OfLive.{each_found}
use Rattle.world_core.specs.Start.{NobodyStarts, Start, made}
use Rattle.world_core.specs.Steps.{HostStep}
use Rattle.world_views.specs.Machine.{step_after}
use Rattle.view_laws.specs.Runs.{view_after}
use Rattle.view_laws.proofs.eras.Rises.{view_rises}
use Rattle.moment_laws.specs.Moments.{IsMoment, logs_of}
use Rattle.moment_laws.specs.Places.{tc_of}
use Rattle.outcome_laws.specs.Counts.{coordinator_member}
use Rattle.request_laws.specs.Blocks.{coordinator_after}
use Rattle.request_laws.specs.Drives.{last_view, sends_one, was_sent_in}
use Rattle.request_laws.specs.Phases.{SaysIn, SaysOf}
use Rattle.request_laws.specs.Ways.{entry_of, has_gone_back, has_gone_forth, is_sent, tells_abort}
use Rattle.request_laws.proofs.phases.AlongLogs.{coordinator_comes}
use Rattle.request_laws.proofs.phases.GoneWays.{gone_told}
use Rattle.request_laws.proofs.phases.Moves.{Comes, begun, changed, same}
use Rattle.request_laws.proofs.phases.Stands.{coordinators_stand}
use Rattle.request_laws.proofs.phases.Turns.{Back, Changes, IsDecidedAs}
use Rattle.request_laws.proofs.phases.Turns as turns
use Rattle.request_laws.proofs.phases.Steps.{left_of}
use Rattle.request_laws.proofs.phases.OneWay.{at_aborting, goes_one_way, sent_before, sent_behind}
use Rattle.request_laws.proofs.routes.PartsOfTheFirst.{sent_low}
use Rattle.commit_laws.specs.Going.{is_back, is_forth, is_lost, own_coordinator, own_live, own_log}

-- What was sent in a view, above which the host hasn't come, was sent last in that view.
pub sent_last : (start : Start) (nobody : NobodyStarts start) (member : Member) (p : Body → Bool) (number : ℕ)
    (log : List HostStep)
    → (view_after start (tc_of start member) log).number ≤ number → was_sent_in start member p number log ≡ true
    → last_view start member p log ≡ number
sent_last start nobody member p number [] low is = absurd (true≢false (sym is))
sent_last start nobody member p number (e ∷ log) low is =
    by (sends_one start member p log e) is
    (sent_last start nobody member p number log
    (let up = view_rises start nobody (tc_of start member) log e in omega (arith, up, low)))
  where
    now : ℕ
    now = (view_after start (tc_of start member) (e ∷ log)).number

    earlier : was_sent_in start member p number log ≡ true → now ≡ number
    earlier was =
        let from = sent_low start nobody member p number log was in
        let up = view_rises start nobody (tc_of start member) log e in
        omega (arith, from, up, low)

    by : (b : Bool) → ((b && (now == number)) || was_sent_in start member p number log) ≡ true
        → (was_sent_in start member p number log ≡ true → last_view start member p log ≡ number)
        → (if b then now else last_view start member p log) ≡ number
    by true is more = either (or_cases (now == number) (was_sent_in start member p number log) is)
      where
        either : ((now == number) ≡ true) ⊎ (was_sent_in start member p number log ≡ true) → now ≡ number
        either (inl at) = eqb-true now number at
        either (inr was) = earlier was
    by false is more = more is

-- at a moment
module _ (start : Start) (all : ℕ → List HostStep) (es : List HostStep) (moment : IsMoment start all es) (tx : TxId)
    (there : IsIn (coordinator_member tx) (made start))
  where
    abbrev logs : ℕ → List HostStep
    logs = logs_of start es

    -- who isn't lost wasn't given up
    pub spared_back : is_lost start (logs_of start es) tx ≡ false → is_back start (logs_of start es) tx ≡ false
    spared_back spared = by (is_forth start logs tx) refl (is_back start logs tx) refl spared
      where
        doomed : Bool
        doomed = is_among (own_coordinator start logs tx).doomed tx

        by : (f : Bool) → is_forth start logs tx ≡ f → (b : Bool) → is_back start logs tx ≡ b
            → is_lost start logs tx ≡ false → b ≡ false
        by f gone false back none = refl
        by true gone true back none =
            absurd (true≢false (sym back
            ∙ (coordinators_stand start all es moment (coordinator_member tx) there).one_way tx gone))
        by false gone true back none =
            absurd (true≢false (sym (ap (λ f. not f && (is_back start logs tx || doomed)) gone
            ∙ ap (λ b. b || doomed) back) ∙ none))

    -- and is open where it has something unanswered
    pub asked_open : is_back start (logs_of start es) tx ≡ false → (t : Transaction)
        → own_live start (logs_of start es) tx ≡ Some t → (asked : Asked) → t.asked ≡ Some asked → t.phase ≡ Open
    asked_open off t found asked some =
        by t.phase refl
        (each_found (SaysOf start (coordinator_member tx) (own_log start logs tx)) _ tx t
        (coordinators_stand start all es moment (coordinator_member tx) there).says found)
      where
        none : {A : Type 0} → t.asked ≡ None → A
        none is = absurd (let nothing : Some asked ≡ None = sym some ∙ is in cc)

        by : (phase : Phase) → t.phase ≡ phase
            → SaysIn start (coordinator_member tx) (own_log start logs tx) tx t phase → phase ≡ Open
        by Open at says = refl
        by Verifying at says = none says.0
        by (Committing epoch awaited) at says = none says.0
        by (Completing epoch awaited) at says = none says.0
        by (Aborting why verifying awaited) at says =
            absurd (true≢false (sym (at_aborting t.phase (is_forth start logs tx) (is_back start logs tx)
            ((goes_one_way start (coordinator_member tx) there tx moment.cluster.nobody (own_log start logs tx)).says t
            found)
            (ap is_aborting at)) ∙ off))

-- along a log of the coordinator's host
module _ (start : Start) (member : Member) (there : IsIn member (made start)) (tx : TxId) (log : List HostStep)
    (e : HostStep) (t : Transaction) (found : entry_of (coordinator_after start member log) tx ≡ Some t)
    (is_open : t.phase ≡ Open)
  where
    abbrev c : List HostStep → CoordinatorState
    c l = coordinator_after start member l

    abbrev sends : List Outgoing
    sends = (step_after start (tc_of start member) log e).effects.sends

    -- it is there, and undecided
    pub record IsUndecidedBehind : Type 0 where
      pub now : Transaction
      pub is : entry_of (coordinator_after start member (e ∷ log)) tx ≡ Some now
      pub undecided : is_undecided now.phase ≡ true

    abbrev Goes : Type 0
    Goes = (has_gone_back start member tx (e ∷ log) ≡ true) ⊎ IsUndecidedBehind

    on : (u : Transaction) → entry_of (c (e ∷ log)) tx ≡ Some u → (phase : Phase) → u.phase ≡ phase
        → is_undecided phase ≡ true → Goes
    on u is phase at undecided = inr (record { now = u; is = is; undecided = ap is_undecided at ∙ undecided })

    module _ (nobody : NobodyStarts start) (turn : Turn) (left : entry_of (c (e ∷ log)) tx ≡ left_of turn)
        (front more : List Outgoing)
        (outs : sends ≡ front ++ (turn.step.effects.sends ++ more))
      where
        on_some : turn.over ≡ false → entry_of (c (e ∷ log)) tx ≡ Some turn.step.state
        on_some over = left ∙ ap (λ b. if b then None else Some turn.step.state) over

        turns_back : Back tx t turn → (over : Bool) → turn.over ≡ over → Goes
        turns_back way false over =
            inl (at_aborting turn.step.state.phase (has_gone_forth start member tx (e ∷ log))
            (has_gone_back start member tx (e ∷ log))
            ((goes_one_way start member there tx nobody (e ∷ log)).says turn.step.state (on_some over)) (way.on over))
        turns_back way true over = by (way.ends over)
          where
            by : (is_aborting t.phase ≡ true) ⊎ (is_sent (tells_abort tx) turn.step.effects.sends ≡ true) → Goes
            by (inl is) = absurd (true≢false (sym is ∙ ap is_aborting is_open))
            by (inr told) =
                inl (gone_told start member tx is_aborting (tells_abort tx) log e
                (ap (is_sent (tells_abort tx)) outs
                ∙ sent_behind (tells_abort tx) front (turn.step.effects.sends ++ more)
                (sent_before (tells_abort tx) turn.step.effects.sends more told)))

        turned : {body : Body} → Changes (c log).tc.node tx t body turn → Goes
        turned (turns.opens at over now answered still) = on turn.step.state (on_some over) Open now refl
        turned (turns.asks at none about is) =
            on turn.step.state (on_some (ap (λ (u : Turn). u.over) is)) Verifying
            (ap (λ (u : Turn). u.step.state.phase) is) refl
        turned (turns.waits at over now still) =
            on turn.step.state (on_some over) Verifying (ap (λ (u : Transaction). u.phase) now ∙ at) refl
        turned (turns.decides epoch at about way) = absurd (let both : Open ≡ Verifying = sym is_open ∙ at in cc)
        turned (turns.forth epoch decided way) =
            absurd (subst (λ (phase : Phase). IsDecidedAs phase epoch) is_open decided)
        turned (turns.back undecided way) = turns_back way turn.over refl

    pub open_goes : NobodyStarts start → (has_gone_back start member tx (e ∷ log) ≡ true) ⊎ IsUndecidedBehind
    open_goes nobody = by (coordinator_comes start member there nobody log e tx)
      where
        by : Comes member (c log) e.step.taken (is_well_formed start.shape e.step.taken ≡ true) tx (c (e ∷ log)) sends
            → Goes
        by (same is unborn untold) = on t (is ∙ found) Open is_open refl
        by (begun none some is next untold) = absurd (let nothing : Some t ≡ None = sym found ∙ none in cc)
        by (changed well u found_too turn changes left next front more before behind outs) =
            let one : u ≡ t = cc (sym found_too ∙ found) in
            turned nobody turn left front more outs
            (subst (λ (v : Transaction). Changes (c log).tc.node tx v e.step.taken.body turn) one changes)
