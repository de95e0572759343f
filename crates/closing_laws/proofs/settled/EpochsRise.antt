-- The epoch that a member gives never falls along its log; so whoever has a lesser one was decided by then.
use Rattle.std.proofs.Common.{◌≡◌, ◌≤◌, ◌<◌, ◌⊎◌, ◌++◌, ℕ, true, List, [], ◌∷◌, sym, ap, subst, inl, inr, arith}
use Rattle.std.proofs.lemmas.Bool.{or_left, or_right}
use Rattle.std.specs.List.{list_any}
use Rattle.run_theory.proofs.Pasts.{each_in, past_cases}
use Rattle.run_theory.specs.Lists.{Each, IsIn, IsPast}
use Rattle.dih_node.specs.Dih.{fresh_dih}
use Rattle.dih_node.specs.State.{DihState}
use Rattle.sig_core.specs.declared.mark.Mark.TheVariants.{Decided}
use Rattle.sig_core.specs.declared.member.Member.{Member}
use Rattle.sig_core.specs.declared.member.TxId.{TxId}
use Rattle.sig_core.specs.declared.place.BlockId.TheVariants as block
use Rattle.sig_core.specs.declared.signal.Body.{Body}
use Rattle.sig_core.specs.declared.signal.Body.TheVariants.{Epoch}
use Rattle.sig_core.specs.declared.signal.epoch.EpochSignal.TheVariants.{GcpCommit, GcpPrepare}
use Rattle.world_core.specs.Marks.{has_mark}
use Rattle.world_core.specs.Start.{Start, made}
use Rattle.world_core.specs.Steps.{HostStep}
use Rattle.world_views.specs.Machine.{after, step_after}
use Rattle.view_laws.proofs.fences.Ranks.{pasts_compare}
use Rattle.moment_laws.proofs.MomentTurns.{own_log}
use Rattle.moment_laws.proofs.MomentViews.{moment_less}
use Rattle.moment_laws.specs.Moments.{IsMoment, logs_of}
use Rattle.moment_laws.specs.Places.{tc_of}
use Rattle.outcome_laws.proofs.order.EventsBefore.{moment_before}
use Rattle.outcome_laws.specs.Counts.{is_decision}
use Rattle.outcome_laws.specs.Decided.{IsMarked}
use Rattle.epoch_laws.proofs.DihMoves.{Moves}
use Rattle.epoch_laws.proofs.DihRows.{Rises}
use Rattle.epoch_laws.proofs.DihSends.{IsGivenBy}
use Rattle.epoch_laws.proofs.MarkSteps.{tc_steps_give}
use Rattle.epoch_laws.proofs.MomentEvents.{EpochsDo, epochs_do, leave, take}
use Rattle.epoch_laws.proofs.StandAll.{epochs_stand}
use Rattle.epoch_laws.proofs.StandMarks.{marks_are, runs_epochs}
use Rattle.epoch_laws.proofs.StandTakes.{taken_rises}
use Rattle.epoch_laws.proofs.StepKinds.{RunsTc}
use Rattle.epoch_laws.specs.Members.{dih_in, epochs_of}
use Rattle.epoch_laws.specs.Stand.{AllStand}
use Rattle.commit_laws.proofs.forth.DecidedStay.{decided_mark}
use Rattle.closing_laws.proofs.settled.Cuts.{MarksAt, goes_on, has_log, log_past, marks_at}

-- a signal that rises moves it to no lesser epoch
moved_up : (s now : DihState) (body : Body) → Rises body → Moves s body now → s.current ≤ now.current
moved_up s now (Epoch (GcpPrepare epoch next)) rises (inl (ahead, is)) = let same = is.current_is in omega (arith, same)
moved_up s now (Epoch (GcpPrepare epoch next)) rises (inr (late, stays)) =
    let same = stays.current_is in omega (arith, same)
moved_up s now (Epoch (GcpCommit epoch next)) rises (inl (ahead, is)) =
    let same = is.current_is in
    let up : epoch < next = rises in
    omega (arith, same, up, ahead)
moved_up s now (Epoch (GcpCommit epoch next)) rises (inr (late, stays)) =
    let same = stays.current_is in omega (arith, same)
moved_up s now body rises stays = let same = stays.current_is in omega (arith, same)

-- a part of a log with a decision has it
decided_past : (tx : TxId) (log whole : List HostStep) → IsPast log whole → has_mark (is_decision tx) log ≡ true
    → has_mark (is_decision tx) whole ≡ true
decided_past tx log whole past is =
    subst (λ w. has_mark (is_decision tx) w ≡ true) (sym past.is) (go past.newer)
  where
    go : (newer : List HostStep) → has_mark (is_decision tx) (newer ++ log) ≡ true
    go [] = is
    go (e ∷ newer) =
        or_right (list_any (is_decision tx) e.step.marks) (has_mark (is_decision tx) (newer ++ log)) (go newer)

module _ (start : Start) (all : ℕ → List HostStep) (begins : start.start_epoch < start.epoch) where
  abbrev now : List HostStep → Member → ℕ
  now es member = (epochs_of start (logs_of start es) member).current

  stands : (es : List HostStep) → IsMoment start all es → AllStand start (logs_of start es)
  stands es moment = epochs_stand start all es begins moment

  one_up : (e : HostStep) (es : List HostStep) → IsMoment start all (e ∷ es) → (member : Member)
      → now es member ≤ now (e ∷ es) member
  one_up e es moment member = by (epochs_do start all e es moment member)
    where
      by : EpochsDo start all e es moment member → now es member ≤ now (e ∷ es) member
      by (leave stays sound) = let same = stays.current_is in omega (arith, same)
      by (take at taken moves sound) =
          moved_up (epochs_of start (logs_of start es) member) (epochs_of start (logs_of start (e ∷ es)) member)
          e.step.taken.body
          (taken_rises start all e es moment (stands es (moment_less start all e es moment)) block.Dih taken) moves

  -- so it is along a run
  pub epochs_rise : (newer es : List HostStep) → IsMoment start all (newer ++ es) → (member : Member)
      → (epochs_of start (logs_of start es) member).current
      ≤ (epochs_of start (logs_of start (newer ++ es)) member).current
  epochs_rise newer es moment member =
      goes_on start all (λ xs. now es member ≤ now xs member)
      (λ e xs at is. let up = one_up e xs at member in omega (arith, is, up)) newer es moment (omega arith)

  -- what is decided has the epoch that its member gives
  module _ (e : HostStep) (es : List HostStep) (moment : IsMoment start all (e ∷ es)) (me : Member)
      (there : IsIn me (made start)) (at : e.host ≡ tc_of start me) where
    abbrev old : ℕ → List HostStep
    old = logs_of start es

    runs : RunsTc start (tc_of start me) (logs_of start es (tc_of start me))
    runs = runs_epochs start moment.cluster.nobody old me there

    given : Each (IsGivenBy (epochs_of start (logs_of start es) me)) e.step.marks
    given =
        subst (Each (IsGivenBy (epochs_of start old me)))
        (sym (marks_are start all e es moment (stands es (moment_less start all e es moment))))
        (subst (λ h. Each (IsGivenBy (epochs_of start old me)) (step_after start h (old h) e).effects.marks) (sym at)
        (subst (λ (d : DihState).
        Each (IsGivenBy d) (step_after start (tc_of start me) (old (tc_of start me)) e).effects.marks)
        (sym (ap (dih_in (fresh_dih 0 0 0 0)) runs.is))
        (tc_steps_give (tc_of start me) (after start (tc_of start me) (old (tc_of start me))) e.step.taken runs.part
        runs.is)))

    pub given_now : (tx : TxId) (epoch : ℕ) → IsIn (Decided tx epoch) e.step.marks
        → epoch ≡ (epochs_of start (logs_of start es) me).current
    given_now tx epoch inside =
        let is = each_in (IsGivenBy (epochs_of start old me)) (Decided tx epoch) e.step.marks given inside in is.0

  -- Where a member gives a later epoch at a moment, and has decided a transaction in another run, in an epoch up to
  -- this one, it had decided it by that moment.
  module _ (es end : List HostStep) (last : IsMoment start all end) (me : Member) (there : IsIn me (made start))
      (part : IsPast (logs_of start es (tc_of start me)) (logs_of start end (tc_of start me))) (tx : TxId) (epoch : ℕ)
      (marked : IsMarked (Decided tx epoch) (logs_of start end (tc_of start me)))
      (later : epoch < (epochs_of start (logs_of start es) me).current) where
    abbrev h : ℕ
    h = tc_of start me

    abbrev log : List HostStep
    log = logs_of start es h

    found : MarksAt start (tc_of start me) (Decided tx epoch) end
    found = marks_at start h (Decided tx epoch) end marked

    abbrev d : HostStep
    d = found.event

    event_at : IsMoment start all (found.event ∷ found.older)
    event_at = moment_before start all found.newer (d ∷ found.older) (subst (IsMoment start all) found.is last)

    -- the log there is no part of what came before the decision
    never : IsPast (logs_of start es (tc_of start me)) (logs_of start found.older (tc_of start me)) → ⊥
    never past =
        let has = has_log start h log found.older past in
        let before = moment_less start all d found.older event_at in
        let rises =
        epochs_rise has.newer has.older (subst (IsMoment start all) has.is before) me in
        let same : (epochs_of start (logs_of start has.older) me).current
        ≡ (epochs_of start (logs_of start es) me).current =
        ap (λ l. (dih_in (fresh_dih 0 0 0 0) (after start h l).parts).current) has.log_is in
        let whole : (epochs_of start (logs_of start found.older) me).current
        ≡ (epochs_of start (logs_of start (has.newer ++ has.older)) me).current =
        ap (λ xs. (epochs_of start (logs_of start xs) me).current) has.is in
        let is = given_now d found.older event_at me there found.at tx epoch found.there in
        omega (arith, later, rises, same, whole, is)

    d_log : logs_of start (found.event ∷ found.older) (tc_of start me)
        ≡ found.event ∷ logs_of start found.older (tc_of start me)
    d_log =
        subst (λ k. logs_of start (d ∷ found.older) k ≡ d ∷ logs_of start found.older k) found.at
        (own_log start all d found.older event_at)

    decides : has_mark (is_decision tx) (found.event ∷ logs_of start found.older (tc_of start me)) ≡ true
    decides =
        or_left (list_any (is_decision tx) d.step.marks) (has_mark (is_decision tx) (logs_of start found.older h))
        (decided_mark tx epoch d.step.marks found.there)

    whole : IsPast (found.event ∷ logs_of start found.older (tc_of start me)) (logs_of start end (tc_of start me))
    whole =
        subst (λ l. IsPast l (logs_of start end h)) d_log
        (subst (λ xs. IsPast (logs_of start (d ∷ found.older) h) (logs_of start xs h)) (sym found.is)
        (log_past start h found.newer (d ∷ found.older)))

    pub decided_by_then : has_mark (is_decision tx) (logs_of start es (tc_of start me)) ≡ true
    decided_by_then =
        by (pasts_compare log (d ∷ logs_of start found.older h) (logs_of start end h) part whole)
      where
        split : (d ∷ logs_of start found.older h ≡ log) ⊎ IsPast log (logs_of start found.older h)
            → has_mark (is_decision tx) log ≡ true
        split (inl same) = subst (λ l. has_mark (is_decision tx) l ≡ true) same decides
        split (inr past) = absurd (never past)

        by : IsPast log (d ∷ logs_of start found.older h) ⊎ IsPast (d ∷ logs_of start found.older h) log
            → has_mark (is_decision tx) log ≡ true
        by (inl past) = split (past_cases d past)
        by (inr past) = decided_past tx (d ∷ logs_of start found.older h) log past decides
