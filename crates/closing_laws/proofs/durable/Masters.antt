-- Each full member of the current view has reached the epoch of the run that a master commits.
use Rattle.std.proofs.Common.{◌≡◌, ◌≤◌, ◌<◌, ◌⊎◌, ◌∙◌, ℕ, Bool, true, false, List, [], ◌∷◌, refl, sym, ap, subst, inl}
use Rattle.std.proofs.Common.{inr, arith}
use Rattle.frag_map.specs.Layout.{first_layout}
use Rattle.run_theory.proofs.Pasts.{each_from, each_in}
use Rattle.run_theory.specs.Lists.{IsIn}
use Rattle.sig_core.specs.declared.member.Member.{Member}
use Rattle.sig_core.specs.declared.place.BlockId.TheVariants as block
use Rattle.sig_core.specs.declared.signal.Signal.{Signal}
use Rattle.sig_core.specs.declared.view.View.{View}
use Rattle.dih_node.specs.State.{DihState}
use Rattle.gcp_master.specs.declared.known.Known.{Known}
use Rattle.gcp_master.specs.declared.known.Told.{Told}
use Rattle.gcp_master.specs.declared.phase.Phase.{Phase}
use Rattle.gcp_master.specs.declared.phase.Phase.TheVariants.{Unordered, Gathering, Preparing, Committing}
use Rattle.gcp_master.specs.declared.phase.Run.{Run}
use Rattle.gcp_master.specs.declared.voices.Voice.{Voice}
use Rattle.gcp_master.specs.Known.{last_run}
use Rattle.gcp_master.specs.Master.{first_phase, fresh_master, master_row}
use Rattle.gcp_master.specs.Resume.{in_view, is_president}
use Rattle.gcp_master.specs.State.{MasterState}
use Rattle.gcp_master.proofs.Outcomes.{voice_of}
use Rattle.node_views.specs.declared.host_body.HostBody as node
use Rattle.world_core.specs.Start.{NobodyStarts, Start, made}
use Rattle.world_core.specs.Steps.{Addressed, HostStep}
use Rattle.view_laws.specs.Runs.{view_after}
use Rattle.view_laws.specs.Votes.{main_of}
use Rattle.view_laws.proofs.follow.Hosts.{main_started}
use Rattle.moment_laws.specs.Moments.{IsMoment, current, logs_of}
use Rattle.moment_laws.proofs.MomentTurns.{own_behind}
use Rattle.moment_laws.proofs.PartTaken.{IsTakenNow}
use Rattle.epoch_laws.proofs.MasterResumption.{across_next}
use Rattle.epoch_laws.specs.Alike.{EachFull, IsAcross, Waits}
use Rattle.epoch_laws.specs.Masters.{IsHad, IsRightIn}
use Rattle.epoch_laws.specs.Members.{IsFirst, IsPresident, IsStanding, epochs_of, master_in, master_of}
use Rattle.epoch_laws.specs.Stand.{AllStand}
use Rattle.epoch_laws.specs.Told.{IsTrueOf}
use Rattle.epoch_laws.proofs.MasterKeeps.{IsBefore, keeps}
use Rattle.epoch_laws.proofs.MasterMoves.{BeginsFrom, GoesOn, IsLate, IsNew, Moved, from_commit, from_copy}
use Rattle.epoch_laws.proofs.MasterMoves.{from_prepare, known_with, state_body, with_none, with_one}
use Rattle.epoch_laws.proofs.MasterMoves.{closes, closes_owed, commits, ends, goes_late, hears_finished, hears_prepared}
use Rattle.epoch_laws.proofs.MasterMoves.{is_ordered, learns, resumes, stays, takes_up}
use Rattle.epoch_laws.proofs.MasterRows.{master_goes}
use Rattle.epoch_laws.proofs.MasterSpeaks.{installed}
use Rattle.epoch_laws.proofs.MomentEvents.{MasterDoes, enters, enters_takes, installs, master_does, takes, unmoved}
use Rattle.epoch_laws.proofs.StandMasters.{Stood, before_it, master_view, rose, stood, stood_by}
use Rattle.epoch_laws.proofs.StandTakes.{taken_true}
use Rattle.closing_laws.proofs.closers.Hear.{first_or}
use Rattle.closing_laws.proofs.durable.LastOrders.{AgreeOnOrders}
use Rattle.closing_laws.proofs.durable.Reached.{HasReached, each_reached_next}

abbrev pub IsRunReached : Start → (ℕ → List HostStep) → Phase → Type 0
IsRunReached start logs (Committing run) = EachFull start logs (HasReached run.epoch)
IsRunReached start logs phase = Unit {0}

-- who waits and is across has prepared
ready_reached : (epoch next : ℕ) (s : DihState) → epoch < next → Waits epoch next s → IsAcross epoch next s
    → HasReached epoch s
ready_reached epoch next s rises waits (inl ready) =
    let gives = ready.gives in
    let prepared = ready.prepared_is in
    record { gives = omega (arith, gives); ordered = omega (arith, prepared) }
ready_reached epoch next s rises waits (inr gone) =
    let low = waits.gives in
    let high = gone.gives in
    absurd (omega (arith, low, high, rises))

across_gives : (epoch next : ℕ) (s : DihState) → epoch < next → IsAcross epoch next s → epoch ≤ s.current
across_gives epoch next s rises (inl ready) = let gives = ready.gives in omega (arith, gives)
across_gives epoch next s rises (inr gone) = let gives = gone.gives in omega (arith, gives, rises)

module _ (start : Start) (logs : ℕ → List HostStep) where
  none_late : (run : Run) (phase : Phase) → IsLate run phase → IsRunReached start logs phase
  none_late run (Committing other) late = absurd late
  none_late run phase late = tt

  none_begins : (epoch : ℕ) (phase : Phase) → BeginsFrom epoch phase → IsRunReached start logs phase
  none_begins epoch (Committing other) begins = absurd begins
  none_begins epoch phase begins = tt

  module _ (agree : AgreeOnOrders start logs) where
    -- where all are across they know the same last order, so each has reached the epoch that one has
    across_reached : (epoch next : ℕ) → epoch < next → EachFull start logs (IsAcross epoch next)
        → IsHad start logs (λ s. s.prepared) epoch → EachFull start logs (HasReached epoch)
    across_reached epoch next rises each had = each_from _ (current start logs).full reached
      where
        across : (member : Member) → IsIn member (current start logs).full
            → IsAcross epoch next (epochs_of start logs member)
        across member there = each_in _ member (current start logs).full each there

        follows : (member : Member) → IsIn member (current start logs).full → (epochs_of start logs member).next ≡ next
        follows member there = across_next epoch next (epochs_of start logs member) (across member there)

        ordered : (member : Member) → IsIn member (current start logs).full → IsHad start logs (λ s. s.prepared) epoch
            → epoch ≤ (epochs_of start logs member).prepared
        ordered member there (inl none) = omega (arith, none)
        ordered member there (inr (other, (other_in, has))) =
            let same = agree member other there other_in (follows member there ∙ sym (follows other other_in)) in
            let has_is : (epochs_of start logs other).prepared ≡ epoch = has in
            omega (arith, same, has_is)

        reached : (member : Member) → IsIn member (current start logs).full
            → HasReached epoch (epochs_of start logs member)
        reached member there = record {
          gives = across_gives epoch next (epochs_of start logs member) rises (across member there);
          ordered = ordered member there had;
        }

    -- a signal that tells the truth, for a master that does nothing, or for that of the current view
    module _ (s : MasterState) (x : Addressed) (before : (s.phase ≡ Unordered) ⊎ IsBefore start logs s)
        (told_true : IsTrueOf start logs x x.signal.body) (was : IsRunReached start logs s.phase)
      where
        abbrev voice : Voice
        voice = voice_of x.signal

        -- all have prepared
        prepared_all : (run : Run) → s.phase ≡ Preparing run → (phase : Phase) (voices : List Voice)
            → Moved s voice x.signal.body phase voices → phase ≡ Committing run
            → (s.phase ≡ Unordered) ⊎ IsBefore start logs s → IsRunReached start logs phase
        prepared_all run is phase voices moved now (inl idle) =
            let differ : Unordered ≡ Preparing run = sym idle ∙ is in absurd cc
        prepared_all run is phase voices moved now (inr stands) =
            let waiting : IsRightIn start logs s.voices (Preparing run) =
            subst (IsRightIn start logs s.voices) is stands.right in
            let going : IsRightIn start logs voices (Committing run) =
            subst (IsRightIn start logs voices) now (keeps start logs s x stands told_true phase voices moved) in
            subst (IsRunReached start logs) (sym now)
            (each_from _ (current start logs).full
            (λ member there.
            ready_reached run.epoch run.next (epochs_of start logs member) going.0.rises
            (each_in _ member (current start logs).full waiting.0.each there)
            (each_in _ member (current start logs).full going.0.each there)))

        -- all have told
        told_all : (known : Known) (t : Told) → x.signal.body ≡ state_body t → s.phase ≡ Gathering known
            → IsNew s voice → (phase : Phase) (voices : List Voice) → Moved s voice x.signal.body phase voices
            → GoesOn (known_with s voice known t) phase → (s.phase ≡ Unordered) ⊎ IsBefore start logs s
            → IsRunReached start logs phase
        told_all known t body is new phase voices moved goes (inl idle) =
            let differ : Unordered ≡ Gathering known = sym idle ∙ is in absurd cc
        told_all known t body is new phase voices moved goes (inr stands) = by goes
          where
            learned : Known
            learned = known_with s voice known t

            had : IsHad start logs (λ s. s.prepared) learned.epoch
            had =
                (keeps start logs s x stands told_true (Gathering learned) (with_one s.voices voice)
                (learns known t body is new refl refl)).0.epoch

            by : GoesOn (known_with s voice known t) phase → IsRunReached start logs phase
            by (from_prepare low now) = subst (IsRunReached start logs) (sym now) tt
            by (from_commit most now) =
                let going : IsRightIn start logs voices (Committing (last_run learned)) =
                subst (IsRightIn start logs voices) now (keeps start logs s x stands told_true phase voices moved) in
                subst (IsRunReached start logs) (sym now)
                (across_reached learned.epoch learned.next going.0.rises going.0.each had)
            by (from_copy most least now) = subst (IsRunReached start logs) (sym now) tt
            by (with_none most least begins) = none_begins learned.next phase begins

        moved_reached : (phase : Phase) (voices : List Voice) → Moved s voice x.signal.body phase voices
            → IsRunReached start logs phase
        moved_reached phase voices (stays same heard) = subst (IsRunReached start logs) (sym same) was
        moved_reached phase voices (is_ordered body is now none) = subst (IsRunReached start logs) (sym now) tt
        moved_reached phase voices (learns known t body is new now more) =
            subst (IsRunReached start logs) (sym now) tt
        moved_reached phase voices (resumes known t body is new all goes none) =
            told_all known t body is new phase voices (resumes known t body is new all goes none) goes before
        moved_reached phase voices (hears_prepared run body is new now more) =
            subst (IsRunReached start logs) (sym now) tt
        moved_reached phase voices (commits run body is new all now none) =
            prepared_all run is phase voices (commits run body is new all now none) now before
        moved_reached phase voices (hears_finished run body is new now more) =
            subst (IsRunReached start logs) (sym now) (subst (IsRunReached start logs) is was)
        moved_reached phase voices (closes run body is new all now none) = subst (IsRunReached start logs) (sym now) tt
        moved_reached phase voices (closes_owed run is all now none) = subst (IsRunReached start logs) (sym now) tt
        moved_reached phase voices (goes_late run late now) = none_late run phase now
        moved_reached phase voices (ends run late begins none) = none_begins run.next phase begins
        moved_reached phase voices (takes_up epoch is begins none) = none_begins epoch phase begins

module _ (start : Start) (all : ℕ → List HostStep) (e : HostStep) (es : List HostStep)
    (moment : IsMoment start all (e ∷ es)) (stand : AllStand start (logs_of start es))
    (agree : AgreeOnOrders start (logs_of start es))
    (reached : (member : Member) → IsIn member (made start)
    → IsRunReached start (logs_of start es) (master_of start (logs_of start es) member).phase)
  where
    abbrev old : ℕ → List HostStep
    old = logs_of start es

    abbrev new : ℕ → List HostStep
    new = logs_of start (e ∷ es)

    abbrev x : Signal
    x = e.step.taken

    abbrev it : Addressed
    it = record { to = e.host; signal = x }

    still : (phase : Phase) → IsRunReached start old phase → IsRunReached start new phase
    still (Committing run) was = each_reached_next start all e es moment stand run.epoch was
    still phase was = tt

    abbrev IsReachedBy : MasterState → Type 0
    IsReachedBy s = IsRunReached start new s.phase

    row_reached : IsTakenNow start all e es moment block.GcpMaster → (s : MasterState)
        → (s.phase ≡ Unordered) ⊎ IsBefore start old s → IsRunReached start old s.phase
        → IsReachedBy (master_row s x).state
    row_reached taken s before was =
        still (master_row s x).state.phase
        (moved_reached start old agree s it before (taken_true start all e es moment stand block.GcpMaster taken) was
        (master_row s x).state.phase (master_row s x).state.voices (master_goes s x).moved)

    installed_reached : (s : MasterState) (view : View) → IsReachedBy (in_view s view)
    installed_reached s view = subst (IsRunReached start new) (sym (installed s view).phase) tt

    module _ (p : Member) (there : IsIn p (made start)) where
      abbrev was : MasterState
      was = master_of start old p

      abbrev h : ℕ
      h = main_of start p

      -- a master that takes the signal in the view in which it stood does nothing before, or is that of the president
      taker_before : e.host ≡ main_of start p → IsTakenNow start all e es moment block.GcpMaster
          → master_of start new p ≡ (master_row was x).state → (was.phase ≡ Unordered) ⊎ IsBefore start old was
      taker_before at taken is = by (stood_by start all e es moment stand p there standing)
        where
          standing : IsStanding start new p
          standing =
              ap (λ h. (view_after start h (new h)).number) (sym at)
              ∙ ap (λ (v : View). v.number) (own_behind start all e es moment ∙ taken.stands)

          view_same : (master_of start new p).view ≡ was.view
          view_same = ap (λ (s : MasterState). s.view) is ∙ (master_goes was x).view

          number_same : (view_after start h (new h)).number ≡ (view_after start h (old h)).number
          number_same =
              ap (λ (v : View). v.number)
              (sym (master_view start moment.cluster.nobody p there new) ∙ view_same
              ∙ master_view start moment.cluster.nobody p there old)

          one_of : IsStanding start old p → current start new ≡ current start old
              → IsPresident start new p ⊎ (IsPresident start new p → ⊥)
              → (was.phase ≡ Unordered) ⊎ IsBefore start old was
          one_of stands view (inl first) = inr (before_it start all e es moment stand p there first stands view)
          one_of stands view (inr other) =
              inl
              (stand.others p there (λ first. other (subst (λ (v : View). IsFirst p v.full) (sym view) first)) stands)

          by : Stood start all e es moment stand p there → (was.phase ≡ Unordered) ⊎ IsBefore start old was
          by (rose up) = let same = number_same in absurd (omega (arith, up, same))
          by (stood stands view) = one_of stands view (first_or p (current start new).full)

      -- so it is behind each event
      pub masters_next : IsReachedBy (master_of start new p)
      masters_next = by (master_does start all e es moment p)
        where
          by : MasterDoes start all e es moment p → IsReachedBy (master_of start new p)
          by (unmoved is) = subst IsReachedBy (sym is) (still was.phase (reached p there))
          by (installs at up between is) = subst IsReachedBy (sym is) (installed_reached between _)
          by (enters at up is) = subst IsReachedBy (sym is) (installed_reached was x.view)
          by (takes at taken is) =
              subst IsReachedBy (sym is) (row_reached taken was (taker_before at taken is) (reached p there))
          by (enters_takes at up taken is) =
              let between = in_view was x.view in
              let idle = (installed was x.view).phase in
              subst IsReachedBy (sym is)
              (row_reached taken between (inl idle) (subst (IsRunReached start old) (sym idle) tt))

-- at the beginning no run is committed
pub masters_first : (start : Start) (nobody : NobodyStarts start) (member : Member) → IsIn member (made start)
    → IsRunReached start (logs_of start []) (master_of start (logs_of start []) member).phase
masters_first start nobody member there =
    subst
    (λ (s : node.HostBody). IsRunReached start (logs_of start [])
    (master_in (fresh_master member (first_layout start.shape).view 0) s.parts).phase)
    (sym (main_started start nobody member there))
    (first start.epoch (is_president member (first_layout start.shape).view))
  where
    first : (epoch : ℕ) (b : Bool) → IsRunReached start (logs_of start []) (first_phase epoch b)
    first epoch true = tt
    first epoch false = tt
