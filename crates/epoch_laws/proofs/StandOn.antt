-- Behind an event in the view that was current before, what signals of this view tell stays true.
use Rattle.std.proofs.Common.{◌≡◌, ◌≢◌, ◌≤◌, ◌<◌, ◌⊎◌, ℕ, List, ◌∷◌, refl, sym, ap, subst, ◌∙◌, inl, inr, arith}
use Rattle.std.proofs.lemmas.Bool.{cases_eq}
use Rattle.frag_map.specs.Layout.{first_layout}
use Rattle.run_theory.proofs.Pasts.{each_in, each_map}
use Rattle.run_theory.specs.Links.{sent}
use Rattle.run_theory.specs.Lists.{Each, IsIn}
use Rattle.run_theory.proofs.EventCases.{event_cases}
use Rattle.sig_core.specs.declared.member.Member.{Member}
use Rattle.sig_core.specs.declared.place.Part.TheVariants.{Main}
use Rattle.sig_core.specs.declared.signal.Body.{Body}
use Rattle.sig_core.specs.declared.signal.Signal.{Signal}
use Rattle.sig_core.specs.declared.view.View.{View}
use Rattle.dih_node.specs.State.{DihState}
use Rattle.gcp_master.specs.declared.phase.Phase.{Phase}
use Rattle.gcp_master.specs.declared.phase.Phase.TheVariants.{Committing, Preparing}
use Rattle.gcp_master.specs.declared.voices.Voice.{Voice}
use Rattle.gcp_master.specs.Master.{fresh_master}
use Rattle.gcp_master.specs.State.{MasterState}
use Rattle.gcp_master.proofs.Outcomes.{voice_of}
use Rattle.world_core.specs.Hosts.{hosts}
use Rattle.world_core.specs.Start.{Start, made}
use Rattle.world_core.specs.Steps.{HostStep}
use Rattle.world_views.specs.Machine.{after, machine}
use Rattle.view_laws.specs.Order.{sound_machine}
use Rattle.view_laws.specs.Runs.{view_after}
use Rattle.view_laws.specs.Votes.{main_of}
use Rattle.epoch_laws.specs.Alike.{EachFull}
use Rattle.epoch_laws.specs.Masters.{Commits, IsRight, IsRightIn, IsSilent, Prepares}
use Rattle.epoch_laws.specs.Members.{IsFirst, IsPresident, IsStanding, epochs_of, master_in, master_of}
use Rattle.moment_laws.specs.Places.{tc_of}
use Rattle.moment_laws.specs.Moments.{IsMoment, current, logs_of}
use Rattle.epoch_laws.specs.Stand.{AllStand}
use Rattle.epoch_laws.specs.Told.{IsAllSilent, IsOrdered, IsTrue}
use Rattle.epoch_laws.proofs.MasterMoves.{Moved}
use Rattle.epoch_laws.proofs.MasterMoves as moves
use Rattle.epoch_laws.proofs.MasterRows.{master_goes}
use Rattle.epoch_laws.proofs.MomentEvents.{MasterDoes, enters, enters_takes, installs, master_does, takes, unmoved}
use Rattle.moment_laws.proofs.MomentHosts.{host_made, main_low}
use Rattle.moment_laws.proofs.MomentMembers.{current_made}
use Rattle.moment_laws.proofs.MomentSignals.{EachSent, sent_below}
use Rattle.moment_laws.proofs.MomentTurns.{Turn, host_low, keeps, number_rises, other_log, raises, turn}
use Rattle.moment_laws.proofs.MomentViews.{current_above, moment_less, number_in}
use Rattle.epoch_laws.proofs.OrderMoves.{across_own, prepared_commit, prepared_prepare}
use Rattle.epoch_laws.proofs.OrderOn.{master_on, member_on}
use Rattle.epoch_laws.proofs.SignalsOn.{GoOn, true_on}
use Rattle.epoch_laws.proofs.StandMasters.{first_inside, not_tc, president_next}
use Rattle.epoch_laws.proofs.StandTakes.{Carries, carries, commits, others_same, prepares, stay}

-- a member that an order isn't late for gives the epoch of the order
module _ (start : Start) (logs : ℕ → List HostStep) (m : Member) (inside : IsIn m (current start logs).full)
    (epoch next : ℕ) (rises : epoch < next) (late : (epochs_of start logs m).current ≤ epoch)
  where
    abbrev d : DihState
    d = epochs_of start logs m

    prepares_own : (voices : List Voice) (phase : Phase) → IsRightIn start logs voices phase → Prepares epoch next phase
        → d.current ≡ epoch
    prepares_own voices (Preparing run) right is =
        (each_in _ m (current start logs).full right.0.each inside).gives ∙ is.0
    prepares_own voices _ right is = absurd is

    pub commits_own : (voices : List Voice) (phase : Phase) → IsRightIn start logs voices phase
        → Commits epoch next phase → d.current ≡ epoch
    commits_own voices (Committing run) right is =
        let same : run.epoch ≡ epoch = is.0 in
        let above = right.0.rises in
        across_own run.epoch run.next above d d (omega (arith, late, same))
        (each_in _ m (current start logs).full right.0.each inside)
        ∙ same
    commits_own voices _ right is = absurd is

    beyond_not : EachFull start logs (λ s. next ≤ s.current) → ⊥
    beyond_not each =
        let beyond = each_in _ m (current start logs).full each inside in
        omega (arith, beyond, late, rises)

    pub commit_own : (voices : List Voice) (phase : Phase) → IsRightIn start logs voices phase
        → Commits epoch next phase ⊎ EachFull start logs (λ s. next ≤ s.current) → d.current ≡ epoch
    commit_own voices phase right (inl is) = commits_own voices phase right is
    commit_own voices phase right (inr beyond) = absurd (beyond_not beyond)

    pub prepare_own : (voices : List Voice) (phase : Phase) → IsRightIn start logs voices phase
        → (Prepares epoch next phase ⊎ Commits epoch next phase) ⊎ EachFull start logs (λ s. next ≤ s.current)
        → d.current ≡ epoch
    prepare_own voices phase right (inl (inl is)) = prepares_own voices phase right is
    prepare_own voices phase right (inl (inr is)) = commits_own voices phase right is
    prepare_own voices phase right (inr beyond) = absurd (beyond_not beyond)

module _ (start : Start) (all : ℕ → List HostStep) (e : HostStep) (es : List HostStep)
    (moment : IsMoment start all (e ∷ es)) (stand : AllStand start (logs_of start es))
  where
    abbrev old : ℕ → List HostStep
    old = logs_of start es

    abbrev new : ℕ → List HostStep
    new = logs_of start (e ∷ es)

    abbrev x : Signal
    x = e.step.taken

    -- the epoch of an order that is carried out is the one that its member gives
    pub ordered_own : (m : Member) → IsIn m (current start old).full → (epoch next : ℕ) → epoch < next
        → (epochs_of start old m).current ≤ epoch
        → IsOrdered start old next (λ phase. Prepares epoch next phase ⊎ Commits epoch next phase)
        → (epochs_of start old m).current ≡ epoch
    ordered_own m inside epoch next rises late order =
        let q = master_of start old order.president in
        prepare_own start old m inside epoch next rises late q.voices q.phase
        (stand.president order.president order.is order.stands) order.far

    pub committed_own : (m : Member) → IsIn m (current start old).full → (epoch next : ℕ) → epoch < next
        → (epochs_of start old m).current ≤ epoch → IsOrdered start old next (Commits epoch next)
        → (epochs_of start old m).current ≡ epoch
    committed_own m inside epoch next rises late order =
        let q = master_of start old order.president in
        commit_own start old m inside epoch next rises late q.voices q.phase
        (stand.president order.president order.is order.stands) order.far

    module _ (view : current start new ≡ current start old) where
      full : (current start old).full ≡ (current start new).full
      full = sym (ap (λ (v : View). v.full) view)

      number : (current start old).number ≡ (current start new).number
      number = sym (ap (λ (v : View). v.number) view)

      stands_on : (p : Member) → IsStanding start old p → IsStanding start new p
      stands_on p at = by (cases_eq e.host (main_of start p))
        where
          by : (e.host ≡ main_of start p) ⊎ (e.host ≢ main_of start p) → IsStanding start new p
          by (inl own) =
              let above =
              current_above start new moment.cluster.nobody (main_of start p)
              (subst (λ h. h < hosts start) own (host_low start all e es moment)) in
              let up = number_rises start all e es moment (main_of start p) in
              let same = number in
              omega (arith, above, up, same, at)
          by (inr other) =
              ap (λ log. (view_after start (main_of start p) log).number)
              (other_log start all e es moment (main_of start p) other)
              ∙ at ∙ number

      -- a master that stands in the view doesn't enter it
      not_rose : (p : Member) → IsIn p (made start) → IsStanding start old p
          → number_in start old (main_of start p) < number_in start new (main_of start p) → ⊥
      not_rose p there at up =
          let above = current_above start new moment.cluster.nobody (main_of start p)
          (main_low start moment.cluster.nobody p there) in
          let same = number in
          omega (arith, at, up, above, same)

      old_made : (p : Member) → IsPresident start old p → IsIn p (made start)
      old_made p is =
          current_made start all es (moment_less start all e es moment) p (first_inside p (current start old).full is)

      moved : (p : Member) → IsPresident start old p → IsStanding start old p
          → (voice : Voice) × ((body : Body)
          × Moved (master_of start old p) voice body (master_of start new p).phase (master_of start new p).voices)
      moved p is at = by (master_does start all e es moment p)
        where
          by : MasterDoes start all e es moment p → (voice : Voice) × ((body : Body)
              × Moved (master_of start old p) voice body (master_of start new p).phase (master_of start new p).voices)
          by (unmoved same) = (
            voice_of x,
            (x.body, moves.stays (ap (λ (s : MasterState). s.phase) same) (ap (λ (s : MasterState). s.voices) same)),
          )
          by (takes own taken same) = (
            voice_of x,
            (
              x.body,
              subst (λ (s : MasterState). Moved (master_of start old p) (voice_of x) x.body s.phase s.voices) (sym same)
                  (master_goes (master_of start old p) x).moved,
            ),
          )
          by (installs own up between same) = absurd (not_rose p (old_made p is) at up)
          by (enters own up same) = absurd (not_rose p (old_made p is) at up)
          by (enters_takes own up taken same) = absurd (not_rose p (old_made p is) at up)

      first_on : (p : Member) → IsPresident start old p → IsPresident start new p
      first_on p is = subst (IsFirst p) full is

      right_on : (p : Member) → IsPresident start old p → IsStanding start old p
          → IsRight start new (master_of start new p)
      right_on p is at = president_next start all e es moment stand p (first_on p is) (stands_on p at)

      -- where epochs take an order the masters stay
      masters_same : (m : Member) → e.host ≡ tc_of start m → (p : Member)
          → master_of start old p ≡ master_of start new p
      masters_same m at p =
          event_cases (machine start) e es (main_of start p)
          (λ log. master_of start old p
          ≡ master_in (fresh_master p (first_layout start.shape).view 0) (after start (main_of start p) log).parts)
          (λ own.
          let there = host_made start Main p (subst (λ h. h < hosts start) own (host_low start all e es moment)) in
          absurd (not_tc start all e es moment stand p there own m at))
          (λ other. refl)

      loud : (m : Member) → e.host ≡ tc_of start m → (next : ℕ) (U : Phase → Type 0) → IsOrdered start old next U
          → IsAllSilent start new → ⊥
      loud m at next U order silent =
          order.speaks
          (subst (λ (s : MasterState). IsSilent s.phase) (sym (masters_same m at order.president))
          (silent order.president (first_on order.president order.is) (stands_on order.president order.stands)))

      pub goes_on : GoOn start old new
      goes_on = by (carries start all e es moment stand)
        where
          by : Carries start all e es moment stand → GoOn start old new
          by (stay stays) = master_on start old new full number stands_on stays moved right_on
          by (prepares m at inside same epoch next rises order late goes) =
              let own = ordered_own m inside epoch next rises late order in
              let gives = goes.current_is in
              member_on start old new full number stands_on (masters_same m at) m
              (others_same start all e es moment stand m at) (omega (arith, gives))
              (prepared_prepare epoch next rises (epochs_of start old m) (epochs_of start new m) goes own)
              (loud m at next (λ phase. Prepares epoch next phase ⊎ Commits epoch next phase) order)
          by (commits m at inside same epoch next rises order late goes) =
              let own = committed_own m inside epoch next rises late order in
              let gives = goes.current_is in
              member_on start old new full number stands_on (masters_same m at) m
              (others_same start all e es moment stand m at) (omega (arith, gives, late, rises))
              (prepared_commit epoch next rises (epochs_of start old m) (epochs_of start new m) goes own)
              (loud m at next (Commits epoch next) order)

    -- so what was sent before is true
    pub old_true : EachSent start (IsTrue start new) old
    old_true i j = by (turn start all e es moment)
      where
        by : Turn start all e es moment → Each (IsTrue start new) (sent (sound_machine start) i j (old i))
        by (keeps view stands) =
            each_map (IsTrue start old) (IsTrue start new) (sent (sound_machine start) i j (old i))
            (true_on start old new (goes_on view)) (stand.signals i j)
        by (raises above stands) =
            each_map _ (IsTrue start new) (sent (sound_machine start) i j (old i))
            (λ y low header. absurd (omega (arith, low, header, above)))
            (sent_below start all es (moment_less start all e es moment) i j)
