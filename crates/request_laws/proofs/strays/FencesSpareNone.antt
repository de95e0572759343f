-- A coordinator that is fenced above its view is so by a set that its member has promised, to which all keep that are
-- undecided, aren't doomed and have no operation unanswered.
use Rattle.std.proofs.Common.{◌≡◌, ◌⊎◌, ◌≤◌, ◌<◌, ℕ, true, List, [], ◌∷◌, subst, arith, inl, inr}
use Rattle.std.proofs.lemmas.Bool.{cases_lt}
use Rattle.frag_map.specs.Layout.{first_layout}
use Rattle.run_theory.proofs.Links.{put_each, sent_by_each}
use Rattle.run_theory.proofs.Pasts.{each_filter, in_past, past_less, past_self}
use Rattle.run_theory.proofs.Runs.{log_of-past}
use Rattle.run_theory.specs.Links.{sent, sent_by}
use Rattle.run_theory.specs.Lists.{Each, IsIn, IsPast}
use Rattle.run_theory.proofs.EventCases.{event_cases}
use Rattle.sig_core.specs.declared.member.Member.{Member}
use Rattle.sig_core.specs.declared.place.BlockId.TheVariants as block
use Rattle.sig_core.specs.declared.place.Part.TheVariants.{Tc}
use Rattle.sig_core.specs.declared.signal.Body.TheVariants.{Membership}
use Rattle.sig_core.specs.declared.signal.membership.MembershipSignal.TheVariants.{FenceReq}
use Rattle.sig_core.specs.declared.view.View.{View}
use Rattle.node_views.specs.WellFormed.{is_well_formed}
use Rattle.world_core.specs.Hosts.{hosts}
use Rattle.world_core.specs.Start.{Start, made}
use Rattle.world_core.specs.Steps.{Addressed, HostStep}
use Rattle.world_views.specs.Machine.{IsOwnWork, after, machine, signals_of}
use Rattle.view_laws.specs.Order.{is_sound, sound_machine}
use Rattle.view_laws.specs.Runs.{view_after}
use Rattle.view_laws.proofs.fences.OfOwnMember.{HasAsked, IsPromisedAt, each_promised}
use Rattle.view_laws.proofs.runs.Growth.{events_more, in_made, promises_past}
use Rattle.view_laws.proofs.runs.ChosenViews.{past_none}
use Rattle.moment_laws.specs.Moments.{IsMoment, logs_of}
use Rattle.moment_laws.specs.Places.{tc_of}
use Rattle.moment_laws.proofs.MomentHosts.{part_some}
use Rattle.moment_laws.proofs.MomentSignals.{taken_told}
use Rattle.moment_laws.proofs.MomentViews.{moment_less, moment_within}
use Rattle.request_laws.specs.Strays.{FencesSpareNoStrays}
use Rattle.request_laws.proofs.strays.Numbers.{begins_standing, stands_of}
use Rattle.request_laws.proofs.strays.AlongHosts.{StandsIn, stands_more, step_stands}

module _ (start : Start) (all : ℕ → List HostStep) where
  -- each request for a fence that was sent at a moment is of a set that was promised by then
  module _ (es : List HostStep) (moment : IsMoment start all es) where
    abbrev logs : ℕ → List HostStep
    logs = logs_of start es

    abbrev IsPromised : Addressed → Type 0
    IsPromised y = IsPromisedAt start (logs_of start es) y

    low_host : (i : ℕ) (log : List HostStep) (e : HostStep) → IsPast (e ∷ log) (logs i) → i < hosts start
    low_host i log e past = by (cases_lt i (hosts start))
      where
        by : (i < hosts start) ⊎ (hosts start ≤ i) → i < hosts start
        by (inl low) = low
        by (inr high) =
            absurd (cc (past_none (e ∷ log) (subst (IsPast (e ∷ log)) (moment_within start all es moment i high) past)))

    log_promised : (i j : ℕ) (log : List HostStep) → IsPast log (logs i)
        → Each IsPromised (sent (sound_machine start) i j log)
    log_promised i j [] past = tt
    log_promised i j (e ∷ log) past =
        put_each (sound_machine start) IsPromised j (sent_by (sound_machine start) i log e)
        (sent (sound_machine start) i j log)
        (sent_by_each (sound_machine start) IsPromised i log e
        (λ runs.
        each_filter IsPromised (is_sound start) (signals_of start i log e)
        (each_promised start logs moment.cluster.nobody i log e past (low_host i log e past))))
        (log_promised i j log (past_less e past))

    pub sent_promised : (i j : ℕ) → Each IsPromised (sent (sound_machine start) i j (logs i))
    sent_promised i j = log_promised i j (logs i) (past_self (logs i))

  module _ (member : Member) (there : IsIn member (made start)) where
    abbrev h : ℕ
    h = tc_of start member

    -- the member has promised the set by then
    abbrev Asked : List HostStep → View → Type 0
    Asked es set = HasAsked start (logs_of start es) member set

    -- an event at which the coordinator is asked for a fence
    module _ (e : HostStep) (es : List HostStep) (moment : IsMoment start all (e ∷ es)) where
      asks : e.host ≡ tc_of start member → is_well_formed start.shape e.step.taken ≡ true → (set : View)
          → e.step.taken.body ≡ Membership (FenceReq set) → Asked es set
      asks at sound set says =
          taken_told start (IsPromisedAt start (logs_of start es)) all e es moment
          (sent_promised es (moment_less start all e es moment)) sound
          (λ work. absurd (subst (IsOwnWork start e.host) says work)) (λ closes. absurd (cc (says, closes.is)))
          member there block.Tc at set says

      asked_more : (set : View) → Asked es set → Asked (e ∷ es) set
      asked_more set asked =
          in_past _
          (promises_past member (first_layout start.shape)
          (events_more start (logs_of start es) (logs_of start (e ∷ es)) (log_of-past (machine start) e es) member))
          asked

    abbrev StandsAt : List HostStep → List HostStep → Type 0
    StandsAt es log = StandsIn (Asked es) (view_after start h log) (after start h log).parts

    pub stands_at : (es : List HostStep) → IsMoment start all es → StandsAt es (logs_of start es h)
    stands_at [] moment = begins_standing (Asked []) start moment.cluster.nobody member there
    stands_at (e ∷ es) moment =
        let before = stands_at es (moment_less start all e es moment) in
        event_cases (machine start) e es h (StandsAt (e ∷ es))
        (λ at.
        more (e ∷ logs_of start es h)
        (step_stands (Asked es) start moment.cluster.nobody h (part_some start Tc member) (logs_of start es h) e
        (asks e es moment at)
        before))
        (λ other. more (logs_of start es h) before)
      where
        more : (log : List HostStep) → StandsAt es log → StandsAt (e ∷ es) log
        more log = stands_more (Asked es) (Asked (e ∷ es)) (asked_more e es moment) (view_after start h log)
            (after start h log).parts

pub fences_spare : FencesSpareNoStrays
fences_spare start all es moment member there high =
    let log = logs_of start es (tc_of start member) in
    let stands =
    stands_of (HasAsked start (logs_of start es) member) _ (view_after start (tc_of start member) log)
    (after start (tc_of start member) log).parts (stands_at start all member there es moment) in
    let number = stands.number_is in
    let kept = stands.fenced (omega (arith, high, number)) in
    record {
      set = kept.set;
      number_is = kept.number_is;
      promised = in_made start member _ _ there kept.asked;
      keep = kept.keep;
    }
