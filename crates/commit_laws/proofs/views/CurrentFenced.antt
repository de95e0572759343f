-- The coordinator of each full member of the current view is fenced at it, if it is so at each number that its member
-- has confirmed by then.
use Rattle.std.proofs.Common.{◌≡◌, ◌≤◌, ℕ, Bool, true, false, List, [], ◌∷◌, sym, ap, subst, inl, inr, arith}
use Rattle.std.specs.List.{list_any}
use Rattle.std.specs.Prelude.{if◌then◌else◌}
use Rattle.frag_map.specs.Layout.{first_layout, first_view}
use Rattle.frag_map.specs.Replicas.{is_member}
use Rattle.run_theory.specs.Lists.{IsIn}
use Rattle.run_theory.proofs.Pasts.{each_in}
use Rattle.sig_core.specs.declared.member.Member.{Member}
use Rattle.sig_core.specs.declared.place.BlockId.TheVariants as block
use Rattle.sig_core.specs.declared.view.View.{View}
use Rattle.tc_views.specs.Coordinator.{fresh_coordinator}
use Rattle.world_core.specs.Start.{Start, made}
use Rattle.world_core.specs.Hosts.{hosts}
use Rattle.world_core.specs.Steps.{HostStep}
use Rattle.world_views.specs.Machine.{after}
use Rattle.view_laws.specs.Ballots.{HasPromised, IsChosen}
use Rattle.view_laws.specs.Fences.{fence_after}
use Rattle.view_laws.specs.Members.{confirmed_of}
use Rattle.view_laws.specs.Runs.{ballots_of, events_in, if_made, view_after}
use Rattle.view_laws.specs.Sets.{all_of}
use Rattle.view_laws.proofs.eras.Rises.{view_rises}
use Rattle.view_laws.proofs.fences.OfOwnMember.{HasAsked}
use Rattle.view_laws.proofs.runs.Step.{started_view}
use Rattle.view_laws.proofs.ballots.MadeSets.{in_front}
use Rattle.moment_laws.specs.Moments.{IsMoment, current, logs_of}
use Rattle.moment_laws.specs.Places.{tc_of}
use Rattle.moment_laws.proofs.MomentMembers.{current_made}
use Rattle.moment_laws.proofs.MomentViews.{IsSome, current_is}
use Rattle.request_laws.specs.Blocks.{coordinator_after}
use Rattle.request_laws.proofs.strays.FencesSpareNone.{stands_at}
use Rattle.request_laws.proofs.strays.Numbers.{fence_above, fence_is, have_the_number}
use Rattle.commit_laws.specs.Raised.{CurrentIsFenced}
use Rattle.commit_laws.proofs.views.Sound.{AllSound, moments_sound}

-- a coordinator is fenced at each number that its member has confirmed by then
abbrev pub ConfirmedIsFenced : Type 0
ConfirmedIsFenced =
    (start : Start) (all : ℕ → List HostStep) (es : List HostStep) → IsMoment start all es → (member : Member)
    → IsIn member (made start) → (number : ℕ)
    → IsIn number (confirmed_of member (first_layout start.shape) (events_in start (logs_of start es) member))
    → number ≤ fence_after start (tc_of start member) (logs_of start es (tc_of start member)) block.Tc

in_made : (start : Start) (member : Member) (number : ℕ) (numbers : List ℕ) → IsIn number (if_made start member numbers)
    → IsIn number numbers
in_made start member number numbers = by (list_any (is_member member) (made start))
  where
    by : (b : Bool) → IsIn number (if b then numbers else []) → IsIn number numbers
    by true there = there
    by false there = absurd there

module _ (confirmed : ConfirmedIsFenced) (start : Start)
    (all : ℕ → List HostStep) (es : List HostStep) (moment : IsMoment start all es)
  where
    abbrev logs : ℕ → List HostStep
    logs = logs_of start es

    abbrev now : View
    now = current start (logs_of start es)

    sound : AllSound start (logs_of start es)
    sound = moments_sound start all es moment

    -- the current view was chosen by now
    now_chosen : IsChosen start.shape (ballots_of start logs) now
    now_chosen = by now (current_is start logs moment.cluster.nobody)
      where
        by : (view : View) → IsSome start logs (hosts start) view → IsChosen start.shape (ballots_of start logs) view
        by view (inl first) = inl first
        by view (inr one) =
            subst (IsChosen start.shape (ballots_of start logs)) (sym one.is)
            (sound.are.views one.host one.below).chosen

    not_before : (h : ℕ) (log : List HostStep) → (first_view start.shape.nodes).number ≤ (view_after start h log).number
    not_before h [] =
        let is = ap (λ (v : View). v.number) (started_view start moment.cluster.nobody h) in omega (arith, is)
    not_before h (f ∷ log) =
        let up = view_rises start moment.cluster.nobody h log f in let low = not_before h log in omega (arith, up, low)

    module _ (member : Member) (full : IsIn member now.full) where
      abbrev log : List HostStep
      log = logs (tc_of start member)

      there : IsIn member (made start)
      there = current_made start all es moment member full

      fence_same : fence_after start (tc_of start member) log block.Tc ≡ (coordinator_after start member log).fence
      fence_same =
          fence_is (HasAsked start logs member)
          (fresh_coordinator member.node member.start (first_layout start.shape))
          (view_after start (tc_of start member) log)
          (after start (tc_of start member) log).parts (view_after start (tc_of start member) log).number
          (stands_at start all member there es moment)

      is_fenced : now.number ≤ (coordinator_after start member log).fence
      is_fenced = by now_chosen
        where
          by : IsChosen start.shape (ballots_of start logs) now
              → now.number ≤ (coordinator_after start member log).fence
          by (inl first) =
              let is = ap (λ (v : View). v.number) first in
              let low = not_before (tc_of start member) log in
              let number = have_the_number start moment.cluster.nobody member log there in
              let up = fence_above start moment.cluster.nobody member there log in
              omega (arith, is, low, number, up)
          by (inr won) =
              let has : HasPromised (ballots_of start logs) now member =
              each_in (HasPromised (ballots_of start logs) now) member (all_of now) won.backed
              (in_front member now.full now.starting full) in
              let low =
              confirmed start all es moment member there now.number
              (in_made start member now.number
              (confirmed_of member (first_layout start.shape) (events_in start logs member)) has.confirmed) in
              let same = fence_same in
              omega (arith, low, same)

pub current_fenced : ConfirmedIsFenced → CurrentIsFenced
current_fenced confirmed start all es moment member full =
    is_fenced confirmed start all es moment member full
