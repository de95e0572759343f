-- Where the host of a coordinator comes to stand in a greater view, all keep to it that are undecided, aren't doomed
-- and have no operation unanswered: the coordinator was fenced at it before.
use Rattle.std.proofs.Common.{◌≡◌, ◌⊎◌, ◌≤◌, ◌<◌, ◌∙◌, ℕ, List, ◌∷◌, sym, ap, subst, arith, inl, inr}
use Rattle.frag_map.specs.Layout.{first_layout}
use Rattle.run_theory.specs.Lists.{IsIn, IsPast}
use Rattle.sig_core.specs.declared.member.Member.{Member}
use Rattle.sig_core.specs.declared.place.BlockId.TheVariants as block
use Rattle.sig_core.specs.declared.place.Part.TheVariants.{Tc}
use Rattle.sig_core.specs.declared.view.View.{View}
use Rattle.tc_views.specs.Coordinator.{fresh_coordinator}
use Rattle.world_core.specs.Start.{Start, made}
use Rattle.world_core.specs.Steps.{HostStep}
use Rattle.world_views.specs.Machine.{after}
use Rattle.view_laws.specs.Fences.{EachViewIsFenced, fence_after}
use Rattle.view_laws.specs.Runs.{WasInstalled, view_after}
use Rattle.view_laws.specs.Sets.{all_of}
use Rattle.view_laws.proofs.fences.Answers.{confirmations_are_few}
use Rattle.view_laws.proofs.fences.WhatLinksOwe.{confirmed_fenced}
use Rattle.view_laws.proofs.fences.Links.{requests_are_high}
use Rattle.view_laws.proofs.fences.Promised.{part_none}
use Rattle.view_laws.proofs.fences.OfOwnMember.{HasAsked}
use Rattle.view_laws.proofs.fences.AlwaysThere.{fences_are_there}
use Rattle.view_laws.proofs.fences.EachViewFenced.{each_view_by}
use Rattle.view_laws.proofs.follow.Views.{others_move}
use Rattle.view_laws.proofs.standing.Members.{are_of_views}
use Rattle.view_laws.proofs.runs.Headers.{installed_at}
use Rattle.moment_laws.specs.Moments.{IsMoment, logs_of}
use Rattle.moment_laws.specs.Places.{tc_of}
use Rattle.moment_laws.proofs.MomentHosts.{part_some, tc_low, tc_member}
use Rattle.moment_laws.proofs.MomentTurns.{own_log}
use Rattle.moment_laws.proofs.MomentViews.{moment_less}
use Rattle.request_laws.specs.Blocks.{coordinator_after}
use Rattle.request_laws.specs.Strays.{HaleKeepTo, InstallationsSpareNoStrays}
use Rattle.request_laws.proofs.strays.FencesSpareNone.{stands_at}
use Rattle.request_laws.proofs.strays.ViewsOfHeaders.{IsHeaded, headed}
use Rattle.request_laws.proofs.strays.Numbers.{fence_is}
use Rattle.request_laws.proofs.strays.KeptToInstalled.{fenced_keep}

-- the coordinator of each member of a view that was installed is fenced at it
each_view_is_fenced : EachViewIsFenced
each_view_is_fenced = each_view_by (confirmed_fenced confirmations_are_few requests_are_high fences_are_there)

module _ (start : Start) (all : ℕ → List HostStep) (e : HostStep) (es : List HostStep)
    (moment : IsMoment start all (e ∷ es)) (member : Member) (there : IsIn member (made start))
    (at : e.host ≡ tc_of start member)
    (rises : (view_after start (tc_of start member) (logs_of start es (tc_of start member))).number
    < (view_after start (tc_of start member) (e ∷ logs_of start es (tc_of start member))).number)
  where
    abbrev h : ℕ
    h = tc_of start member

    abbrev log : List HostStep
    log = logs_of start es (tc_of start member)

    abbrev old : View
    old = view_after start h log

    abbrev view : View
    view = view_after start h (e ∷ log)

    less : IsMoment start all es
    less = moment_less start all e es moment

    past : IsPast (e ∷ log) (all h)
    past =
        subst (λ k. IsPast (e ∷ logs_of start es k) (all k)) at
        (subst (λ w. IsPast w (all e.host)) (own_log start all e es moment) (moment.inside e.host))

    -- it is the view of the signal that the host takes
    is_header : view ≡ e.step.taken.view
    is_header = by (others_move h (after start h log) e.step.taken
        (part_none start moment.cluster.nobody member there block.Tc tt log))
      where
        by : (view ≡ old) ⊎ ((old.number < e.step.taken.view.number) × (view ≡ e.step.taken.view))
            → view ≡ e.step.taken.view
        by (inl same) = let number = ap (λ (v : View). v.number) same in absurd (omega (arith, number, rises))
        by (inr (above, is)) = is

    member_in : IsIn member (all_of view)
    member_in =
        subst (λ (m : Member). IsIn m (all_of view)) (tc_member start moment.cluster.nobody member there)
        (are_of_views start all moment.cluster h (part_some start Tc member)
        (tc_low start moment.cluster.nobody member there) (e ∷ log) past)

    -- so the coordinator is fenced at it before
    fenced : view.number ≤ (coordinator_after start member log).fence
    fenced =
        let before : IsHeaded start h log e.step.taken.view =
        headed start moment.cluster.shape all moment.cluster h log e past in
        let high : view.number ≤ fence_after start h (before.old h) block.Tc =
        each_view_is_fenced start before.old before.are view
        (subst (WasInstalled start before.old) (sym is_header) before.was) member member_in block.Tc tt in
        let own : fence_after start h (before.old h) block.Tc ≡ (coordinator_after start member log).fence =
        ap (λ w. fence_after start h w block.Tc) before.own
        ∙ fence_is (HasAsked start (logs_of start es) member)
        (fresh_coordinator member.node member.start (first_layout start.shape)) old (after start h log).parts old.number
        (stands_at start all member there es less) in
        omega (arith, high, own)

    hale_keep : HaleKeepTo view (coordinator_after start member log)
    hale_keep =
        fenced_keep start all es less member there view
        (installed_at start moment.cluster.nobody all h (tc_low start moment.cluster.nobody member there) (e ∷ log)
        past) member_in rises
        fenced

pub installations_spare : InstallationsSpareNoStrays
installations_spare start all e es moment member there at =
    subst
    (λ k. (view_after start k (logs_of start es k)).number < (view_after start k (e ∷ logs_of start es k)).number
    → HaleKeepTo (view_after start k (e ∷ logs_of start es k))
    (coordinator_after start member (logs_of start es (tc_of start member))))
    (sym at) (λ rises. hale_keep start all e es moment member there at rises)
