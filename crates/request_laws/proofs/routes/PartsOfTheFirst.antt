-- Each view that was installed is a part of the first one, its chains are some, and hosts of members are of theirs.
use Rattle.std.proofs.Common.{◌≡◌, ◌<◌, ◌≤◌, ◌⊎◌, ◌==◌, ◌&&◌, ℕ, Bool, true, List, [], ◌∷◌, inl, inr}
use Rattle.std.proofs.Common.{sym, ap, subst, arith}
use Rattle.std.proofs.lemmas.Bool.{cases_lt, eqb-true, or_cases, true≢false}
use Rattle.run_theory.specs.Lists.{IsIn, IsPast}
use Rattle.run_theory.proofs.Pasts.{past_nil}
use Rattle.sig_core.specs.declared.member.Member.{Member}
use Rattle.sig_core.specs.declared.place.Part.TheVariants.{Tc}
use Rattle.sig_core.specs.declared.signal.Body.{Body}
use Rattle.sig_core.specs.declared.view.View.{View}
use Rattle.frag_map.specs.Layout.{first_view}
use Rattle.world_core.specs.Start.{NobodyStarts, Start, made}
use Rattle.world_core.specs.Steps.{HostStep}
use Rattle.host_laws.proofs.rows.Operations.{right_of}
use Rattle.view_laws.specs.Runs.{AreOfCluster, WasInstalled, view_after}
use Rattle.view_laws.specs.Sets.{IsPart, all_of}
use Rattle.view_laws.proofs.eras.Rises.{view_rises}
use Rattle.view_laws.proofs.runs.AllSound.{have_orderly}
use Rattle.view_laws.proofs.runs.ViewsShrink.{views_shrink}
use Rattle.view_laws.proofs.runs.Step.{started_view}
use Rattle.view_laws.proofs.runs.ChosenViews.{one_view, viable}
use Rattle.view_laws.proofs.ballots.MadeSets.{part_self}
use Rattle.view_laws.proofs.standing.Members.{are_of_views}
use Rattle.view_laws.proofs.runs.Headers.{installed_at}
use Rattle.world_core.proofs.MadeFirst.{all_made}
use Rattle.moment_laws.specs.Places.{tc_of}
use Rattle.moment_laws.proofs.MomentHosts.{part_some, tc_low, tc_member}
use Rattle.moment_laws.proofs.MomentMembers.{all_full}
use Rattle.request_laws.specs.Drives.{sends_one, was_sent_in}
use Rattle.request_laws.specs.Routed.{layout_in}
use Rattle.request_laws.proofs.routes.ChainsStay.{NobodyLater, nobody_later_first, nobody_later_part}
use Rattle.request_laws.proofs.routes.Takeovers.{ChainsAreSome}
use Rattle.request_laws.proofs.routes.ViableViews.{chains_some}

module _ (start : Start) (all : ℕ → List HostStep) (are : AreOfCluster start all) where
  abbrev first : View
  first = first_view start.shape.nodes

  first_installed : WasInstalled start all first
  first_installed = record {
    host = 0;
    there = omega arith;
    made = all_made start are.nobody 0 (all 0);
    log = [];
    past = past_nil (all 0);
    is = sym (started_view start are.nobody 0);
  }

  -- no host stands below the first view
  not_before : (h : ℕ) (log : List HostStep) → first.number ≤ (view_after start h log).number
  not_before h [] =
      let is = ap (λ (v : View). v.number) (started_view start are.nobody h) in omega (arith, is)
  not_before h (e ∷ log) =
      let up = view_rises start are.nobody h log e in let low = not_before h log in omega (arith, up, low)

  pub first_part : (view : View) → WasInstalled start all view → IsPart first view
  first_part view was = by (cases_lt first.number view.number)
    where
      by : (first.number < view.number) ⊎ (view.number ≤ first.number) → IsPart first view
      by (inl above) = views_shrink start all are first view first_installed was above
      by (inr low) =
          let number = ap (λ (v : View). v.number) was.is in
          let not_below = not_before was.host was.log in
          subst (IsPart first)
          (one_view have_orderly start all are first view first_installed was (omega (arith, low, number, not_below)))
          (part_self first)

  pub nobody_later : (view : View) → WasInstalled start all view → NobodyLater view
  nobody_later view was = nobody_later_part first view (first_part view was) (nobody_later_first start.shape.nodes)

  pub chains_in : (view : View) → WasInstalled start all view → ChainsAreSome (layout_in start view)
  chains_in view was =
      chains_some start.shape are.shape view (first_part view was) (viable have_orderly start all are view was)

  module _ (member : Member) (there : IsIn member (made start)) where
    -- the view in which the host of a member's coordinator stands was installed, and the member is full in it
    pub was_in : (log : List HostStep) → IsPast log (all (tc_of start member))
        → WasInstalled start all (view_after start (tc_of start member) log)
    was_in log past =
        installed_at start are.nobody all (tc_of start member) (tc_low start are.nobody member there) log past

    pub member_full : (log : List HostStep) → IsPast log (all (tc_of start member))
        → IsIn member (view_after start (tc_of start member) log).full
    member_full log past =
        let view = view_after start (tc_of start member) log in
        subst (IsIn member) (all_full start all are view (was_in log past))
        (subst (λ (m : Member). IsIn m (all_of view)) (tc_member start are.nobody member there)
        (are_of_views start all are (tc_of start member) (part_some start Tc member)
        (tc_low start are.nobody member there) log
        past))

-- what was sent in a view was sent by a host that stands in it or above now
module _ (start : Start) (nobody : NobodyStarts start) (member : Member) (p : Body → Bool) (number : ℕ) where
  pub sent_low : (log : List HostStep) → was_sent_in start member p number log ≡ true
      → number ≤ (view_after start (tc_of start member) log).number
  sent_low [] was = absurd (true≢false (sym was))
  sent_low (e ∷ log) was =
      by
      (or_cases (sends_one start member p log e && ((view_after start (tc_of start member) (e ∷ log)).number == number))
      (was_sent_in start member p number log) was)
      (λ before. sent_low log before)
    where
      stood : ℕ
      stood = (view_after start (tc_of start member) (e ∷ log)).number

      by : ((sends_one start member p log e && (stood == number)) ≡ true)
          ⊎ (was_sent_in start member p number log ≡ true)
          → (was_sent_in start member p number log ≡ true
          → number ≤ (view_after start (tc_of start member) log).number)
          → number ≤ stood
      by (inl now) low =
          let same = eqb-true stood number (right_of (sends_one start member p log e) (stood == number) now) in
          omega (arith, same)
      by (inr before) low =
          let up = view_rises start nobody (tc_of start member) log e in
          let was_low = low before in
          omega (arith, up, was_low)
