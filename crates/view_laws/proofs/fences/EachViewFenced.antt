-- Where each block of a member is fenced at all numbers that the member has confirmed, each view is fenced.
use Rattle.std.proofs.Common.{◌≡◌, ◌⊎◌, ◌≤◌, ◌<◌, ℕ, Bool, true, false, List, [], ◌∷◌, append-nil, refl, ap}
use Rattle.std.proofs.Common.{subst, arith, inl, inr}
use Rattle.std.specs.List.{list_any}
use Rattle.std.specs.Prelude.{if◌then◌else◌, None}
use Rattle.frag_map.specs.Layout.{first_layout, first_view, members}
use Rattle.frag_map.specs.Replicas.{is_member}
use Rattle.run_theory.specs.Lists.{IsIn}
use Rattle.run_theory.proofs.Pasts.{each_in}
use Rattle.sig_core.specs.declared.member.Member.{Member}
use Rattle.sig_core.specs.declared.place.BlockId.{BlockId}
use Rattle.sig_core.specs.declared.view.View.{View}
use Rattle.sig_core.specs.Part.{part_of}
use Rattle.world_core.proofs.MadeFirst.{begins_made}
use Rattle.world_core.specs.Hosts.{host_of}
use Rattle.world_core.specs.Start.{NobodyStarts, Start, made}
use Rattle.world_core.specs.Steps.{HostStep}
use Rattle.world_views.specs.Machine.{after, step_by, told}
use Rattle.view_laws.specs.Ballots.{HasPromised, IsChosen}
use Rattle.view_laws.specs.Fences.{EachViewIsFenced, IsFenced, fence_after}
use Rattle.view_laws.specs.Members.{confirmed_of}
use Rattle.view_laws.specs.Runs.{AreOfCluster, ballots_of, events_in, if_made, view_after}
use Rattle.view_laws.specs.Sets.{all_of}
use Rattle.view_laws.specs.Votes.{membership_in}
use Rattle.view_laws.proofs.fences.Promised.{part_none}
use Rattle.view_laws.proofs.fences.AboveViews.{fences_are_not_below}
use Rattle.view_laws.proofs.follow.Views.{others_move}
use Rattle.view_laws.proofs.runs.AllSound.{have_orderly}
use Rattle.view_laws.proofs.runs.FirstMembers.{made_tested}
use Rattle.view_laws.proofs.runs.ChosenViews.{installed_chosen}
use Rattle.view_laws.proofs.runs.Step.{started_view}

-- each fenced block of a member is fenced at each number that the member has confirmed
abbrev pub ConfirmedAreFenced : Type 0
ConfirmedAreFenced =
    (start : Start) (logs : ℕ → List HostStep) → AreOfCluster start logs → (me : Member) → IsIn me (made start)
    → (at : BlockId) → IsFenced at → (number : ℕ)
    → IsIn number (confirmed_of me (first_layout start.shape) (events_in start logs me))
    → (let h = host_of (made start) (part_of at) me in number ≤ fence_after start h (logs h) at)

-- what is of a member is of one that was made
from_made : {A : Type 0} (start : Start) (me : Member) (x : A) (xs : List A) → IsIn x (if_made start me xs)
    → IsIn me (made start) × IsIn x xs
from_made {A} start me x xs is = by (list_any (is_member me) (made start)) refl is
  where
    by : (b : Bool) → list_any (is_member me) (made start) ≡ b → IsIn x (if b then xs else [])
        → IsIn me (made start) × IsIn x xs
    by true e is = (made_tested start me e, is)
    by false e is = absurd is

module _ (start : Start) (nobody : NobodyStarts start) where
  -- a host without a membership never falls behind the first view
  not_before : (h : ℕ) → ((log : List HostStep) → membership_in (after start h log).parts ≡ None)
      → (log : List HostStep) → (first_view start.shape.nodes).number ≤ (view_after start h log).number
  not_before h none [] =
      omega (arith, ap (λ (v : View). v.number) (started_view start nobody h))
  not_before h none (e ∷ log) =
      by (others_move h (after start h log) e.step.taken (none log)) (not_before h none log)
    where
      by : ((told h (step_by h (after start h log) e.step.taken)).standing.view ≡ (after start h log).standing.view)
          ⊎ (((after start h log).standing.view.number < e.step.taken.view.number)
          × ((told h (step_by h (after start h log) e.step.taken)).standing.view ≡ e.step.taken.view))
          → (first_view start.shape.nodes).number ≤ (view_after start h log).number
          → (first_view start.shape.nodes).number ≤ (view_after start h (e ∷ log)).number
      by (inl same) low = omega (arith, low, ap (λ (v : View). v.number) same)
      by (inr (above, same)) low = omega (arith, low, above, ap (λ (v : View). v.number) same)

pub each_view_by : ConfirmedAreFenced → EachViewIsFenced
each_view_by confirmed start logs are view was me of at fenced =
    by (installed_chosen have_orderly start logs are view was)
  where
    host : ℕ
    host = host_of (made start) (part_of at) me

    first_made : IsIn me (all_of (first_view start.shape.nodes)) → IsIn me (made start)
    first_made there =
        begins_made start me (subst (IsIn me) (append-nil (members start.shape.nodes)) there)

    by : IsChosen start.shape (ballots_of start logs) view → view.number ≤ fence_after start host (logs host) at
    by (inl is) =
        let there = first_made (subst (λ (v : View). IsIn me (all_of v)) is of) in
        let low = not_before start are.nobody host (part_none start are.nobody me there at fenced) (logs host) in
        omega (arith, low, fences_are_not_below start are.nobody host (logs host) at, ap (λ (v : View). v.number) is)
    by (inr won) =
        let has : HasPromised (ballots_of start logs) view me = each_in _ me (all_of view) won.backed of in
        let both =
        from_made start me view.number (confirmed_of me (first_layout start.shape) (events_in start logs me))
        has.confirmed in
        confirmed start logs are me both.0 at fenced view.number both.1
