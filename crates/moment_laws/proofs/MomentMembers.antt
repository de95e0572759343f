-- The members of views that were installed, and who is left of them where the current view rises.
use Rattle.std.proofs.Common.{◌≡◌, ◌≤◌, ◌<◌, ◌++◌, ℕ, List, ◌∷◌, refl, sym, ap, subst, ◌∙◌, inl, inr, append-nil}
use Rattle.frag_map.specs.Layout.{members}
use Rattle.run_theory.proofs.Pasts.{each_from, each_in}
use Rattle.run_theory.specs.Lists.{IsIn}
use Rattle.sig_core.specs.declared.member.Member.{Member}
use Rattle.sig_core.specs.declared.view.View.{View}
use Rattle.world_core.proofs.MadeFirst.{begins_made}
use Rattle.world_core.specs.Hosts.{hosts, member_at}
use Rattle.world_core.specs.Start.{Start, made}
use Rattle.world_core.specs.Steps.{HostStep}
use Rattle.view_laws.specs.Ballots.{IsChosen}
use Rattle.view_laws.specs.Runs.{AreOfCluster, WasInstalled, ballots_of, events_in, view_after}
use Rattle.view_laws.specs.Sets.{AreApart, IsPart, all_of}
use Rattle.view_laws.proofs.runs.Growth.{from_flat}
use Rattle.view_laws.proofs.runs.AllSound.{have_orderly, logs_sound}
use Rattle.view_laws.proofs.runs.FirstMembers.{first_set}
use Rattle.view_laws.proofs.runs.OrderlyBallots.{own_proposal}
use Rattle.view_laws.proofs.runs.ViewsShrink.{views_shrink}
use Rattle.view_laws.proofs.runs.Sound.{IsOfMade, proposed_in}
use Rattle.view_laws.proofs.runs.ChosenViews.{installed_chosen}
use Rattle.view_laws.proofs.ballots.MadeSets.{made_full}
use Rattle.view_laws.proofs.standing.Members.{are_of_views}
use Rattle.moment_laws.specs.Moments.{IsMoment, current, logs_of}
use Rattle.moment_laws.proofs.MomentViews.{current_number, moment_installed, moment_less}

module _ (start : Start) (all : ℕ → List HostStep) (are : AreOfCluster start all) where
  -- a view that was installed is a set of members that were made, of which none is starting
  chosen_made : (set : View) → IsChosen start.shape (ballots_of start all) set → IsOfMade start set
  chosen_made set (inl is) =
      subst (IsOfMade start) (sym is)
      (record {
        set = first_set start.shape.nodes are.shape.nodes_few;
        none = refl;
        made = each_from _ (members start.shape.nodes) (begins_made start);
      })
  chosen_made set (inr won) =
      let sound = logs_sound start all are in
      let one = from_flat (λ me. proposed_in start all me) (made start) won.proposal won.there in
      let own =
      own_proposal start all are.shape one.of (events_in start all one.of) (sound.members one.of one.there) won.proposal
      one.is in
      subst (IsOfMade start) (sym won.is) own.of

  pub installed_made : (view : View) → WasInstalled start all view → IsOfMade start view
  installed_made view was = chosen_made view (installed_chosen have_orderly start all are view was)

  pub all_full : (view : View) → WasInstalled start all view → all_of view ≡ view.full
  all_full view was =
      ap (λ (starting : List Member). view.full ++ starting) (installed_made view was).none ∙ append-nil view.full

  pub full_apart : (view : View) → WasInstalled start all view → AreApart view.full
  full_apart view was = subst AreApart (all_full view was) (installed_made view was).set.apart

  pub full_made : (view : View) → WasInstalled start all view → (member : Member) → IsIn member view.full
      → IsIn member (made start)
  full_made view was member there = each_in _ member view.full (installed_made view was).made there

module _ (start : Start) (all : ℕ → List HostStep) (es : List HostStep) (moment : IsMoment start all es) where
  pub current_made : (member : Member) → IsIn member (current start (logs_of start es)).full → IsIn member (made start)
  current_made =
      full_made start all moment.cluster (current start (logs_of start es)) (moment_installed start all es moment)

  -- a host of a node that stands in the current view is of one of its full members
  pub current_host : (h : ℕ) → 1 ≤ h → h < hosts start
      → view_after start h (logs_of start es h) ≡ current start (logs_of start es)
      → IsIn (member_at (made start) h) (current start (logs_of start es)).full
  current_host h some low same =
      subst (IsIn (member_at (made start) h))
      (all_full start all moment.cluster (current start (logs_of start es)) (moment_installed start all es moment))
      (subst (λ (v : View). IsIn (member_at (made start) h) (all_of v)) same
      (are_of_views start all moment.cluster h some low (logs_of start es h) (moment.inside h)))

-- where the current view rises each full member of it is one of that before
pub full_less : (start : Start) (all : ℕ → List HostStep) (e : HostStep) (es : List HostStep)
    → IsMoment start all (e ∷ es)
    → current_number start (logs_of start es) < current_number start (logs_of start (e ∷ es)) → (member : Member)
    → IsIn member (current start (logs_of start (e ∷ es))).full → IsIn member (current start (logs_of start es)).full
full_less start all e es moment above member there =
    let older = current start (logs_of start es) in
    let newer = current start (logs_of start (e ∷ es)) in
    let was = moment_installed start all es (moment_less start all e es moment) in
    let part : IsPart older newer =
    views_shrink start all moment.cluster older newer was (moment_installed start all (e ∷ es) moment) above in
    subst (IsIn member) (all_full start all moment.cluster older was) (made_full older _ newer part member there)
