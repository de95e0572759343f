-- Whose host one is, that it has joined, and the shape of its cluster don't change; so it enters no view without its
-- member.
use Rattle.std.proofs.Common.{◌≡◌, ◌≤◌, ◌<◌, ◌⊎◌, ◌||◌, ◌&&◌, ◌%◌, ◌/◌, ◌+◌, ℕ, zero, suc, Bool, true, false, List, []}
use Rattle.std.proofs.Common.{◌∷◌, refl, ap, sym, subst, arith, inl, inr}
use Rattle.std.proofs.lemmas.Bool.{lt-ltb, or_cases}
use Rattle.std.specs.List.{list_any}
use Rattle.std.specs.Prelude.{if◌then◌else◌, not, Option, None, Some}
use Rattle.frag_map.specs.Layout.{first_view, members}
use Rattle.run_theory.specs.Lists.{IsIn}
use Rattle.run_theory.proofs.Pasts.{in_append}
use Rattle.sig_core.specs.declared.member.Member.{Member}
use Rattle.sig_core.specs.declared.outcome.StopCause.{StopCause}
use Rattle.sig_core.specs.declared.place.BlockId.{BlockId}
use Rattle.sig_core.specs.declared.place.Part.{Part}
use Rattle.sig_core.specs.declared.place.Part.TheVariants.{Ldm, Main, Tc}
use Rattle.sig_core.specs.declared.signal.Signal.{Signal}
use Rattle.sig_core.specs.declared.view.Shape.{Shape}
use Rattle.sig_core.specs.declared.view.View.{View}
use Rattle.sig_core.specs.Members.{nobody}
use Rattle.sig_core.specs.Step.{Step}
use Rattle.api_views.specs.Members.{is_member, same_member}
use Rattle.node_views.specs.declared.host_body.HostBody as hosts
use Rattle.node_views.specs.Row.{is_excluded, killed_after, standing_at}
use Rattle.node_views.specs.WellFormed.{is_well_formed}
use Rattle.qmgr_block.specs.Laws.{Event}
use Rattle.world_core.proofs.MadeFirst.{begins_made, hosts_first, made_begins}
use Rattle.world_core.proofs.HostNumbers.{made_at}
use Rattle.world_core.specs.Hosts.{member_at, part_by}
use Rattle.world_core.specs.Hosts as world
use Rattle.world_core.specs.Start.{NobodyStarts, Start, made}
use Rattle.world_core.specs.Steps.{HostStep}
use Rattle.world_views.specs.Hosts.{part_started, started}
use Rattle.world_views.specs.Machine.{after, own_stop, step_by, told}
use Rattle.sig_core.specs.declared.mark.Mark.{Mark}
use Rattle.sig_core.specs.declared.outs.Outgoing.{Outgoing}
use Rattle.node_views.specs.declared.parts.Parts.{Parts}
use Rattle.node_views.specs.declared.standing.Standing.{Standing}
use Rattle.node_views.specs.Row.{in_view}
use Rattle.node_views.proofs.HostWalk.{Saying, TakesSo}
use Rattle.world_views.proofs.StepWalk.{step_so}
use Rattle.view_laws.specs.HostEvents.{counted_events, entering_events, events_at, events_by, headed_events}
use Rattle.view_laws.specs.HostEvents.{passed_events, sound_events}
use Rattle.view_laws.specs.Sets.{all_of}
use Rattle.world_views.proofs.AllBegin.{started_behind}
use Rattle.view_laws.proofs.runs.FirstMembers.{first_in}
use Rattle.view_laws.proofs.ballots.MadeSets.{in_front}
use Rattle.view_laws.proofs.memberships.SetTests.{any_in, any_is}

-- a host of the member, which has joined, in a cluster of this shape
pub record IsHome (me : Member) (shape : Shape) (s : hosts.HostBody) : Type 0 where
  pub is : s.standing.member ≡ me
  pub joined : s.standing.has_joined ≡ true
  pub shape_is : s.standing.shape ≡ shape

module _ (me : Member) (shape : Shape) where
  -- so it is of where a host stands, whatever its blocks come to
  abbrev StandsHome : Saying
  StandsHome standing parts sends marks =
      (standing.member ≡ me) × ((standing.has_joined ≡ true) × (standing.shape ≡ shape))

  -- also where a view is installed
  joins_still : (standing : Standing) (view : View) → standing.has_joined ≡ true
      → (in_view standing view).has_joined ≡ true
  joins_still standing view joined = ap (λ (b : Bool). b || is_member view standing.member) joined

  -- no step changes that
  step_home : (h : ℕ) (s : hosts.HostBody) (x : Signal) → IsHome me shape s
      → StandsHome (step_by h s x).state.standing (step_by h s x).state.parts (step_by h s x).effects.sends
      (step_by h s x).effects.marks
  step_home h s x home =
      step_so StandsHome x h s (record {
        own = record {
          counts = λ standing parts sends marks left so. so;
          cuts = λ standing parts sends marks first so. so;
          stops = λ standing parts sends marks cause so. so;
          hushes = λ standing parts sends marks stops so. so;
        };
        stays = here;
        goes = λ sound old barred left. taken _ _ _ _ here;
        enters = λ sound newer among left. inside;
        behind = λ sound newer among barred left. taken _ _ _ _ inside;
      })
    where
      here : (s.standing.member ≡ me) × ((s.standing.has_joined ≡ true) × (s.standing.shape ≡ shape))
      here = (home.is, (home.joined, home.shape_is))

      inside : (s.standing.member ≡ me)
          × (((in_view s.standing x.view).has_joined ≡ true) × (s.standing.shape ≡ shape))
      inside = (home.is, (joins_still s.standing x.view home.joined, home.shape_is))

      taken : (standing : Standing) (parts : Parts) (sends : List Outgoing) (marks : List Mark)
          → StandsHome standing parts sends marks → TakesSo StandsHome x standing parts sends marks
      taken standing parts sends marks so = record {
        row = λ none. so;
        settles = λ view at. (so.0, (joins_still standing view so.1.0, so.1.1));
      }

  told_home : (h : ℕ) (t : Step hosts.HostBody) → IsHome me shape t.state → IsHome me shape (told h t)
  told_home zero t home = record { is = home.is; joined = home.joined; shape_is = home.shape_is }
  told_home (suc h) t home = home

  next_home : (h : ℕ) (s : hosts.HostBody) (x : Signal) → IsHome me shape s → IsHome me shape (told h (step_by h s x))
  next_home h s x home =
      let so = step_home h s x home in
      told_home h (step_by h s x) (record { is = so.0; joined = so.1.0; shape_is = so.1.1 })

  -- who is a member of a view is among all of it
  member_there : (view : View) → is_member view me ≡ true → IsIn me (all_of view)
  unfolding is_member
  member_there view e =
      by (or_cases (list_any (same_member me) view.full) (list_any (same_member me) view.starting) e)
    where
      by : (list_any (same_member me) view.full ≡ true) ⊎ (list_any (same_member me) view.starting ≡ true)
          → IsIn me (all_of view)
      by (inl full) = in_front me view.full view.starting (any_is view.full me full)
      by (inr starting) = in_append me view.full view.starting (any_is view.starting me starting)

  -- where anything happens in a step at a signal with a greater view, that has the member
  module _ (mine : BlockId → Bool) where
    abbrev IsSomething : List Event → Type 0
    IsSomething events = events ≡ [] → ⊥

    admitted : (joined is : Bool) (events : List Event) → joined ≡ true
        → IsSomething (if joined && not is then [] else events) → is ≡ true
    admitted joined true events e some = refl
    admitted true false events e some = absurd (some refl)
    admitted false false events e some = absurd cc

    entering_has : (s : hosts.HostBody) (x : Signal) → IsHome me shape s
        → IsSomething (if is_excluded s.standing x.view then [] else entering_events mine s x)
        → IsIn me (all_of x.view)
    entering_has s x home some =
        member_there x.view
        (subst (λ (m : Member). is_member x.view m ≡ true) home.is
        (admitted s.standing.has_joined (is_member x.view s.standing.member) (entering_events mine s x) home.joined
        some))

    headed_has : (s : hosts.HostBody) (x : Signal) → IsHome me shape s → s.standing.view.number < x.view.number
        → IsSomething (headed_events mine s x) → IsIn me (all_of x.view)
    headed_has s x home above some =
        entering_has s x home
        (subst (λ (newer : Bool). IsSomething
        (if newer
        then (if is_excluded s.standing x.view then [] else entering_events mine s x)
        else passed_events mine s x))
        (lt-ltb s.standing.view.number x.view.number above) some)

    counted_has : (s : hosts.HostBody) (x : Signal) (left : Option ℕ) → IsHome me shape s
        → s.standing.view.number < x.view.number → IsSomething (counted_events mine s x left)
        → IsIn me (all_of x.view)
    counted_has s x None home above some = headed_has s x home above some
    counted_has s x (Some zero) home above some = absurd (some refl)
    counted_has s x (Some (suc zero)) home above some = absurd (some refl)
    counted_has s x (Some (suc (suc left))) home above some =
        headed_has (standing_at s (killed_after s.standing (Some (suc left)))) x
        (record { is = home.is; joined = home.joined; shape_is = home.shape_is }) above some

    sound_has : (s : hosts.HostBody) (x : Signal) (sound : Bool) → IsHome me shape s
        → s.standing.view.number < x.view.number
        → IsSomething (sound_events mine s x sound) → IsIn me (all_of x.view)
    sound_has s x true home above some = counted_has s x s.standing.left home above some
    sound_has s x false home above some = absurd (some refl)

    by_has : (s : hosts.HostBody) (x : Signal) (cause : Option StopCause) → IsHome me shape s
        → s.standing.view.number < x.view.number → IsSomething (events_by mine s x cause) → IsIn me (all_of x.view)
    by_has s x (Some cause) home above some = absurd (some refl)
    by_has s x None home above some = sound_has s x (is_well_formed s.standing.shape x) home above some

    pub header_has : (h : ℕ) (s : hosts.HostBody) (x : Signal) → IsHome me shape s
        → s.standing.view.number < x.view.number
        → IsSomething (events_at mine h s x) → IsIn me (all_of x.view)
    header_has h s x home above some = by_has s x (own_stop h x) home above some

-- so it is with the hosts of members that were made, as they begin and along their logs
module _ (start : Start) (none_starts : NobodyStarts start) where
  pub host_made : (h : ℕ) → 1 ≤ h → h < world.hosts start → IsIn (member_at (made start) h) (made start)
  host_made zero some low = absurd (omega (arith, some))
  host_made (suc k) some low =
      let few : k / 3 < start.shape.nodes = omega (arith, low, hosts_first start none_starts) in
      subst (λ (m : Member). IsIn m (made start)) (sym (made_at start (k / 3) nobody few))
      (begins_made start _ (first_in start.shape.nodes (k / 3 + 1) (omega arith) (omega (arith, few))))

  begins : (me : Member) → IsIn me (made start) → IsIn me (members start.shape.nodes)
  begins me there = made_begins start none_starts me there

  first_member : (me : Member) → IsIn me (made start) → is_member (first_view start.shape.nodes) me ≡ true
  unfolding is_member
  first_member me there = ap (λ (b : Bool). b || false) (any_in (members start.shape.nodes) me (begins me there))

  part_home : (part : Part) (me : Member) → IsIn me (made start) → IsHome me start.shape (part_started start part me)
  part_home Main me there = record { is = refl; joined = first_member me there; shape_is = refl }
  part_home Tc me there = record { is = refl; joined = first_member me there; shape_is = refl }
  part_home Ldm me there = record { is = refl; joined = first_member me there; shape_is = refl }

  started_home : (h : ℕ) → 1 ≤ h → h < world.hosts start
      → IsHome (member_at (made start) h) start.shape (started start h)
  started_home zero some low = absurd (omega (arith, some))
  started_home (suc k) some low =
      let me = member_at (made start) (suc k) in
      subst (IsHome me start.shape) (sym (started_behind start none_starts k))
      (part_home (part_by (k % 3)) me (host_made (suc k) some low))

  pub host_home : (h : ℕ) → 1 ≤ h → h < world.hosts start → (log : List HostStep)
      → IsHome (member_at (made start) h) start.shape (after start h log)
  host_home h some low [] = started_home h some low
  host_home h some low (e ∷ log) =
      next_home (member_at (made start) h) start.shape h (after start h log) e.step.taken (host_home h some low log)

  -- and they begin in a view with their members
  part_of : (part : Part) (me : Member) → IsIn me (made start)
      → IsIn me (all_of (part_started start part me).standing.view)
  part_of Main me there = in_front me (members start.shape.nodes) [] (begins me there)
  part_of Tc me there = in_front me (members start.shape.nodes) [] (begins me there)
  part_of Ldm me there = in_front me (members start.shape.nodes) [] (begins me there)

  pub started_of : (h : ℕ) → 1 ≤ h → h < world.hosts start
      → IsIn (member_at (made start) h) (all_of (started start h).standing.view)
  started_of zero some low = absurd (omega (arith, some))
  started_of (suc k) some low =
      let me = member_at (made start) (suc k) in
      subst (λ (s : hosts.HostBody). IsIn me (all_of s.standing.view)) (sym (started_behind start none_starts k))
      (part_of (part_by (k % 3)) me (host_made (suc k) some low))
