-- A fence above the view that its host stands in is of a set that the member has promised.
use Rattle.std.proofs.Common.{◌≡◌, ◌⊎◌, ◌≤◌, ◌<◌, ◌+◌, ◌-◌, ◌*◌, ◌%◌, ◌++◌, ◌∙◌, ℕ, zero, suc, Bool, true, false}
use Rattle.std.proofs.Common.{nat_lt, List, [], ◌∷◌, append-nil, refl, ap, sym, subst, arith, inl, inr}
use Rattle.std.proofs.lemmas.Nat.{mod-mul-add}
use Rattle.std.specs.Prelude.{if◌then◌else◌, Option, None, Some}
use Rattle.run_theory.specs.Lists.{Each, IsIn, IsPast}
use Rattle.run_theory.proofs.Pasts.{each_append, each_in, past_less, past_self}
use Rattle.sig_core.specs.declared.member.Member.{Member}
use Rattle.sig_core.specs.declared.place.BlockId.{BlockId}
use Rattle.sig_core.specs.declared.place.BlockId.TheVariants as block
use Rattle.sig_core.specs.declared.place.Part.{Part}
use Rattle.sig_core.specs.declared.place.Part.TheVariants.{Ldm, Main, Tc}
use Rattle.sig_core.specs.declared.signal.Body.{Body}
use Rattle.sig_core.specs.declared.signal.Body.TheVariants.{Membership}
use Rattle.sig_core.specs.declared.signal.membership.MembershipSignal.TheVariants.{FenceReq}
use Rattle.sig_core.specs.declared.signal.Signal.{Signal}
use Rattle.sig_core.specs.declared.view.View.{View}
use Rattle.sig_core.specs.Part.{part_of}
use Rattle.node_views.specs.Blocks.{parts_entered, settled_at}
use Rattle.node_views.specs.declared.parts.Parts.{Parts}
use Rattle.node_views.specs.Parts.{greater, raised}
use Rattle.qmgr_block.specs.Laws.{Event, installs, takes}
use Rattle.world_core.specs.Hosts.{host_of, member_at, part_by}
use Rattle.world_core.specs.Start.{NobodyStarts, Start, made}
use Rattle.world_core.specs.Steps.{HostStep}
use Rattle.world_views.specs.Machine.{after, step_by, told}
use Rattle.world_views.specs.Hosts.{part_started, started}
use Rattle.world_views.proofs.AllBegin.{started_behind}
use Rattle.view_laws.specs.Fences.{IsFenced, RaisedFencesWerePromised, WasPromised, fence_after}
use Rattle.view_laws.specs.HostEvents.{events_at, events_of, installing, taken_in, taking}
use Rattle.view_laws.specs.Runs.{AreOfCluster, view_after}
use Rattle.view_laws.specs.Votes.{membership_in}
use Rattle.view_laws.proofs.fences.Hosts.{block_host}
use Rattle.view_laws.proofs.fences.Seen.{fence_is, fence_is_seen, fence_or, fence_seen, is_block, to_fence}
use Rattle.view_laws.proofs.fences.OfOwnMember.{HasAsked, taken_promised}
use Rattle.view_laws.proofs.follow.HostKinds.{no_membership_beside}
use Rattle.view_laws.proofs.follow.Seen.{membership_enters, to_membership, to_view, view_is_seen, view_seen}
use Rattle.view_laws.proofs.follow.Steps.{PassesAs, StepsAs, dropped, entering, passed, plain, steps_as}
use Rattle.view_laws.proofs.follow.TakenOnce.{IsTakenOnce, taken_append, taken_once}
use Rattle.view_laws.proofs.follow.Views.{none_settle}
use Rattle.view_laws.proofs.follow.Walk.{along, along_append, next_goes}
use Rattle.view_laws.proofs.runs.Growth.{in_made}

-- a signal that was taken has asked for this fence
record IsRaised (fence : ℕ) (taken : List Signal) : Type 0 where
  x : Signal
  there : IsIn x taken
  set : View
  says : x.body ≡ Membership (FenceReq set)
  is : fence ≡ set.number

-- a fence isn't above the view, or a signal has asked for it
IsKept : View → Option ℕ → List Signal → Type 0
IsKept view None taken = Unit {0}
IsKept view (Some fence) taken = (fence ≤ view.number) ⊎ IsRaised fence taken

raised_more : (fence : ℕ) (x : Signal) (taken : List Signal) → IsRaised fence taken → IsRaised fence (x ∷ taken)
raised_more fence x taken by =
    record { x = by.x; there = inr by.there; set = by.set; says = by.says; is = by.is }

kept_more : (view : View) (fence : ℕ) (x : Signal) (taken : List Signal)
    → (fence ≤ view.number) ⊎ IsRaised fence taken → (fence ≤ view.number) ⊎ IsRaised fence (x ∷ taken)
kept_more view fence x taken (inl low) = inl low
kept_more view fence x taken (inr by) = inr (raised_more fence x taken by)

greater_kept : (view : View) (fence : ℕ) (x : Signal) (taken : List Signal) (set : View)
    → x.body ≡ Membership (FenceReq set) → (fence ≤ view.number) ⊎ IsRaised fence taken
    → (greater fence set.number ≤ view.number) ⊎ IsRaised (greater fence set.number) (x ∷ taken)
greater_kept view fence x taken set says kept = by (nat_lt fence set.number)
  where
    by : (b : Bool) → ((if b then set.number else fence) ≤ view.number)
        ⊎ IsRaised (if b then set.number else fence) (x ∷ taken)
    by true = inr (record { x = x; there = inl refl; set = set; says = says; is = refl })
    by false = kept_more view fence x taken kept

raised_kept : (view : View) (fence : ℕ) (x : Signal) (taken : List Signal) (body : Body) → x.body ≡ body
    → (fence ≤ view.number) ⊎ IsRaised fence taken
    → (raised fence body ≤ view.number) ⊎ IsRaised (raised fence body) (x ∷ taken)
raised_kept view fence x taken (Membership (FenceReq set)) says kept = greater_kept view fence x taken set says kept
raised_kept view fence x taken (Membership other) says kept = kept_more view fence x taken kept
raised_kept view fence x taken body says kept = kept_more view fence x taken kept

installed_kept : (view other : View) (fence : ℕ) (taken : List Signal) → view.number < other.number
    → (fence ≤ view.number) ⊎ IsRaised fence taken
    → (greater fence other.number ≤ other.number) ⊎ IsRaised (greater fence other.number) taken
installed_kept view other fence taken above kept = by (nat_lt fence other.number) kept
  where
    by : (b : Bool) → (fence ≤ view.number) ⊎ IsRaised fence taken
        → ((if b then other.number else fence) ≤ other.number)
        ⊎ IsRaised (if b then other.number else fence) taken
    by true kept = inl (omega arith)
    by false (inl low) = inl (omega (arith, low, above))
    by false (inr raised) = inr raised

takes_kept : (view : View) (fence : Option ℕ) (x : Signal) (taken : List Signal) → IsKept view fence taken
    → IsKept view (to_fence fence (takes x)) (x ∷ taken)
unfolding IsKept
takes_kept view None x taken kept = tt
takes_kept view (Some fence) x taken kept = raised_kept view fence x taken x.body refl kept

installs_kept : (view other : View) (fence : Option ℕ) (taken : List Signal) → view.number < other.number
    → IsKept view fence taken → IsKept other (to_fence fence (installs other)) taken
unfolding IsKept
installs_kept view other None taken above kept = tt
installs_kept view other (Some fence) taken above kept = installed_kept view other fence taken above kept

still_none : (parts : Parts) (view : View) → membership_in parts ≡ None
    → membership_in (parts_entered parts view).state ≡ None
still_none parts view none = membership_enters parts view ∙ ap (λ q. to_membership q (installs view)) none

module _ (at : BlockId) where
  -- behind these events of a step
  abbrev KeptBy : View → Option ℕ → List Signal → List Event → Type 0
  KeptBy view fence taken events =
      IsKept (along to_view view events) (along to_fence fence events) (taken_in events ++ taken)

  taking_kept : (view : View) (fence : Option ℕ) (taken : List Signal) (x : Signal) (own : Bool)
      → IsKept view fence taken → KeptBy view fence taken (taking (is_block at) x own)
  taking_kept view fence taken x true kept = takes_kept view fence x taken kept
  taking_kept view fence taken x false kept = kept

  settling_kept : (view : View) (fence : Option ℕ) (taken : List Signal) (x : Signal) (settles : Option View)
      → ((other : View) → settles ≡ Some other → ⊥) → IsKept view fence taken
      → KeptBy view fence taken (installing (is_block at) settles ++ taking (is_block at) x (is_block at x.to.block))
  settling_kept view fence taken x None none kept = taking_kept view fence taken x (is_block at x.to.block) kept
  settling_kept view fence taken x (Some other) none kept = absurd (none other refl)

  passes_kept : (parts : Parts) (view : View) (fence : Option ℕ) (taken : List Signal) (x : Signal)
      (events : List Event) → ((other : View) → settled_at parts x ≡ Some other → ⊥)
      → PassesAs (is_block at) parts x events → IsKept view fence taken → KeptBy view fence taken events
  passes_kept parts view fence taken x events none (dropped is) kept =
      subst (KeptBy view fence taken) (sym is) kept
  passes_kept parts view fence taken x events none (passed is) kept =
      subst (KeptBy view fence taken) (sym is)
      (settling_kept view fence taken x (settled_at parts x) none kept)

  entering_kept : (view : View) (fence : Option ℕ) (taken : List Signal) (other : View) (later : List Event)
      → KeptBy other (to_fence fence (installs other)) taken later
      → KeptBy view fence taken (later ++ installs other ∷ [])
  entering_kept view fence taken other later kept =
      subst (λ v. IsKept v (along to_fence fence (later ++ installs other ∷ []))
      (taken_in (later ++ installs other ∷ []) ++ taken))
      (sym (along_append to_view view later (installs other ∷ [])))
      (subst (λ f. IsKept (along to_view other later) f (taken_in (later ++ installs other ∷ []) ++ taken))
      (sym (along_append to_fence fence later (installs other ∷ [])))
      (subst (λ xs. IsKept (along to_view other later) (along to_fence (to_fence fence (installs other)) later)
      (xs ++ taken))
      (sym (taken_append later (installs other ∷ []) ∙ append-nil (taken_in later))) kept))

  steps_kept : (parts : Parts) (view : View) (fence : Option ℕ) (taken : List Signal) (x : Signal)
      (events : List Event) → membership_in parts ≡ None → StepsAs (is_block at) parts view x events
      → IsKept view fence taken → KeptBy view fence taken events
  steps_kept parts view fence taken x events none (plain passes) kept =
      passes_kept parts view fence taken x events (λ other is. none_settle parts x other none is) passes kept
  steps_kept parts view fence taken x events none (entering above later is passes) kept =
      subst (KeptBy view fence taken) (sym is)
      (entering_kept view fence taken x.view later
      (passes_kept (parts_entered parts x.view).state x.view (to_fence fence (installs x.view)) taken x later
      (λ other is. none_settle (parts_entered parts x.view).state x other (still_none parts x.view none) is) passes
      (installs_kept view x.view fence taken above kept)))

  -- along the log of a host without a membership
  module _ (start : Start) (h : ℕ) (none : (log : List HostStep) → membership_in (after start h log).parts ≡ None)
      (begins : IsKept (started start h).standing.view (fence_seen at (started start h)) [])
    where
      log_kept : (log : List HostStep)
          → IsKept (after start h log).standing.view (fence_seen at (after start h log))
          (taken_in (events_of (is_block at) start h log))
      log_kept [] = begins
      log_kept (e ∷ log) =
          let s = after start h log in
          let x = e.step.taken in
          let events = events_at (is_block at) h s x in
          let taken = taken_in (events_of (is_block at) start h log) in
          subst (λ v. IsKept v (fence_seen at (told h (step_by h s x)))
          (taken_in (events ++ events_of (is_block at) start h log)))
          (sym (next_goes (is_block at) view_seen to_view (view_is_seen (is_block at)) h s x))
          (subst (λ f. IsKept (along to_view s.standing.view events) f
          (taken_in (events ++ events_of (is_block at) start h log)))
          (sym (next_goes (is_block at) (fence_seen at) to_fence (fence_is_seen at) h s x))
          (subst (IsKept (along to_view s.standing.view events) (along to_fence (fence_seen at s) events))
          (sym (taken_append events (events_of (is_block at) start h log)))
          (steps_kept s.parts s.standing.view (fence_seen at s) taken x events (none log)
          (steps_as (is_block at) h s x) (log_kept log))))

-- all that a block of a member has taken of such requests
module _ (start : Start) (logs : ℕ → List HostStep) (are : AreOfCluster start logs) (me : Member)
    (there : IsIn me (made start)) (at : BlockId) where
  abbrev h : ℕ
  h = host_of (made start) (part_of at) me

  abbrev IsOfPromise : Signal → Type 0
  IsOfPromise x = (set : View) → x.body ≡ Membership (FenceReq set) → HasAsked start logs me set

  all_promised : (log : List HostStep) → IsPast log (logs h)
      → Each IsOfPromise (taken_in (events_of (is_block at) start h log))
  all_promised [] past = tt
  all_promised (e ∷ log) past =
      let events = events_at (is_block at) h (after start h log) e.step.taken in
      subst (Each IsOfPromise) (sym (taken_append events (events_of (is_block at) start h log)))
      (each_append IsOfPromise (taken_in events) (taken_in (events_of (is_block at) start h log))
      (by (taken_in events) (taken_once (is_block at) h (after start h log) e.step.taken))
      (all_promised log (past_less e past)))
    where
      by : (xs : List Signal) → IsTakenOnce (is_block at) e.step.taken xs → Each IsOfPromise xs
      by xs (inl is) = subst (Each IsOfPromise) (sym is) tt
      by xs (inr (is, own)) =
          subst (Each IsOfPromise) (sym is) (taken_promised start logs are h log e past me there at refl, tt)

-- a host as it begins is fenced at its view
part_begins : (start : Start) (part : Part) (member : Member) (at : BlockId)
    → IsKept (part_started start part member).standing.view (fence_seen at (part_started start part member)) []
unfolding IsKept
part_begins start Main member at = tt
part_begins start Tc member block.Tc = inl (omega arith)
part_begins start Tc member block.Dih = inl (omega arith)
part_begins start Tc member _ = tt
part_begins start Ldm member block.Lqh = inl (omega arith)
part_begins start Ldm member _ = tt

host_begins : (start : Start) (nobody : NobodyStarts start) (h : ℕ) (at : BlockId)
    → IsKept (started start h).standing.view (fence_seen at (started start h)) []
unfolding started IsKept
host_begins start nobody zero at = tt
host_begins start nobody (suc h) at =
    subst (λ s. IsKept s.standing.view (fence_seen at s) []) (sym (started_behind start nobody h))
    (part_begins start (part_by (h % 3)) (member_at (made start) (suc h)) at)

-- the hosts of fenced blocks run no membership
module _ (start : Start) (nobody : NobodyStarts start) (me : Member) (there : IsIn me (made start)) where
  beside_none : (left h : ℕ) → left < 2 → h ≡ suc ((me.node - 1) * 3 + suc left) → (log : List HostStep)
      → membership_in (after start h log).parts ≡ None
  beside_none left h few at log =
      subst (λ h. membership_in (after start h log).parts ≡ None) (sym at)
      (no_membership_beside start nobody ((me.node - 1) * 3 + suc left) left log
      (mod-mul-add (me.node - 1) 3 (suc left) (omega (arith, few))))

  pub part_none : (at : BlockId) → IsFenced at → (log : List HostStep)
      → membership_in (after start (host_of (made start) (part_of at) me) log).parts ≡ None
  part_none block.Tc fenced log =
      beside_none 0 (host_of (made start) Tc me) (omega arith)
      (omega (arith, block_host start nobody me there block.Tc)) log
  part_none block.Dih fenced log =
      beside_none 0 (host_of (made start) Tc me) (omega arith)
      (omega (arith, block_host start nobody me there block.Dih)) log
  part_none block.Lqh fenced log =
      beside_none 1 (host_of (made start) Ldm me) (omega arith)
      (omega (arith, block_host start nobody me there block.Lqh)) log
  part_none other fenced log = absurd fenced

pub raised_fences_were_promised : RaisedFencesWerePromised
unfolding IsKept
raised_fences_were_promised start logs are me there at fenced above =
    let h = host_of (made start) (part_of at) me in
    let s = after start h (logs h) in
    by (fence_seen at s)
    (log_kept at start h (part_none start are.nobody me there at fenced) (host_begins start are.nobody h at) (logs h))
    (fence_is s.parts at s.standing.view.number)
  where
    host : ℕ
    host = host_of (made start) (part_of at) me

    by : (o : Option ℕ)
        → IsKept (view_after start host (logs host)) o (taken_in (events_of (is_block at) start host (logs host)))
        → fence_after start host (logs host) at ≡ fence_or o (view_after start host (logs host)).number
        → WasPromised start logs me (fence_after start host (logs host) at)
    by None kept is = absurd (omega (arith, is, above))
    by (Some fence) (inl low) is = absurd (omega (arith, is, low, above))
    by (Some fence) (inr raised) is = record {
      set = raised.set;
      number_is = sym (is ∙ raised.is);
      there =
          in_made start me _ _ there
          (each_in _ raised.x _ (all_promised start logs are me there at (logs host) (past_self (logs host)))
          raised.there raised.set raised.says);
    }
