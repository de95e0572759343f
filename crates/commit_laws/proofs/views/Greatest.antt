-- The view with the greatest number that was marked to be installed is the current one.
use Rattle.std.proofs.Common.{◌≡◌, ◌≤◌, ◌<◌, ◌⊎◌, ◌++◌, ℕ, zero, suc, Bool, true, false, if◌then◌else◌, nat_lt, List}
use Rattle.std.proofs.Common.{[], ◌∷◌, refl, ap, sym, subst, ◌∙◌, arith, inl, inr}
use Rattle.std.proofs.lemmas.Bool.{ltb-true}
use Rattle.std.proofs.lemmas.Bool.Decides.{nat_tests}
use Rattle.std.specs.Prelude.{None}
use Rattle.frag_map.specs.Groups.{is_viable}
use Rattle.frag_map.specs.Layout.{Layout, first_layout, first_view}
use Rattle.run_theory.specs.Lists.{IsIn, IsPast}
use Rattle.run_theory.proofs.Pasts.{each_past, past_less, past_nil, past_self}
use Rattle.run_theory.specs.Logs.{IsLog}
use Rattle.sig_core.specs.declared.mark.Mark.{Mark}
use Rattle.sig_core.specs.declared.mark.Mark.TheVariants.{Installed}
use Rattle.sig_core.specs.declared.member.Member.{Member}
use Rattle.sig_core.specs.declared.signal.Signal.{Signal}
use Rattle.sig_core.specs.declared.view.View.{View}
use Rattle.api_views.specs.Members.{greater_view}
use Rattle.node_views.specs.Blocks.{parts_entered, settled_at}
use Rattle.node_views.specs.declared.parts.Parts.{Parts}
use Rattle.node_views.specs.declared.parts.Parts.TheVariants.{Ldm, Main, Shell, Tc}
use Rattle.qmgr_block.specs.Laws.{Event, installs, takes}
use Rattle.qmgr_block.specs.State.{QmgrState}
use Rattle.world_core.specs.Hosts.{hosts}
use Rattle.world_core.specs.Start.{NobodyStarts, Start}
use Rattle.world_core.specs.Steps.{HostStep}
use Rattle.world_core.specs.Views.{greater, greatest_below, greatest_in, greatest_view}
use Rattle.world_core.specs.Views as marked
use Rattle.world_views.specs.Machine.{after, machine}
use Rattle.view_laws.specs.HostEvents.{events_at, events_of, installing, is_membership, taking}
use Rattle.view_laws.specs.Members.{known_of, state_of}
use Rattle.view_laws.specs.Runs.{AreOfCluster, WasInstalled, view_after}
use Rattle.view_laws.specs.Votes.{main_of, membership_in, membership_of}
use Rattle.view_laws.proofs.eras.Causal.{greater_own, greater_taken}
use Rattle.view_laws.proofs.eras.Rises.{view_rises}
use Rattle.view_laws.proofs.follow.HostKinds.{no_membership_beside, no_membership_in_shell}
use Rattle.view_laws.proofs.follow.Memberships.{MembershipSteps, TakesAs, leaves, member_steps, settles, settles_on}
use Rattle.view_laws.proofs.follow.Memberships.{taken_entering, taken_plain, takes_it}
use Rattle.view_laws.proofs.follow.Seen.{to_view, view_is_seen, view_seen}
use Rattle.view_laws.proofs.follow.Steps.{PassesAs, StepsAs, dropped, entering, passed, plain, steps_as}
use Rattle.view_laws.proofs.follow.Walk.{along, next_goes}
use Rattle.view_laws.proofs.runs.Headers.{headers_installed, installed_at}
use Rattle.view_laws.proofs.runs.AllSound.{have_orderly}
use Rattle.view_laws.proofs.runs.FirstMembers.{HostIs, host_is, of_main, of_other, of_shell}
use Rattle.view_laws.proofs.runs.Step.{started_view}
use Rattle.view_laws.proofs.runs.ChosenViews.{of_greater, one_view, viable}
use Rattle.view_laws.proofs.standing.Settled.{settles_above}
use Rattle.view_laws.proofs.memberships.Steps.{row_installs}
use Rattle.world_core.proofs.MadeFirst.{all_made}
use Rattle.moment_laws.specs.Moments.{current}
use Rattle.moment_laws.specs.Moments as standing
use Rattle.moment_laws.proofs.MomentViews.{current_installed, greatest_next}
use Rattle.commit_laws.proofs.hosts.InstallMarks.{one_mark, step_tells}

-- A view that these events install is that of the signal, or the one that they lead to, and no greater than that.
record IsReached (x : Signal) (to view : View) : Type 0 where
  is : (view ≡ x.view) ⊎ (view ≡ to)
  low : view.number ≤ to.number

abbrev AreReached : Signal → View → List Event → Type 0
AreReached x from events =
    (view : View) → IsIn (installs view) events → IsReached x (along to_view from events) view

-- the view that events lead to is the one before them, or is installed by one
last_installed : (from : View) (events : List Event)
    → (along to_view from events ≡ from) ⊎ IsIn (installs (along to_view from events)) events
last_installed from [] = inl refl
last_installed from (installs view ∷ events) = inr (inl refl)
last_installed from (takes x ∷ events) = by (last_installed from events)
  where
    by : (along to_view from events ≡ from) ⊎ IsIn (installs (along to_view from events)) events
        → (along to_view from events ≡ from) ⊎ IsIn (installs (along to_view from events)) (takes x ∷ events)
    by (inl same) = inl same
    by (inr there) = inr (inr there)

same_view : (view other : View) → installs view ≡ installs other → view ≡ other
same_view view other same = cc (same)

not_taken : (view : View) (x : Signal) → installs view ≡ takes x → ⊥
not_taken view x same = absurd cc

-- of the last one
reached_last : (x : Signal) (to view : View) → installs view ≡ installs to → IsReached x to view
reached_last x to view same =
    let is : view ≡ to = same_view view to same in
    let number : view.number ≡ to.number = ap (λ (v : View). v.number) is in
    record { is = inr is; low = omega (arith, number) }

-- a membership, which this has happened to, at a signal
module _ (me : Member) (layout : Layout) (old : List Event) (x : Signal) where
  abbrev q : QmgrState
  q = state_of me layout old

  plain_reached : (from : View) (events : List Event) → TakesAs q x events → AreReached x from events
  plain_reached from events (leaves is) =
      subst (AreReached x from) (sym is) (λ view there. absurd there)
  plain_reached from events (takes_it to none is) = subst (AreReached x from) (sym is) none_new
    where
      none_new : AreReached x from (takes x ∷ [])
      none_new view (inl same) = absurd (not_taken view x same)
      none_new view (inr none) = absurd none
  plain_reached from events (settles set to on is) = subst (AreReached x from) (sym is) one_new
    where
      one_new : AreReached x from (installs set ∷ takes x ∷ [])
      one_new view (inl same) = reached_last x set view same
      one_new view (inr (inl same)) = absurd (not_taken view x same)
      one_new view (inr (inr none)) = absurd none

  first_reached : (from : View) → AreReached x from (installs x.view ∷ [])
  first_reached from view (inl same) = reached_last x x.view view same
  first_reached from view (inr none) = absurd none

  entering_reached : (from : View) (later : List Event) → TakesAs (state_of me layout (installs x.view ∷ old)) x later
      → AreReached x from (later ++ installs x.view ∷ [])
  entering_reached from later (leaves is) =
      subst (λ es. AreReached x from (es ++ installs x.view ∷ [])) (sym is) (first_reached from)
  entering_reached from later (takes_it to none is) =
      subst (λ es. AreReached x from (es ++ installs x.view ∷ [])) (sym is) once
    where
      once : AreReached x from (takes x ∷ installs x.view ∷ [])
      once view (inl same) = absurd (not_taken view x same)
      once view (inr there) = first_reached from view there
  entering_reached from later (settles set to on is) =
      subst (λ es. AreReached x from (es ++ installs x.view ∷ [])) (sym is) twice
    where
      above : (known_of me layout (installs x.view ∷ old)).layout.view.number < set.number
      above =
          settles_above me layout (installs x.view ∷ old) x set
          (subst (IsIn (Installed set)) (sym (settles_on (state_of me layout (installs x.view ∷ old)) x set on).marks)
          (inl refl))

      entered : (known_of me layout (installs x.view ∷ old)).layout.view.number ≡ x.view.number
      entered = ap (λ (y : Layout). y.view.number) (row_installs (known_of me layout old) x.view).layout

      first : (view : View) → installs view ≡ installs x.view → IsReached x set view
      first view same =
          let is : view ≡ x.view = same_view view x.view same in
          let number : view.number ≡ x.view.number = ap (λ (v : View). v.number) is in
          record { is = inl is; low = omega (arith, number, above, entered) }

      twice : AreReached x from (installs set ∷ takes x ∷ installs x.view ∷ [])
      twice view (inl same) = reached_last x set view same
      twice view (inr (inl same)) = absurd (not_taken view x same)
      twice view (inr (inr (inl same))) = first view same
      twice view (inr (inr (inr none))) = absurd none

  membership_reached : (from stood : View) (events : List Event) → MembershipSteps q stood x events
      → AreReached x from events
  membership_reached from stood events (taken_plain taken) = plain_reached from events taken
  membership_reached from stood events (taken_entering above later is taken) =
      subst (AreReached x from) (sym is) (entering_reached from later taken)

-- a host without a membership
module _ (x : Signal) where
  unsettled : (parts : Parts) → membership_in parts ≡ None → settled_at parts x ≡ None
  unsettled (Main p) none = absurd cc
  unsettled (Shell p) none = refl
  unsettled (Tc p) none = refl
  unsettled (Ldm p) none = refl

  unsettled_entered : (parts : Parts) → membership_in parts ≡ None
      → settled_at (parts_entered parts x.view).state x ≡ None
  unsettled_entered (Main p) none = absurd cc
  unsettled_entered (Shell p) none = refl
  unsettled_entered (Tc p) none = refl
  unsettled_entered (Ldm p) none = refl

  -- no event, or that it takes the signal
  abbrev AreQuiet : List Event → Type 0
  AreQuiet events = (events ≡ []) ⊎ (events ≡ takes x ∷ [])

  takes_quietly : (own : Bool) → AreQuiet (taking is_membership x own)
  takes_quietly true = inr refl
  takes_quietly false = inl refl

  passes_quietly : (parts : Parts) → settled_at parts x ≡ None → (events : List Event)
      → PassesAs is_membership parts x events → AreQuiet events
  passes_quietly parts none events (dropped is) = inl is
  passes_quietly parts none events (passed is) =
      subst AreQuiet
      (sym (is ∙ ap (λ o. installing is_membership o ++ taking is_membership x (is_membership x.to.block)) none))
      (takes_quietly (is_membership x.to.block))

  quiet_reached : (from : View) (front : List Event) → AreQuiet front → (back : List Event) → AreReached x from back
      → AreReached x from (front ++ back)
  quiet_reached from front (inl is) back reached =
      subst (λ es. AreReached x from (es ++ back)) (sym is) reached
  quiet_reached from front (inr is) back reached = subst (λ es. AreReached x from (es ++ back)) (sym is) once
    where
      once : AreReached x from (takes x ∷ back)
      once view (inl same) = absurd (not_taken view x same)
      once view (inr there) = reached view there

  other_reached : (parts : Parts) → membership_in parts ≡ None → (from stood : View) (events : List Event)
      → StepsAs is_membership parts stood x events → AreReached x from events
  other_reached parts none from stood events (plain passes) =
      by (passes_quietly parts (unsettled parts none) events passes)
    where
      by : AreQuiet events → AreReached x from events
      by (inl is) = subst (AreReached x from) (sym is) (λ view there. absurd there)
      by (inr is) = subst (AreReached x from) (sym is) alone
        where
          alone : AreReached x from (takes x ∷ [])
          alone view (inl same) = absurd (not_taken view x same)
          alone view (inr none) = absurd none
  other_reached parts none from stood events (entering above later is passes) =
      subst (AreReached x from) (sym is)
      (quiet_reached from later
      (passes_quietly (parts_entered parts x.view).state (unsettled_entered parts none) later passes)
      (installs x.view ∷ []) once)
    where
      once : AreReached x from (installs x.view ∷ [])
      once view (inl same) = reached_last x x.view view same
      once view (inr none) = absurd none

module _ (start : Start) (nobody : NobodyStarts start) where
  -- the views that a step of a host marks
  record Installs (h : ℕ) (log : List HostStep) (e : HostStep) : Type 0 where
    each : (view : View) → IsIn (Installed view) e.step.marks
        → IsReached e.step.taken (view_after start h (e ∷ log)) view
    last : (view_after start h (e ∷ log) ≡ view_after start h log)
        ⊎ IsIn (Installed (view_after start h (e ∷ log))) e.step.marks

  module _ (h : ℕ) (low : h < hosts start) (log : List HostStep) (e : HostStep) where
    abbrev new : List Event
    new = events_at is_membership h (after start h log) e.step.taken

    leads : view_after start h (e ∷ log) ≡ along to_view (view_after start h log) new
    leads = next_goes is_membership view_seen to_view (view_is_seen is_membership) h (after start h log) e.step.taken

    abbrev Reached : ℕ → Type 0
    Reached k =
        AreReached e.step.taken (view_after start k log) (events_at is_membership k (after start k log) e.step.taken)

    host_reached : Reached h
    host_reached = by (host_is start nobody h low)
      where
        other : (k : ℕ) → membership_in (after start k log).parts ≡ None → Reached k
        other k none =
            other_reached e.step.taken (after start k log).parts none (view_after start k log) (view_after start k log)
            (events_at is_membership k (after start k log) e.step.taken)
            (steps_as is_membership k (after start k log) e.step.taken)

        by : HostIs start h → Reached h
        by (of_shell at) = subst Reached (sym at) (other 0 (no_membership_in_shell start log))
        by (of_main me there at) =
            subst Reached (sym at)
            (membership_reached me (first_layout start.shape) (events_of is_membership start (main_of start me) log)
            e.step.taken (view_after start (main_of start me) log) (membership_of start me log).known.layout.view
            (events_at is_membership (main_of start me) (after start (main_of start me) log) e.step.taken)
            (member_steps start nobody me log e.step.taken there))
        by (of_other k left at part) =
            subst Reached (sym at) (other (suc k) (no_membership_beside start nobody k left log part))

    step_installs : IsLog (machine start) h (e ∷ log) → Installs h log e
    step_installs local = record { each = each; last = last (last_installed (view_after start h log) new) }
      where
        each : (view : View) → IsIn (Installed view) e.step.marks
            → IsReached e.step.taken (view_after start h (e ∷ log)) view
        each view there =
            subst (λ to. IsReached e.step.taken to view) (sym leads)
            (host_reached view
            ((step_tells is_membership e.step.taken h (after start h log)).forth view
            (subst (IsIn (Installed view)) local.0.fits.marks there)))

        last : (along to_view (view_after start h log) new ≡ view_after start h log)
            ⊎ IsIn (installs (along to_view (view_after start h log) new)) new
            → (view_after start h (e ∷ log) ≡ view_after start h log)
            ⊎ IsIn (Installed (view_after start h (e ∷ log))) e.step.marks
        last (inl same) = inl (leads ∙ same)
        last (inr there) =
            inr (subst (λ view. IsIn (Installed view) e.step.marks) (sym leads)
            (subst (IsIn (Installed (along to_view (view_after start h log) new))) (sym local.0.fits.marks)
            ((step_tells is_membership e.step.taken h (after start h log)).back _ there)))

-- the greatest view of marks and of this one
record IsTopIn (marks : List Mark) (view top : View) : Type 0 where
  grows : view.number ≤ top.number
  above : (other : View) → IsIn (Installed other) marks → other.number ≤ top.number
  is : (top ≡ view) ⊎ IsIn (Installed top) marks

passes_mark : (mark : Mark) (marks : List Mark) (view top : View) → ((other : View) → Installed other ≡ mark → ⊥)
    → IsTopIn marks view top → IsTopIn (mark ∷ marks) view top
passes_mark mark marks view top none one = record { grows = one.grows; above = above; is = by one.is }
  where
    above : (other : View) → IsIn (Installed other) (mark ∷ marks) → other.number ≤ top.number
    above other (inl same) = absurd (none other same)
    above other (inr there) = one.above other there

    by : (top ≡ view) ⊎ IsIn (Installed top) marks → (top ≡ view) ⊎ IsIn (Installed top) (mark ∷ marks)
    by (inl same) = inl same
    by (inr there) = inr (inr there)

-- `greater` is either, and no less than both
record IsGreater (a b top : View) : Type 0 where
  one : a.number ≤ top.number
  other : b.number ≤ top.number
  is : (top ≡ a) ⊎ (top ≡ b)

greater_is : (a b : View) → IsGreater a b (greater a b)
greater_is a b = by (nat_lt a.number b.number) refl
  where
    by : (less : Bool) → nat_lt a.number b.number ≡ less → IsGreater a b (if less then b else a)
    by true e =
        let up : a.number < b.number = ltb-true a.number b.number e in
        record { one = omega (arith, up); other = omega arith; is = inr refl }
    by false e = record { one = omega arith; other = grind (arith, nat_tests, e); is = inl refl }

installs_mark : (set : View) (marks : List Mark) (view top : View) → IsTopIn marks (greater view set) top
    → IsTopIn (Installed set ∷ marks) view top
installs_mark set marks view top rest = record { grows = grows; above = above; is = by rest.is }
  where
    either : IsGreater view set (greater view set)
    either = greater_is view set

    grows : view.number ≤ top.number
    grows = omega (arith, either.one, rest.grows)

    above : (other : View) → IsIn (Installed other) (Installed set ∷ marks) → other.number ≤ top.number
    above other (inl same) =
        let number : other.number ≡ set.number = ap (λ (v : View). v.number) (one_mark set other same) in
        omega (arith, number, either.other, rest.grows)
    above other (inr there) = rest.above other there

    by : (top ≡ greater view set) ⊎ IsIn (Installed top) marks
        → (top ≡ view) ⊎ IsIn (Installed top) (Installed set ∷ marks)
    by (inr there) = inr (inr there)
    by (inl same) = own either.is
      where
        own : (greater view set ≡ view) ⊎ (greater view set ≡ set)
            → (top ≡ view) ⊎ IsIn (Installed top) (Installed set ∷ marks)
        own (inl is) = inl (same ∙ is)
        own (inr is) = inr (inl (ap Installed (same ∙ is)))

top_in : (marks : List Mark) (view : View) → IsTopIn marks view (greatest_in marks view)
top_in [] view = record { grows = omega arith; above = λ other none. absurd none; is = inl refl }
top_in (Installed set ∷ marks) view =
    installs_mark set marks view (greatest_in marks (greater view set)) (top_in marks (greater view set))
top_in (mark ∷ marks) view =
    passes_mark mark marks view (greatest_in marks view) (λ other same. absurd cc) (top_in marks view)

module _ (start : Start) (logs : ℕ → List HostStep) (are : AreOfCluster start logs) where
  abbrev Was : View → Type 0
  Was = WasInstalled start logs

  abbrev first : View
  first = first_view start.shape.nodes

  first_was : Was first
  first_was = record {
    host = 0;
    there = omega arith;
    made = all_made start are.nobody 0 (logs 0);
    log = [];
    past = past_nil (logs 0);
    is = sym (started_view start are.nobody 0);
  }

  -- of this view, and those that a host has marked in a part of its log, this is the greatest
  record IsTopOf (h : ℕ) (log : List HostStep) (view top : View) : Type 0 where
    was : Was view → Was top
    grows : view.number ≤ top.number
    stood : first.number ≤ view.number → (view_after start h log).number ≤ top.number
    least : (c : ℕ) → view.number ≤ c → (view_after start h log).number ≤ c → top.number ≤ c

  module _ (h : ℕ) (low : h < hosts start) where
    top_next : (log : List HostStep) (e : HostStep) → IsPast (e ∷ log) (logs h) → IsLog (machine start) h (e ∷ log)
        → (view top : View) → IsTopOf h log view top → IsTopOf h (e ∷ log) view (greatest_in e.step.marks top)
    top_next log e past local view top before = record {
      was = λ was. by_was (before.was was) new.is;
      grows = omega (arith, before.grows, new.grows);
      stood = λ above. by_stood (before.stood above) steps.last;
      least = λ c own stands. by_least c stands
          (before.least c own (let up = view_rises start are.nobody h log e in omega (arith, up, stands))) new.is;
    }
      where
        new : IsTopIn e.step.marks top (greatest_in e.step.marks top)
        new = top_in e.step.marks top

        steps : Installs start are.nobody h log e
        steps = step_installs start are.nobody h low log e local

        to : View
        to = view_after start h (e ∷ log)

        header : Was e.step.taken.view
        header =
            (each_past (λ (f : HostStep). Was f.step.taken.view) past (headers_installed start logs are h low)).0

        stands : Was to
        stands = installed_at start are.nobody logs h low (e ∷ log) past

        by_reached : (other : View) → IsReached e.step.taken to other → Was other
        by_reached other one = of one.is
          where
            of : (other ≡ e.step.taken.view) ⊎ (other ≡ to) → Was other
            of (inl is) = subst Was (sym is) header
            of (inr is) = subst Was (sym is) stands

        by_was : Was top
            → (greatest_in e.step.marks top ≡ top) ⊎ IsIn (Installed (greatest_in e.step.marks top)) e.step.marks
            → Was (greatest_in e.step.marks top)
        by_was was (inl same) = subst Was (sym same) was
        by_was was (inr there) = by_reached (greatest_in e.step.marks top) (steps.each _ there)

        by_stood : (view_after start h log).number ≤ top.number
            → (to ≡ view_after start h log) ⊎ IsIn (Installed to) e.step.marks
            → to.number ≤ (greatest_in e.step.marks top).number
        by_stood up (inl same) =
            let number : to.number ≡ (view_after start h log).number = ap (λ (v : View). v.number) same in
            omega (arith, number, up, new.grows)
        by_stood up (inr there) = new.above to there

        by_least : (c : ℕ) → to.number ≤ c → top.number ≤ c
            → (greatest_in e.step.marks top ≡ top) ⊎ IsIn (Installed (greatest_in e.step.marks top)) e.step.marks
            → (greatest_in e.step.marks top).number ≤ c
        by_least c stood up (inl same) =
            let number : (greatest_in e.step.marks top).number ≡ top.number = ap (λ (v : View). v.number) same in
            omega (arith, number, up)
        by_least c stood up (inr there) = let one = (steps.each _ there).low in omega (arith, one, stood)

    top_of : (log : List HostStep) → IsPast log (logs h) → IsLog (machine start) h log → (view : View)
        → IsTopOf h log view (marked.greatest_of log view)
    top_of [] past local view = record {
      was = λ was. was;
      grows = omega arith;
      stood =
          λ above. let is = ap (λ (v : View). v.number) (started_view start are.nobody h) in omega (arith, is, above);
      least = λ c own stands. own;
    }
    top_of (e ∷ log) past local view =
        top_next log e past local view (marked.greatest_of log view)
        (top_of log (past_less e past) local.1 view)

  -- the same for the hosts below n
  record IsSame (top current : View) : Type 0 where
    was : Was top
    number : top.number ≡ current.number
    above : first.number ≤ top.number

  same_next : (n : ℕ) → suc n ≤ hosts start
      → IsSame (greatest_below n logs first) (standing.greatest_of start n logs)
      → IsSame (greatest_below (suc n) logs first)
      (greater_view (standing.greatest_of start n logs) (view_after start n (logs n)))
  same_next n few before = record {
    was = one.was before.was;
    number = omega (arith, up, down);
    above = omega (arith, before.above, one.grows);
  }
    where
      one : IsTopOf n (logs n) (greatest_below n logs first) (greatest_below (suc n) logs first)
      one =
          top_of n (omega (arith, few)) (logs n) (past_self (logs n)) (are.right.local n) (greatest_below n logs first)

      stood : View
      stood = view_after start n (logs n)

      old : View
      old = standing.greatest_of start n logs

      up : (greatest_below (suc n) logs first).number ≤ (greater_view old stood).number
      up =
          let own = greater_own old stood in
          one.least (greater_view old stood).number (omega (arith, before.number, own)) (greater_taken old stood)

      down : (greater_view old stood).number ≤ (greatest_below (suc n) logs first).number
      down =
          of_greater (λ (v : View). v.number ≤ (greatest_below (suc n) logs first).number) old stood
          (omega (arith, before.number, one.grows)) (one.stood before.above)

  same_below : (n : ℕ) → n ≤ hosts start → IsSame (greatest_below n logs first) (standing.greatest_of start n logs)
  same_below zero few = record { was = first_was; number = refl; above = omega arith }
  same_below (suc n) few =
      subst (IsSame (greatest_below (suc n) logs first)) (sym (greatest_next start logs are.nobody n))
      (same_next n few (same_below n (omega (arith, few))))

  pub greatest_was : WasInstalled start logs (greatest_view start logs)
  greatest_was = (same_below (hosts start) (omega arith)).was

pub greatest_current : (start : Start) (logs : ℕ → List HostStep) → AreOfCluster start logs
    → greatest_view start logs ≡ current start logs
greatest_current start logs are =
    one_view have_orderly start logs are (greatest_view start logs) (current start logs)
    (greatest_was start logs are)
    (current_installed start logs are.nobody are.shape logs (λ h. past_self (logs h)))
    (same_below start logs are (hosts start) (omega arith)).number

-- so it has a full member in each group
pub greatest_viable : (start : Start) (logs : ℕ → List HostStep) → AreOfCluster start logs
    → is_viable start.shape (greatest_view start logs) ≡ true
greatest_viable start logs are =
    viable have_orderly start logs are (greatest_view start logs) (greatest_was start logs are)
