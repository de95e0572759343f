-- The view of a host, whichever it is, never falls, and it reaches the header of what the host takes.
use Rattle.std.proofs.Common.{◌≡◌, ◌≤◌, ◌<◌, ◌⊎◌, ◌%◌, ℕ, zero, suc, true, false, List, [], ◌∷◌, ◌++◌, refl, ap, sym}
use Rattle.std.proofs.Common.{subst, ◌∙◌, arith, inl, inr}
use Rattle.std.specs.List.{list_any}
use Rattle.std.specs.Prelude.{None, Some}
use Rattle.frag_map.specs.Layout.{Layout, first_layout}
use Rattle.run_theory.specs.Lists.{IsIn}
use Rattle.sig_core.specs.declared.mark.Mark.TheVariants.{Installed}
use Rattle.sig_core.specs.declared.member.Member.{Member}
use Rattle.sig_core.specs.declared.place.BlockId.{BlockId}
use Rattle.sig_core.specs.declared.place.BlockId.TheVariants as block
use Rattle.sig_core.specs.declared.place.Part.{Part}
use Rattle.sig_core.specs.declared.place.Part.TheVariants.{Ldm, Main, Tc}
use Rattle.sig_core.specs.declared.signal.Signal.{Signal}
use Rattle.sig_core.specs.declared.view.View.{View}
use Rattle.node_views.specs.Blocks.{parts_entered, settled_at}
use Rattle.node_views.specs.declared.host_body.HostBody as hosts
use Rattle.node_views.specs.declared.main_part.MainPart.{MainPart}
use Rattle.node_views.specs.declared.parts.Parts.{Parts}
use Rattle.node_views.specs.declared.parts.Parts.TheVariants as part
use Rattle.node_views.specs.Parts.{main_settled}
use Rattle.qmgr_block.specs.Settle.{qmgr_settles}
use Rattle.node_views.specs.Row.{is_stop}
use Rattle.node_views.specs.WellFormed.{is_well_formed}
use Rattle.qmgr_block.specs.Laws.{Event, installs}
use Rattle.qmgr_block.specs.State.{fresh_qmgr}
use Rattle.world_core.specs.Hosts.{member_at, part_by}
use Rattle.world_core.specs.Start.{NobodyStarts, Start, made}
use Rattle.world_core.specs.Steps.{HostStep}
use Rattle.world_views.specs.Hosts.{part_started, started}
use Rattle.world_views.specs.Machine.{after, step_after}
use Rattle.view_laws.specs.HostEvents.{events_at, events_of, is_membership}
use Rattle.view_laws.specs.Members.{known_of, state_of}
use Rattle.view_laws.specs.Runs.{view_after}
use Rattle.view_laws.specs.Votes.{membership_in}
use Rattle.view_laws.proofs.eras.Arrivals.{Arrives, arrives, enters_it, is_low}
use Rattle.view_laws.proofs.eras.Shapes.{shape_stays}
use Rattle.world_views.proofs.AllBegin.{started_behind}
use Rattle.view_laws.proofs.follow.HostKinds.{never_joins, no_membership_in_shell}
use Rattle.view_laws.proofs.follow.Memberships.{settles_on}
use Rattle.view_laws.proofs.follow.Seen.{known_view, membership_enters, membership_is_seen, membership_seen}
use Rattle.view_laws.proofs.follow.Seen.{some_membership, to_membership, to_view, view_is_seen, view_seen}
use Rattle.view_laws.proofs.follow.Steps.{PassesAs, StepsAs, entering, plain, steps_as}
use Rattle.view_laws.proofs.follow.Views.{IsAfterPass, none_settle, passes_views}
use Rattle.view_laws.proofs.follow.Walk.{along, along_append, log_goes, next_goes}
use Rattle.view_laws.proofs.standing.Settled.{settles_above}
use Rattle.view_laws.proofs.memberships.Steps.{row_installs}

-- these parts run the membership of a start after these events, or none
pub record RunsMembership (layout : Layout) (parts : Parts) (view : View) : Type 0 where
  me : Member
  events : List Event
  is : membership_in parts ≡ Some (state_of me layout events)
  view_is : view ≡ (known_of me layout events).layout.view

abbrev pub Follows : Layout → Parts → View → Type 0
Follows layout parts view = (membership_in parts ≡ None) ⊎ RunsMembership layout parts view

-- what it settles on has a greater number than the view that it knows
main_above : (me : Member) (layout : Layout) (events : List Event) (p : MainPart) (x : Signal) (now : View)
    (to : BlockId) → p.qmgr ≡ state_of me layout events → main_settled p to x ≡ Some now
    → (known_of me layout events).layout.view.number < now.number
main_above me layout events p x now block.Qmgr same e =
    let q = state_of me layout events in
    let marks = (settles_on q x now (subst (λ r. qmgr_settles r x ≡ Some now) same e)).marks in
    settles_above me layout events x now (subst (IsIn (Installed now)) (sym marks) (inl refl))
main_above me layout events p x now _ same e = absurd cc

parts_above : (me : Member) (layout : Layout) (events : List Event) (parts : Parts) (x : Signal) (now : View)
    → membership_in parts ≡ Some (state_of me layout events) → settled_at parts x ≡ Some now
    → (known_of me layout events).layout.view.number < now.number
parts_above me layout events (part.Main p) x now has e =
    main_above me layout events p x now x.to.block (cc (has)) e
parts_above me layout events _ x now has e = absurd cc

pub settled_above : (layout : Layout) (parts : Parts) (view : View) (x : Signal) (now : View)
    → Follows layout parts view
    → settled_at parts x ≡ Some now → view.number < now.number
settled_above layout parts view x now (inl none) e = absurd (none_settle parts x now none e)
settled_above layout parts view x now (inr runs) e =
    subst (λ (v : View). v.number < now.number) (sym runs.view_is)
    (parts_above runs.me layout runs.events parts x now runs.is e)

pub entered_follows : (layout : Layout) (parts : Parts) (view other : View) → Follows layout parts view
    → Follows layout (parts_entered parts other).state other
entered_follows layout parts view other (inl none) =
    inl (membership_enters parts other ∙ ap (λ q. to_membership q (installs other)) none)
entered_follows layout parts view other (inr runs) =
    inr (record {
      me = runs.me;
      events = installs other ∷ runs.events;
      is = membership_enters parts other ∙ ap (λ q. to_membership q (installs other)) runs.is;
      view_is = sym (ap (λ (y : Layout). y.view) (row_installs (known_of runs.me layout runs.events) other).layout);
    })

-- in a step of such a host the number of its view doesn't fall
module _ (layout : Layout) (parts : Parts) (view : View) (x : Signal) (follows : Follows layout parts view) where
  pass_rises : (now : View) → IsAfterPass parts view x now → view.number ≤ now.number
  pass_rises now (inl same) =
      let one : now.number ≡ view.number = ap (λ (v : View). v.number) same in
      omega (arith, one)
  pass_rises now (inr e) =
      let above : view.number < now.number = settled_above layout parts view x now follows e in
      omega (arith, above)

module _ (layout : Layout) (parts : Parts) (view : View) (x : Signal) (follows : Follows layout parts view) where
  -- where it enters the view of a header first, it stands in no lesser one
  entering_rises : (events later : List Event) → events ≡ later ++ installs x.view ∷ []
      → PassesAs is_membership (parts_entered parts x.view).state x later
      → x.view.number ≤ (along to_view view events).number
  entering_rises events later is passes =
      let at = (parts_entered parts x.view).state in
      subst (λ (es : List Event). x.view.number ≤ (along to_view view es).number) (sym is)
      (subst (λ (v : View). x.view.number ≤ v.number) (sym (along_append to_view view later (installs x.view ∷ [])))
      (pass_rises layout at x.view x (entered_follows layout parts view x.view follows) (along to_view x.view later)
      (passes_views is_membership at x.view x later passes)))

  steps_rise : (events : List Event) → StepsAs is_membership parts view x events
      → view.number ≤ (along to_view view events).number
  steps_rise events (plain passes) =
      pass_rises layout parts view x follows (along to_view view events)
      (passes_views is_membership parts view x events passes)
  steps_rise events (entering above later is passes) =
      let up : view.number < x.view.number = above in
      let rises : x.view.number ≤ (along to_view view events).number = entering_rises events later is passes in
      omega (arith, up, rises)

  arriving_rises : (events : List Event) → view.number ≤ (along to_view view events).number
      → Arrives is_membership parts view x events → x.view.number ≤ (along to_view view events).number
  arriving_rises events rises (is_low low) = omega (arith, low, rises)
  arriving_rises events rises (enters_it later is passes) = entering_rises events later is passes

module _ (start : Start) (nobody : NobodyStarts start) where
  abbrev layout : Layout
  layout = first_layout start.shape

  -- each host begins with no membership, or with a fresh one in the first view
  record Begins (s : hosts.HostBody) : Type 0 where
    me : Member
    is : membership_in s.parts ≡ Some (fresh_qmgr me layout)
    view_is : s.standing.view ≡ layout.view

  abbrev MayBegin : hosts.HostBody → Type 0
  MayBegin s = (membership_in s.parts ≡ None) ⊎ Begins s

  part_begins : (part : Part) (me : Member) → MayBegin (part_started start part me)
  part_begins Main me = inr (record { me = me; is = refl; view_is = refl })
  part_begins Tc me = inl refl
  part_begins Ldm me = inl refl

  host_begins : (h : ℕ) → MayBegin (started start h)
  host_begins zero = inl (no_membership_in_shell start [])
  host_begins (suc k) =
      subst MayBegin (sym (started_behind start nobody k))
      (part_begins (part_by (k % 3)) (member_at (made start) (suc k)))

  -- and so it goes on
  pub host_follows : (h : ℕ) (log : List HostStep)
      → Follows layout (after start h log).parts (after start h log).standing.view
  host_follows h log = by (host_begins h)
    where
      events : List Event
      events = events_of is_membership start h log

      by : MayBegin (started start h) → Follows layout (after start h log).parts (after start h log).standing.view
      by (inl none) = inl (never_joins start h log none)
      by (inr one) =
          inr (record {
            me = one.me;
            events = events;
            is =
                log_goes is_membership membership_seen to_membership membership_is_seen start h log
                ∙ ap (λ q. along to_membership q events) one.is
                ∙ some_membership one.me layout events;
            view_is =
                log_goes is_membership view_seen to_view (view_is_seen is_membership) start h log
                ∙ ap (λ v. along to_view v events) one.view_is
                ∙ sym (known_view one.me layout events);
          })

  module _ (h : ℕ) (log : List HostStep) (e : HostStep) where
    abbrev s : hosts.HostBody
    s = after start h log

    abbrev x : Signal
    x = e.step.taken

    abbrev events : List Event
    events = events_at is_membership h s x

    stands : (view_after start h (e ∷ log)).number ≡ (along to_view s.standing.view events).number
    stands =
        ap (λ (v : View). v.number) (next_goes is_membership view_seen to_view (view_is_seen is_membership) h s x)

    moves : s.standing.view.number ≤ (along to_view s.standing.view events).number
    moves = steps_rise layout s.parts s.standing.view x (host_follows h log) events (steps_as is_membership h s x)

    pub view_rises : (view_after start h log).number ≤ (view_after start h (e ∷ log)).number
    view_rises = omega (arith, stands, moves)

    -- a well-formed signal that the host takes, and doesn't stop by, has no greater header than its view then
    pub header_reached : is_well_formed start.shape x ≡ true
        → list_any is_stop (step_after start h log e).effects.marks ≡ false
        → x.view.number ≤ (view_after start h (e ∷ log)).number
    header_reached sound goes =
        let fine : is_well_formed s.standing.shape x ≡ true =
        subst (λ shape. is_well_formed shape x ≡ true) (sym (shape_stays start nobody h log)) sound in
        let reached : x.view.number ≤ (along to_view s.standing.view events).number =
        arriving_rises layout s.parts s.standing.view x (host_follows h log) events moves
        (arrives is_membership h s x fine goes) in
        omega (arith, stands, reached)
