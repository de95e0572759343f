-- Each host of a node is of the view that it stands in.
use Rattle.std.proofs.Common.{◌≡◌, ◌≤◌, ◌<◌, ◌⊎◌, ℕ, List, [], ◌∷◌, ◌++◌, append_assoc, refl, ap, sym, subst, ◌∙◌}
use Rattle.std.proofs.Common.{arith, inl, inr}
use Rattle.std.specs.Prelude.{None}
use Rattle.frag_map.specs.Layout.{Layout, first_layout}
use Rattle.run_theory.specs.Lists.{IsIn, IsPast}
use Rattle.run_theory.proofs.Pasts.{past_less}
use Rattle.sig_core.specs.declared.mark.Mark.TheVariants.{Installed}
use Rattle.sig_core.specs.declared.member.Member.{Member}
use Rattle.sig_core.specs.declared.signal.Signal.{Signal}
use Rattle.sig_core.specs.declared.view.View.{View}
use Rattle.node_views.specs.declared.host_body.HostBody as node
use Rattle.qmgr_block.specs.Laws.{Event, installs, takes}
use Rattle.qmgr_block.specs.Qmgr.{qmgr_row}
use Rattle.world_core.specs.Hosts.{hosts, member_at}
use Rattle.world_core.specs.Start.{Start, made}
use Rattle.world_core.specs.Steps.{HostStep}
use Rattle.world_views.specs.Machine.{after}
use Rattle.view_laws.specs.Heard.{IsRightlySettled}
use Rattle.view_laws.specs.HostEvents.{events_at, events_of, is_membership, taken_in}
use Rattle.view_laws.specs.Members.{known_of, proposed_of, state_of}
use Rattle.view_laws.specs.Runs.{AreOfCluster, events_in, view_after}
use Rattle.view_laws.specs.Sets.{all_of}
use Rattle.view_laws.specs.Standing.{HostsAreOfTheirViews}
use Rattle.view_laws.specs.Votes.{main_of, membership_in}
use Rattle.view_laws.proofs.memberships.AlongEvents.{steps}
use Rattle.view_laws.proofs.follow.Hosts.{hosts_follow}
use Rattle.view_laws.proofs.follow.HostKinds.{no_membership_beside}
use Rattle.view_laws.proofs.follow.Memberships.{MembershipSteps, TakesAs, leaves, member_steps, settles, settles_on}
use Rattle.view_laws.proofs.follow.Memberships.{taken_entering, taken_plain, takes_it}
use Rattle.view_laws.proofs.follow.Seen.{to_view, view_is_seen, view_seen}
use Rattle.view_laws.proofs.follow.Views.{others_move}
use Rattle.view_laws.proofs.follow.Walk.{along, next_goes}
use Rattle.view_laws.proofs.memberships.Questions.{ask_rightly}
use Rattle.view_laws.proofs.runs.Growth.{events_past}
use Rattle.view_laws.proofs.runs.FirstMembers.{HostIs, host_is, member_main, of_main, of_other, of_shell}
use Rattle.view_laws.proofs.runs.MembershipStep.{sound_past}
use Rattle.view_laws.proofs.runs.OrderlyBallots.{orderly_events, own_proposal}
use Rattle.view_laws.proofs.runs.Sound.{IsSoundMember}
use Rattle.view_laws.proofs.ballots.MadeSets.{in_front}
use Rattle.view_laws.proofs.standing.Home.{IsHome, header_has, host_home, started_of}
use Rattle.view_laws.proofs.runs.AllSound.{logs_sound}
use Rattle.view_laws.proofs.memberships.Steps.{row_installs}

some_last : (later : List Event) (event : Event) → later ++ event ∷ [] ≡ [] → ⊥
some_last [] event is = cc (is)
some_last (other ∷ later) event is = cc (is)

module _ (start : Start) (logs : ℕ → List HostStep) (are : AreOfCluster start logs) where
  abbrev layout : Layout
  layout = first_layout start.shape

  -- the membership of a member that was made, at a signal among all that happens to it
  module _ (me : Member) (there : IsIn me (made start)) (x : Signal) where
    abbrev IsOf : View → Type 0
    IsOf view = IsIn me (all_of view)

    abbrev view_of : List Event → View
    view_of events = (known_of me layout events).layout.view

    abbrev IsAmong : List Event → Type 0
    IsAmong events = IsPast events (events_in start logs me)

    -- what it settles on has it
    settled_of : (older : List Event) (view : View) → IsAmong older
        → IsIn (Installed view) (qmgr_row (state_of me layout older) x).effects.marks → IsOf view
    settled_of older view among marked =
        let sound : IsSoundMember start logs me older =
        sound_past start logs are.shape me older (events_in start logs me) among
        ((logs_sound start logs are).members me there) in
        let settled : IsRightlySettled layout (proposed_of me layout older) (x ∷ taken_in older) x view =
        (ask_rightly me layout older (orderly_events start logs are.shape me older sound)).settled x view marked in
        let p = settled.of.proposal in
        let own = own_proposal start logs are.shape me older sound p settled.of.there in
        subst IsOf settled.of.is (in_front me p.set.full p.set.starting own.by_full)

    takes_of : (old new : List Event) → IsAmong (new ++ old) → TakesAs (state_of me layout old) x new
        → IsOf (view_of old) → IsOf (view_of (new ++ old))
    takes_of old new among (leaves is) of = subst (λ es. IsOf (view_of (es ++ old))) (sym is) of
    takes_of old new among (takes_it to none is) of =
        subst (λ es. IsOf (view_of (es ++ old))) (sym is)
        (subst (λ (y : Layout). IsOf y.view) (sym (steps (state_of me layout old) x).layout) of)
    takes_of old new among (settles view to e is) of =
        let now : IsAmong (installs view ∷ takes x ∷ old) = subst (λ es. IsAmong (es ++ old)) is among in
        subst (λ es. IsOf (view_of (es ++ old))) (sym is)
        (subst (λ (y : Layout). IsOf y.view) (sym (row_installs (known_of me layout (takes x ∷ old)) view).layout)
        (settled_of old view (past_less (takes x) (past_less (installs view) now))
        (subst (IsIn (Installed view)) (sym (settles_on (state_of me layout old) x view e).marks) (inl refl))))

    steps_of : (old new : List Event) → IsAmong (new ++ old)
        → MembershipSteps (state_of me layout old) (view_of old) x new
        → ((view_of old).number < x.view.number → (new ≡ [] → ⊥) → IsOf x.view)
        → IsOf (view_of old) → IsOf (view_of (new ++ old))
    steps_of old new among (taken_plain taken) header of = takes_of old new among taken of
    steps_of old new among (taken_entering above later is taken) header of =
        let some : new ≡ [] → ⊥ = λ none. some_last later (installs x.view) (sym is ∙ none) in
        let same : new ++ old ≡ later ++ installs x.view ∷ old =
        ap (λ es. es ++ old) is ∙ append_assoc later (installs x.view ∷ []) old in
        subst (λ es. IsOf (view_of es)) (sym same)
        (takes_of (installs x.view ∷ old) later (subst IsAmong same among) taken
        (subst (λ (y : Layout). IsOf y.view) (sym (row_installs (known_of me layout old) x.view).layout)
        (header above some)))

  -- a host whose member was made is of its view after a part of its log
  abbrev IsOfView : ℕ → List HostStep → Type 0
  IsOfView h log = IsIn (member_at (made start) h) (all_of (view_after start h log))

  main_next : (me : Member) → IsIn me (made start) → 1 ≤ main_of start me → main_of start me < hosts start
      → (log : List HostStep) (e : HostStep) → IsPast (e ∷ log) (logs (main_of start me))
      → IsIn me (all_of (view_after start (main_of start me) log))
      → IsIn me (all_of (view_after start (main_of start me) (e ∷ log)))
  main_next me there some low log e past of =
      let h = main_of start me in
      let s = after start h log in
      let x = e.step.taken in
      let old = events_of is_membership start h log in
      let new = events_at is_membership h s x in
      let before = (hosts_follow start are.nobody me log there).view in
      let home =
      subst (λ (m : Member). IsHome m start.shape s) (member_main start are.nobody me there)
      (host_home start are.nobody h some low log) in
      subst (λ (v : View). IsIn me (all_of v)) (sym (hosts_follow start are.nobody me (e ∷ log) there).view)
      (steps_of me there x old new (events_past is_membership start h past)
      (member_steps start are.nobody me log x there)
      (λ above some.
      header_has me start.shape is_membership h s x home
      (subst (λ (v : View). v.number < x.view.number) (sym before) above) some)
      (subst (λ (v : View). IsIn me (all_of v)) before of))

  other_next : (h : ℕ) → 1 ≤ h → h < hosts start → (log : List HostStep) (e : HostStep)
      → membership_in (after start h log).parts ≡ None → IsOfView h log → IsOfView h (e ∷ log)
  other_next h some low log e none of = by (others_move h s x none)
    where
      s : node.HostBody
      s = after start h log

      x : Signal
      x = e.step.taken

      me : Member
      me = member_at (made start) h

      by : (view_after start h (e ∷ log) ≡ view_after start h log)
          ⊎ (((view_after start h log).number < x.view.number) × (view_after start h (e ∷ log) ≡ x.view))
          → IsOfView h (e ∷ log)
      by (inl same) = subst (λ (v : View). IsIn me (all_of v)) (sym same) of
      by (inr entered) =
          subst (λ (v : View). IsIn me (all_of v)) (sym entered.1)
          (header_has me start.shape is_membership h s x (host_home start are.nobody h some low log) entered.0 happens)
        where
          goes : view_after start h (e ∷ log)
              ≡ along to_view (view_after start h log) (events_at is_membership h s x)
          goes = next_goes is_membership view_seen to_view (view_is_seen is_membership) h s x

          happens : events_at is_membership h s x ≡ [] → ⊥
          happens nothing =
              let same : x.view.number ≡ (view_after start h log).number =
              ap (λ (v : View). v.number)
              (sym entered.1 ∙ goes ∙ ap (along to_view (view_after start h log)) nothing) in
              omega (arith, same, entered.0)

  host_next : (h : ℕ) → 1 ≤ h → h < hosts start → (log : List HostStep) (e : HostStep) → IsPast (e ∷ log) (logs h)
      → IsOfView h log → IsOfView h (e ∷ log)
  host_next h some low log e past of = by (host_is start are.nobody h low)
    where
      by : HostIs start h → IsOfView h (e ∷ log)
      by (of_shell at) = absurd (omega (arith, some, at))
      by (of_main me there at) =
          let own : member_at (made start) h ≡ me =
          ap (member_at (made start)) at ∙ member_main start are.nobody me there in
          subst (λ (m : Member). IsIn m (all_of (view_after start h (e ∷ log)))) (sym own)
          (subst (λ (h : ℕ). 1 ≤ h → h < hosts start → IsPast (e ∷ log) (logs h)
          → IsIn me (all_of (view_after start h log)) → IsIn me (all_of (view_after start h (e ∷ log)))) (sym at)
          (λ some low past of. main_next me there some low log e past of) some low past
          (subst (λ (m : Member). IsIn m (all_of (view_after start h log))) own of))
      by (of_other k left at part) =
          other_next h some low log e
          (subst (λ (h : ℕ). membership_in (after start h log).parts ≡ None) (sym at)
          (no_membership_beside start are.nobody k left log part))
          of

  host_of_view : (h : ℕ) → 1 ≤ h → h < hosts start → (log : List HostStep) → IsPast log (logs h) → IsOfView h log
  host_of_view h some low [] past = started_of start are.nobody h some low
  host_of_view h some low (e ∷ log) past =
      host_next h some low log e past (host_of_view h some low log (past_less e past))

pub are_of_views : HostsAreOfTheirViews
are_of_views start logs are h some low log past = host_of_view start logs are h some low log past
