-- The number of the view that a host stands in never falls.
use Rattle.std.proofs.Common.{◌≡◌, ◌≤◌, ◌<◌, ◌⊎◌, ℕ, suc, List, [], ◌∷◌, ◌++◌, append_assoc, refl, ap, sym, subst, ◌∙◌}
use Rattle.std.proofs.Common.{arith, inl, inr}
use Rattle.std.specs.Prelude.{None}
use Rattle.frag_map.specs.Layout.{Layout, first_layout}
use Rattle.run_theory.specs.Lists.{IsIn}
use Rattle.sig_core.specs.declared.mark.Mark.TheVariants.{Installed}
use Rattle.sig_core.specs.declared.member.Member.{Member}
use Rattle.sig_core.specs.declared.signal.Signal.{Signal}
use Rattle.sig_core.specs.declared.view.View.{View}
use Rattle.qmgr_block.specs.Laws.{Event, installs, takes}
use Rattle.world_core.specs.Hosts.{hosts}
use Rattle.world_core.specs.Start.{NobodyStarts, Start, made}
use Rattle.world_core.specs.Steps.{HostStep}
use Rattle.world_views.specs.Machine.{after}
use Rattle.view_laws.specs.HostEvents.{events_at, events_of, is_membership}
use Rattle.view_laws.specs.Members.{known_of, state_of}
use Rattle.view_laws.specs.Runs.{view_after}
use Rattle.view_laws.specs.Standing.{NumbersNeverFall}
use Rattle.view_laws.specs.Votes.{main_of, membership_in}
use Rattle.view_laws.proofs.memberships.AlongEvents.{steps}
use Rattle.view_laws.proofs.follow.Hosts.{hosts_follow}
use Rattle.view_laws.proofs.follow.HostKinds.{no_membership_beside, no_membership_in_shell}
use Rattle.view_laws.proofs.follow.Memberships.{MembershipSteps, TakesAs, leaves, member_steps, settles, settles_on}
use Rattle.view_laws.proofs.follow.Memberships.{taken_entering, taken_plain, takes_it}
use Rattle.view_laws.proofs.follow.Views.{others_move}
use Rattle.view_laws.proofs.runs.FirstMembers.{HostIs, host_is, of_main, of_other, of_shell}
use Rattle.view_laws.proofs.standing.Settled.{settles_above}
use Rattle.view_laws.proofs.memberships.Steps.{row_installs}

-- in what happens to a membership at a signal
module _ (me : Member) (layout : Layout) (x : Signal) where
  abbrev number_of : List Event → ℕ
  number_of events = (known_of me layout events).layout.view.number

  taken_number : (events : List Event) → number_of (takes x ∷ events) ≡ number_of events
  taken_number events = ap (λ (y : Layout). y.view.number) (steps (state_of me layout events) x).layout

  installed_number : (view : View) (events : List Event) → number_of (installs view ∷ events) ≡ view.number
  installed_number view events =
      ap (λ (y : Layout). y.view.number) (row_installs (known_of me layout events) view).layout

  abbrev Rises : List Event → List Event → Type 0
  Rises old new = number_of old ≤ number_of (new ++ old)

  takes_rise : (old new : List Event) → TakesAs (state_of me layout old) x new → Rises old new
  takes_rise old new (leaves is) = subst (Rises old) (sym is) (omega arith)
  takes_rise old new (takes_it to none is) =
      let same : number_of (takes x ∷ old) ≡ number_of old = taken_number old in
      subst (Rises old) (sym is) (omega (arith, same))
  takes_rise old new (settles view to e is) =
      let same : number_of (installs view ∷ takes x ∷ old) ≡ view.number = installed_number view (takes x ∷ old) in
      let above : number_of old < view.number =
      settles_above me layout old x view
      (subst (IsIn (Installed view)) (sym (settles_on (state_of me layout old) x view e).marks) (inl refl)) in
      subst (Rises old) (sym is) (omega (arith, same, above))

  steps_rise : (old new : List Event)
      → MembershipSteps (state_of me layout old) (known_of me layout old).layout.view x new → Rises old new
  steps_rise old new (taken_plain taken) = takes_rise old new taken
  steps_rise old new (taken_entering above later is taken) =
      let same : number_of (installs x.view ∷ old) ≡ x.view.number = installed_number x.view old in
      let rises : number_of (installs x.view ∷ old) ≤ number_of (later ++ installs x.view ∷ old) =
      takes_rise (installs x.view ∷ old) later taken in
      let up : number_of old < x.view.number = above in
      subst (λ (events : List Event). number_of old ≤ number_of events)
      (sym (ap (λ events. events ++ old) is ∙ append_assoc later (installs x.view ∷ []) old))
      (omega (arith, same, rises, up))

-- in a step of any host
module _ (start : Start) (nobody : NobodyStarts start) where
  abbrev number_after : ℕ → List HostStep → ℕ
  number_after h log = (view_after start h log).number

  main_rises : (me : Member) → IsIn me (made start) → (log : List HostStep) (e : HostStep)
      → number_after (main_of start me) log ≤ number_after (main_of start me) (e ∷ log)
  main_rises me there log e =
      let h = main_of start me in
      let layout = first_layout start.shape in
      let old = events_of is_membership start h log in
      let new = events_at is_membership h (after start h log) e.step.taken in
      let before : number_after h log ≡ number_of me layout e.step.taken old =
      ap (λ (v : View). v.number) (hosts_follow start nobody me log there).view in
      let behind : number_after h (e ∷ log) ≡ number_of me layout e.step.taken (new ++ old) =
      ap (λ (v : View). v.number) (hosts_follow start nobody me (e ∷ log) there).view in
      let rises : number_of me layout e.step.taken old ≤ number_of me layout e.step.taken (new ++ old) =
      steps_rise me layout e.step.taken old new (member_steps start nobody me log e.step.taken there) in
      omega (arith, before, behind, rises)

  other_rises : (h : ℕ) (log : List HostStep) (e : HostStep) → membership_in (after start h log).parts ≡ None
      → number_after h log ≤ number_after h (e ∷ log)
  other_rises h log e none = by (others_move h (after start h log) e.step.taken none)
    where
      by : (view_after start h (e ∷ log) ≡ view_after start h log)
          ⊎ ((number_after h log < e.step.taken.view.number) × (view_after start h (e ∷ log) ≡ e.step.taken.view))
          → number_after h log ≤ number_after h (e ∷ log)
      by (inl is) =
          let same : number_after h (e ∷ log) ≡ number_after h log = ap (λ (v : View). v.number) is in
          omega (arith, same)
      by (inr entered) =
          let above : number_after h log < e.step.taken.view.number = entered.0 in
          let same : number_after h (e ∷ log) ≡ e.step.taken.view.number =
          ap (λ (v : View). v.number) entered.1 in
          omega (arith, same, above)

  host_rises : (h : ℕ) → h < hosts start → (log : List HostStep) (e : HostStep)
      → number_after h log ≤ number_after h (e ∷ log)
  host_rises h low log e = by (host_is start nobody h low)
    where
      by : HostIs start h → number_after h log ≤ number_after h (e ∷ log)
      by (of_shell at) =
          subst (λ (h : ℕ). number_after h log ≤ number_after h (e ∷ log)) (sym at)
          (other_rises 0 log e (no_membership_in_shell start log))
      by (of_main me there at) =
          subst (λ (h : ℕ). number_after h log ≤ number_after h (e ∷ log)) (sym at) (main_rises me there log e)
      by (of_other k left at part) =
          subst (λ (h : ℕ). number_after h log ≤ number_after h (e ∷ log)) (sym at)
          (other_rises (suc k) log e (no_membership_beside start nobody k left log part))

  pub log_rises : (h : ℕ) → h < hosts start → (newer older : List HostStep)
      → number_after h older ≤ number_after h (newer ++ older)
  log_rises h low [] older = omega arith
  log_rises h low (e ∷ newer) older =
      let before : number_after h older ≤ number_after h (newer ++ older) = log_rises h low newer older in
      let last : number_after h (newer ++ older) ≤ number_after h (e ∷ newer ++ older) =
      host_rises h low (newer ++ older) e in
      omega (arith, before, last)

pub never_fall : NumbersNeverFall
never_fall start logs are h low older newer past among =
    subst (λ (log : List HostStep). (view_after start h older).number ≤ (view_after start h log).number) (sym past.is)
    (log_rises start are.nobody h low past.newer older)
