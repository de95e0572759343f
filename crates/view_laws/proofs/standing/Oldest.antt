-- A view on which a membership settles has its member as the oldest.
use Rattle.std.proofs.Common.{◌≡◌, ◌<◌, ◌⊎◌, ◌++◌, ◌∙◌, true, List, [], ◌∷◌, ℕ, suc, inl, inr, refl, sym}
use Rattle.std.proofs.Common.{ap, subst}
use Rattle.std.proofs.lemmas.Bool.{true≢false}
use Rattle.std.specs.Prelude.{None, Some}
use Rattle.frag_map.specs.Layout.{Layout, first_layout}
use Rattle.frag_map.specs.Shape.{IsShape}
use Rattle.run_theory.specs.Lists.{IsIn}
use Rattle.sig_core.specs.declared.mark.Mark.TheVariants.{Installed}
use Rattle.sig_core.specs.declared.member.Member.{Member}
use Rattle.sig_core.specs.declared.signal.Signal.{Signal}
use Rattle.sig_core.specs.declared.view.View.{View}
use Rattle.qmgr_block.specs.Install.{is_oldest_of}
use Rattle.qmgr_block.specs.Laws.{Event}
use Rattle.qmgr_block.specs.Settle.{qmgr_settles}
use Rattle.world_core.specs.Start.{Start, made}
use Rattle.world_core.specs.Steps.{HostStep}
use Rattle.view_laws.specs.Kept.{IsOwn, oldest}
use Rattle.view_laws.specs.Members.{state_of}
use Rattle.view_laws.specs.Sets.{Change, IsMadeOf}
use Rattle.view_laws.specs.Sets.{joining, joins, promotes, shrinks}
use Rattle.view_laws.proofs.follow.Memberships.{settles_on}
use Rattle.view_laws.proofs.memberships.Questions.{ask_rightly}
use Rattle.view_laws.proofs.runs.OrderlyBallots.{orderly_events, own_proposal}
use Rattle.view_laws.proofs.runs.Sound.{IsSoundMember}
use Rattle.view_laws.proofs.memberships.SetTests.{same_is}
use Rattle.view_laws.specs.Runs.{AreOfCluster, view_after, events_in}
use Rattle.view_laws.specs.Votes.{main_of, membership_of, membership_in}
use Rattle.world_core.specs.Hosts.{hosts}
use Rattle.run_theory.specs.Lists.{IsPast}
use Rattle.view_laws.specs.HostEvents.{events_of, is_membership, events_at}
use Rattle.world_views.specs.Machine.{after}
use Rattle.view_laws.proofs.runs.AllSound.{logs_sound}
use Rattle.view_laws.proofs.runs.MembershipStep.{sound_past}
use Rattle.view_laws.proofs.runs.Growth.{events_past, past_front}
use Rattle.view_laws.proofs.follow.Memberships.{TakesAs, leaves, takes_it, settles, MembershipSteps, taken_plain}
use Rattle.view_laws.proofs.follow.Memberships.{taken_entering, member_steps}
use Rattle.view_laws.proofs.follow.Hosts.{hosts_follow}
use Rattle.view_laws.proofs.memberships.AlongEvents.{steps}
use Rattle.view_laws.proofs.memberships.Steps.{row_installs}
use Rattle.qmgr_block.specs.Laws.{installs, takes}
use Rattle.std.proofs.Common.{append_assoc}
use Rattle.view_laws.proofs.runs.FirstMembers.{HostIs, host_is, of_shell, of_main, of_other}
use Rattle.view_laws.proofs.follow.Views.{others_move}
use Rattle.view_laws.proofs.follow.HostKinds.{no_membership_in_shell, no_membership_beside}

own_first : (me : Member) (base set : View) (change : Change) → base.starting ≡ [] → joining change ≡ None
    → IsMadeOf base change set → IsOwn me base set change → oldest set.full ≡ Some me
own_first me base set shrinks none plain made own = own
own_first me base set (joins member) none plain made own = absurd cc
own_first me base set (promotes member) none plain made own = absurd (subst (IsIn member) none made.allowed)

first_is : (me other : Member) (full : List Member) → oldest full ≡ Some me → is_oldest_of other full ≡ true
    → other ≡ me
first_is me other [] own is = absurd (true≢false (sym is))
first_is me other (member ∷ members) own is = same_is other member is ∙ cc own

-- what a sound membership settles on at a signal
pub settled_oldest : (start : Start) (logs : ℕ → List HostStep) (is_shape : IsShape start.shape) (me : Member)
    (events : List Event) → IsSoundMember start logs me events → (x : Signal) (view : View)
    → qmgr_settles (state_of me (first_layout start.shape) events) x ≡ Some view → (other : Member)
    → is_oldest_of other view.full ≡ true → other ≡ me
settled_oldest start logs is_shape me events sound x view at other is =
    let layout = first_layout start.shape in
    let on = settles_on (state_of me layout events) x view at in
    let settled =
    (ask_rightly me layout events (orderly_events start logs is_shape me events sound)).settled x view
    (subst (IsIn (Installed view)) (sym on.marks) (inl refl)) in
    let p = settled.of.proposal in
    let own = own_proposal start logs is_shape me events sound p settled.of.there in
    first_is me other p.set.full
    (own_first me p.base p.set p.change own.base.of.none own.plain own.right.made own.right.own)
    (subst (λ (v : View). is_oldest_of other v.full ≡ true) (sym settled.of.is) is)

-- Behind a step a host stands in the view in which it stood, or in that of the signal's header, or it runs the
-- membership of the oldest member of its view.
abbrev pub ViewsComeRightly : Type 0
ViewsComeRightly =
    (start : Start) (logs : ℕ → List HostStep) → AreOfCluster start logs → (h : ℕ) → h < hosts start
    → (log : List HostStep) (e : HostStep) → IsPast (e ∷ log) (logs h)
    → (view_after start h (e ∷ log) ≡ view_after start h log)
    ⊎ ((view_after start h (e ∷ log) ≡ e.step.taken.view)
    ⊎ ((me : Member) → IsIn me (made start) → is_oldest_of me (view_after start h (e ∷ log)).full ≡ true
    → main_of start me ≡ h))

module _ (start : Start) (logs : ℕ → List HostStep) (are : AreOfCluster start logs) (me : Member)
    (there : IsIn me (made start)) (log : List HostStep) (e : HostStep)
    (past : IsPast (e ∷ log) (logs (main_of start me)))
  where
    abbrev pub older : List Event
    older = events_of is_membership start (main_of start me) log

    abbrev new : List Event
    new = events_at is_membership (main_of start me) (after start (main_of start me) log) e.step.taken

    abbrev pub view_in : List Event → View
    view_in es = (state_of me (first_layout start.shape) es).known.layout.view

    abbrev IsSound : List Event → Type 0
    IsSound es = IsSoundMember start logs me es

    sound : IsSound (new ++ older)
    sound =
        sound_past start logs are.shape me (new ++ older) (events_in start logs me)
        (events_past is_membership start (main_of start me) past) ((logs_sound start logs are).members me there)

    abbrev pub IsOld : View → Type 0
    IsOld view = (other : Member) → is_oldest_of other view.full ≡ true → other ≡ me

    takes_right : (base es : List Event) → TakesAs (state_of me (first_layout start.shape) base) e.step.taken es
        → IsSound (es ++ base) → (view_in (es ++ base) ≡ view_in base) ⊎ IsOld (view_in (es ++ base))
    takes_right base es (leaves is) good = inl (ap (λ fs. view_in (fs ++ base)) is)
    takes_right base es (takes_it to none is) good =
        inl
        (ap (λ fs. view_in (fs ++ base)) is
        ∙ ap (λ (y : Layout). y.view) (steps (state_of me (first_layout start.shape) base) e.step.taken).layout)
    takes_right base es (settles view to on is) good =
        inr
        (λ other old.
        settled_oldest start logs are.shape me base
        (sound_past start logs are.shape me base (es ++ base) (past_front es base) good) e.step.taken view on other
        (subst (λ (v : View). is_oldest_of other v.full ≡ true)
        (ap (λ fs. view_in (fs ++ base)) is
        ∙ ap (λ (y : Layout). y.view)
        (row_installs (state_of me (first_layout start.shape) (takes e.step.taken ∷ base)).known view).layout)
        old))

    abbrev pub Right : View → Type 0
    Right view = (view ≡ view_in older) ⊎ ((view ≡ e.step.taken.view) ⊎ IsOld view)

    events_right : MembershipSteps (membership_of start me log) (membership_of start me log).known.layout.view
        e.step.taken new
        → Right (view_in (new ++ older))
    events_right (taken_plain taken) = by (takes_right older new taken sound)
      where
        by : (view_in (new ++ older) ≡ view_in older) ⊎ IsOld (view_in (new ++ older)) → Right (view_in (new ++ older))
        by (inl same) = inl same
        by (inr old) = inr (inr old)
    events_right (taken_entering above later is taken) =
        subst (λ es. Right (view_in es)) (sym all)
        (by (takes_right (installs e.step.taken.view ∷ older) later taken (subst IsSound all sound)))
      where
        all : new ++ older ≡ later ++ installs e.step.taken.view ∷ older
        all = ap (λ es. es ++ older) is ∙ append_assoc later (installs e.step.taken.view ∷ []) older

        entered : view_in (installs e.step.taken.view ∷ older) ≡ e.step.taken.view
        entered =
            ap (λ (y : Layout). y.view)
            (row_installs (state_of me (first_layout start.shape) older).known e.step.taken.view).layout

        by : (view_in (later ++ installs e.step.taken.view ∷ older) ≡ view_in (installs e.step.taken.view ∷ older))
            ⊎ IsOld (view_in (later ++ installs e.step.taken.view ∷ older))
            → Right (view_in (later ++ installs e.step.taken.view ∷ older))
        by (inl same) = inr (inl (same ∙ entered))
        by (inr old) = inr (inr old)

    pub main_right : Right (view_after start (main_of start me) (e ∷ log))
    main_right =
        subst Right (sym (hosts_follow start are.nobody me (e ∷ log) there).view)
        (events_right (member_steps start are.nobody me log e.step.taken there))

pub views_come_rightly : ViewsComeRightly
views_come_rightly start logs are h low log e past = by (host_is start are.nobody h low)
  where
    Comes : ℕ → Type 0
    Comes k =
        (view_after start k (e ∷ log) ≡ view_after start k log)
        ⊎ ((view_after start k (e ∷ log) ≡ e.step.taken.view)
        ⊎ ((me : Member) → IsIn me (made start) → is_oldest_of me (view_after start k (e ∷ log)).full ≡ true
        → main_of start me ≡ k))

    other : (k : ℕ) → membership_in (after start k log).parts ≡ None → Comes k
    other k none = moved (others_move k (after start k log) e.step.taken none)
      where
        moved : (view_after start k (e ∷ log) ≡ view_after start k log)
            ⊎ (((view_after start k log).number < e.step.taken.view.number)
            × (view_after start k (e ∷ log) ≡ e.step.taken.view)) → Comes k
        moved (inl same) = inl same
        moved (inr entered) = inr (inl entered.1)

    main : (me : Member) (there : IsIn me (made start)) → IsPast (e ∷ log) (logs (main_of start me))
        → Comes (main_of start me)
    main me there inside = of (main_right start logs are me there log e inside)
      where
        of : Right start logs are me there log e inside (view_after start (main_of start me) (e ∷ log))
            → Comes (main_of start me)
        of (inl same) = inl (same ∙ sym (hosts_follow start are.nobody me log there).view)
        of (inr (inl entered)) = inr (inl entered)
        of (inr (inr old)) = inr (inr (λ one in_made is. ap (main_of start) (old one is)))

    by : HostIs start h → Comes h
    by (of_shell at) = subst Comes (sym at) (other 0 (no_membership_in_shell start log))
    by (of_main me there at) =
        subst Comes (sym at) (main me there (subst (λ k. IsPast (e ∷ log) (logs k)) at past))
    by (of_other j left at part) =
        subst Comes (sym at) (other (suc j) (no_membership_beside start are.nobody j left log part))
