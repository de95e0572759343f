-- At each moment the epoch that follows has a number of 64 bits at each member, and in the phase of each master.
use Rattle.std.proofs.Common.{◌≡◌, ◌≤◌, ◌<◌, ◌⊎◌, ◌∙◌, ℕ, Bool, true, false, List, [], ◌∷◌, refl, sym, ap, subst, inl}
use Rattle.std.proofs.Common.{inr, arith}
use Rattle.std.proofs.lemmas.Bool.{eq-eqb, true≢false}
use Rattle.std.specs.Prelude.{◌==◌, nat_lt, if◌then◌else◌}
use Rattle.frag_map.specs.Layout.{first_layout}
use Rattle.run_theory.proofs.Pasts.{each_in}
use Rattle.run_theory.specs.Lists.{IsIn}
use Rattle.sig_core.specs.declared.member.Member.{Member}
use Rattle.sig_core.specs.declared.place.BlockId.TheVariants as block
use Rattle.sig_core.specs.declared.signal.Signal.{Signal}
use Rattle.sig_core.specs.declared.signal.epoch.EpochSignal.{EpochSignal}
use Rattle.sig_core.specs.declared.signal.epoch.EpochSignal.TheVariants.{GcpStateConf}
use Rattle.sig_core.specs.declared.view.View.{View}
use Rattle.dih_node.specs.Dih.{fresh_dih}
use Rattle.dih_node.specs.State.{DihState}
use Rattle.gcp_master.specs.declared.known.Known.{Known}
use Rattle.gcp_master.specs.declared.known.Told.{Told}
use Rattle.gcp_master.specs.declared.phase.Phase.{Phase}
use Rattle.gcp_master.specs.declared.phase.Phase.TheVariants.{Unordered, Gathering, Preparing, Committing}
use Rattle.gcp_master.specs.Known.{greater, learned_of_epochs, learned_of_rows}
use Rattle.gcp_master.specs.Master.{first_phase, fresh_master, master_row}
use Rattle.gcp_master.specs.Resume.{in_view, is_president, learned_if}
use Rattle.gcp_master.specs.State.{MasterState}
use Rattle.gcp_master.specs.Voices.{is_among, same_member}
use Rattle.gcp_master.proofs.Outcomes.{known_with, state_body, voice_of}
use Rattle.node_views.specs.declared.host_body.HostBody as node
use Rattle.world_core.specs.Start.{NobodyStarts, Start, made}
use Rattle.world_core.specs.Steps.{HostStep}
use Rattle.view_laws.specs.Runs.{view_after}
use Rattle.view_laws.specs.Votes.{main_of}
use Rattle.view_laws.proofs.follow.Hosts.{main_started}
use Rattle.moment_laws.specs.Moments.{IsMoment, current, logs_of}
use Rattle.moment_laws.specs.Places.{tc_of}
use Rattle.moment_laws.proofs.MomentHosts.{tc_started}
use Rattle.moment_laws.proofs.MomentMembers.{current_made}
use Rattle.moment_laws.proofs.MomentTurns.{own_behind}
use Rattle.moment_laws.proofs.MomentViews.{moment_less}
use Rattle.moment_laws.proofs.PartTaken.{IsTakenNow}
use Rattle.epoch_laws.specs.Alike.{EachFull}
use Rattle.epoch_laws.specs.Masters.{Commits, IsSilent, Prepares}
use Rattle.epoch_laws.specs.Members.{IsFirst, IsPresident, IsStanding, dih_in, epochs_of, master_in, master_of}
use Rattle.epoch_laws.specs.Stand.{AllStand}
use Rattle.epoch_laws.specs.Told.{IsAllSilent, IsOrdered, IsTrueState}
use Rattle.epoch_laws.proofs.MasterHears.{among_in, same_member-is, same_member-self}
use Rattle.epoch_laws.proofs.MasterRows.{master_goes}
use Rattle.epoch_laws.proofs.MasterSpeaks.{installed}
use Rattle.epoch_laws.proofs.MomentEvents.{MasterDoes, enters, enters_takes, fenced_is, installs, master_does}
use Rattle.epoch_laws.proofs.MomentEvents.{IsTold, order_told, takes, unmoved}
use Rattle.epoch_laws.proofs.StandAll.{epochs_stand}
use Rattle.epoch_laws.proofs.StandMasters.{first_inside, first_same, master_view}
use Rattle.epoch_laws.proofs.StandTakes.{Carries, carries, commits, others_same, prepares, stay}
use Rattle.epoch_laws.proofs.MasterResumption.{sound_next}
use Rattle.closing_laws.proofs.closers.Hear.{first_or}
use Rattle.saved_laws.proofs.others.Numbers.{IsLow, master_low, top}

-- no epoch beyond follows at a member that was made, nor do masters lead to one
pub record AreLow (start : Start) (logs : ℕ → List HostStep) : Type 0 where
  pub members : (m : Member) → IsIn m (made start) → (epochs_of start logs m).next ≤ top
  pub masters : (m : Member) → IsIn m (made start) → IsLow (master_of start logs m).phase

greater_low : (one other : ℕ) → one ≤ top → other ≤ top → greater one other ≤ top
greater_low one other low also = by (nat_lt one other)
  where
    by : (b : Bool) → (if b then other else one) ≤ top
    by true = also
    by false = low

-- where a block tells of an epoch that isn't beyond, or is of rows, what is known to follow isn't
told_low : (known : Known) (t : Told) (b : Bool) → known.next ≤ top
    → (b ≡ true → (t.next ≤ top) ⊎ (t.current ≡ 0)) → (learned_if known t b).next ≤ top
told_low known t false low told = low
told_low known t true low told = by (t.current == 0) refl (told refl)
  where
    by : (b : Bool) → (t.current == 0) ≡ b → (t.next ≤ top) ⊎ (t.current ≡ 0)
        → (if b then learned_of_rows known t else learned_of_epochs known t).next ≤ top
    by true e told = low
    by false e (inl also) = greater_low known.next t.next low also
    by false e (inr none) = absurd (true≢false (sym (eq-eqb t.current 0 none) ∙ e))

module _ (start : Start) (all : ℕ → List HostStep) (e : HostStep) (es : List HostStep)
    (moment : IsMoment start all (e ∷ es)) (stand : AllStand start (logs_of start es))
    (was : AreLow start (logs_of start es))
  where
    abbrev old : ℕ → List HostStep
    old = logs_of start es

    abbrev new : ℕ → List HostStep
    new = logs_of start (e ∷ es)

    abbrev x : Signal
    x = e.step.taken

    full_made : (m : Member) → IsIn m (current start old).full → IsIn m (made start)
    full_made = current_made start all es (moment_less start all e es moment)

    -- an order that a member takes leads to no epoch beyond
    module _ (m : Member) (inside : IsIn m (current start old).full) (epoch next : ℕ) where
      prepares_low : (phase : Phase) → IsLow phase → Prepares epoch next phase → next ≤ top
      prepares_low (Preparing run) low (one, same) = subst (λ n. n ≤ top) same low
      prepares_low phase low none = absurd none

      commits_low : (phase : Phase) → IsLow phase → Commits epoch next phase → next ≤ top
      commits_low (Committing run) low (one, same) = subst (λ n. n ≤ top) same low
      commits_low phase low none = absurd none

      far_low : EachFull start old (λ s. next ≤ s.current) → next ≤ top
      far_low each =
          let far : next ≤ (epochs_of start old m).current = each_in _ m (current start old).full each inside in
          let least = sound_next (epochs_of start old m) (stand.sound m (full_made m inside)) in
          let low = was.members m (full_made m inside) in
          omega (arith, far, least, low)

      ordered_low : (UnderWay : Phase → Type 0)
          → ((phase : Phase) → IsLow phase → UnderWay phase → next ≤ top) → IsOrdered start old next UnderWay
          → next ≤ top
      ordered_low UnderWay leads order = by order.far
        where
          by : UnderWay (master_of start old order.president).phase
              ⊎ EachFull start old (λ s. next ≤ s.current) → next ≤ top
          by (inl under) =
              leads (master_of start old order.president).phase
              (was.masters order.president
              (full_made order.president (first_inside order.president (current start old).full order.is)))
              under
          by (inr each) = far_low each

    -- where one member moves
    moved_low : (m : Member) → e.host ≡ tc_of start m → (epochs_of start new m).next ≤ top → (k : Member)
        → IsIn k (made start) → (epochs_of start new k).next ≤ top
    moved_low m at low k there = by (same_member k m) refl
      where
        by : (b : Bool) → same_member k m ≡ b → (epochs_of start new k).next ≤ top
        by true is = subst (λ (j : Member). (epochs_of start new j).next ≤ top) (sym (same_member-is k m is)) low
        by false is =
            subst (λ (s : DihState). s.next ≤ top)
            (others_same start all e es moment stand m at k
            (λ same. absurd (let both : true ≡ false = sym (same_member-self k m same) ∙ is in cc)))
            (was.members k there)

    members_next : (k : Member) → IsIn k (made start) → (epochs_of start new k).next ≤ top
    members_next k there = by (carries start all e es moment stand)
      where
        by : Carries start all e es moment stand → (epochs_of start new k).next ≤ top
        by (stay stays) = subst (λ n. n ≤ top) (sym (stays k).next_is) (was.members k there)
        by (prepares m at inside same epoch next rises order late goes) =
            moved_low m at
            (subst (λ n. n ≤ top) (sym goes.next_is)
            (ordered_low m inside epoch next (λ phase. Prepares epoch next phase ⊎ Commits epoch next phase) either
            order))
            k there
          where
            either : (phase : Phase) → IsLow phase → Prepares epoch next phase ⊎ Commits epoch next phase → next ≤ top
            either phase low (inl under) = prepares_low m inside epoch next phase low under
            either phase low (inr under) = commits_low m inside epoch next phase low under
        by (commits m at inside same epoch next rises order late goes) =
            moved_low m at
            (subst (λ n. n ≤ top) (sym goes.next_is)
            (ordered_low m inside epoch next (Commits epoch next) (commits_low m inside epoch next) order)) k there

    -- of a master that was made
    module _ (p : Member) (there : IsIn p (made start)) where
      abbrev before : MasterState
      before = master_of start old p

      -- a master that hears how far a block has come is the president's, and stood in the view
      module _ (at : e.host ≡ main_of start p) (taken : IsTakenNow start all e es moment block.GcpMaster)
          (is : master_of start new p ≡ (master_row before x).state) (known : Known) (t : Told)
          (body : x.body ≡ state_body t) (gathers : before.phase ≡ Gathering known)
        where
          abbrev signal : EpochSignal
          signal = GcpStateConf t.current t.prepared t.next t.closed t.saved t.durable

          told : IsTold start all e es moment signal
          told =
              order_told start all e es moment block.GcpMaster taken signal body
              (fenced_is start all e es moment signal body refl) stand.signals

          view_is : before.view ≡ current start old
          view_is =
              sym (master_goes before x).view ∙ sym (ap (λ (s : MasterState). s.view) is)
              ∙ master_view start moment.cluster.nobody p there new
              ∙ subst (λ h. view_after start h (new h) ≡ current start new) at
              (own_behind start all e es moment ∙ taken.stands)
              ∙ told.view

          stands : IsStanding start old p
          stands = ap (λ (v : View). v.number) (sym (master_view start moment.cluster.nobody p there old) ∙ view_is)

          first : IsPresident start old p
          first = by (first_or p (current start old).full)
            where
              by : IsFirst p (current start old).full ⊎ (IsFirst p (current start old).full → ⊥)
                  → IsFirst p (current start old).full
              by (inl first) = first
              by (inr other) =
                  absurd (let both : Unordered ≡ Gathering known = sym (stand.others p there other stands) ∙ gathers in
                  cc)

          silent : IsAllSilent start old
          silent q also standing =
              subst (λ (m : Member). IsSilent (master_of start old m).phase)
              (first_same p q (current start old).full first also) (subst IsSilent (sym gathers) tt)

          told_of : is_among before.view.full x.member ≡ true
              → IsTrueState start old x t.current t.prepared t.next → (t.next ≤ top) ⊎ (t.current ≡ 0)
          told_of among (inl (from, as_told)) =
              inl
              (subst (λ n. n ≤ top) (as_told silent).next_is
              (was.members x.member
              (full_made x.member
              (subst (λ (v : View). IsIn x.member v.full) view_is (among_in x.member before.view.full among)))))
          told_of among (inr (from, none)) = inr none

          learns_low : known.next ≤ top → (known_with before (voice_of x) known t).next ≤ top
          learns_low low =
              told_low known t (is_among before.view.full x.member) low (λ among. told_of among told.is_true)

      masters_next : IsLow (master_of start new p).phase
      masters_next = by (master_does start all e es moment p)
        where
          stood : View
          stood = view_after start e.host (e ∷ old e.host)

          none_low : (s : MasterState) → s.phase ≡ Unordered → IsLow s.phase
          none_low s none = subst IsLow (sym none) tt

          by : MasterDoes start all e es moment p → IsLow (master_of start new p).phase
          by (unmoved is) = subst (λ (s : MasterState). IsLow s.phase) (sym is) (was.masters p there)
          by (installs at up between is) =
              subst (λ (s : MasterState). IsLow s.phase) (sym is)
              (none_low (in_view between stood) (installed between stood).phase)
          by (enters at up is) =
              subst (λ (s : MasterState). IsLow s.phase) (sym is)
              (none_low (in_view before x.view) (installed before x.view).phase)
          by (takes at taken is) =
              subst (λ (s : MasterState). IsLow s.phase) (sym is)
              (master_low before (was.masters p there) x (learns_low at taken is))
          by (enters_takes at up taken is) =
              subst (λ (s : MasterState). IsLow s.phase) (sym is)
              (master_low (in_view before x.view) (none_low (in_view before x.view) (installed before x.view).phase) x
              (λ known t body gathers.
              absurd (let both : Unordered ≡ Gathering known = sym (installed before x.view).phase ∙ gathers in cc)))

    next_low : AreLow start new
    next_low = record { members = members_next; masters = masters_next }

first_low : (start : Start) → NobodyStarts start → start.epoch ≤ top → AreLow start (logs_of start [])
first_low start nobody low = record { members = members; masters = masters }
  where
    members : (m : Member) → IsIn m (made start) → (epochs_of start (logs_of start []) m).next ≤ top
    members m there =
        subst (λ (s : node.HostBody). (dih_in (fresh_dih 0 0 0 0) s.parts).next ≤ top)
        (sym (tc_started start nobody m there))
        low

    by : (b : Bool) → IsLow (first_phase start.epoch b)
    by true = low
    by false = tt

    masters : (m : Member) → IsIn m (made start) → IsLow (master_of start (logs_of start []) m).phase
    masters m there =
        subst
        (λ (s : node.HostBody). IsLow (master_in (fresh_master m (first_layout start.shape).view 0) s.parts).phase)
        (sym (main_started start nobody m there)) (by (is_president m (first_layout start.shape).view))

-- so it is at each moment
pub are_low : (start : Start) (all : ℕ → List HostStep) (es : List HostStep) → start.start_epoch < start.epoch
    → start.epoch ≤ top → IsMoment start all es → AreLow start (logs_of start es)
are_low start all [] some low moment = first_low start moment.cluster.nobody low
are_low start all (e ∷ es) some low moment =
    let less = moment_less start all e es moment in
    next_low start all e es moment (epochs_stand start all es some less) (are_low start all es some low less)
