-- Which order an event carries out of the president of the current view: its member takes it, and nobody else moves.
use Rattle.std.proofs.Common.{◌≡◌, ◌≢◌, ◌≤◌, ◌<◌, ◌⊎◌, ℕ, List, ◌∷◌, refl, sym, ap, subst, ◌∙◌, inl, inr}
use Rattle.std.proofs.lemmas.Bool.{cases_eq}
use Rattle.run_theory.specs.Lists.{IsIn}
use Rattle.sig_core.specs.declared.member.Member.{Member}
use Rattle.sig_core.specs.declared.place.BlockId.{BlockId}
use Rattle.sig_core.specs.declared.place.BlockId.TheVariants as block
use Rattle.sig_core.specs.declared.place.Part.TheVariants.{Tc}
use Rattle.sig_core.specs.declared.signal.Body.{Body}
use Rattle.sig_core.specs.declared.signal.Body.TheVariants.{Epoch}
use Rattle.sig_core.specs.declared.signal.epoch.EpochSignal.TheVariants.{GcpCommit, GcpNodeFinish, GcpOrd, GcpPrepare}
use Rattle.sig_core.specs.declared.signal.epoch.EpochSignal.TheVariants.{GcpPrepareConf, GcpStateConf}
use Rattle.sig_core.specs.declared.signal.Signal.{Signal}
use Rattle.sig_core.specs.declared.view.View.{View}
use Rattle.dih_node.specs.Dih.{fresh_dih}
use Rattle.world_core.specs.Hosts.{hosts, member_at}
use Rattle.world_core.specs.Start.{Start, made}
use Rattle.world_core.specs.Steps.{Addressed, HostStep}
use Rattle.world_views.specs.Machine.{after}
use Rattle.epoch_laws.specs.Alike.{IsSound}
use Rattle.epoch_laws.specs.Masters.{Commits, Prepares}
use Rattle.epoch_laws.specs.Members.{dih_in, epochs_of}
use Rattle.moment_laws.specs.Places.{tc_of}
use Rattle.moment_laws.specs.Moments.{IsMoment, current, logs_of}
use Rattle.epoch_laws.specs.Stand.{AllStand}
use Rattle.epoch_laws.specs.Told.{IsOrdered, IsTrueOf}
use Rattle.epoch_laws.proofs.DihMoves.{IsAt, Moves, Stays}
use Rattle.epoch_laws.proofs.DihRows.{Rises}
use Rattle.epoch_laws.proofs.MomentEvents.{EpochsDo, epochs_do, fenced_is, leave, order_told, take}
use Rattle.moment_laws.proofs.MomentHosts.{host_made, part_some, tc_member}
use Rattle.moment_laws.proofs.MomentMembers.{current_host}
use Rattle.moment_laws.proofs.MomentTurns.{host_low, other_log, own_behind}
use Rattle.moment_laws.proofs.PartTaken.{IsTakenNow}

module _ (start : Start) (all : ℕ → List HostStep) (e : HostStep) (es : List HostStep)
    (moment : IsMoment start all (e ∷ es)) (stand : AllStand start (logs_of start es))
  where
    abbrev old : ℕ → List HostStep
    old = logs_of start es

    abbrev new : ℕ → List HostStep
    new = logs_of start (e ∷ es)

    abbrev x : Signal
    x = e.step.taken

    abbrev it : Addressed
    it = record { to = e.host; signal = x }

    -- what is taken is true
    pub taken_true : (at : BlockId) → IsTakenNow start all e es moment at → IsTrueOf start old it x.body
    taken_true at taken = by x.body refl
      where
        by : (body : Body) → x.body ≡ body → IsTrueOf start old it body
        by (Epoch (GcpPrepare epoch next)) is =
            (order_told start all e es moment at taken (GcpPrepare epoch next) is
            (fenced_is start all e es moment (GcpPrepare epoch next) is refl) stand.signals).is_true
        by (Epoch (GcpCommit epoch next)) is =
            (order_told start all e es moment at taken (GcpCommit epoch next) is
            (fenced_is start all e es moment (GcpCommit epoch next) is refl) stand.signals).is_true
        by (Epoch (GcpPrepareConf epoch)) is =
            (order_told start all e es moment at taken (GcpPrepareConf epoch) is
            (fenced_is start all e es moment (GcpPrepareConf epoch) is refl) stand.signals).is_true
        by (Epoch (GcpNodeFinish epoch)) is =
            (order_told start all e es moment at taken (GcpNodeFinish epoch) is
            (fenced_is start all e es moment (GcpNodeFinish epoch) is refl) stand.signals).is_true
        by (Epoch (GcpStateConf now prepared next closed saved durable)) is =
            (order_told start all e es moment at taken (GcpStateConf now prepared next closed saved durable) is
            (fenced_is start all e es moment (GcpStateConf now prepared next closed saved durable) is refl)
            stand.signals).is_true
        by (Epoch GcpOrd) is =
            (order_told start all e es moment at taken GcpOrd is (fenced_is start all e es moment GcpOrd is refl)
            stand.signals).is_true
        by _ is = tt

    -- so orders rise
    pub taken_rises : (at : BlockId) → IsTakenNow start all e es moment at → Rises x.body
    taken_rises at taken = by x.body (taken_true at taken)
      where
        by : (body : Body) → IsTrueOf start old it body → Rises body
        by (Epoch (GcpPrepare epoch next)) told = told.0
        by (Epoch (GcpCommit epoch next)) told = told.0
        by _ told = tt

    pub sound_next : (member : Member) → IsIn member (made start) → IsSound (epochs_of start new member)
    sound_next member there = by (epochs_do start all e es moment member)
      where
        by : EpochsDo start all e es moment member → IsSound (epochs_of start new member)
        by (leave stays sound) = sound (stand.sound member there)
        by (take at taken moves sound) = sound (taken_rises block.Dih taken) (stand.sound member there)

    -- the member whose epochs run on the host of the event
    pub taker_made : (member : Member) → e.host ≡ tc_of start member → IsIn member (made start)
    taker_made member at =
        host_made start Tc member (subst (λ h. h < hosts start) at (host_low start all e es moment))

    taker_is : (member : Member) → e.host ≡ tc_of start member → member ≡ member_at (made start) e.host
    taker_is member at =
        sym (ap (member_at (made start)) at ∙ tc_member start moment.cluster.nobody member (taker_made member at))

    pub one_taker : (one other : Member) → e.host ≡ tc_of start one → e.host ≡ tc_of start other → other ≡ one
    one_taker one other at at_too = taker_is other at_too ∙ sym (taker_is one at)

    -- nobody else moves
    pub others_same : (m : Member) → e.host ≡ tc_of start m → (other : Member) → (other ≡ m → ⊥)
        → epochs_of start old other ≡ epochs_of start new other
    others_same m at other apart =
        sym (ap (λ log. dih_in (fresh_dih 0 0 0 0) (after start (tc_of start other) log).parts)
        (other_log start all e es moment (tc_of start other) (λ at_too. apart (one_taker m other at at_too))))

    -- all stay where they are, or the member of the host carries out an order
    pub data Carries : Type 0 where
      stay : ((member : Member) → Stays (epochs_of start old member) (epochs_of start new member)) → Carries
      prepares : (m : Member) → e.host ≡ tc_of start m → IsIn m (current start old).full
          → current start new ≡ current start old → (epoch next : ℕ) → epoch < next
          → IsOrdered start old next (λ phase. Prepares epoch next phase ⊎ Commits epoch next phase)
          → (epochs_of start old m).current ≤ epoch
          → IsAt (epochs_of start old m).current epoch next (epochs_of start new m) → Carries
      commits : (m : Member) → e.host ≡ tc_of start m → IsIn m (current start old).full
          → current start new ≡ current start old → (epoch next : ℕ) → epoch < next
          → IsOrdered start old next (Commits epoch next) → (epochs_of start old m).current ≤ epoch
          → IsAt next epoch next (epochs_of start new m) → Carries

    left_stays : (member : Member) → (e.host ≡ tc_of start member → ⊥)
        → Stays (epochs_of start old member) (epochs_of start new member)
    left_stays member other = by (epochs_do start all e es moment member)
      where
        by : EpochsDo start all e es moment member → Stays (epochs_of start old member) (epochs_of start new member)
        by (leave stays sound) = stays
        by (take at taken moves sound) = absurd (other at)

    -- where the one of the host stays all do
    all_stay : (m : Member) → e.host ≡ tc_of start m → Stays (epochs_of start old m) (epochs_of start new m) → Carries
    all_stay m at stays = stay (λ member. by member (cases_eq e.host (tc_of start member)))
      where
        by : (member : Member) → (e.host ≡ tc_of start member) ⊎ (e.host ≢ tc_of start member)
            → Stays (epochs_of start old member) (epochs_of start new member)
        by member (inl at_too) =
            subst (λ (k : Member). Stays (epochs_of start old k) (epochs_of start new k))
            (sym (one_taker m member at at_too))
            stays
        by member (inr other) = left_stays member other

    -- who takes a signal is a full member
    pub taker_full : (m : Member) → e.host ≡ tc_of start m → IsTakenNow start all e es moment block.Dih
        → current start new ≡ current start old → IsIn m (current start old).full
    taker_full m at taken same =
        subst (λ (v : View). IsIn m v.full) same
        (subst (λ (k : Member). IsIn k (current start new).full) (sym (taker_is m at))
        (current_host start all (e ∷ es) moment e.host (subst (λ h. 1 ≤ h) (sym at) (part_some start Tc m))
        (host_low start all e es moment) (own_behind start all e es moment ∙ taken.stands)))

    carried : (m : Member) → e.host ≡ tc_of start m → IsTakenNow start all e es moment block.Dih → (body : Body)
        → x.body ≡ body → Moves (epochs_of start old m) body (epochs_of start new m) → Carries
    carried m at taken (Epoch (GcpPrepare epoch next)) is (inl (late, moves)) =
        let told =
        order_told start all e es moment block.Dih taken (GcpPrepare epoch next) is
        (fenced_is start all e es moment (GcpPrepare epoch next) is refl) stand.signals in
        prepares m at (taker_full m at taken told.view) told.view epoch next told.is_true.0 told.is_true.1 late moves
    carried m at taken (Epoch (GcpPrepare epoch next)) is (inr (beyond, stays)) = all_stay m at stays
    carried m at taken (Epoch (GcpCommit epoch next)) is (inl (late, moves)) =
        let told =
        order_told start all e es moment block.Dih taken (GcpCommit epoch next) is
        (fenced_is start all e es moment (GcpCommit epoch next) is refl) stand.signals in
        commits m at (taker_full m at taken told.view) told.view epoch next told.is_true.0 told.is_true.1 late moves
    carried m at taken (Epoch (GcpCommit epoch next)) is (inr (beyond, stays)) = all_stay m at stays
    carried m at taken body is stays = all_stay m at stays

    pub carries : Carries
    carries = by (cases_eq e.host (tc_of start (member_at (made start) e.host)))
      where
        did : e.host ≡ tc_of start (member_at (made start) e.host)
            → EpochsDo start all e es moment (member_at (made start) e.host) → Carries
        did at (leave stays sound) = all_stay (member_at (made start) e.host) at stays
        did at (take at_too taken moves sound) = carried (member_at (made start) e.host) at taken x.body refl moves

        by : (e.host ≡ tc_of start (member_at (made start) e.host))
            ⊎ (e.host ≢ tc_of start (member_at (made start) e.host))
            → Carries
        by (inl at) = did at (epochs_do start all e es moment (member_at (made start) e.host))
        by (inr other) =
            stay (λ member. left_stays member (λ at. other (at ∙ ap (tc_of start) (taker_is member at))))
