-- Full members of the current view that know the same epoch to follow know the same last order.
use Rattle.std.proofs.Common.{◌≡◌, ◌≤◌, ◌<◌, ◌⊎◌, ◌∙◌, ℕ, List, [], ◌∷◌, sym, ap, subst, inl, inr, arith}
use Rattle.run_theory.proofs.Pasts.{each_from, each_in}
use Rattle.run_theory.specs.Lists.{IsIn}
use Rattle.sig_core.specs.declared.member.Member.{Member}
use Rattle.dih_node.specs.Dih.{fresh_dih}
use Rattle.dih_node.specs.State.{DihState}
use Rattle.gcp_master.specs.declared.phase.Phase.{Phase}
use Rattle.gcp_master.specs.declared.phase.Phase.TheVariants.{Committing, Preparing}
use Rattle.gcp_master.specs.declared.voices.Voice.{Voice}
use Rattle.node_views.specs.declared.host_body.HostBody as node
use Rattle.world_core.specs.Start.{Start}
use Rattle.world_core.specs.Steps.{HostStep}
use Rattle.moment_laws.specs.Moments.{IsMoment, current, logs_of}
use Rattle.moment_laws.specs.Places.{tc_of}
use Rattle.moment_laws.proofs.MomentHosts.{tc_started}
use Rattle.moment_laws.proofs.MomentMembers.{current_made}
use Rattle.epoch_laws.specs.Alike.{EachFull, IsAcross, IsReady, Waits}
use Rattle.epoch_laws.specs.Masters.{Commits, IsRightIn, Prepares}
use Rattle.epoch_laws.specs.Members.{dih_in, epochs_of, master_of}
use Rattle.epoch_laws.specs.Stand.{AllStand}
use Rattle.epoch_laws.proofs.DihMoves.{Stays}
use Rattle.epoch_laws.proofs.StandMarks.{full_before}
use Rattle.epoch_laws.proofs.StandTakes.{Carries, carries, commits, others_same, prepares, stay}
use Rattle.closing_laws.proofs.closers.Hear.{is_or}

-- one member and another know the same last order, if they know the same epoch to follow
abbrev pub AgreeOnOrders : Start → (ℕ → List HostStep) → Type 0
AgreeOnOrders start logs =
    (one other : Member) → IsIn one (current start logs).full → IsIn other (current start logs).full
    → (epochs_of start logs one).next ≡ (epochs_of start logs other).next
    → (epochs_of start logs one).prepared ≡ (epochs_of start logs other).prepared

-- it knows this order, or another epoch to follow
abbrev Agrees : ℕ → ℕ → DihState → Type 0
Agrees epoch next s = s.next ≡ next → s.prepared ≡ epoch

-- where an order of the president isn't late for a member, whoever knows the epoch that it names to follow knows it
module _ (start : Start) (logs : ℕ → List HostStep) (agree : AgreeOnOrders start logs) (m : Member)
    (inside : IsIn m (current start logs).full) (epoch next : ℕ) (rises : epoch < next)
    (late : (epochs_of start logs m).current ≤ epoch)
  where
    preparing_agree : (voices : List Voice) (phase : Phase) → IsRightIn start logs voices phase
        → Prepares epoch next phase → EachFull start logs (Agrees epoch next)
    preparing_agree voices (Preparing run) right (same, same_next) =
        each_from _ (current start logs).full
        (λ other there.
        of_waits (epochs_of start logs other) (each_in _ other (current start logs).full right.0.each there))
      where
        of_waits : (s : DihState) → Waits run.epoch run.next s → Agrees epoch next s
        of_waits s waits follows =
            let gives = waits.gives in
            (waits.prepared (omega (arith, gives, same, rises, follows))).0 ∙ same
    preparing_agree voices _ right is = absurd is

    committing_agree : (voices : List Voice) (phase : Phase) → IsRightIn start logs voices phase
        → Commits epoch next phase → EachFull start logs (Agrees epoch next)
    committing_agree voices (Committing run) right (same, same_next) =
        each_from _ (current start logs).full (λ other there follows. by other there (across other there))
      where
        across : (other : Member) → IsIn other (current start logs).full
            → IsAcross run.epoch run.next (epochs_of start logs other)
        across other there = each_in _ other (current start logs).full right.0.each there

        own : IsAcross run.epoch run.next (epochs_of start logs m) → IsReady run.epoch run.next (epochs_of start logs m)
        own (inl ready) = ready
        own (inr gone) =
            let gives = gone.gives in
            let above = right.0.rises in
            absurd (omega (arith, gives, above, late, same))

        by : (other : Member) → IsIn other (current start logs).full
            → IsAcross run.epoch run.next (epochs_of start logs other) → (epochs_of start logs other).prepared ≡ epoch
        by other there (inl ready) = ready.prepared_is ∙ same
        by other there (inr gone) =
            let ready = own (across m inside) in
            agree other m there inside (gone.next_is ∙ sym ready.next_is) ∙ ready.prepared_is ∙ same
    committing_agree voices _ right is = absurd is

    order_agrees : (voices : List Voice) (phase : Phase) → IsRightIn start logs voices phase
        → (Prepares epoch next phase ⊎ Commits epoch next phase) ⊎ EachFull start logs (λ s. next ≤ s.current)
        → EachFull start logs (Agrees epoch next)
    order_agrees voices phase right (inl (inl is)) = preparing_agree voices phase right is
    order_agrees voices phase right (inl (inr is)) = committing_agree voices phase right is
    order_agrees voices phase right (inr beyond) =
        let far : next ≤ (epochs_of start logs m).current = each_in _ m (current start logs).full beyond inside in
        absurd (omega (arith, far, rises, late))

module _ (start : Start) (all : ℕ → List HostStep) (e : HostStep) (es : List HostStep)
    (moment : IsMoment start all (e ∷ es)) (stand : AllStand start (logs_of start es))
    (agree : AgreeOnOrders start (logs_of start es))
  where
    abbrev old : ℕ → List HostStep
    old = logs_of start es

    abbrev new : ℕ → List HostStep
    new = logs_of start (e ∷ es)

    was_full : (member : Member) → IsIn member (current start new).full → IsIn member (current start old).full
    was_full = full_before start all e es moment stand

    -- all stay
    stay_agreed : ((member : Member) → Stays (epochs_of start old member) (epochs_of start new member))
        → AgreeOnOrders start new
    stay_agreed stays one other one_in other_in same =
        (stays one).prepared_is
        ∙ agree one other (was_full one one_in) (was_full other other_in)
        (sym (stays one).next_is ∙ same ∙ (stays other).next_is)
        ∙ sym (stays other).prepared_is

    -- a member carries out an order
    module _ (m : Member) (at : e.host ≡ tc_of start m) (epoch next : ℕ)
        (each : EachFull start old (Agrees epoch next)) (prepared_is : (epochs_of start new m).prepared ≡ epoch)
        (next_is : (epochs_of start new m).next ≡ next)
      where
        unmoved : (other : Member) → (other ≡ m → ⊥) → epochs_of start old other ≡ epochs_of start new other
        unmoved = others_same start all e es moment stand m at

        -- this one knows it
        prepared_of : (one : Member) → one ≡ m → (epochs_of start new one).prepared ≡ epoch
        prepared_of one is = ap (λ (k : Member). (epochs_of start new k).prepared) is ∙ prepared_is

        next_of : (one : Member) → one ≡ m → (epochs_of start new one).next ≡ next
        next_of one is = ap (λ (k : Member). (epochs_of start new k).next) is ∙ next_is

        agrees_now : (other : Member) → IsIn other (current start new).full
            → Agrees epoch next (epochs_of start new other)
        agrees_now other there = by (is_or other m)
          where
            by : (other ≡ m) ⊎ (other ≡ m → ⊥) → Agrees epoch next (epochs_of start new other)
            by (inl is) = λ follows. prepared_of other is
            by (inr apart) =
                subst (Agrees epoch next) (unmoved other apart)
                (each_in _ other (current start old).full each (was_full other there))

        order_agreed : AgreeOnOrders start new
        order_agreed one other one_in other_in same = by (is_or one m) (is_or other m)
          where
            by : (one ≡ m) ⊎ (one ≡ m → ⊥) → (other ≡ m) ⊎ (other ≡ m → ⊥)
                → (epochs_of start new one).prepared ≡ (epochs_of start new other).prepared
            by (inl is) either =
                prepared_of one is ∙ sym (agrees_now other other_in (sym same ∙ next_of one is))
            by (inr apart) (inl is) =
                agrees_now one one_in (same ∙ next_of other is) ∙ sym (prepared_of other is)
            by (inr apart) (inr apart_too) =
                let first = unmoved one apart in
                let second = unmoved other apart_too in
                sym (ap (λ (s : DihState). s.prepared) first)
                ∙ agree one other (was_full one one_in) (was_full other other_in)
                (ap (λ (s : DihState). s.next) first ∙ same ∙ sym (ap (λ (s : DihState). s.next) second))
                ∙ ap (λ (s : DihState). s.prepared) second

    -- so it is behind each event
    pub orders_next : AgreeOnOrders start new
    orders_next = by (carries start all e es moment stand)
      where
        widely : {A B C : Type 0} → B ⊎ C → (A ⊎ B) ⊎ C
        widely (inl is) = inl (inr is)
        widely (inr is) = inr is

        by : Carries start all e es moment stand → AgreeOnOrders start new
        by (stay stays) = stay_agreed stays
        by (prepares m at inside view epoch next rises order late goes) =
            let p = master_of start old order.president in
            order_agreed m at epoch next
            (order_agrees start old agree m inside epoch next rises late p.voices p.phase
            (stand.president order.president order.is order.stands) order.far)
            goes.prepared_is goes.next_is
        by (commits m at inside view epoch next rises order late goes) =
            let p = master_of start old order.president in
            order_agreed m at epoch next
            (order_agrees start old agree m inside epoch next rises late p.voices p.phase
            (stand.president order.president order.is order.stands) (widely order.far))
            goes.prepared_is goes.next_is

-- at the beginning nothing was ordered yet
pub orders_first : (start : Start) (all : ℕ → List HostStep) → IsMoment start all []
    → AgreeOnOrders start (logs_of start [])
orders_first start all moment one other one_in other_in same = before one one_in ∙ sym (before other other_in)
  where
    before : (member : Member) → IsIn member (current start (logs_of start [])).full
        → (epochs_of start (logs_of start []) member).prepared ≡ start.start_epoch
    before member there =
        ap (λ (s : node.HostBody). (dih_in (fresh_dih 0 0 0 0) s.parts).prepared)
        (tc_started start moment.cluster.nobody member (current_made start all [] moment member there))
