-- At an event of the host of a coordinator, the coordinator goes on to have its routes, and what the host sends is
-- routed.
use Rattle.std.proofs.Common.{◌≡◌, ◌⊎◌, ◌++◌, ◌∙◌, ℕ, Bool, true, false, List, [], ◌∷◌, inl, inr, refl, sym, ap, subst}
use Rattle.std.proofs.Common.{arith}
use Rattle.std.proofs.lemmas.Bool.{ltb-false, true≢false}
use Rattle.run_theory.specs.Lists.{Each, IsIn}
use Rattle.run_theory.proofs.Pasts.{each_append, each_map}
use Rattle.run_theory.proofs.Runs.{log_of-own}
use Rattle.sig_core.specs.declared.member.Member.{Member}
use Rattle.sig_core.specs.declared.member.TxId.{TxId}
use Rattle.sig_core.specs.declared.outs.Outgoing.{Outgoing}
use Rattle.sig_core.specs.declared.place.BlockId.{BlockId}
use Rattle.sig_core.specs.declared.place.BlockId.TheVariants as block
use Rattle.sig_core.specs.declared.signal.Body.{Body}
use Rattle.sig_core.specs.declared.signal.Body.TheVariants.{Chain, Host}
use Rattle.sig_core.specs.declared.signal.Signal.{Signal}
use Rattle.sig_core.specs.declared.signal.host.HostSignal.TheVariants.{Continue}
use Rattle.sig_core.specs.declared.signal.host.Work.TheVariants.{Transaction as Sends}
use Rattle.sig_core.specs.declared.view.View.{View}
use Rattle.frag_map.specs.Layout.{Layout}
use Rattle.dih_node.specs.Dih.{dih_row}
use Rattle.dih_node.specs.Orders as dih
use Rattle.takeover_block.specs.declared.gathered.Gathered.{Gathered}
use Rattle.takeover_block.specs.Takeover.{takeover_row}
use Rattle.tc_block.specs.declared.transaction.Transaction.{Transaction}
use Rattle.tc_views.specs.Coordinator.{coordinator_row}
use Rattle.tc_views.specs.Laws.{AreOnce}
use Rattle.tc_views.specs.State.{CoordinatorState}
use Rattle.tc_views.specs.Views.{install_row}
use Rattle.node_views.specs.declared.parts.Parts.TheVariants as part
use Rattle.node_views.specs.declared.tc_part.TcPart.{TcPart}
use Rattle.node_views.specs.Parts.{tc_row}
use Rattle.world_core.specs.Start.{Start, made}
use Rattle.world_core.specs.Steps.{HostStep}
use Rattle.world_views.specs.Machine.{after, machine, step_after}
use Rattle.view_laws.specs.Runs.{view_after}
use Rattle.moment_laws.specs.Moments.{IsMoment, logs_of}
use Rattle.moment_laws.specs.Parts.{IsPassed}
use Rattle.moment_laws.specs.PartSteps.{PartEnters, PartTakes, handles, ignores, installs, remains, tc_kind}
use Rattle.moment_laws.specs.Places.{tc_of}
use Rattle.moment_laws.proofs.MomentSignals.{EachSent}
use Rattle.moment_laws.proofs.PartKinds.{tc_is}
use Rattle.moment_laws.proofs.PartTaken.{IsTakenNow, handled_now}
use Rattle.outcome_laws.specs.Counts.{coordinator_member}
use Rattle.request_laws.specs.Blocks.{coordinator_after, takeover_after}
use Rattle.request_laws.specs.Drives.{is_commit, is_request}
use Rattle.request_laws.specs.Orphans.{GatheredAre, IsOrphan}
use Rattle.request_laws.specs.Phases.{CoordinatorStands}
use Rattle.request_laws.specs.Routed.{IsGivenUp, IsRoutedSignal, WasAskedIn, WasDrivenIn, layout_in}
use Rattle.request_laws.specs.Routes.{CoordinatorHasRoutes, IsRouted, IsSentRouted}
use Rattle.request_laws.specs.Ways.{is_sent}
use Rattle.request_laws.proofs.routes.OwnSends.{IsOfMember, IsUnsent, sends_of_member}
use Rattle.request_laws.proofs.routes.BesideRows.{AreAside, all_aside_routed, epochs_aside, epochs_install_aside}
use Rattle.request_laws.proofs.routes.BesideRows.{is_of_rows}
use Rattle.request_laws.proofs.routes.Driven.{grows, makes}
use Rattle.request_laws.proofs.routes.OtherHosts.{CoordinatorHas, routed_more}
use Rattle.request_laws.proofs.routes.Entering.{behind_past, enters_has, own_full}
use Rattle.request_laws.proofs.routes.AskedOrDriven.{OrAsked, OrDriven, has_less}
use Rattle.request_laws.proofs.routes.Headers.{chain_fenced, header_is, told_of}
use Rattle.request_laws.proofs.routes.Layouts.{IsLaid, tc_enters}
use Rattle.request_laws.proofs.orphans.ReportsOfOrphans.{coordinated}
use Rattle.request_laws.proofs.routes.Sends.{IsMade, Nobody}
use Rattle.request_laws.proofs.routes.Idle.{all_answered, all_given}
use Rattle.request_laws.proofs.routes.PartSteps.{TcStep, coordinator_is, own_tc, takeover_is}
use Rattle.request_laws.proofs.routes.Takeovers.{ChainsAreSome, takeover_sends_routed}
use Rattle.request_laws.proofs.routes.Taking.{goes, own_renews, takes_has}
use Rattle.request_laws.proofs.routes.Coordinators.{AreAnswered, TakesRouted, installs_routed, is_idle}
use Rattle.request_laws.proofs.routes.Turns.{Grows, IsGiven, was_so}
use Rattle.request_laws.proofs.routes.Unsent.{asked_of, driven_of, nobody_of, sent_behind, unsent_of}
use Rattle.request_laws.proofs.routes.PartsOfTheFirst.{chains_in, was_in}
use Rattle.request_laws.proofs.strays.Numbers.{have_the_number}

-- one all of whose transactions are answered stays so where a view is installed
answered_installed : (s : CoordinatorState) (view : View) → AreAnswered s → AreAnswered (install_row s view).state
unfolding install_row
answered_installed s view all = all

module _ (start : Start) (all : ℕ → List HostStep) (e : HostStep) (es : List HostStep)
    (moment : IsMoment start all (e ∷ es)) (member : Member) (there : IsIn member (made start))
    (at : e.host ≡ tc_of start member) (before : CoordinatorStands start member (logs_of start es))
    (behind : CoordinatorStands start member (logs_of start (e ∷ es)))
  where
    abbrev old : ℕ → List HostStep
    old = logs_of start es

    abbrev new : ℕ → List HostStep
    new = logs_of start (e ∷ es)

    abbrev log : List HostStep
    log = logs_of start es (tc_of start member)

    abbrev stood : View
    stood = view_after start (tc_of start member) log

    abbrev view : View
    view = view_after start (tc_of start member) (e ∷ log)

    abbrev layout : Layout
    layout = layout_in start view

    abbrev x : Signal
    x = e.step.taken

    abbrev sends : List Outgoing
    sends = (step_after start (tc_of start member) log e).effects.sends

    abbrev step : TcStep start (tc_of start member) log e
    step = own_tc start moment.cluster.nobody member there log e

    abbrev p : TcPart
    p = step.own

    abbrev between : TcPart
    between = step.does.between

    abbrev front : List Outgoing
    front = step.does.front

    abbrev Entering : Type 0
    Entering = PartEnters tc_kind p stood x between view front

    entering : Entering
    entering = step.does.enters

    -- what the coordinator is before the signal is taken: as it was, or behind an installation
    between_is : (P : CoordinatorState → Type 0) → P (coordinator_after start member log)
        → ((s : CoordinatorState) → P s → P (install_row s x.view).state) → P between.coordinator
    between_is P own installed = by entering
      where
        here : P p.coordinator
        here = subst P (coordinator_is start member (tc_of start member) log refl p step.runs) own

        by : Entering → P between.coordinator
        by (remains same stands none) = subst (λ (q : TcPart). P q.coordinator) (sym same) here
        by (installs above same stands is) =
            subst (λ (q : TcPart). P q.coordinator) (sym same) (installed p.coordinator here)

    once : AreOnce between.coordinator.tc.live
    unfolding install_row
    once = between_is (λ (s : CoordinatorState). AreOnce s.tc.live) before.of.once (λ s own. own)

    own_live : Each (λ (e : TxId × Transaction). coordinator_member e.0 ≡ member) between.coordinator.tc.live
    unfolding install_row
    own_live =
        between_is
        (λ (s : CoordinatorState). Each (λ (e : TxId × Transaction). coordinator_member e.0 ≡ member) s.tc.live)
        before.of.own (λ s own. own)

    answered : AreAnswered between.coordinator
    answered =
        between_is (λ (s : CoordinatorState). AreAnswered s) (all_answered start member there old before)
        (λ s own. answered_installed s x.view own)

    -- it has the number of the view
    number_is : between.coordinator.number ≡ view.number
    unfolding install_row
    number_is = by entering
      where
        by : Entering → between.coordinator.number ≡ view.number
        by (remains same stands none) =
            ap (λ (q : TcPart). q.coordinator.number) same
            ∙ (sym
            (ap (λ (s : CoordinatorState). s.number)
            (coordinator_is start member (tc_of start member) log refl p step.runs))
            ∙ (have_the_number start moment.cluster.nobody member log there ∙ sym (ap (λ (v : View). v.number) stands)))
        by (installs above same stands is) =
            ap (λ (q : TcPart). q.coordinator.number) same ∙ sym (ap (λ (v : View). v.number) stands)

    laid : IsLaid layout between
    laid = tc_enters start p stood x between view front entering step.laid

    some : ChainsAreSome layout
    some =
        chains_in start all moment.cluster view
        (was_in start all moment.cluster member there (e ∷ log)
        (behind_past start all e es moment member there at before))

    full : IsIn member view.full
    full = own_full start all e es moment member there at before

    -- whatever is said, an installation sends nothing of the kind
    front_routed : (A D G : TxId → Type 0) → Each (IsSentRouted layout A D G) front
    front_routed A D G = by entering
      where
        by : Entering → Each (IsSentRouted layout A D G) front
        by (remains same stands none) = subst (Each (IsSentRouted layout A D G)) (sym none) tt
        by (installs above same stands is) =
            subst (Each (IsSentRouted layout A D G)) (sym is)
            (each_append (IsSentRouted layout A D G) (install_row p.coordinator x.view).effects.sends
            (dih.install_row p.dih x.view.number).effects.sends
            (installs_routed layout A D G p.coordinator x.view)
            (all_aside_routed layout A D G (dih.install_row p.dih x.view.number).effects.sends
            (epochs_install_aside p.dih x.view.number)))

    front_unsent : (tx : TxId) → IsUnsent tx front
    front_unsent tx =
        unsent_of layout Nobody Nobody Nobody tx front (λ nobody. nobody) (λ nobody. nobody)
        (front_routed Nobody Nobody Nobody)

    module _ (signals : EachSent start (IsRoutedSignal start old) old)
        (had : CoordinatorHas start e es member old (old (tc_of start member)))
        (gathered : GatheredAre (IsOrphan stood) (takeover_after start member log))
      where
        abbrev A0 : TxId → Type 0
        A0 = WasAskedIn start (logs_of start es) view

        abbrev D0 : TxId → Type 0
        D0 = WasDrivenIn start (logs_of start es) view

        abbrev G0 : TxId → Type 0
        G0 = IsGivenUp start (logs_of start es)

        abbrev A : TxId → Type 0
        A = WasAskedIn start (logs_of start (e ∷ es)) view

        abbrev D : TxId → Type 0
        D = WasDrivenIn start (logs_of start (e ∷ es)) view

        abbrev G : TxId → Type 0
        G = IsGivenUp start (logs_of start (e ∷ es))

        has : CoordinatorHasRoutes layout A0 D0 G0 between.coordinator
        has = enters_has start all e es moment member there at before p step.runs had between front entering

        -- its takeover has gathered only transactions of coordinators that are gone
        has_gathered : GatheredAre (IsOrphan view) between.takeover
        has_gathered = by entering
          where
            here : GatheredAre (IsOrphan stood) p.takeover
            here =
                subst (GatheredAre (IsOrphan stood))
                (takeover_is start member (tc_of start member) log refl p step.runs) gathered

            by : Entering → GatheredAre (IsOrphan view) between.takeover
            by (remains same stands none) =
                subst (λ (v : View). GatheredAre (IsOrphan v) between.takeover) (sym stands)
                (subst (λ (q : TcPart). GatheredAre (IsOrphan stood) q.takeover) (sym same) here)
            by (installs above same stands is) =
                subst (λ (q : TcPart). GatheredAre (IsOrphan view) q.takeover) (sym same) tt

        -- a full member's transaction isn't of a coordinator that is gone
        of_view : (tx : TxId) → IsIn (coordinator_member tx) view.full → IsOrphan view tx → ⊥
        of_view tx inside orphan = true≢false (sym (coordinated view.full tx inside) ∙ orphan)

        takeover_routed : (A D G : TxId → Type 0) → ((tx : TxId) → IsOrphan view tx → D tx)
            → Each (IsSentRouted layout A D G) (takeover_row between.takeover x).effects.sends
        takeover_routed A D G so =
            takeover_sends_routed A D G layout between.takeover x laid.takeover some
            (each_map (λ (g : Gathered). IsOrphan view g.tx) (λ (g : Gathered). D g.tx) between.takeover.gathered
            (λ g orphan. so g.tx orphan) has_gathered)

        -- what the coordinator takes is routed, unless it is idle at it
        module _ (passed : IsPassed start.shape (part.Tc between) view x) where
          taken : (b : BlockId) → x.to.block ≡ b → IsTakenNow start all e es moment b
          taken b to =
              handled_now start all e es moment tc_kind tc_is p
              (subst (λ k. (after start k (old k)).parts ≡ part.Tc p) (sym at) step.runs) between front
              (subst
              (λ k. PartEnters tc_kind p (view_after start k (old k)) x between (view_after start k (e ∷ old k)) front)
              (sym at) entering)
              (subst (λ k. IsPassed start.shape (part.Tc between) (view_after start k (e ∷ old k)) x) (sym at) passed)
              b to

          same_view : x.view.number ≡ view.number → x.view ≡ view
          same_view same =
              subst
              (λ k. x.view.number ≡ (view_after start k (e ∷ old k)).number → x.view ≡ view_after start k (e ∷ old k))
              at (header_is start all e es moment) same

          takes_routed : x.to.block ≡ block.Tc → TakesRouted layout A0 D0 G0 between.coordinator x
          takes_routed to = by x.body refl
            where
              is_taken : IsTakenNow start all e es moment block.Tc
              is_taken = taken block.Tc to

              in_view : is_of_rows x.body ≡ true → x.view.number ≡ view.number
                  → IsRouted layout A0 D0 G0 x.to x.body
              in_view of_rows same =
                  subst
                  (λ (v : View). IsRouted (layout_in start v) (WasAskedIn start old v) (WasDrivenIn start old v) G0 x.to
                  x.body)
                  (same_view same)
                  (told_of start all e es moment (IsRoutedSignal start old) signals is_taken.sound of_rows)

              fresh : x.view.number ≡ (view_after start e.host (e ∷ old e.host)).number → x.view.number ≡ view.number
              fresh same = same ∙ ap (λ k. (view_after start k (e ∷ old k)).number) at

              by : (body : Body) → x.body ≡ body → is_idle between.coordinator x.view.number body ≡ false
                  → IsRouted layout A0 D0 G0 x.to body
              by (Chain signal) is busy =
                  subst (IsRouted layout A0 D0 G0 x.to) is
                  (in_view (ap is_of_rows is)
                  (fresh
                  (is_taken.fresh (chain_fenced x signal is)
                  ∙ sym (ap (λ (v : View). v.number) is_taken.stands))))
              by (Host (Continue (Sends tx) place)) is busy =
                  let number = number_is in
                  let low = passed.low in
                  let not_below = ltb-false x.view.number between.coordinator.number busy in
                  subst (IsRouted layout A0 D0 G0 x.to) is
                  (in_view (ap is_of_rows is) (omega (arith, number, low, not_below)))
              by body is busy = tt

        -- where the host sends nothing of its coordinator's own transactions the routes stay
        stays_has : (q : TcPart) → (after start (tc_of start member) (e ∷ log)).parts ≡ part.Tc q
            → q.coordinator ≡ between.coordinator
            → ((tx : TxId) → coordinator_member tx ≡ member → IsUnsent tx sends)
            → CoordinatorHas start e es member new (new (tc_of start member))
        stays_has q runs same unsent =
            subst (CoordinatorHas start e es member new) (sym own_log)
            (subst (CoordinatorHasRoutes layout A D G) (sym now)
            (has_less layout A0 D0 G0 A D G between.coordinator between.coordinator.tc.live
            (each_map (λ (e : TxId × Transaction). coordinator_member e.0 ≡ member)
            (λ (e : TxId × Transaction). (A e.0 → A0 e.0) × (D e.0 → D0 e.0)) between.coordinator.tc.live
            (λ e own. less e.0 own) own_live)
            given has))
          where
            own_log : new (tc_of start member) ≡ e ∷ log
            own_log = log_of-own (machine start) e es (tc_of start member) at

            now : coordinator_after start member (e ∷ log) ≡ between.coordinator
            now = coordinator_is start member (tc_of start member) (e ∷ log) refl q runs ∙ same

            given : Each (λ (e : TxId × Transaction). IsGiven G e.0 e.1.phase) between.coordinator.tc.live
            given =
                subst
                (λ (s : CoordinatorState). Each (λ (e : TxId × Transaction). IsGiven G e.0 e.1.phase) s.tc.live)
                (ap (coordinator_after start member) own_log ∙ now)
                (all_given start member there new behind moment.cluster.nobody)

            less : (tx : TxId) → coordinator_member tx ≡ member → (A tx → A0 tx) × (D tx → D0 tx)
            less tx own =
                let renews = own_renews start all e es moment member there at before behind tx own in (
                  λ was. was_so (is_sent (is_request tx) sends) (unsent tx own).unasked (renews.asked was),
                  λ was. was_so (is_sent (is_commit tx) sends) (unsent tx own).undriven (renews.driven was),
                )

        -- what the host sends, if it doesn't stop, is what was sent in front and the rest
        unsent_by : (rest : List Outgoing) (tx : TxId) → (sends ≡ front ++ rest) ⊎ (sends ≡ []) → IsUnsent tx rest
            → IsUnsent tx sends
        unsent_by rest tx (inl is) none = record {
          unasked =
              ap (is_sent (is_request tx)) is
              ∙ sent_behind (is_request tx) front rest (front_unsent tx).unasked ∙ none.unasked;
          undriven =
              ap (is_sent (is_commit tx)) is
              ∙ sent_behind (is_commit tx) front rest (front_unsent tx).undriven ∙ none.undriven;
        }
        unsent_by rest tx (inr is) none =
            record { unasked = ap (is_sent (is_request tx)) is; undriven = ap (is_sent (is_commit tx)) is }

        aside_unsent : (rest : List Outgoing) (tx : TxId) → AreAside rest → IsUnsent tx rest
        aside_unsent rest tx aside =
            unsent_of layout Nobody Nobody Nobody tx rest (λ nobody. nobody) (λ nobody. nobody)
            (all_aside_routed layout Nobody Nobody Nobody rest aside)

        own_unsent : (tx : TxId) → coordinator_member tx ≡ member
            → IsUnsent tx (takeover_row between.takeover x).effects.sends
        own_unsent tx own =
            unsent_of layout Nobody (IsOrphan view) Nobody tx (takeover_row between.takeover x).effects.sends
            (λ nobody. nobody)
            (of_view tx (subst (λ (m : Member). IsIn m view.full) (sym own) full))
            (takeover_routed Nobody (IsOrphan view) Nobody (λ tx orphan. orphan))

        abbrev Taking : Type 0
        Taking =
            PartTakes tc_kind start.shape between view x step.does.own
            step.does.rest

        abbrev later : TcPart
        later = step.does.own

        abbrev rest : List Outgoing
        rest = step.does.rest

        -- where the coordinator takes the signal
        module _ (passed : IsPassed start.shape (part.Tc between) view x) (to : x.to.block ≡ block.Tc)
            (same : later.coordinator ≡ (coordinator_row between.coordinator x).state)
            (is : rest ≡ (coordinator_row between.coordinator x).effects.sends)
          where
            abbrev row_sends : List Outgoing
            row_sends = (coordinator_row between.coordinator x).effects.sends

            now : coordinator_after start member (e ∷ log) ≡ (coordinator_row between.coordinator x).state
            now = coordinator_is start member (tc_of start member) (e ∷ log) refl later step.does.is ∙ same

            sent_in : (q : Body → Bool) → is_sent q front ≡ false → is_sent q sends ≡ true
                → is_sent q row_sends ≡ true
            sent_in q none told = by step.does.sent
              where
                by : (sends ≡ front ++ rest) ⊎ (sends ≡ []) → is_sent q row_sends ≡ true
                by (inl whole) =
                    ap (is_sent q) (sym is) ∙ sym (sent_behind q front rest none) ∙ ap (is_sent q) (sym whole) ∙ told
                by (inr nothing) = absurd (true≢false (sym told ∙ ap (is_sent q) nothing))

            row_sent : (tx : TxId)
                → (is_sent (is_request tx) sends ≡ true → is_sent (is_request tx) row_sends ≡ true)
                × (is_sent (is_commit tx) sends ≡ true → is_sent (is_commit tx) row_sends ≡ true)
            row_sent tx = (
              sent_in (is_request tx) (front_unsent tx).unasked,
              sent_in (is_commit tx) (front_unsent tx).undriven,
            )

            row_has : CoordinatorHas start e es member new (new (tc_of start member))
            row_has =
                takes_has start all e es moment member there at before behind between.coordinator now row_sent
                laid.coordinator once answered has (takes_routed passed to)

            abbrev Asked : TxId → Type 0
            Asked tx = OrAsked A0 row_sends tx

            abbrev Driven : TxId → Type 0
            Driven tx = OrDriven D0 row_sends tx

            -- all that it sends is of this view then
            module _ (whole : sends ≡ front ++ rest) where
              all_own : Each (λ (sent : Outgoing). IsOfMember member sent.body) sends
              all_own =
                  subst (Each (λ (sent : Outgoing). IsOfMember member sent.body)) (sym whole)
                  (each_append (λ (sent : Outgoing). IsOfMember member sent.body) front rest
                  (nobody_of layout Nobody member front (front_routed Nobody Nobody Nobody))
                  (subst (Each (λ (sent : Outgoing). IsOfMember member sent.body)) (sym is)
                  (sends_of_member member between.coordinator x own_live)))

              all_makes : Each (λ (sent : Outgoing). IsMade A D sent.body) sends
              all_makes =
                  subst
                  (λ k. view_after start k (e ∷ old k) ≡ view
                  → Each (λ (sent : Outgoing). IsOfMember member sent.body) (step_after start k (old k) e).effects.sends
                  → Each (λ (sent : Outgoing). IsMade A D sent.body) (step_after start k (old k) e).effects.sends) at
                  (λ stands own. makes start e es member at view stands full own) refl all_own

              in_sends : (q : Body → Bool) → is_sent q front ≡ false → is_sent q row_sends ≡ true
                  → is_sent q sends ≡ true
              in_sends q none told =
                  ap (is_sent q) whole ∙ sent_behind q front rest none ∙ ap (is_sent q) is ∙ told

              more : Grows Asked Driven G A D G
              more = record {
                asked = λ tx. is_asked tx;
                driven = λ tx. is_driven tx;
                given = λ tx given. given;
              }
                where
                  is_asked : (tx : TxId) → OrAsked A0 row_sends tx → A tx
                  is_asked tx (inl was) = (grows start e es view).asked tx was
                  is_asked tx (inr told) =
                      asked_of A D tx sends all_makes (in_sends (is_request tx) (front_unsent tx).unasked told)

                  is_driven : (tx : TxId) → OrDriven D0 row_sends tx → D tx
                  is_driven tx (inl was) = (grows start e es view).driven tx was
                  is_driven tx (inr told) =
                      driven_of A D tx sends all_makes (in_sends (is_commit tx) (front_unsent tx).undriven told)

              row_routed : Each (IsSentRouted layout A D G) rest
              row_routed =
                  subst (Each (IsSentRouted layout A D G)) (sym is)
                  (each_map (IsSentRouted layout Asked Driven G) (IsSentRouted layout A D G) row_sends
                  (λ sent routed. routed_more layout Asked Driven G A D G more sent.to sent.body routed)
                  (goes start all e es moment member there at before behind between.coordinator now row_sent
                  laid.coordinator once answered has (takes_routed passed to)).sends)

        -- what the takeover sends of others is routed anyhow
        driven_anyhow : (tx : TxId) → IsOrphan view tx → D tx
        driven_anyhow tx orphan inside = absurd (of_view tx inside orphan)

        pub own_has : CoordinatorHas start e es member new (new (tc_of start member))
        unfolding tc_row
        own_has = by step.does.takes
          where
            still : later.coordinator ≡ between.coordinator
                → ((tx : TxId) → coordinator_member tx ≡ member → IsUnsent tx rest)
                → CoordinatorHas start e es member new (new (tc_of start member))
            still same none =
                stays_has later step.does.is same (λ tx mine. unsent_by rest tx step.does.sent (none tx mine))

            row : IsPassed start.shape (part.Tc between) view x → (b : BlockId) → x.to.block ≡ b
                → later ≡ (tc_row between b x).state → rest ≡ (tc_row between b x).effects.sends
                → CoordinatorHas start e es member new (new (tc_of start member))
            row passed block.Tc to same is = row_has passed to (ap (λ (q : TcPart). q.coordinator) same) is
            row passed block.Takeover to same is =
                still (ap (λ (q : TcPart). q.coordinator) same)
                (λ tx mine. subst (IsUnsent tx) (sym is) (own_unsent tx mine))
            row passed block.Dih to same is =
                still (ap (λ (q : TcPart). q.coordinator) same)
                (λ tx mine. aside_unsent rest tx (subst AreAside (sym is) (epochs_aside between.dih x)))
            row passed _ to same is =
                still (ap (λ (q : TcPart). q.coordinator) same)
                (λ tx mine. aside_unsent rest tx (subst AreAside (sym is) tt))

            by : Taking → CoordinatorHas start e es member new (new (tc_of start member))
            by (ignores same none) =
                still (ap (λ (q : TcPart). q.coordinator) same)
                (λ tx mine. aside_unsent rest tx (subst AreAside (sym none) tt))
            by (handles passed same is) = row passed x.to.block refl same is

        pub own_sends : Each (IsSentRouted layout A D G) sends
        unfolding tc_row
        own_sends = by step.does.sent
          where
            row : sends ≡ front ++ rest → IsPassed start.shape (part.Tc between) view x → (b : BlockId)
                → x.to.block ≡ b → later ≡ (tc_row between b x).state → rest ≡ (tc_row between b x).effects.sends
                → Each (IsSentRouted layout A D G) rest
            row whole passed block.Tc to same is =
                row_routed passed to (ap (λ (q : TcPart). q.coordinator) same) is whole
            row whole passed block.Takeover to same is =
                subst (Each (IsSentRouted layout A D G)) (sym is) (takeover_routed A D G driven_anyhow)
            row whole passed block.Dih to same is =
                subst (Each (IsSentRouted layout A D G)) (sym is)
                (all_aside_routed layout A D G (dih_row between.dih x).effects.sends (epochs_aside between.dih x))
            row whole passed _ to same is = subst (Each (IsSentRouted layout A D G)) (sym is) tt

            taking : sends ≡ front ++ rest → Taking → Each (IsSentRouted layout A D G) rest
            taking whole (ignores same none) = subst (Each (IsSentRouted layout A D G)) (sym none) tt
            taking whole (handles passed same is) = row whole passed x.to.block refl same is

            by : (sends ≡ front ++ rest) ⊎ (sends ≡ []) → Each (IsSentRouted layout A D G) sends
            by (inl whole) =
                subst (Each (IsSentRouted layout A D G)) (sym whole)
                (each_append (IsSentRouted layout A D G) front rest (front_routed A D G)
                (taking whole step.does.takes))
            by (inr nothing) = subst (Each (IsSentRouted layout A D G)) (sym nothing) tt
