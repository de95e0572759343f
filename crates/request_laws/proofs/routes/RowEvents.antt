-- At an event of the host of a member's rows, what waits there goes on to be routed, and so is what the host sends.
use Rattle.std.proofs.Common.{◌≡◌, ◌⊎◌, ◌++◌, ◌∙◌, ℕ, true, List, [], ◌∷◌, inl, inr, refl, sym, ap, subst}
use Rattle.run_theory.specs.Lists.{Each, IsIn}
use Rattle.run_theory.proofs.Pasts.{each_append}
use Rattle.run_theory.proofs.Runs.{log_of-own}
use Rattle.sig_core.specs.declared.member.Member.{Member}
use Rattle.sig_core.specs.declared.member.TxId.{TxId}
use Rattle.sig_core.specs.declared.outs.Outgoing.{Outgoing}
use Rattle.sig_core.specs.declared.place.BlockId.{BlockId}
use Rattle.sig_core.specs.declared.place.BlockId.TheVariants as block
use Rattle.sig_core.specs.declared.signal.Body.{Body}
use Rattle.sig_core.specs.declared.signal.Body.TheVariants.{Chain}
use Rattle.sig_core.specs.declared.signal.Signal.{Signal}
use Rattle.sig_core.specs.declared.view.View.{View}
use Rattle.sig_core.specs.Place.{rows_of}
use Rattle.frag_map.specs.Layout.{Layout}
use Rattle.tc_block.proofs.LiveKeeps.{is_chain}
use Rattle.lqh_saver.specs.Saver.{saver_row}
use Rattle.lqh_saver.specs.State.{SavingState, saving}
use Rattle.lqh_saver.proofs.StepLemmas.{saver_rows, saver_sends}
use Rattle.lqh_views.specs.Replica.{installed}
use Rattle.lqh_views.specs.State.{ReplicaState}
use Rattle.node_views.specs.declared.ldm_part.LdmPart.{LdmPart}
use Rattle.node_views.specs.declared.parts.Parts.TheVariants as part
use Rattle.node_views.specs.Parts.{ldm_row}
use Rattle.world_core.specs.Start.{Start, made}
use Rattle.world_core.specs.Steps.{HostStep}
use Rattle.world_views.specs.Machine.{after, machine, step_after}
use Rattle.view_laws.specs.Runs.{view_after}
use Rattle.moment_laws.specs.Moments.{IsMoment, logs_of}
use Rattle.moment_laws.specs.Parts.{IsPassed}
use Rattle.moment_laws.specs.PartSteps.{PartEnters, PartTakes, handles, ignores, installs, ldm_kind, remains}
use Rattle.moment_laws.specs.Places.{ldm_of}
use Rattle.moment_laws.proofs.MomentSignals.{EachSent}
use Rattle.moment_laws.proofs.PartKinds.{ldm_is}
use Rattle.moment_laws.proofs.PartTaken.{IsTakenNow, handled_now}
use Rattle.run_laws.proofs.tokens.Waiting.{WaitersAsk}
use Rattle.request_laws.specs.Blocks.{rows_after}
use Rattle.request_laws.specs.Routed.{IsGivenUp, IsRoutedSignal, WasAskedIn, WasDrivenIn, layout_in}
use Rattle.request_laws.specs.Routes.{IsRouted, IsSentRouted, WaitsRouted}
use Rattle.request_laws.proofs.routes.BesideRows.{is_of_rows}
use Rattle.request_laws.proofs.routes.Driven.{grows}
use Rattle.request_laws.proofs.routes.OtherHosts.{RowsHave, signal_stays, waits_more}
use Rattle.request_laws.proofs.routes.Headers.{chain_fenced, header_is, told_of}
use Rattle.request_laws.proofs.routes.Layouts.{AreLaid, ldm_enters}
use Rattle.request_laws.proofs.routes.Places.{is_for_rows, rows_know_node}
use Rattle.request_laws.proofs.routes.Rows.{IsForRows, none_wait_installed, rows_send_routed, rows_wait_routed}
use Rattle.request_laws.proofs.routes.PartSteps.{LdmStep, own_ldm, rows_are}
use Rattle.request_laws.proofs.replicas.WaitersHaveRequests.{none_ask_installed}
use Rattle.request_laws.proofs.tokens.Rows.{waiters_ask}

-- a signal of chains is about rows
of_rows : (body : Body) → is_chain body ≡ true → is_of_rows body ≡ true
of_rows (Chain signal) is = refl
of_rows body is = absurd cc

module _ (start : Start) (all : ℕ → List HostStep) (e : HostStep) (es : List HostStep)
    (moment : IsMoment start all (e ∷ es)) (member : Member) (there : IsIn member (made start))
    (at : e.host ≡ ldm_of start member)
    (signals : EachSent start (IsRoutedSignal start (logs_of start es)) (logs_of start es))
    (had : RowsHave start e es member (logs_of start es) (logs_of start es (ldm_of start member)))
  where
    abbrev old : ℕ → List HostStep
    old = logs_of start es

    abbrev new : ℕ → List HostStep
    new = logs_of start (e ∷ es)

    abbrev log : List HostStep
    log = logs_of start es (ldm_of start member)

    abbrev stood : View
    stood = view_after start (ldm_of start member) log

    abbrev view : View
    view = view_after start (ldm_of start member) (e ∷ log)

    abbrev layout : Layout
    layout = layout_in start view

    abbrev A : TxId → Type 0
    A = WasAskedIn start (logs_of start (e ∷ es)) view

    abbrev D : TxId → Type 0
    D = WasDrivenIn start (logs_of start (e ∷ es)) view

    abbrev G : TxId → Type 0
    G = IsGivenUp start (logs_of start (e ∷ es))

    abbrev x : Signal
    x = e.step.taken

    abbrev sends : List Outgoing
    sends = (step_after start (ldm_of start member) log e).effects.sends

    abbrev step : LdmStep start (ldm_of start member) log e
    step = own_ldm start moment.cluster.nobody member there log e

    abbrev p : LdmPart
    p = step.own

    abbrev between : LdmPart
    between = step.does.between

    abbrev later : LdmPart
    later = step.does.own

    abbrev front : List Outgoing
    front = step.does.front

    abbrev rest : List Outgoing
    rest = step.does.rest

    abbrev Entering : Type 0
    Entering = PartEnters ldm_kind p stood x between view front

    abbrev Taking : Type 0
    Taking = PartTakes ldm_kind start.shape between view x later rest

    entering : Entering
    entering = step.does.enters

    -- the rows before the signal is taken: as they were, or behind an installation
    between_is : (P : ReplicaState → Type 0) → P (rows_after start member log)
        → ((s : ReplicaState) → P s → P (installed s x.view)) → P between.replica
    between_is P here set = by entering
      where
        before : P p.replica
        before = subst P (rows_are start member (ldm_of start member) log refl p step.runs) here

        by : Entering → P between.replica
        by (remains same stands none) = subst (λ (q : LdmPart). P q.replica) (sym same) before
        by (installs above same stands is) = subst (λ (q : LdmPart). P q.replica) (sym same) (set p.replica before)

    ask : WaitersAsk between.replica.lqh
    ask =
        between_is (λ (s : ReplicaState). WaitersAsk s.lqh) (waiters_ask start moment.cluster.nobody member there log)
        (λ s before. none_ask_installed s x.view)

    node_is : between.replica.lqh.node ≡ member.node
    node_is =
        between_is (λ (s : ReplicaState). s.lqh.node ≡ member.node)
        (rows_know_node start moment.cluster.nobody member there log)
        (λ s before. before)

    laid : AreLaid layout between
    laid = ldm_enters start p stood x between view front entering step.laid

    -- what waits is routed, or nothing waits
    waits : WaitsRouted layout A D G between.replica
    waits = by entering
      where
        before : WaitsRouted (layout_in start stood) (WasAskedIn start new stood) (WasDrivenIn start new stood) G
            p.replica
        before =
            waits_more (layout_in start stood) (WasAskedIn start old stood) (WasDrivenIn start old stood)
            (IsGivenUp start old) (WasAskedIn start new stood) (WasDrivenIn start new stood) G (grows start e es stood)
            p.replica
            (subst
            (WaitsRouted (layout_in start stood) (WasAskedIn start old stood) (WasDrivenIn start old stood)
            (IsGivenUp start old)) (rows_are start member (ldm_of start member) log refl p step.runs) had)

        by : Entering → WaitsRouted layout A D G between.replica
        by (remains same stands none) =
            subst
            (λ (v : View). WaitsRouted (layout_in start v) (WasAskedIn start new v) (WasDrivenIn start new v) G
            between.replica) (sym stands)
            (subst
            (λ (q : LdmPart). WaitsRouted (layout_in start stood) (WasAskedIn start new stood)
            (WasDrivenIn start new stood) G q.replica) (sym same) before)
        by (installs above same stands is) =
            subst (λ (q : LdmPart). WaitsRouted layout A D G q.replica) (sym same)
            (none_wait_installed layout A D G p.replica x.view)

    -- the rows take the signal
    module _ (passed : IsPassed start.shape (part.Ldm between) view x) (to : x.to.block ≡ block.Lqh) where
      taken : IsTakenNow start all e es moment block.Lqh
      taken =
          handled_now start all e es moment ldm_kind ldm_is p
          (subst (λ k. (after start k (old k)).parts ≡ part.Ldm p) (sym at) step.runs) between front
          (subst
          (λ k. PartEnters ldm_kind p (view_after start k (old k)) x between (view_after start k (e ∷ old k)) front)
          (sym at) entering)
          (subst (λ k. IsPassed start.shape (part.Ldm between) (view_after start k (e ∷ old k)) x) (sym at) passed)
          block.Lqh to

      routed : is_chain x.body ≡ true → IsRouted layout A D G x.to x.body
      routed is = by x.body refl is
        where
          told : is_of_rows x.body ≡ true
              → IsRouted (layout_in start x.view) (WasAskedIn start new x.view) (WasDrivenIn start new x.view) G x.to
              x.body
          told of =
              signal_stays start e es (record { to = e.host; signal = x })
              (told_of start all e es moment (IsRoutedSignal start old) signals taken.sound of)

          by : (body : Body) → x.body ≡ body → is_chain body ≡ true → IsRouted layout A D G x.to x.body
          by (Chain signal) same is =
              subst
              (λ (v : View). IsRouted (layout_in start v) (WasAskedIn start new v) (WasDrivenIn start new v) G x.to
              x.body)
              (header_is start all e es moment
              (taken.fresh (chain_fenced x signal same) ∙ sym (ap (λ (v : View). v.number) taken.stands))
              ∙ ap (λ k. view_after start k (e ∷ old k)) at)
              (told (ap is_of_rows same))
          by body same is = absurd cc

      here : IsForRows between.replica x
      here is =
          is_for_rows start all e es moment member there at taken.sound to (of_rows x.body is)
          ∙ ap rows_of (sym node_is)

      abbrev own : SavingState
      own = saving between.replica between.saver

      row_waits : WaitsRouted layout A D G (saver_row own x).state.replica
      row_waits =
          saver_rows own x (WaitsRouted layout A D G) waits
          (rows_wait_routed layout A D G between.replica x laid ask waits routed here) (λ at has. waits)

      row_sends : Each (IsSentRouted layout A D G) (saver_row own x).effects.sends
      row_sends =
          saver_sends own x (Each (IsSentRouted layout A D G))
          (rows_send_routed layout A D G between.replica x laid ask waits routed here) tt (record {
            goes_on = λ is. (tt, tt);
            reports = λ walk node is walking. (tt, tt);
            confirms = λ finished end ordered walked usable. (tt, tt);
          })

    own_waits : WaitsRouted layout A D G later.replica
    unfolding ldm_row
    own_waits = by step.does.takes
      where
        row : IsPassed start.shape (part.Ldm between) view x → (b : BlockId) → x.to.block ≡ b
            → WaitsRouted layout A D G (ldm_row between b x).state.replica
        row passed block.Lqh to = row_waits passed to
        row passed _ to = waits

        by : Taking → WaitsRouted layout A D G later.replica
        by (ignores same none) = subst (λ (q : LdmPart). WaitsRouted layout A D G q.replica) (sym same) waits
        by (handles passed same is) =
            subst (λ (q : LdmPart). WaitsRouted layout A D G q.replica) (sym same) (row passed x.to.block refl)

    pub rows_have : RowsHave start e es member (logs_of start (e ∷ es)) (logs_of start (e ∷ es) (ldm_of start member))
    rows_have =
        subst (RowsHave start e es member new) (sym (log_of-own (machine start) e es (ldm_of start member) at))
        (subst (WaitsRouted layout A D G)
        (sym (rows_are start member (ldm_of start member) (e ∷ log) refl later step.does.is)) own_waits)

    pub rows_send : Each (IsSentRouted layout A D G) sends
    unfolding ldm_row
    rows_send = by step.does.sent
      where
        in_front : Entering → Each (IsSentRouted layout A D G) front
        in_front (remains same stands none) = subst (Each (IsSentRouted layout A D G)) (sym none) tt
        in_front (installs above same stands is) = subst (Each (IsSentRouted layout A D G)) (sym is) tt

        row : IsPassed start.shape (part.Ldm between) view x → (b : BlockId) → x.to.block ≡ b
            → Each (IsSentRouted layout A D G) (ldm_row between b x).effects.sends
        row passed block.Lqh to = row_sends passed to
        row passed _ to = tt

        behind : Taking → Each (IsSentRouted layout A D G) rest
        behind (ignores same none) = subst (Each (IsSentRouted layout A D G)) (sym none) tt
        behind (handles passed same is) =
            subst (Each (IsSentRouted layout A D G)) (sym is) (row passed x.to.block refl)

        by : (sends ≡ front ++ rest) ⊎ (sends ≡ []) → Each (IsSentRouted layout A D G) sends
        by (inl whole) =
            subst (Each (IsSentRouted layout A D G)) (sym whole)
            (each_append (IsSentRouted layout A D G) front rest (in_front entering) (behind step.does.takes))
        by (inr nothing) = subst (Each (IsSentRouted layout A D G)) (sym nothing) tt
