-- What the hosts of an event make of closed and durable epochs: what each notes, and tells.
use Rattle.std.proofs.Common.{◌≡◌, ◌≤◌, ◌⊎◌, ◌++◌, ℕ, zero, suc, true, List, [], ◌∷◌, refl, sym, ap, subst, ◌∙◌, inl}
use Rattle.std.proofs.Common.{inr, arith}
use Rattle.frag_map.specs.Layout.{first_layout}
use Rattle.run_theory.proofs.Pasts.{each_append, each_in, each_map, in_append}
use Rattle.run_theory.specs.Lists.{IsIn}
use Rattle.sig_core.specs.declared.mark.Mark.{Mark}
use Rattle.sig_core.specs.declared.mark.Mark.TheVariants.{Closed}
use Rattle.sig_core.specs.declared.member.Member.{Member}
use Rattle.sig_core.specs.declared.outs.Outgoing.{Outgoing}
use Rattle.sig_core.specs.declared.place.BlockId.{BlockId}
use Rattle.sig_core.specs.declared.place.BlockId.TheVariants as block
use Rattle.sig_core.specs.declared.place.Part.TheVariants.{Main, Tc}
use Rattle.sig_core.specs.declared.signal.Body.{Body}
use Rattle.sig_core.specs.declared.signal.Body.TheVariants.{Epoch}
use Rattle.sig_core.specs.declared.signal.Signal.{Signal}
use Rattle.sig_core.specs.declared.view.View.{View}
use Rattle.sig_core.specs.Step.{Step}
use Rattle.dih_node.specs.Dih.{dih_row, fresh_dih}
use Rattle.dih_node.specs.Orders as dih
use Rattle.dih_node.specs.State.{DihState}
use Rattle.gcp_master.specs.declared.phase.Phase.{Phase}
use Rattle.gcp_master.specs.declared.phase.Phase.TheVariants.{Gathering, Closing, Saving, Copying}
use Rattle.gcp_master.specs.Master.{fresh_master, master_row}
use Rattle.gcp_master.specs.State.{MasterState}
use Rattle.node_views.specs.declared.host_body.HostBody as node
use Rattle.node_views.specs.declared.main_part.MainPart.{MainPart}
use Rattle.node_views.specs.declared.parts.Parts.{Parts}
use Rattle.node_views.specs.declared.parts.Parts.TheVariants as part
use Rattle.node_views.specs.declared.tc_part.TcPart.{TcPart}
use Rattle.node_views.specs.Parts.{main_row, tc_entered, tc_row}
use Rattle.node_views.specs.WellFormed.{is_well_formed}
use Rattle.takeover_block.specs.Takeover.{takeover_row}
use Rattle.tc_views.specs.Coordinator.{coordinator_row}
use Rattle.world_core.specs.Hosts.{member_at}
use Rattle.world_core.specs.Start.{Start, made}
use Rattle.world_core.specs.Steps.{HostStep}
use Rattle.world_views.specs.Machine.{after, step_after, told}
use Rattle.view_laws.specs.Runs.{view_after}
use Rattle.view_laws.specs.Votes.{main_of}
use Rattle.moment_laws.specs.Moments.{IsMoment, current, logs_of}
use Rattle.moment_laws.specs.Parts.{IsPassed}
use Rattle.moment_laws.specs.PartSteps.{PartEnters, PartTakes, TcDoes, handles, ignores, installs, remains, tc_kind}
use Rattle.moment_laws.specs.Places.{ldm_of, tc_of}
use Rattle.moment_laws.proofs.MomentHosts.{part_some, tc_member}
use Rattle.moment_laws.proofs.MomentMembers.{current_host}
use Rattle.moment_laws.proofs.MomentSignals.{epoch_told}
use Rattle.moment_laws.proofs.MomentTurns.{host_low, own_behind, own_log}
use Rattle.moment_laws.proofs.PartKinds.{tc_after, tc_is}
use Rattle.moment_laws.proofs.PartTaken.{IsTakenNow, handled_now}
use Rattle.outcome_laws.specs.Decided.{IsMarked}
use Rattle.epoch_laws.specs.Members.{dih_in, epochs_of, master_in, master_of}
use Rattle.epoch_laws.specs.Stand.{AllStand}
use Rattle.epoch_laws.proofs.DihMoves.{dih_installs_stay, dih_moves}
use Rattle.epoch_laws.proofs.MasterSends.{MaySay, master_says}
use Rattle.epoch_laws.proofs.MasterSpeaks.{installed}
use Rattle.epoch_laws.proofs.SentKinds.{coordinator_none, takeover_none}
use Rattle.epoch_laws.proofs.SentMembership.{Orders}
use Rattle.epoch_laws.proofs.SentNone.{AreNoOrders, IsNoOrder}
use Rattle.epoch_laws.proofs.SentParts.{entered_none, rows_send, shell_sends_none}
use Rattle.epoch_laws.proofs.SentRows.{IsOfRows}
use Rattle.epoch_laws.proofs.StandKinds.{RunsMain, RunsRows, RunsShell, main_at, master_at, runs_rows}
use Rattle.epoch_laws.proofs.StandKinds.{runs_shell}
use Rattle.epoch_laws.proofs.StandMarks.{full_before, marks_are}
use Rattle.epoch_laws.proofs.StandTakes.{taken_rises}
use Rattle.epoch_laws.proofs.StepKinds.{RunsTc, tc_at}
use Rattle.epoch_laws.proofs.StepMain.{IsStepOfMain, main_steps}
use Rattle.epoch_laws.proofs.StepMain as main
use Rattle.closing_laws.specs.Closed.{WasClosed}
use Rattle.closing_laws.proofs.durable.BehindClosed.{AllReached}
use Rattle.closing_laws.proofs.durable.Noted.{dih_installs_note, dih_notes}
use Rattle.closing_laws.proofs.durable.Reached.{HasReached, reached_stays}
use Rattle.closing_laws.proofs.durable.Statement.{AllNoted, AllSaid, HasNoted, IsGoodPhase, IsSaidTruly, IsTrulySaid}
use Rattle.closing_laws.proofs.durable.Statement.{closed_grows, dih_noted, dih_said, has_grows, installed_noted}
use Rattle.closing_laws.proofs.durable.Statement.{master_said, none_said, orders_said, phase_grows, rows_said}
use Rattle.closing_laws.proofs.durable.Statement.{told_truly}
use Rattle.closing_laws.proofs.durable.Tells.{TellsNoted, dih_tells_noted}
use Rattle.closing_laws.proofs.durable.WereClosed.{IsKnownTruly, copying_closed, learned_truly, nothing_truly}
use Rattle.closing_laws.proofs.closers.MainSteps.{Entering, Goes, Left, enters, leaves, main_goes, stays, takes}
use Rattle.closing_laws.proofs.closers.MainSteps as goes
use Rattle.closing_laws.proofs.durable.LateMasters.{IsGood, LateOrMarked, master_lates}

-- the parts of a host of a node are those of its step
told_parts : (h : ℕ) → 1 ≤ h → (t : Step node.HostBody) → (told h t).parts ≡ t.state.parts
told_parts zero some t = absurd (omega (arith, some))
told_parts (suc h) some t = refl

module _ (start : Start) (all : ℕ → List HostStep) (e : HostStep) (es : List HostStep)
    (moment : IsMoment start all (e ∷ es)) (stand : AllStand start (logs_of start es))
    (reached : AllReached start (logs_of start es)) (noted : AllNoted start (logs_of start es))
  where
    abbrev old : ℕ → List HostStep
    old = logs_of start es

    abbrev new : ℕ → List HostStep
    new = logs_of start (e ∷ es)

    abbrev x : Signal
    x = e.step.taken

    abbrev stood : View
    stood = view_after start e.host (e ∷ old e.host)

    abbrev sends : List Outgoing
    sends = (step_after start e.host (old e.host) e).effects.sends

    -- what is taken was said truly
    said_now : is_well_formed start.shape x ≡ true → IsSaidTruly start old x.body
    said_now sound = by x.body refl
      where
        by : (body : Body) → x.body ≡ body → IsSaidTruly start old body
        by (Epoch signal) is =
            subst (IsSaidTruly start old) is
            (epoch_told start (IsTrulySaid start old) all e es moment noted.said sound signal is)
        by body is = tt

    all_none : (os : List Outgoing) → AreNoOrders os → AllSaid start new os
    all_none os none =
        each_map IsNoOrder (λ (sent : Outgoing). IsSaidTruly start new sent.body) os
        (λ sent is. none_said start new sent.body is) none

    -- rows
    pub ldm_said : (me : Member) → IsIn me (made start) → e.host ≡ ldm_of start me → AllSaid start new sends
    ldm_said me there at =
        let runs : RunsRows start (after start e.host (old e.host)).parts =
        subst (λ h. RunsRows start (after start h (old h)).parts) (sym at)
        (runs_rows start moment.cluster.nobody me there (old (ldm_of start me))) in
        each_map IsOfRows (λ (sent : Outgoing). IsSaidTruly start new sent.body) sends
        (λ sent is. rows_said start new sent.body is)
        (rows_send e.host (after start e.host (old e.host)) x runs.rows runs.is)

    -- epochs
    module _ (me : Member) (there : IsIn me (made start)) (at : e.host ≡ tc_of start me) where
      tc_runs : RunsTc start e.host (old e.host)
      tc_runs = tc_at start e.host moment.cluster.nobody me there at (old e.host)

      tc_did : TcDoes start.shape tc_runs.part (view_after start e.host (old e.host)) x
          (after start e.host (e ∷ old e.host)).parts stood sends
      tc_did =
          tc_after start moment.cluster.nobody e.host (old e.host) e
          (subst (λ h. 1 ≤ h) (sym at) (part_some start Tc me)) tc_runs.part
          tc_runs.is

      abbrev epochs_in : Parts → DihState
      epochs_in parts = dih_in (fresh_dih 0 0 0 0) parts

      tc_old : HasNoted start old tc_runs.part.dih
      tc_old =
          subst (HasNoted start old)
          (ap (λ h. epochs_in (after start h (old h)).parts) (sym at) ∙ ap epochs_in tc_runs.is) (noted.epochs me there)

      tc_new : epochs_of start new me ≡ tc_did.own.dih
      tc_new =
          ap (λ h. epochs_in (after start h (new h)).parts) (sym at)
          ∙ ap (λ log. epochs_in (after start e.host log).parts) (own_log start all e es moment)
          ∙ ap epochs_in tc_did.is

      abbrev TcEnters : Type 0
      TcEnters =
          PartEnters tc_kind tc_runs.part (view_after start e.host (old e.host)) x tc_did.between stood tc_did.front

      tc_between : TcEnters → HasNoted start old tc_did.between.dih
      tc_between (remains same stands none) =
          subst (λ (p : TcPart). HasNoted start old p.dih) (sym same) tc_old
      tc_between (installs above same stands is) =
          let before = tc_runs.part.dih in
          subst (λ (p : TcPart). HasNoted start old p.dih) (sym same)
          (installed_noted start old before (dih.install_row before x.view.number).state tc_old
          (dih_installs_note before x.view.number) (dih_installs_stay before x.view.number))

      -- where it takes the signal it is a full member, and has come to each epoch that was closed
      tc_reached : TcEnters → IsTakenNow start all e es moment block.Dih → (epoch : ℕ) → WasClosed start old epoch
          → HasReached epoch tc_did.between.dih
      tc_reached entering taken epoch was = by entering
        where
          member_is : member_at (made start) e.host ≡ me
          member_is = ap (member_at (made start)) at ∙ tc_member start moment.cluster.nobody me there

          full : IsIn me (current start old).full
          full =
              full_before start all e es moment stand me
              (subst (λ (m : Member). IsIn m (current start new).full) member_is
              (current_host start all (e ∷ es) moment e.host (subst (λ h. 1 ≤ h) (sym at) (part_some start Tc me))
              (host_low start all e es moment) (own_behind start all e es moment ∙ taken.stands)))

          before : HasReached epoch tc_runs.part.dih
          before =
              subst (HasReached epoch)
              (ap (λ h. epochs_in (after start h (old h)).parts) (sym at) ∙ ap epochs_in tc_runs.is)
              (each_in (λ (m : Member). HasReached epoch (epochs_of start old m)) me (current start old).full
              (reached.closed was.host epoch was.below was.marked) full)

          by : TcEnters → HasReached epoch tc_did.between.dih
          by (remains same stands none) = subst (λ (p : TcPart). HasReached epoch p.dih) (sym same) before
          by (installs above same stands is) =
              subst (λ (p : TcPart). HasReached epoch p.dih) (sym same)
              (reached_stays epoch tc_runs.part.dih (dih.install_row tc_runs.part.dih x.view.number).state
              (dih_installs_stay tc_runs.part.dih x.view.number) before)

      tc_front : TcEnters → AllSaid start new tc_did.front
      tc_front (remains same stands none) = subst (AllSaid start new) (sym none) tt
      tc_front (installs above same stands is) =
          subst (AllSaid start new) (sym is)
          (all_none (tc_entered tc_runs.part x.view).effects.sends (entered_none (part.Tc tc_runs.part) x.view))

      tc_says : (b : BlockId) → AllSaid start new (tc_row tc_did.between b x).effects.sends
      unfolding tc_row
      tc_says block.Tc =
          all_none (coordinator_row tc_did.between.coordinator x).effects.sends
          (coordinator_none tc_did.between.coordinator x)
      tc_says block.Takeover =
          all_none (takeover_row tc_did.between.takeover x).effects.sends (takeover_none tc_did.between.takeover x)
      tc_says block.Dih =
          let s = tc_did.between.dih in
          each_map (λ (sent : Outgoing). TellsNoted s sent.body)
          (λ (sent : Outgoing). IsSaidTruly start new sent.body) (dih_row s x).effects.sends
          (λ sent is. dih_said start new s (has_grows start all e es moment s (tc_between tc_did.enters)) sent.body is)
          (dih_tells_noted s x)
      tc_says _ = tt

      module _ (passed : IsPassed start.shape (tc_kind.within tc_did.between) stood x) where
        tc_notes : (b : BlockId) → x.to.block ≡ b → HasNoted start old (tc_row tc_did.between b x).state.dih
        unfolding tc_row
        tc_notes block.Dih to =
            let s = tc_did.between.dih in
            let taken = handled_now start all e es moment tc_kind tc_is tc_runs.part tc_runs.is tc_did.between
            tc_did.front tc_did.enters passed block.Dih to
            in
            dih_noted start old s (dih_row s x).state (tc_between tc_did.enters) x.body (dih_notes s x) (dih_moves s x)
            (taken_rises start all e es moment stand block.Dih taken) (tc_reached tc_did.enters taken)
            (said_now passed.sound)
        tc_notes _ to = tc_between tc_did.enters

      abbrev TcTakes : Type 0
      TcTakes = PartTakes tc_kind start.shape tc_did.between stood x tc_did.own tc_did.rest

      tc_own : TcTakes → HasNoted start old tc_did.own.dih
      tc_own (ignores same none) =
          subst (λ (p : TcPart). HasNoted start old p.dih) (sym same) (tc_between tc_did.enters)
      tc_own (handles passed same is) =
          subst (λ (p : TcPart). HasNoted start old p.dih) (sym same) (tc_notes passed x.to.block refl)

      tc_rest : TcTakes → AllSaid start new tc_did.rest
      tc_rest (ignores same none) = subst (AllSaid start new) (sym none) tt
      tc_rest (handles passed same is) = subst (AllSaid start new) (sym is) (tc_says x.to.block)

      pub tc_noted : HasNoted start new (epochs_of start new me)
      tc_noted =
          subst (HasNoted start new) (sym tc_new)
          (has_grows start all e es moment tc_did.own.dih (tc_own tc_did.takes))

      pub tc_said : AllSaid start new sends
      tc_said = by tc_did.sent
        where
          by : (sends ≡ tc_did.front ++ tc_did.rest) ⊎ (sends ≡ []) → AllSaid start new sends
          by (inl whole) =
              subst (AllSaid start new) (sym whole)
              (each_append (λ (sent : Outgoing). IsSaidTruly start new sent.body) tc_did.front tc_did.rest
              (tc_front tc_did.enters) (tc_rest tc_did.takes))
          by (inr nothing) = subst (AllSaid start new) (sym nothing) tt

    -- masters
    module _ (me : Member) (there : IsIn me (made start)) (at : e.host ≡ main_of start me) where
      abbrev masters_in : Parts → MasterState
      masters_in parts = master_in (fresh_master me (first_layout start.shape).view 0) parts

      abbrev step : Step node.HostBody
      step = step_after start e.host (old e.host) e

      main_runs : RunsMain start (after start e.host (old e.host)).parts
      main_runs = main_at start moment.cluster.nobody me there e.host at (old e.host)

      main_old : IsGoodPhase start old main_runs.main.master.phase
      main_old =
          subst (λ (s : MasterState). IsGoodPhase start old s.phase)
          (master_at start old me e.host at (part.Main main_runs.main) main_runs.is)
          (noted.masters me there)

      parts_new : (after start e.host (e ∷ old e.host)).parts ≡ step.state.parts
      parts_new = told_parts e.host (subst (λ h. 1 ≤ h) (sym at) (part_some start Main me)) step

      master_new : (parts : Parts) → (after start e.host (e ∷ old e.host)).parts ≡ parts
          → master_of start new me ≡ masters_in parts
      master_new parts is =
          master_at start new me e.host at parts
          (ap (λ log. (after start e.host log).parts) (own_log start all e es moment) ∙ is)

      -- what is marked now
      closed_here : (epoch : ℕ) → IsIn (Closed epoch) step.effects.marks → WasClosed start new epoch
      closed_here epoch marked = record {
        host = e.host;
        below = host_low start all e es moment;
        marked =
            subst (IsMarked (Closed epoch)) (sym (own_log start all e es moment))
            (inl (subst (IsIn (Closed epoch)) (sym (marks_are start all e es moment stand)) marked));
      }

      between_good : (between : MainPart) (seen : View)
          → Entering main_runs.main (view_after start e.host (old e.host)) x between seen
          → IsGoodPhase start old between.master.phase
      between_good between seen (goes.remains same stands) =
          subst (λ (p : MainPart). IsGoodPhase start old p.master.phase) (sym same) main_old
      between_good between seen (enters above same stands) =
          subst (λ (p : MainPart). IsGoodPhase start old p.master.phase) (sym same)
          (subst (IsGoodPhase start old) (sym (installed main_runs.main.master x.view).phase) tt)

      -- what is marked by a step counts as closed
      abbrev IsGoodBy : List Mark → Phase → Type 0
      IsGoodBy marks phase =
          IsGood (LateOrMarked (WasClosed start old) (IsKnownTruly start old) marks) (IsKnownTruly start old) phase

      late_new : (marks : List Mark) → ((epoch : ℕ) → IsIn (Closed epoch) marks → WasClosed start new epoch)
          → (phase : Phase) → IsGoodBy marks phase → IsGoodPhase start new phase
      late_new marks here phase good = by phase good
        where
          either : (epoch : ℕ) → WasClosed start old epoch ⊎ IsIn (Closed epoch) marks → WasClosed start new epoch
          either epoch (inl was) = closed_grows start all e es moment epoch was
          either epoch (inr now) = here epoch now

          by : (phase : Phase) → IsGoodBy marks phase → IsGoodPhase start new phase
          by (Gathering known) good = phase_grows start all e es moment (Gathering known) good
          by (Closing run) good = either run.epoch good
          by (Saving run) good = either run.epoch good
          by (Copying run) good = either run.epoch good
          by _ good = tt

      left_good : (now : MasterState) → Left main_runs.main.master now → IsGoodPhase start new now.phase
      left_good now (stays is) =
          subst (λ (s : MasterState). IsGoodPhase start new s.phase) (sym is)
          (phase_grows start all e es moment main_runs.main.master.phase main_old)
      left_good now (goes.installs t view is) =
          subst (λ (s : MasterState). IsGoodPhase start new s.phase) (sym is)
          (subst (IsGoodPhase start new) (sym (installed t view).phase) tt)

      row_good : (between : MainPart) → IsGoodPhase start old between.master.phase
          → is_well_formed start.shape x ≡ true
          → ((epoch : ℕ) → IsIn (Closed epoch) (master_row between.master x).effects.marks
          → WasClosed start new epoch)
          → IsGoodPhase start new (main_row between block.GcpMaster x).state.master.phase
      unfolding main_row
      row_good between good sound here =
          let s = between.master in
          late_new (master_row s x).effects.marks here (master_row s x).state.phase
          (master_lates (WasClosed start old) (IsKnownTruly start old) (nothing_truly start old)
          (copying_closed start old) s good x
          (λ t is.
          learned_truly start old t (told_truly start old t (subst (IsSaidTruly start old) is (said_now sound)))))

      pub main_good : IsGoodPhase start new (master_of start new me).phase
      main_good = by (main_goes start moment.cluster.nobody e.host (old e.host) e main_runs.main main_runs.is)
        where
          by : Goes start.shape main_runs.main (view_after start e.host (old e.host)) x step
              → IsGoodPhase start new (master_of start new me).phase
          by (leaves now parts left none) =
              subst (λ (s : MasterState). IsGoodPhase start new s.phase)
              (sym (master_new (part.Main now) (parts_new ∙ parts)))
              (left_good now.master left)
          by (takes between seen entering passed to parts stands front none marks) =
              subst (λ (s : MasterState). IsGoodPhase start new s.phase)
              (sym (master_new (part.Main (main_row between block.GcpMaster x).state) (parts_new ∙ parts)))
              (row_good between (between_good between seen entering) passed.sound
              (λ epoch there. closed_here epoch
              (subst (IsIn (Closed epoch)) (sym marks)
              (in_append (Closed epoch) front (master_row between.master x).effects.marks there))))

      -- and what is ordered
      pub main_said : AllSaid start new sends
      main_said = by does.did
        where
          does : IsStepOfMain (after start e.host (old e.host)) x main_runs.main stood
              (after start e.host (e ∷ old e.host)).parts sends
          does = main_steps (after start e.host (old e.host)) x main_runs.main e.host main_runs.is

          one : (before : MasterState) → does.part.master ≡ (master_row before x).state → (sent : Outgoing)
              → IsNoOrder sent ⊎ IsIn sent (master_row before x).effects.sends → IsSaidTruly start new sent.body
          one before is sent (inl none) = none_said start new sent.body none
          one before is sent (inr among) =
              let phase = (master_row before x).state.phase in
              master_said start new phase sent.body
              (each_in (λ (sent : Outgoing). MaySay phase sent.body) sent (master_row before x).effects.sends
              (master_says before x) among)
              (subst (λ (s : MasterState). IsGoodPhase start new s.phase)
              (master_new (part.Main does.part) does.is ∙ is) main_good)

          by : main.IsResting (after start e.host (old e.host)) stood main_runs.main.master does.part sends
              ⊎ main.IsReached (after start e.host (old e.host)) x stood main_runs.main.master does.part sends
              → AllSaid start new sends
          by (inl resting) =
              each_map (Orders does.part.qmgr.known) (λ (sent : Outgoing). IsSaidTruly start new sent.body) sends
              (λ sent is. orders_said start new does.part.qmgr.known sent.to sent.body is) resting.orders
          by (inr reached) =
              each_map (λ (sent : Outgoing). IsNoOrder sent ⊎ IsIn sent (master_row reached.before x).effects.sends)
              (λ (sent : Outgoing). IsSaidTruly start new sent.body) sends (one reached.before reached.is)
              reached.orders

    pub shell_said : e.host ≡ 0 → AllSaid start new sends
    shell_said at =
        let runs : RunsShell start (after start e.host (old e.host)).parts =
        subst (λ h. RunsShell start (after start h (old h)).parts) (sym at) (runs_shell start (old 0)) in
        all_none sends (shell_sends_none e.host (after start e.host (old e.host)) x runs.shell runs.is)
