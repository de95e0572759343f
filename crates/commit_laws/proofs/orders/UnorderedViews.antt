-- In a view in which no takeover was ordered yet takeovers rest, no report of rows is under way, and none of its
-- signals asks rows for what they have or tells a takeover of it.
use Rattle.std.proofs.Common.{◌≡◌, ◌≤◌, ◌⊎◌, ◌∙◌, ℕ, false, List, [], ◌∷◌, inl, inr, refl, sym, ap, arith, subst}
use Rattle.std.proofs.lemmas.Bool.{true≢false}
use Rattle.std.specs.Prelude.{None}
use Rattle.run_theory.specs.Lists.{Each, IsIn}
use Rattle.run_theory.proofs.Pasts.{each_from, each_in, each_map}
use Rattle.run_theory.proofs.Runs.{log_of-own}
use Rattle.run_theory.proofs.EventCases.{event_cases}
use Rattle.commit_laws.proofs.hosts.OwnTaken.{tc_taken}
use Rattle.commit_laws.proofs.hosts.PartEach.{part_each_by}
use Rattle.sig_core.specs.declared.member.Member.{Member}
use Rattle.sig_core.specs.declared.outs.Outgoing.{Outgoing}
use Rattle.sig_core.specs.declared.place.BlockId.{BlockId}
use Rattle.sig_core.specs.declared.place.BlockId.TheVariants as block
use Rattle.sig_core.specs.declared.place.Place.{Place}
use Rattle.sig_core.specs.declared.signal.Body.{Body}
use Rattle.sig_core.specs.declared.signal.Body.TheVariants.{Host, Takeover}
use Rattle.sig_core.specs.declared.signal.Signal.{Signal}
use Rattle.sig_core.specs.declared.signal.host.HostSignal.TheVariants.{Closed}
use Rattle.sig_core.specs.declared.signal.takeover.TakeoverSignal.TheVariants.{LqhTransReq, TakeoverOrd}
use Rattle.sig_core.specs.declared.view.View.{View}
use Rattle.sig_core.specs.Step.{Step, stay}
use Rattle.frag_map.specs.Layout.{first_layout}
use Rattle.lqh_views.specs.Replica.{replica_row}
use Rattle.lqh_views.specs.State.{ReplicaState}
use Rattle.takeover_block.specs.declared.stage.Stage.TheVariants.{Resting}
use Rattle.takeover_block.specs.State.{TakeoverState, resting}
use Rattle.takeover_block.specs.Takeover.{takeover_row}
use Rattle.node_views.specs.declared.host_body.HostBody as hosts
use Rattle.node_views.specs.declared.parts.Parts.TheVariants as part
use Rattle.node_views.specs.declared.tc_part.TcPart.{TcPart}
use Rattle.node_views.specs.Parts.{tc_row}
use Rattle.world_core.specs.Start.{NobodyStarts, Start, made}
use Rattle.world_core.specs.Steps.{Addressed, HostStep}
use Rattle.world_views.specs.Machine.{IsOwnWork, machine, step_after}
use Rattle.view_laws.specs.Runs.{view_after}
use Rattle.moment_laws.specs.Moments.{IsMoment, logs_of}
use Rattle.moment_laws.specs.Parts.{IsPassed}
use Rattle.moment_laws.specs.PartSteps.{PartEnters, PartTakes, handles, ignores, installs, remains, tc_kind}
use Rattle.moment_laws.specs.Places.{ldm_of, tc_of}
use Rattle.moment_laws.proofs.MomentHosts.{ldm_started, tc_started}
use Rattle.moment_laws.proofs.MomentSignals.{EachSent, sent_next, taken_told}
use Rattle.moment_laws.proofs.MomentTurns.{host_low}
use Rattle.moment_laws.proofs.MomentViews.{current_number, moment_less, number_in}
use Rattle.moment_laws.proofs.PartTaken.{IsTakenNow}
use Rattle.request_laws.specs.Blocks.{no_replica, rows_in, takeover_after, takeover_in, rows_after}
use Rattle.request_laws.specs.Tokens.{all_taken}
use Rattle.request_laws.proofs.routes.Headers.{sent_so, takeover_fenced}
use Rattle.request_laws.proofs.routes.Hosts.{PartHost, coordinates, is_beside, keeps_rows, part_host}
use Rattle.request_laws.proofs.routes.PartSteps.{TcStep, own_tc, takeover_is}
use Rattle.request_laws.proofs.tokens.FirstInView.{all_taken_more, taken_now}
use Rattle.commit_laws.specs.Takeovers.{takeover_at}
use Rattle.commit_laws.specs.Traces.{rows_at}
use Rattle.commit_laws.proofs.drive.Idle.{idle_stays}
use Rattle.commit_laws.proofs.drive.Kinds.{numbered}
use Rattle.commit_laws.proofs.drive.Ruled.{is_order, order_taken}
use Rattle.commit_laws.proofs.hosts.RowsTurn.{IsBetween, RowsTurn, as_was, enter_now, entered, rest_now, rows_turn}
use Rattle.commit_laws.proofs.hosts.RowsTurn.{take_now}
use Rattle.commit_laws.proofs.hosts.SaverGoes.{IsOfSaver, of_saver}
use Rattle.commit_laws.proofs.orders.UnorderedHosts.{AreNoReports, IsNoReport, beside_no_reports}
use Rattle.commit_laws.proofs.orders.UnorderedHosts.{coordinator_no_reports, enters_no_reports, epochs_no_reports}
use Rattle.commit_laws.proofs.orders.UnorderedHosts.{is_of_reports}
use Rattle.commit_laws.proofs.orders.UnorderedRows.{TellsNothing, tells_nothing}

module _ (start : Start) (number : ℕ) where
  -- if the signal is of the view it is of no report
  abbrev pub IsOff : Addressed → Type 0
  IsOff y = y.signal.view.number ≡ number → is_of_reports y.signal.body ≡ false

  pub record IsUnordered (logs : ℕ → List HostStep) : Type 0 where
    pub sent : EachSent start IsOff logs
    pub rests : (member : Member) → IsIn member (made start) → number_in start logs (tc_of start member) ≡ number
        → (takeover_at start logs member).stage ≡ Resting
    pub reports : (member : Member) → IsIn member (made start) → number_in start logs (ldm_of start member) ≡ number
        → (rows_at start logs member).report ≡ None

  -- so it is as a life begins
  unordered_first : NobodyStarts start → IsUnordered (logs_of start [])
  unordered_first nobody = record {
    sent = λ i j. tt;
    rests = λ member there stands.
        ap (λ (s : hosts.HostBody). (takeover_in (resting member.node (first_layout start.shape)) s.parts).stage)
        (tc_started start nobody member there);
    reports = λ member there stands.
        ap (λ (s : hosts.HostBody). (rows_in (no_replica start member) s.parts).report)
        (ldm_started start nobody member there);
  }

module _ (start : Start) (all : ℕ → List HostStep) (e : HostStep) (es : List HostStep)
    (moment : IsMoment start all (e ∷ es)) (number : ℕ) (before : IsUnordered start number (logs_of start es))
    (none : taken_now start all e es moment (numbered number is_order) ≡ 0)
  where
    abbrev old : ℕ → List HostStep
    old = logs_of start es

    abbrev new : ℕ → List HostStep
    new = logs_of start (e ∷ es)

    abbrev x : Signal
    x = e.step.taken

    -- the host stands in the view behind the event
    abbrev Stands : ℕ → Type 0
    Stands h = (view_after start h (e ∷ old h)).number ≡ number

    abbrev sends_at : ℕ → List Outgoing
    sends_at h = (step_after start h (old h) e).effects.sends

    current_is : Stands e.host → (b : BlockId) → IsTakenNow start all e es moment b
        → current_number start (logs_of start (e ∷ es)) ≡ number
    current_is stands b taken = sym (ap (λ (v : View). v.number) taken.stands) ∙ stands

    -- no takeover is ordered by the event, and no rows are asked
    unordered : Stands e.host → IsTakenNow start all e es moment block.Takeover → x.body ≡ Takeover TakeoverOrd → ⊥
    unordered stands taken is = omega (arith, now, none)
      where
        now : 1 ≤ taken_now start all e es moment (numbered number is_order)
        now =
            subst (λ m. 1 ≤ taken_now start all e es moment (numbered m is_order))
            (current_is stands block.Takeover taken)
            (order_taken start all e es moment taken is)

    unasked : Stands e.host → IsTakenNow start all e es moment block.Lqh → x.body ≡ Takeover LqhTransReq → ⊥
    unasked stands taken is = true≢false (sym (ap is_of_reports is) ∙ off)
      where
        off : is_of_reports x.body ≡ false
        off =
            taken_told start (IsOff start number) all e es moment before.sent taken.sound
            (λ work. absurd (subst (IsOwnWork start e.host) is work))
            (λ closes. let differ : Takeover LqhTransReq ≡ Host (Closed closes.cause) = sym is ∙ closes.is in absurd cc)
            (taken.fresh (takeover_fenced x LqhTransReq is) ∙ current_is stands block.Lqh taken)

    -- the host of a coordinator
    module _ (member : Member) (there : IsIn member (made start)) (at : e.host ≡ tc_of start member)
        (stands : Stands (tc_of start member))
      where
        abbrev h : ℕ
        h = tc_of start member

        abbrev log : List HostStep
        log = logs_of start es (tc_of start member)

        abbrev own : TcStep start (tc_of start member) log e
        own = own_tc start moment.cluster.nobody member there log e

        abbrev between : TcPart
        between = own.does.between

        abbrev stood : View
        stood = view_after start (tc_of start member) log

        abbrev view : View
        view = view_after start (tc_of start member) (e ∷ log)

        taken_by : (b : BlockId) → x.to.block ≡ b → IsPassed start.shape (part.Tc between) view x
            → IsTakenNow start all e es moment b
        taken_by b to passed = tc_taken start all e es moment h at own passed b to

        between_rests : PartEnters tc_kind own.own stood x between view own.does.front
            → between.takeover.stage ≡ Resting
        between_rests (remains same stays nothing) =
            let same_number : view.number ≡ stood.number = ap (λ (v : View). v.number) stays in
            ap (λ (q : TcPart). q.takeover.stage) same
            ∙ (sym (ap (λ (s : TakeoverState). s.stage) (takeover_is start member h log refl own.own own.runs))
            ∙ before.rests member there (sym same_number ∙ stands))
        between_rests (installs above same stays sent) = ap (λ (q : TcPart). q.takeover.stage) same

        -- the takeover rests behind it, and nothing is sent
        abbrev Rests : TcPart → List Outgoing → Type 0
        Rests p sends = (p.takeover.stage ≡ Resting) × AreNoReports sends

        row : IsPassed start.shape (part.Tc between) view x → (b : BlockId) → x.to.block ≡ b
            → Rests (tc_row between b x).state (tc_row between b x).effects.sends
        unfolding tc_row
        row passed block.Takeover to =
            let rests : between.takeover.stage ≡ Resting = between_rests own.does.enters in
            let still : takeover_row between.takeover x ≡ stay between.takeover =
            idle_stays between.takeover x rests
            (λ orders.
            unordered (subst (λ k. Stands k) (sym at) stands) (taken_by block.Takeover to passed) orders) in (
              ap (λ (step : Step TakeoverState). step.state.stage) still ∙ rests,
              subst AreNoReports (sym (ap (λ (step : Step TakeoverState). step.effects.sends) still)) tt,
            )
        row passed block.Tc to = (between_rests own.does.enters, coordinator_no_reports between x)
        row passed block.Dih to = (between_rests own.does.enters, epochs_no_reports between x)
        row passed _ to = (between_rests own.does.enters, tt)

        takes : PartTakes tc_kind start.shape between view x own.does.own own.does.rest
            → own.does.own.takeover.stage ≡ Resting
        takes (ignores same nothing) =
            ap (λ (q : TcPart). q.takeover.stage) same ∙ between_rests own.does.enters
        takes (handles passed same sent) =
            ap (λ (q : TcPart). q.takeover.stage) same ∙ (row passed x.to.block refl).0

        tc_rests : (takeover_after start member (e ∷ log)).stage ≡ Resting
        tc_rests =
            ap (λ (s : TakeoverState). s.stage)
            (takeover_is start member h (e ∷ log) refl own.does.own own.does.is)
            ∙ takes own.does.takes

        tc_sends : AreNoReports (sends_at (tc_of start member))
        tc_sends =
            part_each_by tc_kind IsNoReport start.shape own.own stood x _ view (sends_at (tc_of start member)) own.does
            (λ above. enters_no_reports own.own x.view) (λ passed same all. (row passed x.to.block refl).1)

    -- the host of rows
    module _ (member : Member) (there : IsIn member (made start)) (at : e.host ≡ ldm_of start member)
        (stands : Stands (ldm_of start member))
      where
        stood_before : view_after start (ldm_of start member) (e ∷ old (ldm_of start member))
            ≡ view_after start (ldm_of start member) (old (ldm_of start member))
            → number_in start old (ldm_of start member) ≡ number
        stood_before stays = sym (ap (λ (v : View). v.number) stays) ∙ stands

        none_between : (s : ReplicaState) → IsBetween start all e es moment member there s → s.report ≡ None
        none_between s (as_was is stays) =
            ap (λ (r : ReplicaState). r.report) is ∙ before.reports member there (stood_before stays)
        none_between s (entered _ is) = ap (λ (r : ReplicaState). r.report) is

        of_no_report : Each IsOfSaver (sends_at (ldm_of start member)) → AreNoReports (sends_at (ldm_of start member))
        of_no_report own =
            each_map IsOfSaver IsNoReport (sends_at (ldm_of start member))
            (λ o is.
            of_saver (λ body. is_of_reports body ≡ false) (record {
              reports = λ epoch. refl;
              confirms = refl;
              goes_on = λ at. refl;
            }) o.body is) own

        own_rows : RowsTurn start all e es moment member there
            → ((rows_at start new member).report ≡ None) × AreNoReports (sends_at (ldm_of start member))
        own_rows (rest_now is quiet stays) = (
          ap (λ (r : ReplicaState). r.report) is ∙ before.reports member there (stood_before (stays at)),
          of_no_report (quiet at).sends,
        )
        own_rows (enter_now is quiet) = (ap (λ (r : ReplicaState). r.report) is, of_no_report (quiet at).sends)
        own_rows (take_now s between which taken) =
            (ap (λ (r : ReplicaState). r.report) taken.rows_are ∙ tells.report, by taken.sent)
          where
            tells : TellsNothing (replica_row s x)
            tells =
                tells_nothing s x (none_between s between) (unasked (subst (λ k. Stands k) (sym at) stands) taken.now)

            by : (sends_at (ldm_of start member) ≡ (replica_row s x).effects.sends)
                ⊎ (sends_at (ldm_of start member) ≡ []) → AreNoReports (sends_at (ldm_of start member))
            by (inl is) = subst AreNoReports (sym is) tells.sends
            by (inr is) = subst AreNoReports (sym is) tt

    -- what the event sends in the view is of no report
    event_sends : Stands e.host → AreNoReports (sends_at e.host)
    event_sends stands = by (part_host start moment.cluster.nobody e.host (host_low start all e es moment))
      where
        by : PartHost start e.host → AreNoReports (sends_at e.host)
        by (coordinates me there at) =
            subst (λ k. AreNoReports (sends_at k)) (sym at)
            (tc_sends me there at (subst (λ k. Stands k) at stands))
        by (keeps_rows me there at) =
            subst (λ k. AreNoReports (sends_at k)) (sym at)
            (own_rows me there at (subst (λ k. Stands k) at stands) (rows_turn start all e es moment me there)).1
        by (is_beside first) = beside_no_reports start e.host first (old e.host) e

    unordered_next : IsUnordered start number (logs_of start (e ∷ es))
    unordered_next = record {
      sent =
          sent_next start (IsOff start number) all e es moment before.sent
          (λ goes.
          sent_so start e.host (old e.host) e
          (λ (v : View) (to : Place) (body : Body). v.number ≡ number → is_of_reports body ≡ false)
          (each_from _ (sends_at e.host)
          (λ sent inside stands. each_in IsNoReport sent (sends_at e.host) (event_sends stands) inside)));
      rests = λ member there.
          event_cases (machine start) e es (tc_of start member)
          (λ log. (view_after start (tc_of start member) log).number ≡ number
          → (takeover_after start member log).stage ≡ Resting)
          (tc_rests member there) (λ off. before.rests member there);
      reports = λ member there.
          event_cases (machine start) e es (ldm_of start member)
          (λ log. (view_after start (ldm_of start member) log).number ≡ number
          → (rows_after start member log).report ≡ None)
          (λ at stands.
          sym (ap (λ log. (rows_after start member log).report)
          (log_of-own (machine start) e es (ldm_of start member) at))
          ∙ (own_rows member there at stands (rows_turn start all e es moment member there)).0)
          (λ off. before.reports member there);
    }

-- so it is at each moment until one is ordered in the view
pub unordered_views : (start : Start) (all : ℕ → List HostStep) (es : List HostStep) → IsMoment start all es
    → (number : ℕ) → all_taken start (numbered number is_order) (logs_of start es) ≡ 0
    → IsUnordered start number (logs_of start es)
unordered_views start all [] moment number none = unordered_first start number moment.cluster.nobody
unordered_views start all (e ∷ es) moment number none =
    let more = all_taken_more start all e es moment (numbered number is_order) in
    unordered_next start all e es moment number
    (unordered_views start all es (moment_less start all e es moment) number (omega (arith, none, more)))
    (omega (arith, none, more))
