-- A coordinator commits each key of a transaction once at most in each view, and completes it once at most.
use Rattle.std.proofs.Common.{◌≡◌, ◌≤◌, ◌<◌, ◌+◌, ◌==◌, ◌&&◌, ◌||◌, ◌∙◌, ℕ, Bool, true, false, None, Some, Option}
use Rattle.std.proofs.Common.{List, [], ◌∷◌, refl, sym, ap, arith, subst}
use Rattle.std.proofs.lemmas.Bool.{and_parts, eq-eqb, eqb-true, ltb-false, true≢false}
use Rattle.std.specs.Prelude.{if◌then◌else◌, not}
use Rattle.run_theory.specs.Lists.{IsIn, IsPast}
use Rattle.run_theory.proofs.EventCases.{event_keeps}
use Rattle.host_laws.proofs.coordinator.OfLive.{each_found}
use Rattle.host_laws.proofs.hosts.Sums.{total_at}
use Rattle.sig_core.specs.declared.member.Member.{Member}
use Rattle.sig_core.specs.declared.member.TxId.{TxId}
use Rattle.sig_core.specs.declared.outs.Outgoing.{Outgoing}
use Rattle.sig_core.specs.declared.place.BlockId.{BlockId}
use Rattle.sig_core.specs.declared.place.BlockId.TheVariants as block
use Rattle.sig_core.specs.declared.signal.Body.{Body}
use Rattle.sig_core.specs.declared.signal.Body.TheVariants.{Chain, Host}
use Rattle.sig_core.specs.declared.signal.host.HostSignal.TheVariants.{Continue}
use Rattle.sig_core.specs.declared.signal.host.Work.TheVariants as work
use Rattle.sig_core.specs.declared.signal.Signal.{Signal}
use Rattle.sig_core.specs.declared.view.View.{View}
use Rattle.frag_map.specs.Layout.{Layout}
use Rattle.lqh_block.specs.Views.{is_coordinated}
use Rattle.tc_block.specs.declared.transaction.Transaction.{Transaction}
use Rattle.tc_block.specs.Complete.{one_if}
use Rattle.tc_views.specs.State.{CoordinatorState}
use Rattle.tc_views.specs.Views.{install_row}
use Rattle.node_views.specs.declared.parts.Parts.TheVariants as part
use Rattle.node_views.specs.declared.tc_part.TcPart.{TcPart}
use Rattle.node_views.specs.Fence.{is_fenced}
use Rattle.node_views.specs.Parts.{tc_row}
use Rattle.node_views.specs.WellFormed.{is_well_formed}
use Rattle.run_laws.specs.Keyed.{AreApart, IsTouchedRightly}
use Rattle.world_core.specs.Hosts.{hosts}
use Rattle.world_core.specs.Start.{NobodyStarts, Start, made}
use Rattle.world_core.specs.Steps.{HostStep}
use Rattle.world_views.specs.Machine.{step_after, machine}
use Rattle.world_views.specs.Sending.{is_own_work}
use Rattle.view_laws.specs.Order.{sound_machine}
use Rattle.view_laws.specs.Runs.{view_after}
use Rattle.view_laws.proofs.runs.AllSound.{have_orderly}
use Rattle.view_laws.proofs.runs.ChosenViews.{one_view}
use Rattle.moment_laws.specs.Moments.{IsMoment, logs_of}
use Rattle.moment_laws.specs.Parts.{IsPassed}
use Rattle.moment_laws.specs.PartSteps.{PartEnters, PartTakes, handles, ignores, installs, remains, tc_kind}
use Rattle.moment_laws.specs.Places.{tc_of}
use Rattle.moment_laws.proofs.MomentTurns.{host_low, own_log}
use Rattle.moment_laws.proofs.MomentViews.{moment_less}
use Rattle.moment_laws.proofs.PartKinds.{tc_is}
use Rattle.moment_laws.proofs.PartTaken.{IsTakenNow, handled_now}
use Rattle.outcome_laws.specs.Counts.{IsCoordinatorOf, coordinator_member, count_sent, is_unborn}
use Rattle.request_laws.specs.Blocks.{coordinator_after}
use Rattle.request_laws.specs.Routed.{layout_in}
use Rattle.request_laws.specs.Tokens.{all_sent, all_taken, sent_along, taken_along}
use Rattle.request_laws.specs.Ways.{entry_of}
use Rattle.request_laws.proofs.phases.AlongLogs.{coordinator_first, coordinator_of, coordinator_touched}
use Rattle.request_laws.proofs.phases.Steps.{is_held_back}
use Rattle.request_laws.proofs.routes.BesideRows.{is_of_rows}
use Rattle.request_laws.proofs.routes.Headers.{chain_fenced, event_past}
use Rattle.request_laws.proofs.orphans.ReportsOfOrphans.{coordinated}
use Rattle.request_laws.proofs.routes.PartSteps.{TcStep, coordinator_is}
use Rattle.request_laws.proofs.routes.PartsOfTheFirst.{member_full}
use Rattle.request_laws.proofs.tokens.RowHosts.{sent_few}
use Rattle.request_laws.proofs.tokens.SumsOverHosts.{takes_before}
use Rattle.request_laws.proofs.tokens.FirstInView.{sent_low_none}
use Rattle.commit_laws.proofs.drive.Coordinators.{Stands, installed_stands, moves_less, row_stands, still_stands}
use Rattle.commit_laws.proofs.drive.Coordinators.{untouched_stands}
use Rattle.commit_laws.proofs.drive.Foreign.{IsLedIn, between_laid, between_number, between_of, entering, installed}
use Rattle.commit_laws.proofs.drive.Foreign.{rest_off, sends_keys, sends_onward, step, unseen_none}
use Rattle.commit_laws.proofs.drive.Kinds.{Drive, comes, committing, completing, goes, numbered}
use Rattle.commit_laws.proofs.drive.Led.{onward_own, owners_own}
use Rattle.commit_laws.proofs.drive.Lists.{any, mine, only, onward}
use Rattle.commit_laws.proofs.drive.Moments.{told_few}
use Rattle.commit_laws.proofs.drive.Parts.{AreOff}
use Rattle.commit_laws.proofs.drive.States.{AreOnce, Counts, DrivesLeft, Knows, Moves, Untouched, drives_once}
use Rattle.commit_laws.proofs.drive.States.{is_counted}
use Rattle.commit_laws.proofs.drive.Tasks.{listed}

module _ (start : Start) (member : Member) (tx : TxId) (k : ℕ) where
  -- what the host has sent and taken in the view of a number
  abbrev pub sent_in : ℕ → List HostStep → Counts
  sent_in number log p = sent_along start (numbered number p) k log

  abbrev pub taken_in : ℕ → List HostStep → Counts
  taken_in number log p = taken_along start (numbered number p) log

  abbrev pub number_at : List HostStep → ℕ
  number_at log = (view_after start k log).number

  -- how it stands in the view in which the host stands
  abbrev pub StandsNow : List HostStep → CoordinatorState → Type 0
  StandsNow log s =
      Stands (layout_in start (view_after start k log)) tx (sent_in (number_at log) log) (taken_in (number_at log) log)
      (entry_of s tx) (is_unborn s tx) (listed tx s)

  pub record IsDriven (log : List HostStep) : Type 0 where
    pub now : StandsNow log (coordinator_after start member log)
    pub once : (number : ℕ) → AreOnce tx (layout_in start (view_after start k log)) (sent_in number log)

module _ (start : Start) (member : Member) (there : IsIn member (made start)) (tx : TxId)
    (own : coordinator_member tx ≡ member)
  where
    -- keys of what it hasn't forgotten are apart
    apart_of : NobodyStarts start → (log : List HostStep) (t : Transaction)
        → entry_of (coordinator_after start member log) tx ≡ Some t
        → AreApart t.touched
    apart_of nobody log t found =
        (each_found (λ (e : TxId × Transaction). IsTouchedRightly e.1)
        (coordinator_after start member log).tc.live tx t (coordinator_touched start member there nobody log)
        found).apart

    pub driven_first : NobodyStarts start → (k : ℕ) → IsDriven start member tx k []
    driven_first nobody k = record {
      now =
          subst (StandsNow start member tx k []) (sym (coordinator_first start member there nobody))
          (untouched_stands (layout_in start (view_after start k [])) tx
          (sent_in start member tx k (number_at start member tx k []) [])
          (taken_in start member tx k (number_at start member tx k []) []) None _ 0
          (record { keys = λ drive wk. refl; goes_on = λ at. refl }) (omega arith) (λ is. refl));
      once = λ number drive key. omega arith;
    }

    -- an event of its host
    module _ (all : ℕ → List HostStep) (e : HostStep) (es : List HostStep) (moment : IsMoment start all (e ∷ es))
        (at : e.host ≡ tc_of start member) (before : IsDriven start member tx e.host (logs_of start es e.host))
      where
        abbrev log : List HostStep
        log = logs_of start es e.host

        abbrev x : Signal
        x = e.step.taken

        abbrev view : View
        view = view_after start e.host (e ∷ log)

        abbrev n : ℕ
        n = view.number

        abbrev layout : Layout
        layout = layout_in start view

        abbrev sends : List Outgoing
        sends = (step_after start e.host log e).effects.sends

        abbrev tc : TcStep start e.host log e
        tc = step start all e es moment member there at

        abbrev between : TcPart
        between = tc.does.between

        abbrev sent : Counts
        sent = sent_in start member tx e.host n log

        abbrev taken : Counts
        taken = taken_in start member tx e.host n log

        abbrev sent_now : Counts
        sent_now = sent_in start member tx e.host n (e ∷ log)

        abbrev taken_now : Counts
        taken_now = taken_in start member tx e.host n (e ∷ log)

        full : IsIn member view.full
        full =
            subst (λ h. IsIn member (view_after start h (e ∷ logs_of start es h)).full) (sym at)
            (member_full start all moment.cluster member there (e ∷ logs_of start es (tc_of start member))
            (subst (λ h. IsPast (e ∷ logs_of start es h) (all h)) at (event_past start all e es moment)))

        led : is_coordinated view.full tx ≡ true
        led = coordinated view.full tx (subst (λ (m : Member). IsIn m view.full) (sym own) full)

        -- each view of this number is this one
        pub led_in : IsLedIn start all tx n
        led_in other was same =
            ap (λ (v : View). is_coordinated v.full tx)
            (one_view have_orderly start all moment.cluster other view was
            (installed start all e es moment member there at) same)
            ∙ led

        own_is : coordinator_after start member log ≡ tc.own.coordinator
        own_is = coordinator_is start member e.host log at tc.own tc.runs

        -- the coordinator, once the view is installed
        stands_between : Stands layout tx sent taken (entry_of between.coordinator tx)
            (is_unborn between.coordinator tx)
            (listed tx between.coordinator)
        stands_between = by (entering start all e es moment member there at)
          where
            stood : View
            stood = view_after start e.host log

            was : StandsNow start member tx e.host log tc.own.coordinator
            was = subst (StandsNow start member tx e.host log) own_is before.now

            new : stood.number < n → Untouched tx sent
            new low = record {
              keys = λ drive wk. sent_low_none start moment.cluster.nobody (goes drive (mine tx wk)) n e.host log low;
              goes_on = λ place. sent_low_none start moment.cluster.nobody (onward tx place) n e.host log low;
            }

            by : PartEnters tc_kind tc.own stood x between view tc.does.front
                → Stands layout tx sent taken (entry_of between.coordinator tx) (is_unborn between.coordinator tx)
                (listed tx between.coordinator)
            by (remains same stands none) =
                subst
                (λ (v : View). Stands (layout_in start v) tx (sent_in start member tx e.host v.number log)
                (taken_in start member tx e.host v.number log) (entry_of between.coordinator tx)
                (is_unborn between.coordinator tx) (listed tx between.coordinator))
                (sym stands)
                (subst (λ (q : TcPart). StandsNow start member tx e.host log q.coordinator) (sym same) was)
            by (installs above same stands front_is) =
                subst
                (λ (q : TcPart). Stands layout tx sent taken (entry_of q.coordinator tx) (is_unborn q.coordinator tx)
                (listed tx q.coordinator))
                (sym same)
                (installed_stands member tc.own.coordinator
                (subst (IsCoordinatorOf member) own_is (coordinator_of start member there moment.cluster.nobody log))
                tx x.view layout sent taken
                (new (let number = ap (λ (v : View). v.number) stands in omega (arith, number, above))))

        -- what the event adds
        moves : Moves tx layout sent taken sent_now taken_now tc.does.rest
        moves = record {
          keys_few = λ drive wk.
              omega (
                arith,
                sent_few start (goes drive (mine tx wk)) n e.host log e,
                sends_keys start all e es moment member there at tx led drive wk,
              );
          onward_few = λ place.
              omega (
                arith,
                sent_few start (onward tx place) n e.host log e,
                sends_onward start all e es moment member there at tx led place,
              );
          takes_more = λ p. omega arith;
        }

        -- what is known of a signal that the coordinator takes
        module _ (passed : IsPassed start.shape (part.Tc between) view x) (to : x.to.block ≡ block.Tc) where
          taken_is : IsTakenNow start all e es moment block.Tc
          taken_is =
              handled_now start all e es moment tc_kind tc_is tc.own tc.runs between tc.does.front
              (entering start all e es moment member there at) passed block.Tc to

          numbered_so : is_held_back between.coordinator x.view.number x.body ≡ false
              → is_counted tx layout x.body ≡ true → x.view.number ≡ n
          numbered_so free counted = by x.body refl free counted
            where
              fresh : is_fenced x ≡ true → x.view.number ≡ n
              fresh is = taken_is.fresh is ∙ sym (ap (λ (v : View). v.number) taken_is.stands)

              number_is : between.coordinator.number ≡ n
              number_is = between_number start all e es moment member there at

              by : (body : Body) → x.body ≡ body → is_held_back between.coordinator x.view.number body ≡ false
                  → is_counted tx layout body ≡ true → x.view.number ≡ n
              by (Host (Continue (work.Transaction one) place)) is free counted =
                  let low = passed.low in
                  omega (arith, ltb-false x.view.number between.coordinator.number free, number_is, low)
              by (Chain signal) is free counted = fresh (chain_fenced x signal is)
              by body is free counted = absurd (true≢false (sym counted))

          takes_one : is_held_back between.coordinator x.view.number x.body ≡ false
              → is_counted tx layout x.body ≡ true → (p : Body → Bool) → p x.body ≡ true → taken p + 1 ≤ taken_now p
          takes_one free counted p is =
              omega (
                arith,
                one ((sound_machine start).asked e) (p x.body) (x.view.number == n)
                    (asked (x.from.0 == e.host) (is_own_work x.body) (is_well_formed start.shape x)
                    (not_own x.body counted) taken_is.sound)
                    is (eq-eqb x.view.number n (numbered_so free counted)),
              )
            where
              asked : (mine work sound : Bool) → work ≡ false → sound ≡ true → ((mine && work) || not sound) ≡ false
              asked true true sound e f = absurd (true≢false e)
              asked true false true e f = refl
              asked true false false e f = absurd (true≢false (sym f))
              asked false work true e f = refl
              asked false work false e f = absurd (true≢false (sym f))

              one : (asks passes same : Bool) → asks ≡ false → passes ≡ true → same ≡ true
                  → 1 ≤ (if asks then 0 else one_if (passes && same))
              one false true true e f g = omega arith
              one true passes same e f g = absurd (true≢false e)
              one false false same e f g = absurd (true≢false (sym f))
              one false true false e f g = absurd (true≢false (sym g))

              not_own : (body : Body) → is_counted tx layout body ≡ true → is_own_work body ≡ false
              not_own (Host (Continue (work.Transaction one) place)) counted = refl
              not_own (Chain signal) counted = refl
              not_own body counted = absurd (true≢false (sym counted))

          -- what this host took is no more than all took
          taken_all : (p : Body → Bool) → taken_now p ≤ all_taken start (numbered n p) (logs_of start (e ∷ es))
          taken_all p =
              omega (
                arith,
                total_at (hosts start) (λ h. taken_along start (numbered n p) (logs_of start (e ∷ es) h)) e.host
                    (host_low start all e es moment),
                ap (taken_along start (numbered n p)) (own_log start all e es moment),
              )

          before_moment : IsMoment start all es
          before_moment = moment_less start all e es moment

          there_too : IsIn (coordinator_member tx) (made start)
          there_too = subst (λ (m : Member). IsIn m (made start)) (sym own) there

          home_is : tc_of start (coordinator_member tx) ≡ e.host
          home_is = ap (tc_of start) own ∙ sym at

          onward_rows : (place : ℕ) (y : Signal) → numbered n (onward tx place) y ≡ true → is_of_rows y.body ≡ true
          onward_rows place y is =
              by y.body (and_parts (onward tx place y.body) (y.view.number == n) is).0
            where
              by : (body : Body) → onward tx place body ≡ true → is_of_rows body ≡ true
              by (Host (Continue (work.Transaction one) left)) is = refl
              by body is = absurd (true≢false (sym is))

          goes_on_known : (place : ℕ) → taken_now (onward tx place) ≤ sent (onward tx place)
          goes_on_known place =
              omega (
                arith,
                taken_all (onward tx place),
                takes_before start (numbered n (onward tx place)) (onward_rows place) all e es moment,
                subst
                    (λ h. all_sent start (numbered n (onward tx place)) (logs_of start es)
                    ≤ sent_along start (numbered n (onward tx place)) h (logs_of start es h))
                    home_is
                    (onward_own start all tx n led_in es before_moment
                    (subst (λ h. h < hosts start) (sym home_is) (host_low start all e es moment)) place),
              )

          comes_rows : (drive : Drive) (y : Signal) → numbered n (comes drive (mine tx any)) y ≡ true
              → is_of_rows y.body ≡ true
          comes_rows drive y is =
              by drive y.body (and_parts (comes drive (mine tx any) y.body) (y.view.number == n) is).0
            where
              by : (d : Drive) (body : Body) → comes d (mine tx any) body ≡ true → is_of_rows body ≡ true
              by d (Chain signal) is = refl
              by committing body is = absurd (true≢false (sym is))
              by completing body is = absurd (true≢false (sym is))

          comes_known : (drive : Drive) → taken_now (comes drive (mine tx any)) ≤ sent (goes drive (mine tx any))
          comes_known drive =
              omega (
                arith,
                taken_all (comes drive (mine tx any)),
                takes_before start (numbered n (comes drive (mine tx any))) (comes_rows drive) all e es moment,
                told_few drive (mine tx any) n start all es before_moment,
                owners_own start all tx n led_in es before_moment there_too drive any,
                ap (λ h. sent_along start (numbered n (goes drive (mine tx any))) h (logs_of start es h)) home_is,
              )

          pub known : is_held_back between.coordinator x.view.number x.body ≡ false
              → Knows tx layout sent taken taken_now x.body
          known free =
              record { takes_one = takes_one free; goes_on = goes_on_known; comes_back = comes_known }

        abbrev StandsFor : CoordinatorState → Type 0
        StandsFor s = Stands layout tx sent_now taken_now (entry_of s tx) (is_unborn s tx) (listed tx s)

        -- its transactions are those that it had
        pub between_entry : entry_of between.coordinator tx ≡ entry_of (coordinator_after start member log) tx
        unfolding install_row
        between_entry = by (entering start all e es moment member there at)
          where
            by : PartEnters tc_kind tc.own (view_after start e.host log) x between view tc.does.front
                → entry_of between.coordinator tx ≡ entry_of (coordinator_after start member log) tx
            by (remains same stands none) =
                ap (λ (q : TcPart). entry_of q.coordinator tx) same ∙ ap (λ s. entry_of s tx) (sym own_is)
            by (installs above same stands front_is) =
                ap (λ (q : TcPart). entry_of q.coordinator tx) same ∙ ap (λ s. entry_of s tx) (sym own_is)

        -- nothing comes to it
        quiet : ((drive : Drive) (wk : List ℕ → Bool) → count_sent (goes drive (mine tx wk)) tc.does.rest ≡ 0)
            → ((place : ℕ) → count_sent (onward tx place) tc.does.rest ≡ 0) → StandsFor between.coordinator
        quiet keys onwards =
            still_stands layout tx sent taken sent_now taken_now
            (moves_less layout tx sent taken sent_now taken_now [] tc.does.rest keys onwards moves)
            (entry_of between.coordinator tx) (is_unborn between.coordinator tx) (is_unborn between.coordinator tx)
            (listed tx between.coordinator) (listed tx between.coordinator) refl (omega arith) stands_between

        quiet_off : AreOff tx tc.does.rest → StandsFor between.coordinator
        quiet_off off = quiet off.keys off.goes_on

        row : IsPassed start.shape (part.Tc between) view x → (b : BlockId) → x.to.block ≡ b
            → tc.does.own ≡ (tc_row between b x).state → tc.does.rest ≡ (tc_row between b x).effects.sends
            → StandsFor tc.does.own.coordinator
        unfolding tc_row
        row passed block.Tc to is sends_are =
            subst (λ (q : TcPart). StandsFor q.coordinator) (sym is)
            (row_stands member between.coordinator (between_of start all e es moment member there at) tx own layout
            (between_laid start all e es moment member there at).coordinator sent taken sent_now taken_now x
            (subst (λ rest. Moves tx layout sent taken sent_now taken_now rest) sends_are moves)
            (λ free. known passed to free)
            (λ t found. apart_of moment.cluster.nobody log t (sym between_entry ∙ found)) stands_between)
        row passed block.Takeover to is sends_are =
            subst (λ (q : TcPart). StandsFor q.coordinator) (sym is)
            (quiet_off
            (rest_off start all e es moment member there at tx led
            (λ same. absurd (let both : block.Takeover ≡ block.Tc = sym to ∙ same in cc))))
        row passed block.Dih to is sends_are =
            subst (λ (q : TcPart). StandsFor q.coordinator) (sym is)
            (quiet_off
            (rest_off start all e es moment member there at tx led
            (λ same. absurd (let both : block.Dih ≡ block.Tc = sym to ∙ same in cc))))
        row passed b to is sends_are =
            subst (λ (q : TcPart). StandsFor q.coordinator) (sym is)
            (quiet (λ drive wk. ap (count_sent (goes drive (mine tx wk))) sends_are)
            (λ place. ap (count_sent (onward tx place)) sends_are))

        stands_own : StandsFor tc.does.own.coordinator
        stands_own = by tc.does.takes
          where
            by : PartTakes tc_kind start.shape between view x tc.does.own tc.does.rest
                → StandsFor tc.does.own.coordinator
            by (ignores is nothing) =
                subst (λ (q : TcPart). StandsFor q.coordinator) (sym is)
                (quiet (λ drive wk. ap (count_sent (goes drive (mine tx wk))) nothing)
                (λ place. ap (count_sent (onward tx place)) nothing))
            by (handles passed is sends_are) = row passed x.to.block refl is sends_are

        stands_behind : StandsFor (coordinator_after start member (e ∷ log))
        stands_behind =
            subst StandsFor (sym (coordinator_is start member e.host (e ∷ log) at tc.does.own tc.does.is)) stands_own

        once_now : AreOnce tx layout sent_now
        once_now = by (entry_of (coordinator_after start member (e ∷ log)) tx) refl stands_behind.drives
          where
            by : (o : Option Transaction) → entry_of (coordinator_after start member (e ∷ log)) tx ≡ o
                → DrivesLeft tx layout sent_now taken_now o (listed tx (coordinator_after start member (e ∷ log)))
                → AreOnce tx layout sent_now
            by None is once = once
            by (Some t) is drives =
                drives_once tx layout sent_now taken_now t
                (listed tx (coordinator_after start member (e ∷ log))) (apart_of moment.cluster.nobody (e ∷ log) t is)
                drives

        pub driven_next : IsDriven start member tx e.host (e ∷ log)
        driven_next = record { now = stands_behind; once = λ number drive key. by number drive key (n == number) refl }
          where
            by : (number : ℕ) (drive : Drive) (key : List ℕ) (b : Bool) → (n == number) ≡ b
                → sent_in start member tx e.host number (e ∷ log) (goes drive (mine tx (only key))) ≤ 1
            by number drive key true is =
                subst (λ m. sent_in start member tx e.host m (e ∷ log) (goes drive (mine tx (only key))) ≤ 1)
                (eqb-true n number is) (once_now drive key)
            by number drive key false off =
                omega (
                  arith,
                  unseen_none start e.host log e number (goes drive (mine tx (only key))) off,
                  before.once number drive key,
                )

    -- at each moment
    pub driven : (all : ℕ → List HostStep) (es : List HostStep) → IsMoment start all es
        → IsDriven start member tx (tc_of start member) (logs_of start es (tc_of start member))
    driven all [] moment = driven_first moment.cluster.nobody (tc_of start member)
    driven all (e ∷ es) moment =
        event_keeps (machine start) e es (λ h log. h ≡ tc_of start member → IsDriven start member tx h log)
        (λ before at. driven_next all e es moment at (before at)) (tc_of start member)
        (λ same. driven all es (moment_less start all e es moment)) refl

-- so it sends each commit and each completion once at most in a view
pub coordinators_drive_once : (start : Start) (all : ℕ → List HostStep) (es : List HostStep) → IsMoment start all es
    → (tx : TxId) → IsIn (coordinator_member tx) (made start) → (number : ℕ) (drive : Drive) (key : List ℕ)
    → sent_along start (numbered number (goes drive (mine tx (only key)))) (tc_of start (coordinator_member tx))
    (logs_of start es (tc_of start (coordinator_member tx))) ≤ 1
coordinators_drive_once start all es moment tx there number drive key =
    (driven start (coordinator_member tx) there tx refl all es moment).once number drive key
