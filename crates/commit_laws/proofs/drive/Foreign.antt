-- For a transaction whose coordinator is a full member of the view of a number, no other host that coordinates commits
-- or completes a key in that view, and no other host at all goes on with that.
use Rattle.std.proofs.Common.{◌≡◌, ◌≤◌, ◌⊎◌, ◌==◌, ◌&&◌, ◌++◌, ◌∙◌, ℕ, Bool, true, false, List, [], ◌∷◌, inl, inr, refl}
use Rattle.std.proofs.Common.{sym, ap, arith, subst}
use Rattle.std.proofs.lemmas.Bool.{eqb-true}
use Rattle.std.specs.List.{count_by}
use Rattle.run_theory.specs.Links.{sent_by}
use Rattle.run_theory.specs.Lists.{Each, IsIn}
use Rattle.run_theory.proofs.Links.{sent_by_each}
use Rattle.run_theory.proofs.Pasts.{each_filter, each_map}
use Rattle.commit_laws.proofs.hosts.PartEach.{between_so}
use Rattle.sig_core.specs.declared.member.Member.{Member}
use Rattle.sig_core.specs.declared.member.TxId.{TxId}
use Rattle.sig_core.specs.declared.outs.Outgoing.{Outgoing}
use Rattle.sig_core.specs.declared.place.BlockId.{BlockId}
use Rattle.sig_core.specs.declared.place.BlockId.TheVariants as block
use Rattle.sig_core.specs.declared.signal.Body.{Body}
use Rattle.sig_core.specs.declared.signal.Signal.{Signal}
use Rattle.sig_core.specs.declared.view.View.{View}
use Rattle.tc_block.specs.Complete.{one_if}
use Rattle.lqh_block.specs.Views.{is_coordinated}
use Rattle.tc_views.specs.State.{CoordinatorState}
use Rattle.tc_views.specs.Views.{install_row}
use Rattle.lqh_saver.specs.State.{saving}
use Rattle.node_views.specs.declared.tc_part.TcPart.{TcPart}
use Rattle.node_views.specs.Parts.{ldm_row, tc_row}
use Rattle.world_core.specs.Start.{Start, made}
use Rattle.world_core.specs.Steps.{Addressed, HostStep}
use Rattle.world_views.specs.Machine.{signals_of, step_after}
use Rattle.view_laws.specs.Order.{is_sound, sound_machine}
use Rattle.view_laws.specs.Runs.{WasInstalled, view_after}
use Rattle.view_laws.proofs.follow.Senders.{each_from}
use Rattle.moment_laws.specs.Moments.{IsMoment, logs_of}
use Rattle.moment_laws.specs.PartSteps.{PartEnters, PartTakes, handles, ignores, installs, ldm_kind, remains, tc_kind}
use Rattle.moment_laws.specs.Places.{ldm_of, tc_of}
use Rattle.moment_laws.proofs.MomentViews.{moment_less}
use Rattle.outcome_laws.specs.Counts.{IsCoordinatorOf, coordinator_member, count_sent}
use Rattle.outcome_laws.proofs.coordinators.BeginsAndAsks.{coordinator_of_installed}
use Rattle.outcome_laws.proofs.coordinators.Lists.{count_both, count_more}
use Rattle.request_laws.specs.Blocks.{takeover_after}
use Rattle.request_laws.specs.Orphans.{AllOrphans, GatheredAre, IsOrphan}
use Rattle.request_laws.specs.Routed.{layout_in}
use Rattle.request_laws.proofs.phases.AlongLogs.{coordinator_of}
use Rattle.request_laws.proofs.routes.Headers.{own_installed}
use Rattle.request_laws.proofs.routes.Layouts.{IsLaid, tc_enters}
use Rattle.request_laws.proofs.orphans.TakeoversOfOrphans.{takeovers_are_of_orphans}
use Rattle.request_laws.proofs.routes.PartSteps.{LdmStep, TcStep, coordinator_is, ldm_step, takeover_is, tc_step}
use Rattle.request_laws.proofs.routes.PartsOfTheFirst.{chains_in}
use Rattle.request_laws.proofs.strays.Numbers.{have_the_number}
use Rattle.request_laws.proofs.tokens.CoordinatorEvents.{front_away}
use Rattle.request_laws.proofs.tokens.RowHosts.{sent_few}
use Rattle.request_laws.proofs.tokens.FirstInView.{sent_now}
use Rattle.commit_laws.proofs.drive.Kinds.{Drive, goes, numbered}
use Rattle.commit_laws.proofs.drive.Lists.{mine, onward}
use Rattle.commit_laws.proofs.drive.Onwards.{rows_stay}
use Rattle.commit_laws.proofs.drive.Parts.{AreOff, away_off, both_off, none_off, part_off}

-- of another view than that in which the host stands nothing is sent
module _ (start : Start) (h : ℕ) (log : List HostStep) (e : HostStep) (number : ℕ) (p : Body → Bool)
    (off : ((view_after start h (e ∷ log)).number == number) ≡ false)
  where
    abbrev seen : ℕ
    seen = (view_after start h (e ∷ log)).number

    unseen : (xs : List Addressed) → Each (λ (y : Addressed). y.signal.view.number ≡ seen) xs
        → count_by (λ (y : Addressed). numbered number p y.signal) xs ≡ 0
    unseen [] all = refl
    unseen (y ∷ xs) all =
        omega (
          arith,
          count_more (λ (y : Addressed). numbered number p y.signal) y xs,
          ap one_if (none (p y.signal.body)),
          unseen xs all.1,
        )
      where
        same : (y.signal.view.number == number) ≡ false
        same = ap (λ n. n == number) all.0 ∙ off

        none : (b : Bool) → (b && (y.signal.view.number == number)) ≡ false
        none true = same
        none false = refl

    pub unseen_none : count_by (λ (y : Addressed). numbered number p y.signal) (sent_by (sound_machine start) h log e)
        ≡ 0
    unseen_none =
        unseen (sent_by (sound_machine start) h log e)
        (sent_by_each (sound_machine start) (λ (y : Addressed). y.signal.view.number ≡ seen) h log e
        (λ goes_on.
        each_filter _ (is_sound start) (signals_of start h log e)
        (each_map _ (λ (y : Addressed). y.signal.view.number ≡ seen) (signals_of start h log e)
        (λ y one. ap (λ (v : View). v.number) one.view_is)
        (each_from start h log e))))

-- the coordinator of the transaction is a full member of each view of this number that was installed
abbrev pub IsLedIn : Start → (ℕ → List HostStep) → TxId → ℕ → Type 0
IsLedIn start all tx number =
    (view : View) → WasInstalled start all view → view.number ≡ number → is_coordinated view.full tx ≡ true

-- an event of the host of a member's coordinator
module _ (start : Start) (all : ℕ → List HostStep) (e : HostStep) (es : List HostStep)
    (moment : IsMoment start all (e ∷ es)) (me : Member) (there : IsIn me (made start)) (at : e.host ≡ tc_of start me)
  where
    abbrev log : List HostStep
    log = logs_of start es e.host

    abbrev x : Signal
    x = e.step.taken

    abbrev stood : View
    stood = view_after start e.host log

    abbrev view : View
    view = view_after start e.host (e ∷ log)

    abbrev sends : List Outgoing
    sends = (step_after start e.host log e).effects.sends

    pub step : TcStep start e.host log e
    step = tc_step start moment.cluster.nobody me there e.host at log e

    pub own_of : IsCoordinatorOf me step.own.coordinator
    own_of =
        subst (IsCoordinatorOf me) (coordinator_is start me e.host log at step.own step.runs)
        (coordinator_of start me there moment.cluster.nobody log)

    pub entering : PartEnters tc_kind step.own stood x step.does.between view step.does.front
    entering = step.does.enters

    pub between_of : IsCoordinatorOf me step.does.between.coordinator
    between_of =
        between_so tc_kind (λ (q : TcPart). IsCoordinatorOf me q.coordinator) step.own stood x step.does.between view
        step.does.front entering (λ still. own_of)
        (λ above seen. coordinator_of_installed me step.own.coordinator x.view own_of)

    pub installed : WasInstalled start all view
    installed = own_installed start all e es moment

    orphans_before : AllOrphans start (logs_of start es)
    orphans_before = takeovers_are_of_orphans start all es (moment_less start all e es moment)

    own_orphans : GatheredAre (IsOrphan stood) step.own.takeover
    own_orphans =
        subst (GatheredAre (IsOrphan stood)) (takeover_is start me e.host log at step.own step.runs)
        (subst
        (λ k. GatheredAre (IsOrphan (view_after start k (logs_of start es k)))
        (takeover_after start me (logs_of start es k)))
        (sym at) (orphans_before.gathered me there))

    between_orphans : GatheredAre (IsOrphan view) step.does.between.takeover
    between_orphans =
        between_so tc_kind (λ (q : TcPart). GatheredAre (IsOrphan view) q.takeover) step.own stood x
        step.does.between view step.does.front entering
        (λ still. subst (λ (v : View). GatheredAre (IsOrphan v) step.own.takeover) (sym still) own_orphans)
        (λ above seen. tt)

    pub between_laid : IsLaid (layout_in start view) step.does.between
    between_laid = tc_enters start step.own stood x step.does.between view step.does.front entering step.laid

    -- it has the number of the view
    pub between_number : step.does.between.coordinator.number ≡ view.number
    unfolding install_row
    between_number =
        between_so tc_kind (λ (q : TcPart). q.coordinator.number ≡ view.number) step.own stood x step.does.between view
        step.does.front entering (λ still. own_number ∙ sym (ap (λ (v : View). v.number) still))
        (λ above seen. sym (ap (λ (v : View). v.number) seen))
      where
        own_number : step.own.coordinator.number ≡ stood.number
        own_number =
            ap (λ (s : CoordinatorState). s.number) (sym (coordinator_is start me e.host log at step.own step.runs))
            ∙ (have_the_number start moment.cluster.nobody me log there ∙ ap (λ k. (view_after start k log).number)
            (sym at))

    -- what becomes of a transaction that a full member leads
    module _ (tx : TxId) (led : is_coordinated view.full tx ≡ true) where
      front_off : AreOff tx step.does.front
      front_off =
          away_off tx step.does.front
          (front_away tx me step.own own_of stood x step.does.between view step.does.front entering)

      row_off : (x.to.block ≡ block.Tc → coordinator_member tx ≡ me → ⊥)
          → AreOff tx (tc_row step.does.between x.to.block x).effects.sends
      row_off other =
          part_off view (layout_in start view) (chains_in start all moment.cluster view installed) tx led me
          step.does.between between_of between_laid.takeover between_orphans x x.to.block other

      pub rest_off : (x.to.block ≡ block.Tc → coordinator_member tx ≡ me → ⊥) → AreOff tx step.does.rest
      rest_off other = by step.does.takes
        where
          by : PartTakes tc_kind start.shape step.does.between view x step.does.own step.does.rest
              → AreOff tx step.does.rest
          by (ignores is nothing) = subst (AreOff tx) (sym nothing) (none_off tx)
          by (handles passed is sends_are) = subst (AreOff tx) (sym sends_are) (row_off other)

      pub sends_off : (x.to.block ≡ block.Tc → coordinator_member tx ≡ me → ⊥) → AreOff tx sends
      sends_off other = by step.does.sent
        where
          by : (sends ≡ step.does.front ++ step.does.rest) ⊎ (sends ≡ []) → AreOff tx sends
          by (inl is) =
              subst (AreOff tx) (sym is) (both_off tx step.does.front step.does.rest front_off (rest_off other))
          by (inr is) = subst (AreOff tx) (sym is) (none_off tx)

      -- what the row of the coordinator sends is all
      pub sends_keys : (drive : Drive) (wk : List ℕ → Bool)
          → count_sent (goes drive (mine tx wk)) sends ≤ count_sent (goes drive (mine tx wk)) step.does.rest
      sends_keys drive wk = by step.does.sent
        where
          by : (sends ≡ step.does.front ++ step.does.rest) ⊎ (sends ≡ [])
              → count_sent (goes drive (mine tx wk)) sends ≤ count_sent (goes drive (mine tx wk)) step.does.rest
          by (inl is) =
              omega (
                arith,
                ap (count_sent (goes drive (mine tx wk))) is,
                count_both (λ (o : Outgoing). goes drive (mine tx wk) o.body) step.does.front step.does.rest,
                front_off.keys drive wk,
              )
          by (inr is) =
              let none : count_sent (goes drive (mine tx wk)) sends ≡ 0 =
              ap (count_sent (goes drive (mine tx wk))) is in
              omega (arith, none)

      pub sends_onward : (place : ℕ) → count_sent (onward tx place) sends ≤ count_sent (onward tx place) step.does.rest
      sends_onward place = by step.does.sent
        where
          by : (sends ≡ step.does.front ++ step.does.rest) ⊎ (sends ≡ [])
              → count_sent (onward tx place) sends ≤ count_sent (onward tx place) step.does.rest
          by (inl is) =
              omega (
                arith,
                ap (count_sent (onward tx place)) is,
                count_both (λ (o : Outgoing). onward tx place o.body) step.does.front step.does.rest,
                front_off.goes_on place,
              )
          by (inr is) =
              let none : count_sent (onward tx place) sends ≡ 0 =
              ap (count_sent (onward tx place)) is in omega (arith, none)

module _ (start : Start) (all : ℕ → List HostStep) (tx : TxId) (number : ℕ) (led : IsLedIn start all tx number) where
  -- an event of another host that coordinates
  module _ (e : HostStep) (es : List HostStep) (moment : IsMoment start all (e ∷ es)) where
    -- what it doesn't send in this view isn't counted
    pub none_now : (p : Body → Bool)
        → ((view_after start e.host (e ∷ logs_of start es e.host)).number ≡ number
        → count_sent p (step_after start e.host (logs_of start es e.host) e).effects.sends ≡ 0)
        → sent_now start all e es moment (numbered number p) ≡ 0
    none_now p none = by ((view_after start e.host (e ∷ logs_of start es e.host)).number == number) refl
      where
        by : (b : Bool) → ((view_after start e.host (e ∷ logs_of start es e.host)).number == number) ≡ b
            → sent_now start all e es moment (numbered number p) ≡ 0
        by true is =
            omega (
              arith,
              sent_few start p number e.host (logs_of start es e.host) e,
              none (eqb-true (view_after start e.host (e ∷ logs_of start es e.host)).number number is),
            )
        by false off = unseen_none start e.host (logs_of start es e.host) e number p off

    pub other_now : (me : Member) → IsIn me (made start) → (coordinator_member tx ≡ me → ⊥) → e.host ≡ tc_of start me
        → ((drive : Drive) (wk : List ℕ → Bool)
        → sent_now start all e es moment (numbered number (goes drive (mine tx wk))) ≡ 0)
        × ((place : ℕ) → sent_now start all e es moment (numbered number (onward tx place)) ≡ 0)
    other_now me there other at = (
      λ drive wk. none_now (goes drive (mine tx wk)) (λ same. (off same).keys drive wk),
      λ place. none_now (onward tx place) (λ same. (off same).goes_on place),
    )
      where
        off : (view_after start e.host (e ∷ logs_of start es e.host)).number ≡ number
            → AreOff tx (step_after start e.host (logs_of start es e.host) e).effects.sends
        off same =
            sends_off start all e es moment me there at tx
            (led (view_after start e.host (e ∷ logs_of start es e.host)) (installed start all e es moment me there at)
            same)
            (λ to. other)

    -- rows and hosts beside don't go on
    pub rows_now : (me : Member) → IsIn me (made start) → e.host ≡ ldm_of start me → (place : ℕ)
        → sent_now start all e es moment (numbered number (onward tx place)) ≡ 0
    unfolding ldm_row
    rows_now me there at place = none_now (onward tx place) (λ same. none)
      where
        log : List HostStep
        log = logs_of start es e.host

        row : LdmStep start e.host log e
        row = ldm_step start moment.cluster.nobody me there e.host at log e

        of_block : (b : BlockId)
            → count_sent (onward tx place) (ldm_row row.does.between b e.step.taken).effects.sends ≡ 0
        of_block block.Lqh =
            rows_stay tx place (saving row.does.between.replica row.does.between.saver) e.step.taken
        of_block _ = refl

        rest_none : PartTakes ldm_kind start.shape row.does.between (view_after start e.host (e ∷ log)) e.step.taken
            row.does.own row.does.rest → count_sent (onward tx place) row.does.rest ≡ 0
        rest_none (ignores is nothing) = ap (count_sent (onward tx place)) nothing
        rest_none (handles passed is sends_are) =
            ap (count_sent (onward tx place)) sends_are ∙ of_block e.step.taken.to.block

        front_none : PartEnters ldm_kind row.own (view_after start e.host log) e.step.taken row.does.between
            (view_after start e.host (e ∷ log)) row.does.front → count_sent (onward tx place) row.does.front ≡ 0
        front_none (remains same stands nothing) = ap (count_sent (onward tx place)) nothing
        front_none (installs above same stands nothing) = ap (count_sent (onward tx place)) nothing

        by : ((step_after start e.host log e).effects.sends ≡ row.does.front ++ row.does.rest)
            ⊎ ((step_after start e.host log e).effects.sends ≡ [])
            → count_sent (onward tx place) (step_after start e.host log e).effects.sends ≡ 0
        by (inl is) =
            omega (
              arith,
              ap (count_sent (onward tx place)) is,
              count_both (λ (o : Outgoing). onward tx place o.body) row.does.front row.does.rest,
              front_none row.does.enters,
              rest_none row.does.takes,
            )
        by (inr is) = ap (count_sent (onward tx place)) is

        none : count_sent (onward tx place) (step_after start e.host log e).effects.sends ≡ 0
        none = by row.does.sent
