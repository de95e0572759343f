-- What a member's saver knows is so behind each log: step by step along its events.
use Rattle.std.proofs.Common.{◌≡◌, ◌∙◌, ◌++◌, ℕ, List, [], ◌∷◌, sym, ap, subst, inl, inr, arith}
use Rattle.std.specs.Prelude.{◌⊎◌, true, Option, None, Some, option_to_list}
use Rattle.run_theory.proofs.Links.{log_past}
use Rattle.run_theory.specs.Lists.{IsIn}
use Rattle.run_theory.specs.Logs.{IsLog}
use Rattle.sig_core.specs.declared.member.Member.{Member}
use Rattle.sig_core.specs.declared.redo.Redo.{Redo}
use Rattle.sig_core.specs.Journal.{OutletState}
use Rattle.sig_core.specs.Rows.{RowsState}
use Rattle.redo_log.specs.Replaying.{AreRecords}
use Rattle.local_ckpt.specs.Events.{Event, Step}
use Rattle.lqh_saver.specs.declared.stage.Stage.{Stage}
use Rattle.lqh_saver.specs.declared.stage.Stage.TheVariants.{Resting, Walked, Walking}
use Rattle.lqh_saver.specs.declared.stage.Todo.{Todo}
use Rattle.lqh_saver.specs.declared.stage.Todo.TheVariants as todo
use Rattle.lqh_saver.specs.Saver.{fresh_saver}
use Rattle.lqh_saver.specs.State.{SaverState, SavingState}
use Rattle.node_views.specs.declared.host_body.HostBody.{HostBody}
use Rattle.node_views.specs.WellFormed.{is_well_formed}
use Rattle.world_core.specs.Start.{NobodyStarts, Start, made}
use Rattle.world_core.specs.Steps.{HostStep}
use Rattle.world_views.specs.Machine.{machine}
use Rattle.moment_laws.specs.Moments.{logs_of}
use Rattle.moment_laws.specs.Places.{ldm_of}
use Rattle.moment_laws.proofs.MomentHosts.{ldm_started}
use Rattle.journal_laws.specs.Events.{IsMadeBy, IsOfPrepared, changed_if, records_behind, rows_behind}
use Rattle.journal_laws.specs.Journal.{AreEventsOf, HasRecords, first_rows, lqh_after}
use Rattle.journal_laws.specs.Saver.{IsNoStep, IsStepBy, IsToldDone, KeepsStage, LeavesAll, TellsDone, begins, ends}
use Rattle.journal_laws.specs.Saver.{passes, rows, switches, todo_at}
use Rattle.request_laws.specs.Blocks.{saver_after, saver_in, saving_after}
use Rattle.journal_laws.specs.Walks.{HasComeTo, HasGivenUp, IsFollowed, WalksAreFollowed}
use Rattle.journal_laws.proofs.events.HostEvents.{HasCome, begun, comes}
use Rattle.journal_laws.proofs.events.HostSteps.{step_makes}
use Rattle.journal_laws.proofs.events.Outlets.{stays_flushed}
use Rattle.journal_laws.proofs.follow.Begun.{walk_begins}
use Rattle.journal_laws.proofs.follow.Ended.{ended_before, walk_ends}
use Rattle.journal_laws.proofs.follow.GivenUp.{given_up_to, nothing_given_up, still_given_up}
use Rattle.journal_laws.proofs.follow.Noted.{AreOfPrepared}
use Rattle.journal_laws.proofs.follow.Oldest.{added, logged_is}
use Rattle.journal_laws.proofs.follow.Passing.{goes_on_beside, passes_on}

module _ (start : Start) (nobody : NobodyStarts start) (member : Member) (there : IsIn member (made start)) where
  abbrev rows_first : RowsState
  rows_first = first_rows start member

  -- All that is known of a log and its events. Of the saver it is what its stage tells.
  record Knows (log : List HostStep) (events : List Event) : Type 0 where
    come : HasCome rows_first (lqh_after start member log) events
    prepared : AreOfPrepared rows_first events
    given_up : HasGivenUp start member log events
    walk : HasComeTo start member log events (saver_after start member log).stage

  pub first_saver : saver_after start member [] ≡ fresh_saver start.start_epoch 0
  first_saver =
      ap (λ (s : HostBody). saver_in (fresh_saver start.start_epoch 0) s.parts) (ldm_started start nobody member there)

  knows_first : Knows [] []
  knows_first = record {
    come = begun start member there nobody;
    prepared = tt;
    given_up = nothing_given_up start member there nobody;
    walk = subst (λ (v : SaverState). HasComeTo start member [] [] v.stage) (sym first_saver) tt;
  }

  -- a step more
  module _ (log : List HostStep) (e : HostStep) (older : List Event) (knows : Knows log older)
      (are : AreRecords (records_behind rows_first older)) where
    abbrev s : SavingState
    s = saving_after start member log

    abbrev t : SavingState
    t = saving_after start member (e ∷ log)

    abbrev it : Todo
    it = todo_at start member e log

    abbrev Now : Option Event → Type 0
    Now event = Knows (e ∷ log) (option_to_list event ++ older)

    abbrev Come : Option Event → Type 0
    Come event = HasCome rows_first t.replica.lqh (option_to_list event ++ older)

    abbrev Way : Option Event → Stage → Type 0
    Way event stage = HasComeTo start member (e ∷ log) (option_to_list event ++ older) stage

    more_prepared : (event : Option Event) → IsOfPrepared event s.replica.lqh.rows
        → AreOfPrepared rows_first (option_to_list event ++ older)
    more_prepared None of = knows.prepared
    more_prepared (Some event) of = (subst (IsOfPrepared (Some event)) knows.come.rows of, knows.prepared)

    -- the stage at which the saver was
    stage_was : (stage : Stage) → s.saver.stage ≡ stage → HasComeTo start member log older stage
    stage_was stage is = subst (HasComeTo start member log older) is knows.walk

    -- the rows go on, beside a walk or behind it
    beside : (event : Option Event) → IsNoStep event → it ≡ todo.Nothing → (stage : Stage)
        → HasComeTo start member log older stage → Way event stage
    beside event none nothing Resting way = tt
    beside event none nothing (Walking walk to) way =
        goes_on_beside start member log older e walk way event none nothing
    beside event none nothing (Walked finished end) way =
        ended_before start member there log older e finished end way event nothing

    keeps_stage : (event : Option Event) → KeepsStage s t → IsNoStep event → it ≡ todo.Nothing
        → Way event t.saver.stage
    keeps_stage event keeps none nothing = by keeps.stage
      where
        by : (t.saver.stage ≡ s.saver.stage) ⊎ (t.saver.stage ≡ Resting) → Way event t.saver.stage
        by (inl same) = subst (Way event) (sym same) (beside event none nothing s.saver.stage knows.walk)
        by (inr rests) = subst (Way event) (sym rests) tt

    flushed_by : (event : Option Event) → IsMadeBy s.replica.lqh t.replica.lqh e.step.taken.body event
        → t.replica.lqh.outlet.flushed ≡ s.replica.lqh.outlet.flushed
    flushed_by None makes = ap (λ (o : OutletState). o.flushed) makes.outlet
    flushed_by (Some event) makes =
        ap (λ (o : OutletState). o.flushed) makes.outlet
        ∙ stays_flushed event s.replica.lqh.rows s.replica.lqh.outlet (records_behind rows_first older)
        knows.come.outlet

    given_by : (event : Option Event) → t.replica.lqh.rows ≡ changed_if event s.replica.lqh.rows
        → t.replica.lqh.outlet.flushed ≡ s.replica.lqh.outlet.flushed → t.saver.floor ≡ s.saver.floor
        → HasGivenUp start member (e ∷ log) (option_to_list event ++ older)
    given_by event changed flushed floor =
        still_given_up start member there log older knows.come knows.given_up nobody e flushed floor event changed

    given_same : LeavesAll s t → HasGivenUp start member (e ∷ log) older
    given_same leaves =
        given_by None leaves.rows (ap (λ (o : OutletState). o.flushed) leaves.outlet) leaves.noted.floor

    -- a step that leaves rows and journal as they are
    stays : Come None → LeavesAll s t → Way None t.saver.stage → Now None
    stays come leaves way =
        record { come = come; prepared = knows.prepared; given_up = given_same leaves; walk = way }

    knows_more : (event : Option Event) → Come event → IsStepBy s t e.step.taken.body it event → Now event
    knows_more event come (rows makes keeps none nothing) = record {
      come = come;
      prepared = more_prepared event makes.prepared;
      given_up = given_by event makes.rows (flushed_by event makes) keeps.noted.floor;
      walk = keeps_stage event keeps none nothing;
    }
    knows_more event come (begins walks none nothing) =
        subst Now (sym none)
        (stays (subst Come none come) walks.leaves
        (subst (Way None) (sym walks.stage)
        (walk_begins start member there log older knows.come are knows.given_up e)))
    knows_more event come (passes walks step writes) =
        subst Now (sym step)
        (record {
          come = subst Come step come;
          prepared = (tt, knows.prepared);
          given_up =
              given_by (Some Step) walks.leaves.rows (ap (λ (o : OutletState). o.flushed) walks.leaves.outlet)
              walks.leaves.noted.floor;
          walk =
              subst (Way (Some Step)) (sym walks.stage)
              (passes_on start member log older e walks.walk (stage_was (Walking walks.walk walks.to) walks.was)
              knows.come walks.at walks.more writes);
        })
    knows_more event come (ends walks none syncs) =
        subst Now (sym none)
        (stays (subst Come none come) walks.leaves
        (subst (Way None) (sym walks.stage)
        (walk_ends start member there log older e knows.come are knows.given_up knows.prepared walks.walk
        (stage_was (Walking walks.walk walks.to) walks.was) walks.none syncs)))
    knows_more event come (switches finished to none names) =
        subst Now (sym none)
        (record {
          come = subst Come none come;
          prepared = knows.prepared;
          given_up =
              given_up_to start member there nobody log older e finished to knows.come
              (stage_was (Walked finished to.end) to.was);
          walk = subst (Way None) (sym to.stage) tt;
        })

  older_records : (event : Option Event) (older : List Event)
      → AreRecords (records_behind rows_first (option_to_list event ++ older))
      → AreRecords (records_behind rows_first older)
  older_records None older are = are
  older_records (Some event) older are =
      by (added event (rows_behind rows_first older))
      (subst AreRecords (logged_is event (rows_behind rows_first older) (records_behind rows_first older)) are)
    where
      by : (o : Option Redo) → AreRecords (option_to_list o ++ records_behind rows_first older)
          → AreRecords (records_behind rows_first older)
      by None are = are
      by (Some r) are = are.1

  knows_all : (log : List HostStep) (events : List Event) → AreEventsOf start member log events
      → AreRecords (records_behind rows_first events) → Knows log events
  knows_all [] events none are = subst (Knows []) (sym none) knows_first
  knows_all (e ∷ log) events of are =
      let event : Option Event = of.0 in
      let older : List Event = of.1.0 in
      let now : AreRecords (records_behind rows_first (option_to_list event ++ older)) =
      subst (λ (all : List Event). AreRecords (records_behind rows_first all)) of.1.1.0 are in
      let before : AreRecords (records_behind rows_first older) = older_records event older now in
      let knows : Knows log older = knows_all log older of.1.1.1 before in
      subst (Knows (e ∷ log)) (sym of.1.1.0)
      (knows_more log e older knows before event
      (comes rows_first (saving_after start member log) (saving_after start member (e ∷ log)) e.step.taken.body
      (todo_at start member e log) older knows.come event of.1.1.2) of.1.1.2)

  -- an epoch that the saver knows as durable was told it
  told_done : (log : List HostStep) → IsLog (machine start) (ldm_of start member) log
      → IsToldDone start member log (saver_after start member log).durable
  told_done [] is =
      let same : (saver_after start member []).durable ≡ start.start_epoch =
      ap (λ (v : SaverState). v.durable) first_saver in omega (arith, same)
  told_done (e ∷ log) is = by (told_done log is.1) (step_makes start nobody member there log e is.0.fits.marks).knows
    where
      by : IsToldDone start member log (saver_after start member log).durable
          → ((saver_after start member (e ∷ log)).durable ≡ (saver_after start member log).durable)
          ⊎ ((is_well_formed start.shape e.step.taken ≡ true)
          × TellsDone (saver_after start member (e ∷ log)).durable e.step.taken.body)
          → IsToldDone start member (e ∷ log) (saver_after start member (e ∷ log)).durable
      by before (inl same) = inr (subst (IsToldDone start member log) (sym same) before)
      by before (inr done) = inl done

  pub followed : (log : List HostStep) (events : List Event) → IsLog (machine start) (ldm_of start member) log
      → HasRecords start member log events → IsFollowed start member log events
  followed log events is has =
      let knows = knows_all log events has.events_of has.records in
      record { given_up = knows.given_up; walk = knows.walk; durable = told_done log is }

pub walks_followed : WalksAreFollowed
walks_followed start all es moment member there events has =
    let h : ℕ = ldm_of start member in
    followed start moment.cluster.nobody member there (logs_of start es h) events
    (log_past (machine start) h (moment.inside h) (moment.cluster.right.local h)) has
