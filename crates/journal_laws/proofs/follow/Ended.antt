-- A walk has passed all rows, and what follows it.
use Rattle.std.proofs.Common.{◌≡◌, ◌+◌, ◌∙◌, ◌++◌, ℕ, List, ◌∷◌, sym, ap, subst, arith}
use Rattle.std.specs.Prelude.{Option, None, Some, option_to_list}
use Rattle.run_theory.specs.Lists.{IsIn}
use Rattle.sig_core.specs.declared.member.Member.{Member}
use Rattle.sig_core.specs.declared.redo.Redo.{Redo}
use Rattle.sig_core.specs.declared.walk.Finished.{Finished}
use Rattle.sig_core.specs.Journal.{OutletState, end_of}
use Rattle.sig_core.specs.Rows.{RowsState, next_place}
use Rattle.sig_core.specs.Walk.{WalkState}
use Rattle.redo_log.specs.Replaying.{AreRecords}
use Rattle.local_ckpt.specs.Events.{Event, Moment}
use Rattle.local_ckpt.specs.Laws.{at_first}
use Rattle.lqh_saver.specs.declared.stage.Todo.TheVariants.{Nothing, Sync}
use Rattle.lqh_saver.specs.Redo.{noted, noted_from}
use Rattle.lqh_saver.specs.Walking.{finished_of}
use Rattle.world_core.specs.Start.{Start, made}
use Rattle.world_core.specs.Steps.{HostStep}
use Rattle.journal_laws.specs.Checkpoints.{Portions, end_of_walk, records_at_walk, rows_at_walk, whole}
use Rattle.journal_laws.specs.Events.{AreUpTo, records_behind, rows_behind}
use Rattle.journal_laws.specs.Journal.{first_rows, lqh_after, outlet_with}
use Rattle.journal_laws.specs.Saver.{todo_at, written, written_by}
use Rattle.request_laws.specs.Blocks.{saver_after}
use Rattle.journal_laws.specs.Walks.{HasEnded, HasGivenUp, IsOnItsWay, pieces_if, position_behind}
use Rattle.journal_laws.proofs.events.HostEvents.{HasCome}
use Rattle.journal_laws.proofs.events.Outlets.{end_same}
use Rattle.journal_laws.proofs.follow.GivenUp.{are_kept, records_left}
use Rattle.journal_laws.proofs.follow.Noted.{AreOfPrepared, both_up, newer_prepared, noted_least, up_to_noted}
use Rattle.journal_laws.proofs.follow.Parsing.{in_turn}
use Rattle.journal_laws.proofs.follow.Passing.{next_is, until_now, written_same}
use Rattle.journal_laws.proofs.walks.Epochs.{behind_but, had_noted}
use Rattle.journal_laws.proofs.walks.Locks.{later_up}

module _ (start : Start) (member : Member) (there : IsIn member (made start)) (log : List HostStep)
    (events : List Event) (e : HostStep) where
  abbrev rows_first : RowsState
  rows_first = first_rows start member

  -- what followed
  pub ended_before : (finished : Finished) (end : ℕ) → HasEnded start member log events finished end
      → (event : Option Event) → todo_at start member e log ≡ Nothing
      → HasEnded start member (e ∷ log) (option_to_list event ++ events) finished end
  ended_before finished end has event nothing = record {
    portions = with_more event;
    is = more_is event;
    began = record { from = has.began.from; prepares = has.began.prepares };
    passed = has.passed;
    size = has.size;
    pieces =
        has.pieces ∙ ap (pieces_if finished.size) (sym (written_same start member log events e nothing));
    epoch = has.epoch;
    end_is = has.end_is;
  }
    where
      with_more : Option Event → Portions
      with_more event = record {
        later = option_to_list event ++ has.portions.later;
        meanwhile = has.portions.meanwhile;
        nearer = has.portions.nearer;
        gone = has.portions.gone;
      }

      more_is : (event : Option Event) → option_to_list event ++ events ≡ whole (with_more event)
      more_is None = has.is
      more_is (Some event) = ap (λ (all : List Event). event ∷ all) has.is

  module _ (come : HasCome rows_first (lqh_after start member log) events)
      (are : AreRecords (records_behind rows_first events)) (given_up : HasGivenUp start member log events)
      (prepared : AreOfPrepared rows_first events) where
    abbrev o : OutletState
    o = (lqh_after start member log).outlet

    abbrev floor : ℕ
    floor = (saver_after start member log).floor

    -- nothing was committed later than is noted
    all_noted : AreUpTo (noted floor o) events
    all_noted =
        let kept = are_kept start member there log events come given_up are in
        let left : List Redo = records_left start member there log events come given_up in
        subst (λ (epoch : ℕ). AreUpTo epoch events) (sym (ap (noted_from floor) kept))
        (subst (AreUpTo (noted_from floor (in_turn left))) (sym given_up.split)
        (both_up (noted_from floor (in_turn left)) given_up.since given_up.gone
        (up_to_noted floor (rows_behind rows_first given_up.gone) given_up.since
        (newer_prepared rows_first given_up.since given_up.gone
        (subst (AreOfPrepared rows_first) given_up.split prepared)))
        (later_up floor (noted_from floor (in_turn left)) (noted_least floor (in_turn left)) given_up.gone
        given_up.floor)))

    end_there : end_of o ≡ position_behind start member events
    end_there =
        end_same o (outlet_with (records_behind rows_first events)) come.outlet
        ∙ (let e : 0 + position_behind start member events ≡ position_behind start member events = omega arith in e)

    module _ (walk : WalkState) (way : IsOnItsWay start member log events walk) where
      abbrev p : Portions
      p = way.portions

      abbrev m : Moment
      m = end_of_walk rows_first p 0 walk.from walk.epoch

      abbrev epoch : ℕ
      epoch = noted floor o

      abbrev at_end : Moment
      at_end = end_of_walk rows_first p 0 walk.from epoch

      -- what the walk noted before makes no difference
      same : (other : ℕ) × (at_end ≡ had_noted m other)
      same =
          behind_but (at_first (rows_at_walk rows_first p) (records_at_walk rows_first p) 0 walk.from walk.epoch) epoch
          p.meanwhile

      pub walk_ends : next_place (lqh_after start member log).rows walk.place ≡ None
          → todo_at start member e log ≡ Sync
          → HasEnded start member (e ∷ log) events (finished_of walk epoch) (end_of o)
      walk_ends none syncs = record {
        portions = p;
        is = way.is;
        began = record { from = way.began.from; prepares = way.began.prepares };
        passed =
            ap (λ (n : Moment). next_place n.rows n.walk.place) same.1
            ∙ next_is start member log events e walk way come ∙ none;
        size =
            ap (λ (w : WalkState). w.size) way.walk_is ∙ sym (ap (λ (n : Moment). n.walk.size) same.1);
        pieces =
            ap (λ (n : Moment). n.pieces) same.1 ∙ way.pieces
            ∙ ap (pieces_if walk.size) (sym (ap (λ it. written_by it (written start member log)) syncs));
        epoch = subst (AreUpTo epoch) (until_now start member log events e walk way) all_noted;
        end_is =
            end_there ∙ ap (position_behind start member) (until_now start member log events e walk way);
      }
