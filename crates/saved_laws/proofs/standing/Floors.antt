-- A member's saver notes no epoch before the one from which the life starts.
use Rattle.std.proofs.Common.{◌≡◌, ◌≤◌, ◌⊎◌, ℕ, List, [], ◌∷◌, sym, subst, inl, inr}
use Rattle.std.proofs.Common.{arith}
use Rattle.std.specs.Prelude.{Option}
use Rattle.run_theory.specs.Lists.{IsIn}
use Rattle.sig_core.specs.declared.member.Member.{Member}
use Rattle.sig_core.specs.declared.signal.Body.{Body}
use Rattle.sig_core.specs.declared.walk.Finished.{Finished}
use Rattle.local_ckpt.specs.Events.{Event}
use Rattle.lqh_saver.specs.declared.stage.Stage.{Stage}
use Rattle.lqh_saver.specs.declared.stage.Stage.TheVariants.{Resting, Walked}
use Rattle.lqh_saver.specs.declared.stage.Todo.{Todo}
use Rattle.lqh_saver.specs.Redo.{kept_records, noted}
use Rattle.lqh_saver.specs.State.{SaverState, SavingState}
use Rattle.world_core.specs.Start.{NobodyStarts, Start, made}
use Rattle.world_core.specs.Steps.{HostStep}
use Rattle.journal_laws.specs.Journal.{AreEventsOf}
use Rattle.journal_laws.specs.Saver.{IsStepBy, begins, ends, passes, rows, switches, todo_at}
use Rattle.request_laws.specs.Blocks.{saver_after, saving_after}
use Rattle.journal_laws.proofs.follow.Follow.{first_saver}
use Rattle.journal_laws.proofs.follow.Noted.{noted_least}

module _ (least : ℕ) where
  abbrev IsNotedFrom : Stage → Type 0
  IsNotedFrom (Walked finished end) = least ≤ finished.epoch
  IsNotedFrom stage = Unit {0}

  -- what is given up is noted from there on, and what a walk has come to
  record NotesFrom (v : SaverState) : Type 0 where
    floor : least ≤ v.floor
    stage : IsNotedFrom v.stage

  kept_stage : (old now : Stage) → (now ≡ old) ⊎ (now ≡ Resting) → IsNotedFrom old → IsNotedFrom now
  kept_stage old now (inl same) is = subst IsNotedFrom (sym same) is
  kept_stage old now (inr given) is = subst IsNotedFrom (sym given) tt

  module _ (s t : SavingState) (body : Body) (it : Todo) (event : Option Event) (was : NotesFrom s.saver) where
    step_notes : IsStepBy s t body it event → NotesFrom t.saver
    step_notes (rows made keeps step nothing) = record {
      floor = subst (λ n. least ≤ n) (sym keeps.noted.floor) was.floor;
      stage = kept_stage s.saver.stage t.saver.stage keeps.stage was.stage;
    }
    step_notes (begins begun none nothing) = record {
      floor = subst (λ n. least ≤ n) (sym begun.leaves.noted.floor) was.floor;
      stage = subst IsNotedFrom (sym begun.stage) tt;
    }
    step_notes (passes walks step write) = record {
      floor = subst (λ n. least ≤ n) (sym walks.leaves.noted.floor) was.floor;
      stage = subst IsNotedFrom (sym walks.stage) tt;
    }
    step_notes (ends ended none sync) = record {
      floor = subst (λ n. least ≤ n) (sym ended.leaves.noted.floor) was.floor;
      stage =
          subst IsNotedFrom (sym ended.stage)
          (let low = was.floor in
          let up = noted_least s.saver.floor (kept_records s.replica.lqh.outlet) in
          let e : least ≤ noted s.saver.floor s.replica.lqh.outlet = omega (arith, low, up) in e);
    }
    step_notes (switches finished to none name) = record {
      floor = subst (λ n. least ≤ n) (sym to.floor) (subst IsNotedFrom to.was was.stage);
      stage = subst IsNotedFrom (sym to.stage) tt;
    }

module _ (start : Start) (nobody : NobodyStarts start) (member : Member) (there : IsIn member (made start)) where
  all_note : (log : List HostStep) (events : List Event) → AreEventsOf start member log events
      → NotesFrom start.start_epoch (saver_after start member log)
  all_note [] events are =
      subst (NotesFrom start.start_epoch) (sym (first_saver start nobody member there))
      (record { floor = omega arith; stage = tt })
  all_note (e ∷ log) events (event, (before, (is, of, step))) =
      step_notes start.start_epoch (saving_after start member log) (saving_after start member (e ∷ log))
      e.step.taken.body (todo_at start member e log) event (all_note log before of) step

  pub walked_from : (log : List HostStep) (events : List Event) → AreEventsOf start member log events
      → (finished : Finished) (end : ℕ) → (saver_after start member log).stage ≡ Walked finished end
      → start.start_epoch ≤ finished.epoch
  walked_from log events are finished end walked =
      subst (IsNotedFrom start.start_epoch) walked (all_note log events are).stage
