-- What holds of each form of a step of a node's rows and their saver holds of each step.
use Rattle.std.proofs.Common.{◌≡◌, ◌==◌, ◌&&◌, ◌∙◌, ℕ, Bool, true, false, refl, ap}
use Rattle.std.specs.Prelude.{if◌then◌else◌, nat_lt, Option, None, Some}
use Rattle.sig_core.specs.declared.mark.Mark.{Mark}
use Rattle.sig_core.specs.declared.outs.Outgoing.{Outgoing}
use Rattle.sig_core.specs.declared.signal.Body.{Body}
use Rattle.sig_core.specs.declared.signal.Body.TheVariants.{Checkpoint, Epoch, Host}
use Rattle.sig_core.specs.declared.signal.Signal.{Signal}
use Rattle.sig_core.specs.declared.signal.checkpoint.CheckpointSignal.TheVariants.{LcpFragOrd, LcpFragRep, LcpSwitch}
use Rattle.sig_core.specs.declared.signal.checkpoint.CheckpointSignal.TheVariants.{LcpSwitchConf}
use Rattle.sig_core.specs.declared.signal.epoch.EpochSignal.TheVariants.{GcpDone}
use Rattle.sig_core.specs.declared.signal.host.HostSignal.TheVariants.{Continue}
use Rattle.sig_core.specs.declared.signal.host.Work.TheVariants as work
use Rattle.sig_core.specs.declared.walk.Finished.{Finished}
use Rattle.sig_core.specs.Journal.{end_of}
use Rattle.sig_core.specs.Place.{checkpoints, rows_of}
use Rattle.sig_core.specs.Portion.{go_on_at}
use Rattle.sig_core.specs.Rows.{next_place}
use Rattle.sig_core.specs.Step.{Step, stay, to_place}
use Rattle.sig_core.specs.Walk.{WalkState, next_piece, stepped}
use Rattle.step_forms.specs.Does.{Does, IsAmong, IsWord, Speaks}
use Rattle.step_forms.proofs.DoesLemmas.{does_map}
use Rattle.lqh_views.specs.Replica.{replica_row}
use Rattle.lqh_views.specs.State.{ReplicaState}
use Rattle.lqh_views.specs.Words.{is_replica_mark, is_replica_word}
use Rattle.lqh_views.proofs.Walk.{replica_words}
use Rattle.lqh_saver.specs.declared.stage.Stage.{Stage}
use Rattle.lqh_saver.specs.declared.stage.Stage.TheVariants.{Resting, Walking, Walked}
use Rattle.lqh_saver.specs.declared.stage.Todo.TheVariants as todo
use Rattle.lqh_saver.specs.Laws.{RowsCase, StepsAreOfRows, gives_up, leaves, takes}
use Rattle.lqh_saver.specs.Redo.{noted}
use Rattle.lqh_saver.specs.Saver.{idling, in_rows, noticing, passed, saver_by, saver_row, with_durable}
use Rattle.lqh_saver.specs.State.{SaverState, SavingState, with_saved_end}
use Rattle.lqh_saver.specs.Switching.{has_position, is_usable, switch_by, switch_if}
use Rattle.lqh_saver.specs.Walking.{ends_walk, going_on, order_row, passes, walk_by, walk_if}
use Rattle.lqh_saver.specs.Words.{SaverKeepsToItsWords, is_saver_word}

-- the signal is the saver's own
abbrev pub is_savers : Body → Bool
is_savers (Checkpoint LcpFragOrd) = true
is_savers (Checkpoint LcpSwitch) = true
is_savers (Host (Continue work.Walk at)) = true
is_savers _ = false

-- the rows take the signal, and it tells their saver nothing
abbrev pub is_passed : Body → Bool
is_passed (Checkpoint LcpFragOrd) = false
is_passed (Checkpoint LcpSwitch) = false
is_passed (Host (Continue work.Walk at)) = false
is_passed (Epoch (GcpDone epoch)) = false
is_passed _ = true

-- R is of each step that the rows and their saver may take at the signal
pub record SaverOutcomes (s : SavingState) (x : Signal) (R : Step SavingState → Type 0) : Type 0 where
  -- the rows take it, and it may tell that an epoch is durable
  pub passes : is_passed x.body ≡ true → R (passed (idling s) x)
  pub durable : (epoch : ℕ) → x.body ≡ Epoch (GcpDone epoch) → R (passed (with_durable (idling s) epoch) x)
  -- a walk begins, passes some rows, or ends
  pub orders : x.body ≡ Checkpoint LcpFragOrd → R (order_row (idling s) x.member.node)
  pub writes : (n : ℕ) (walk : WalkState) (to at : ℕ) → x.body ≡ Host (Continue work.Walk n)
      → s.saver.stage ≡ Walking walk to → next_place s.replica.lqh.rows walk.place ≡ Some at
      → R (going_on (idling s) (Walking (stepped s.replica.lqh.rows walk) to)
      (todo.Write (next_piece s.replica.lqh.rows walk)))
  pub ends : (n : ℕ) (walk : WalkState) (to : ℕ) → x.body ≡ Host (Continue work.Walk n)
      → s.saver.stage ≡ Walking walk to → next_place s.replica.lqh.rows walk.place ≡ None
      → R (ends_walk (idling s) walk to (noted s.saver.floor s.replica.lqh.outlet))
  -- a checkpoint that is usable is to be named
  pub switches : (finished : Finished) (end : ℕ) → x.body ≡ Checkpoint LcpSwitch
      → s.saver.stage ≡ Walked finished end → has_position s.replica.lqh.outlet finished.from ≡ true
      → is_usable s.saver s.replica.saved finished end ≡ true → R (switch_if (idling s) x.member.node finished true)
  -- nothing comes of it
  pub idles : is_savers x.body ≡ true → R (stay (idling s))

module _ (s : SavingState) (x : Signal) (R : Step SavingState → Type 0) (forms : SaverOutcomes s x R) where
  walks : (n : ℕ) → x.body ≡ Host (Continue work.Walk n)
      → R (walk_if (idling s) (x.view.number == s.replica.lqh.layout.view.number))
  walks n is = by (x.view.number == s.replica.lqh.layout.view.number)
    where
      next : (walk : WalkState) (to : ℕ) → s.saver.stage ≡ Walking walk to → (o : Option ℕ)
          → next_place s.replica.lqh.rows walk.place ≡ o → R (passes (idling s) walk to o)
      next walk to walking None none = forms.ends n walk to is walking none
      next walk to walking (Some at) some = forms.writes n walk to at is walking some

      at_stage : (stage : Stage) → s.saver.stage ≡ stage → R (walk_by (idling s) stage)
      at_stage (Walking walk to) walking = next walk to walking (next_place s.replica.lqh.rows walk.place) refl
      at_stage Resting resting = forms.idles (ap is_savers is)
      at_stage (Walked finished end) walked = forms.idles (ap is_savers is)

      by : (same : Bool) → R (walk_if (idling s) same)
      by true = at_stage s.saver.stage refl
      by false = forms.idles (ap is_savers is)

  switches_by : x.body ≡ Checkpoint LcpSwitch → R (switch_by (idling s) x.member.node s.saver.stage)
  switches_by is = at_stage s.saver.stage refl
    where
      by : (finished : Finished) (end : ℕ) → s.saver.stage ≡ Walked finished end
          → (has : Bool) → has_position s.replica.lqh.outlet finished.from ≡ has
          → (usable : Bool) → is_usable s.saver s.replica.saved finished end ≡ usable
          → R (switch_if (idling s) x.member.node finished (has && usable))
      by finished end walked true has true usable = forms.switches finished end is walked has usable
      by finished end walked true has false usable = forms.idles (ap is_savers is)
      by finished end walked false has true usable = forms.idles (ap is_savers is)
      by finished end walked false has false usable = forms.idles (ap is_savers is)

      at_stage : (stage : Stage) → s.saver.stage ≡ stage → R (switch_by (idling s) x.member.node stage)
      at_stage (Walked finished end) walked =
          by finished end walked (has_position s.replica.lqh.outlet finished.from) refl
          (is_usable s.saver s.replica.saved finished end) refl
      at_stage Resting resting = forms.idles (ap is_savers is)
      at_stage (Walking walk to) walking = forms.idles (ap is_savers is)

  -- whatever they take
  pub saver_outcomes : R (saver_row s x)
  saver_outcomes = by x.body refl
    where
      by : (body : Body) → x.body ≡ body → R (saver_by (idling s) x body)
      by (Checkpoint LcpFragOrd) is = forms.orders is
      by (Checkpoint LcpSwitch) is = switches_by is
      by (Host (Continue work.Walk at)) is = walks at is
      by (Epoch (GcpDone epoch)) is = forms.durable epoch is
      by _ is = forms.passes (ap is_passed is)

-- what their saver sends of its own
pub record SaverSends (s : SavingState) (x : Signal) (P : Outgoing → Type 0) : Type 0 where
  pub goes_on : is_savers x.body ≡ true → P (go_on_at (rows_of s.replica.lqh.node) work.Walk 0)
  pub reports : (walk : WalkState) (to : ℕ) → is_savers x.body ≡ true → s.saver.stage ≡ Walking walk to
      → P (to_place (checkpoints to) (Checkpoint (LcpFragRep (noted s.saver.floor s.replica.lqh.outlet))))
  pub confirms : (finished : Finished) (end : ℕ) → x.body ≡ Checkpoint LcpSwitch
      → s.saver.stage ≡ Walked finished end → is_usable s.saver s.replica.saved finished end ≡ true
      → P (to_place (checkpoints x.member.node) (Checkpoint LcpSwitchConf))

-- what is so of what the rows do with the signal, and of what their saver sends, is so of the step
pub saver_each : (s : SavingState) (x : Signal) (P : Outgoing → Type 0) (M : Mark → Type 0)
    → Does P M (replica_row s.replica x) → SaverSends s x P → Does P M (saver_row s x)
saver_each s x P M rows own =
    saver_outcomes s x (λ step. Does P M step) (record {
      passes = λ is. rows;
      durable = λ epoch is. rows;
      orders = λ is. ((own.goes_on (ap is_savers is), tt), tt);
      writes = λ n walk to at is walking some. ((own.goes_on (ap is_savers is), tt), tt);
      ends = λ n walk to is walking none. ((own.reports walk to (ap is_savers is) walking, tt), tt);
      switches = λ finished end is walked has usable. ((own.confirms finished end is walked usable, tt), tt);
      idles = λ is. (tt, tt);
    })

-- a word of the rows is one of theirs with their saver
is_word : (body : Body) → is_replica_word body ≡ true → is_saver_word body ≡ true
is_word (Checkpoint (LcpFragRep epoch)) is = refl
is_word (Checkpoint LcpSwitchConf) is = refl
is_word (Host (Continue work.Walk at)) is = refl
is_word _ is = is

pub rows_words : (s : ReplicaState) (x : Signal) → Speaks is_saver_word is_replica_mark (replica_row s x)
rows_words s x =
    does_map (IsWord is_replica_word) (IsWord is_saver_word) (IsAmong is_replica_mark) (IsAmong is_replica_mark)
    (replica_row s x) (λ sent is. is_word sent.body is) (λ mark is. is) (replica_words.takes s x)

pub saver_words : SaverKeepsToItsWords
saver_words = record {
  takes = λ s x.
      saver_each s x (IsWord is_saver_word) (IsAmong is_replica_mark) (rows_words s.replica x)
      (record {
        goes_on = λ is. refl;
        reports = λ walk to is walking. refl;
        confirms = λ finished end is walked usable. refl;
      });
  installs = λ s view. (tt, tt);
}

-- what a saver notices of a step of the rows leaves the rest of it
module _ (v : SaverState) (saved : ℕ) (t : ReplicaState) where
  notices_stage : (noticing v saved t).stage ≡ v.stage
  notices_stage = by (nat_lt saved t.saved)
    where
      by : (b : Bool) → (if b then with_saved_end v (end_of t.lqh.outlet) else v).stage ≡ v.stage
      by true = refl
      by false = refl

  notices_floor : (noticing v saved t).floor ≡ v.floor
  notices_floor = by (nat_lt saved t.saved)
    where
      by : (b : Bool) → (if b then with_saved_end v (end_of t.lqh.outlet) else v).floor ≡ v.floor
      by true = refl
      by false = refl

  pub notices_todo : (noticing v saved t).todo ≡ v.todo
  notices_todo = by (nat_lt saved t.saved)
    where
      by : (b : Bool) → (if b then with_saved_end v (end_of t.lqh.outlet) else v).todo ≡ v.todo
      by true = refl
      by false = refl

-- which of the three a step is
pub saver_cases : StepsAreOfRows
saver_cases s x =
    saver_outcomes s x (RowsCase s x) (record {
      passes = λ is. took (idling s).saver refl refl refl;
      durable = λ epoch is. took (with_durable (idling s) epoch).saver refl refl refl;
      orders = λ is. leaves (record { rows = refl; floor = refl });
      writes = λ n walk to at is walking some. leaves (record { rows = refl; floor = refl });
      ends = λ n walk to is walking none. leaves (record { rows = refl; floor = refl });
      switches = λ finished end is walked has usable.
          gives_up (record {
            finished = finished;
            end = end;
            ordered = is;
            walked = walked;
            has = has;
            usable = usable;
            rows = refl;
            floor = refl;
            todo = refl;
          });
      idles = λ is. leaves (record { rows = refl; floor = refl });
    })
  where
    took : (v : SaverState) → v.stage ≡ s.saver.stage → v.floor ≡ s.saver.floor → v.todo ≡ todo.Nothing
        → RowsCase s x (in_rows (record { replica = s.replica; saver = v }) (replica_row s.replica x))
    took v stage floor none =
        takes (record {
          rows = refl;
          effects = refl;
          stage = notices_stage v s.replica.saved (replica_row s.replica x).state ∙ stage;
          floor = notices_floor v s.replica.saved (replica_row s.replica x).state ∙ floor;
          todo = notices_todo v s.replica.saved (replica_row s.replica x).state ∙ none;
        })
