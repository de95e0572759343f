-- What a step of the rows and their saver comes to.
use Rattle.std.proofs.Common.{◌≡◌, ◌≤◌, ◌∙◌, ℕ, Bool, true, false, nat_lt, refl, sym, subst, inl, inr, arith}
use Rattle.std.proofs.lemmas.Bool.{ltb-false, ltb-true}
use Rattle.std.specs.Prelude.{◌⊎◌, if◌then◌else◌, Option, None, Some}
use Rattle.sig_core.specs.declared.signal.Body.{Body}
use Rattle.sig_core.specs.declared.signal.Body.TheVariants.{Epoch}
use Rattle.sig_core.specs.declared.signal.Signal.{Signal}
use Rattle.sig_core.specs.declared.signal.epoch.EpochSignal.TheVariants.{GcpDone}
use Rattle.sig_core.specs.Journal.{end_of}
use Rattle.redo_log.specs.Replaying.{AreRecords}
use Rattle.local_ckpt.specs.Events.{Event, Step}
use Rattle.lqh_views.specs.Replica.{replica_row}
use Rattle.lqh_views.specs.State.{ReplicaState}
use Rattle.lqh_saver.specs.declared.stage.Todo.{Todo}
use Rattle.lqh_saver.specs.declared.stage.Todo.TheVariants as todo
use Rattle.lqh_saver.specs.Saver.{idling, in_rows, noticing, saver_row, with_durable}
use Rattle.lqh_saver.specs.State.{SaverState, SavingState, greater, saving, with_saved_end}
use Rattle.lqh_saver.proofs.Walk.{notices_todo, saver_outcomes}
use Rattle.journal_laws.specs.Events.{IsMadeBy, records_if}
use Rattle.journal_laws.specs.Saver.{IsStepBy, LeavesAll, NotesSaves, TellsDone}
use Rattle.journal_laws.specs.Saver.{begins, ends, passes, rows, switches}
use Rattle.journal_laws.proofs.events.ReplicaEvents.{replica_makes, saved_rises}
use Rattle.journal_laws.proofs.events.Writable.{AreWritable, IsWritable}

-- the saver knows no more epochs as durable, or the signal told it one
abbrev pub KnowsDone : SavingState → SavingState → Body → Type 0
KnowsDone s t body = (t.saver.durable ≡ s.saver.durable) ⊎ TellsDone t.saver.durable body

-- What became of the rows and their saver, by an event or none.
pub record SaverMakes (s t : SavingState) (body : Body) (it : Todo) : Type 0 where
  pub event : Option Event
  pub by : IsStepBy s t body it event
  pub notes : NotesSaves s t
  pub knows : KnowsDone s t body
  pub writes : AreWritable s.replica.lqh → IsWritable body
      → AreWritable t.replica.lqh × AreRecords (records_if event s.replica.lqh.rows)

-- nothing became of the rows
pub none_made : (s t : SavingState) (body : Body) → t.replica.lqh.rows ≡ s.replica.lqh.rows
    → t.replica.lqh.outlet ≡ s.replica.lqh.outlet → IsMadeBy s.replica.lqh t.replica.lqh body None
none_made s t body same outlet = record { rows = same; outlet = outlet; ordered = tt; prepared = tt }

-- what a saver notices of a step of the rows leaves all else that is in it
module _ (v : SaverState) (saved : ℕ) (t : ReplicaState) where
  notices : {A : Type 0} (part : SaverState → A)
      → ((end : ℕ) → part (with_saved_end v end) ≡ part v) → part (noticing v saved t) ≡ part v
  notices part same = by (nat_lt saved t.saved)
    where
      by : (b : Bool) → part (if b then with_saved_end v (end_of t.lqh.outlet) else v) ≡ part v
      by true = same (end_of t.lqh.outlet)
      by false = refl

  -- and knows where the journal ended, where a later epoch was saved
  notices_save : saved ≤ t.saved
      → ((t.saved ≡ saved) × ((noticing v saved t).saved_end ≡ v.saved_end))
      ⊎ ((nat_lt saved t.saved ≡ true) × ((noticing v saved t).saved_end ≡ end_of t.lqh.outlet))
  notices_save rises = by (nat_lt saved t.saved) refl
    where
      by : (b : Bool) → nat_lt saved t.saved ≡ b
          → ((t.saved ≡ saved)
          × ((if b then with_saved_end v (end_of t.lqh.outlet) else v).saved_end ≡ v.saved_end))
          ⊎ ((b ≡ true)
          × ((if b then with_saved_end v (end_of t.lqh.outlet) else v).saved_end ≡ end_of t.lqh.outlet))
      by true is = inr (refl, refl)
      by false is = inl (omega (arith, rises, ltb-false saved t.saved is), refl)

module _ (s : SavingState) (x : Signal) where
  -- the rows take the signal, beside a saver with this to say of epochs
  took : (v : SaverState) → v.floor ≡ s.saver.floor → v.named ≡ s.saver.named → v.stage ≡ s.saver.stage
      → v.saved_end ≡ s.saver.saved_end → v.todo ≡ todo.Nothing
      → (v.durable ≡ s.saver.durable) ⊎ TellsDone v.durable x.body
      → SaverMakes s (in_rows (saving s.replica v) (replica_row s.replica x)).state x.body
      (in_rows (saving s.replica v) (replica_row s.replica x)).state.saver.todo
  took v floor named stage end none durable =
      let makes = replica_makes s.replica x in
      let t : ReplicaState = (replica_row s.replica x).state in
      let saved : ℕ = s.replica.saved in
      record {
        event = makes.event;
        by =
            rows makes.by
            (record {
              noted = record {
                floor = notices v saved t (λ (w : SaverState). w.floor) (λ end. refl) ∙ floor;
                named = notices v saved t (λ (w : SaverState). w.named) (λ end. refl) ∙ named;
              };
              stage = inl (notices v saved t (λ (w : SaverState). w.stage) (λ end. refl) ∙ stage);
            })
            makes.no_step (notices_todo v saved t ∙ none);
        notes = now (notices_save v saved t (saved_rises s.replica x));
        knows =
            subst (λ (n : ℕ). (n ≡ s.saver.durable) ⊎ TellsDone n x.body)
            (sym (notices v saved t (λ (w : SaverState). w.durable) (λ end. refl))) durable;
        writes = makes.writes;
      }
    where
      after : ReplicaState
      after = (replica_row s.replica x).state

      seen : SaverState
      seen = noticing v s.replica.saved after

      now : ((after.saved ≡ s.replica.saved) × (seen.saved_end ≡ v.saved_end))
          ⊎ ((nat_lt s.replica.saved after.saved ≡ true) × (seen.saved_end ≡ end_of after.lqh.outlet))
          → NotesSaves s (saving after seen)
      now (inl same) = inl (same.0, same.1 ∙ end)
      now (inr later) = inr (ltb-true s.replica.saved after.saved later.0, later.1)

  greater_cases : (one other : ℕ) → (greater one other ≡ one) ⊎ (greater one other ≡ other)
  greater_cases one other = by (nat_lt one other)
    where
      by : (b : Bool) → ((if b then other else one) ≡ one) ⊎ ((if b then other else one) ≡ other)
      by true = inr refl
      by false = inl refl

  knows_more : (epoch : ℕ) → x.body ≡ Epoch (GcpDone epoch)
      → (greater s.saver.durable epoch ≡ s.saver.durable) ⊎ TellsDone (greater s.saver.durable epoch) x.body
  knows_more epoch is = by (greater_cases s.saver.durable epoch)
    where
      by : (greater s.saver.durable epoch ≡ s.saver.durable) ⊎ (greater s.saver.durable epoch ≡ epoch)
          → (greater s.saver.durable epoch ≡ s.saver.durable) ⊎ TellsDone (greater s.saver.durable epoch) x.body
      by (inl same) = inl same
      by (inr told) =
          let least : greater s.saver.durable epoch ≤ epoch = omega (arith, told) in
          inr (subst (λ (body : Body). TellsDone (greater s.saver.durable epoch) body) (sym is) least)

  leaves_all : (t : SavingState) → t.saver.floor ≡ s.saver.floor → t.saver.named ≡ s.saver.named
      → t.replica.lqh.rows ≡ s.replica.lqh.rows → t.replica.lqh.outlet ≡ s.replica.lqh.outlet → LeavesAll s t
  leaves_all t floor named same outlet =
      record { noted = record { floor = floor; named = named }; rows = same; outlet = outlet }

  pub saver_makes : SaverMakes s (saver_row s x).state x.body (saver_row s x).state.saver.todo
  saver_makes =
      saver_outcomes s x (λ step. SaverMakes s step.state x.body step.state.saver.todo) (record {
        passes = λ is. took (idling s).saver refl refl refl refl refl (inl refl);
        durable = λ epoch is.
            took (with_durable (idling s) epoch).saver refl refl refl refl refl (knows_more epoch is);
        orders = λ is. record {
          event = None;
          by =
              begins (record { leaves = leaves_all _ refl refl refl refl; to = x.member.node; stage = refl }) refl refl;
          notes = inl (refl, refl);
          knows = inl refl;
          writes = λ are writable. (are, tt);
        };
        writes = λ n walk to at is walking some. record {
          event = Some Step;
          by =
              passes
              (record {
                leaves = leaves_all _ refl refl refl refl;
                walk = walk;
                to = to;
                was = walking;
                at = at;
                more = some;
                stage = refl;
              })
              refl refl;
          notes = inl (refl, refl);
          knows = inl refl;
          writes = λ are writable. (are, tt);
        };
        ends = λ n walk to is walking all. record {
          event = None;
          by =
              ends
              (record {
                leaves = leaves_all _ refl refl refl refl;
                walk = walk;
                to = to;
                was = walking;
                none = all;
                stage = refl;
              })
              refl refl;
          notes = inl (refl, refl);
          knows = inl refl;
          writes = λ are writable. (are, tt);
        };
        switches = λ finished end is walked has usable. record {
          event = None;
          by =
              switches finished
              (record {
                end = end;
                was = walked;
                has = has;
                usable = usable;
                rows = refl;
                outlet = refl;
                saved = refl;
                floor = refl;
                named = refl;
                stage = refl;
              })
              refl refl;
          notes = inl (refl, refl);
          knows = inl refl;
          writes = λ are writable. (
            record {
              fragments_some = are.fragments_some;
              fragments_few = are.fragments_few;
              waiting = are.waiting;
              pending = are.pending;
            },
            tt,
          );
        };
        idles = λ is. record {
          event = None;
          by =
              rows (none_made s (idling s) x.body refl refl)
              (record { noted = record { floor = refl; named = refl }; stage = inl refl }) tt refl;
          notes = inl (refl, refl);
          knows = inl refl;
          writes = λ are writable. (are, tt);
        };
      })
