-- A replica is its keys.
use Rattle.std.proofs.Common.{◌≡◌, ◌%◌, ℕ, zero, suc, Bool, true, false, cond, List, [], ◌∷◌, refl, sym, ap}
use Rattle.std.proofs.Common.{◌∙◌, subst}
use Rattle.std.proofs.lemmas.Bool.{false≢true}
use Rattle.std.specs.Cmp.Lexicographic.{nat_list_cmp_total}
use Rattle.std.specs.FinMap as map
use Rattle.std.specs.Prelude.{if◌then◌else◌, Some}
use Rattle.run_theory.specs.Lists.{Each}
use Rattle.sig_core.specs.declared.member.Member.{Member}
use Rattle.sig_core.specs.declared.member.TxId.{TxId}
use Rattle.sig_core.specs.declared.place.BlockId.{BlockId}
use Rattle.sig_core.specs.declared.place.BlockId.TheVariants as block
use Rattle.sig_core.specs.declared.place.Part.{Part}
use Rattle.sig_core.specs.declared.place.Part.TheVariants as part
use Rattle.sig_core.specs.declared.signal.Body.TheVariants.{Host, Client, Chain}
use Rattle.sig_core.specs.declared.signal.chain.ChainSignal.TheVariants.{LqhKeyReq, Commit, Complete, Abort}
use Rattle.sig_core.specs.declared.signal.Signal.{Signal}
use Rattle.sig_core.specs.declared.signal.client.ClientSignal.TheVariants.{TcCommitAck, LqhWaitReq, DumpReq}
use Rattle.sig_core.specs.declared.signal.host.HostSignal.TheVariants.{Round, Continue}
use Rattle.sig_core.specs.declared.signal.host.Work.TheVariants as work
use Rattle.sig_core.specs.Rows.{RowsState, complete_record, no_rows, put_row, with_place}
use Rattle.sig_core.specs.declared.rows.PendingRecord.{PendingRecord}
use Rattle.sig_core.specs.declared.view.Shape.{Shape}
use Rattle.sig_core.specs.Same.{same_key}
use Rattle.sig_core.specs.Table.{Rows}
use Rattle.serial_model.specs.Legal.{rows_over}
use Rattle.row_locks.specs.OrderlyTables.{AreOrderly}
use Rattle.row_locks.specs.Tables.{or_unlocked}
use Rattle.row_locks.proofs.LocksLemmas.{key_cmp}
use Rattle.row_locks.proofs.TableLawLemmas.{age_round_orderly, empty_orderly, release_orderly, request_orderly}
use Rattle.row_locks.proofs.TableLawLemmas.{unwait_orderly}
use Rattle.row_records.proofs.KeyLemmas.{same as same_key-is}
use Rattle.lqh_block.specs.declared.request.Request.{Request}
use Rattle.lqh_block.specs.Dump as dump
use Rattle.lqh_block.specs.Expire as expire
use Rattle.lqh_block.specs.Fresh.{no_outlet, unused}
use Rattle.lqh_block.specs.Lqh.{unasked_yet}
use Rattle.lqh_block.specs.Operate as operate
use Rattle.lqh_block.specs.State as rows_state
use Rattle.lqh_block.specs.State.{LqhState, storage_of, unlocked}
use Rattle.lqh_block.proofs.LqhForms.{ExpireForms, acknowledge_forms, dump_forms, lqh_forms, wait_forms}
use Rattle.lqh_block.specs.Wait as wait
use Rattle.sig_core.specs.Work.{work_key}
use Rattle.lqh_block.specs.Work.{work_mode}
use Rattle.node_core.specs.Committed as committed
use Rattle.node_core.specs.declared.host.Host as host
use Rattle.node_core.specs.declared.host.Host.TheVariants.{Shell, Main, Tc, Ldm}
use Rattle.node_core.specs.Fresh.{fresh_part, fresh_shell, own_rows, with_rows}
use Rattle.node_core.specs.Row.{ldm_row, row}
use Rattle.node_core.proofs.HostCases.{keeps_rows}
use Rattle.world_core.specs.Machine.{after}
use Rattle.frag_map.specs.Layout.{Layout, first_layout, holds, nowhere}
use Rattle.frag_map.specs.Replicas.{first_start}
use Rattle.world_core.specs.Hosts.{member_at, part_by, started}
use Rattle.world_core.proofs.HostNumbers.{rows_started}
use Rattle.world_core.specs.Start.{Start, made}
use Rattle.row_records.specs.Places.{AreApart, has_place}
use Rattle.key_laws.specs.Placed.{IsPlaced}
use Rattle.key_laws.specs.Replica.{at_key, key_after}
use Rattle.host_laws.specs.ReplicaLaws.{KeysHaveRows, LogsFollowEvents, NodesBeginAtRest, event_for, event_in, key_in}
use Rattle.host_laws.specs.ReplicaLaws.{IsWell, IsWellHost, KeysBeginAtRest, LogsKeepWell, SignalsAreEvents}
use Rattle.host_laws.specs.ReplicaLaws.{SignalsKeepWell}
use Rattle.key_laws.proofs.CellsAt.{placed-aborted, placed-committed, placed-completed}
use Rattle.key_laws.proofs.PerformedAt.{placed-performed}
use Rattle.key_laws.proofs.KeyAfter.{granted_event, replica_is, request_event}
use Rattle.key_laws.proofs.EpochLemmas.{epochless}
use Rattle.key_laws.proofs.KeyEnds.{abort_event, commit_event, committed_rows, complete_event, expire_event}
use Rattle.key_laws.proofs.KeyEnds.{given_up_rows, round_event}
use Rattle.sig_core.proofs.Keys.{same_key-swap, tied-same_key}
use Rattle.row_records.proofs.PlaceLemmas.{apart-set_row, apart-with_place, has-own_place, row-set_row, row-with_place}
use Rattle.row_records.proofs.PlaceLemmas.{row_at, row_of-at}
use Rattle.key_laws.proofs.RecordsAt.{on}

acknowledged_same : (s : LqhState) (tx : TxId) (key : List ℕ) → at_key key (wait.acknowledged s tx) ≡ at_key key s
acknowledged_same s tx key = acknowledge_forms (λ step. at_key key step.state ≡ at_key key s) s tx (λ markers. refl)

wait_same : (s : LqhState) (tx : TxId) (own key : List ℕ) → at_key key (wait.wait_row s tx own).state ≡ at_key key s
wait_same s tx own key =
    wait_forms (λ step. at_key key step.state ≡ at_key key s) s tx own
    (record { none = λ is. refl; some = λ ahead is. refl })

dump_same : (s : LqhState) (at : ℕ) (key : List ℕ) → at_key key (dump.dump_row s at).state ≡ at_key key s
dump_same s at key = dump_forms (λ step. at_key key step.state ≡ at_key key s) s at (λ rows next. refl)

pub signals_are_events : SignalsAreEvents
signals_are_events s (Chain (LqhKeyReq tx what chain at)) key well =
    request_event s (record { tx = tx; work = what; chain = chain; at = at }) key
signals_are_events s (Host (Continue work.Granted at)) key well = granted_event s key
signals_are_events s (Chain (Commit tx own epoch chain at)) key well = commit_event s well.placed tx own epoch chain
    at key
signals_are_events s (Chain (Complete tx own chain at)) key well = complete_event s well.placed tx own chain at key
signals_are_events s (Chain (Abort tx own)) key well = abort_event s well.placed tx own key
signals_are_events s (Client (TcCommitAck tx)) key well = acknowledged_same s tx key
signals_are_events s (Client (LqhWaitReq tx own)) key well = wait_same s tx own key
signals_are_events s (Client (DumpReq at)) key well = dump_same s at key
signals_are_events s (Host Round) key well = round_event s key
signals_are_events s (Host (Continue work.Expired at)) key well = expire_event s key
signals_are_events s _ key well = refl

-- each step leaves the replica well
expire_well : (t : LqhState) → IsWell t → ExpireForms (λ step. IsWell step.state) t
expire_well t well = record {
  rests = λ is. well;
  none = λ tx key is none. record { placed = well.placed; orderly = unwait_orderly t.locks key tx well.orderly };
  some = λ tx key is at r there here. record {
    placed = well.placed;
    orderly =
        unwait_orderly t.locks key tx well.orderly;
  };
}

pub signals_keep_well : SignalsKeepWell
signals_keep_well s body well =
    lqh_forms (λ body step. IsWell step.state) s (record {
      asks = λ q. record {
        granted = λ is. record { placed = placed-performed (storage_of s) q well.placed; orderly = asked_orderly q };
        queued = λ ahead is. record { placed = well.placed; orderly = asked_orderly q };
      };
      grants = λ at. record {
        none = λ is. well;
        some = λ place q is here. record {
          placed = placed-performed (storage_of s) q well.placed;
          orderly =
              well.orderly;
        };
      };
      commits = λ tx key epoch chain at. record {
        last = λ had st markers applies first. record {
          placed = subst IsPlaced (sym (committed_rows applies)) (placed-committed s.rows tx key epoch well.placed);
          orderly = release_orderly s.locks key tx well.orderly;
        };
        passes = λ had st markers applies first. record {
          placed = subst IsPlaced (sym (committed_rows applies)) (placed-committed s.rows tx key epoch well.placed);
          orderly = well.orderly;
        };
      };
      completes = λ tx key chain at. record { last = λ first. completed tx key; passes = λ first. completed tx key };
      aborts = λ tx key. record {
        none = λ had st gives none. record {
          placed = subst IsPlaced (sym (given_up_rows gives)) (placed-aborted s.rows tx key well.placed);
          orderly = release_orderly s.locks key tx well.orderly;
        };
        some = λ had st gives at r there here. record {
          placed = subst IsPlaced (sym (given_up_rows gives)) (placed-aborted s.rows tx key well.placed);
          orderly = release_orderly s.locks key tx well.orderly;
        };
      };
      acknowledges = λ tx markers. record { placed = well.placed; orderly = well.orderly };
      waits = λ tx key. record { none = λ is. well; some = λ ahead is. well };
      dumps = λ at rows next. well;
      ages = expire_well (expire.aged s) (record {
        placed = well.placed;
        orderly =
            age_round_orderly s.locks well.orderly;
      });
      expires = λ at. expire_well s well;
      rests = λ body is. well;
    }) body
  where
    asked_orderly : (q : Request) → AreOrderly (operate.asked_for s q).locks
    asked_orderly q = request_orderly s.locks (work_key q.work) q.tx (work_mode q.work) well.orderly

    completed : (tx : TxId) (key : List ℕ)
        → IsWell (unlocked (rows_state.with_rows s (complete_record s.rows tx key)) tx key)
    completed tx key = record {
      placed = placed-completed s.rows tx key well.placed;
      orderly = release_orderly s.locks key tx well.orderly;
    }

-- the rows of the start
pub put_placed : (s : RowsState) (rows : List (List ℕ × List ℕ)) (epoch : ℕ) → AreApart s.places → s.pending ≡ []
    → IsPlaced (with_rows s rows epoch)
put_placed s [] epoch apart none = record {
  apart = apart;
  placed =
      subst (Each (λ (r : PendingRecord). has_place s.places r.key ≡ true)) (sym none) tt;
}
put_placed s (r ∷ rows) epoch apart none =
    put_placed (put_row s r.0 r.1 epoch) rows epoch (apart-set_row r.0 (Some r.1) epoch (with_place s.places r.0)
    (apart-with_place s.places r.0 apart)) none

-- a key of the group has of its rows what it has of all rows
started_row : (shape : Shape) (node epoch : ℕ) (s : RowsState) (table : Rows) (rows : List (List ℕ × List ℕ))
    (key : List ℕ)
    → holds shape node key ≡ true
    → row_at s.places key ≡ map.get table key
    → row_at (with_rows s (own_rows shape node rows) epoch).places key ≡ map.get (rows_over table rows) key
started_row shape node epoch s table [] key held same = same
started_row shape node epoch s table (r ∷ rows) key held same =
    go (holds shape node r.0) refl (started_row shape node epoch (put_row s r.0 r.1 epoch)
    (map.insert table r.0 r.1) rows key held)
    (started_row shape node epoch s (map.insert table r.0 r.1) rows key held)
  where
    by : (b : Bool) → (if b then Some r.1 else row_at s.places key) ≡ cond b (Some r.1) (map.get table key)
    by true = refl
    by false = same

    inserted : map.get (map.insert table r.0 r.1) key ≡ cond (same_key r.0 key) (Some r.1) (map.get table key)
    inserted =
        map.get-insert nat_list_cmp_total table r.0 r.1 key
        ∙ ap (λ b. cond b (Some r.1) (map.get table key)) (tied-same_key key r.0 ∙ same_key-swap key r.0)

    put : row_at (put_row s r.0 r.1 epoch).places key ≡ map.get (map.insert table r.0 r.1) key
    put =
        row-set_row (with_place s.places r.0) r.0 key (Some r.1) epoch (has-own_place s.places r.0)
        ∙ ap (λ w. if same_key r.0 key then Some r.1 else w) (row-with_place 0 s.places r.0 key) ∙ by (same_key r.0 key)
        ∙ sym inserted

    -- a row of another group isn't the key's
    other : holds shape node r.0 ≡ false → (b : Bool) → same_key r.0 key ≡ b
        → map.get table key ≡ cond b (Some r.1) (map.get table key)
    other off true own = absurd (false≢true (sym off ∙ ap (holds shape node) (same_key-is r.0 key own) ∙ held))
    other off false own = refl

    go : (b : Bool) → holds shape node r.0 ≡ b
        → (row_at (put_row s r.0 r.1 epoch).places key ≡ map.get (map.insert table r.0 r.1) key
        → row_at (with_rows (put_row s r.0 r.1 epoch) (own_rows shape node rows) epoch).places key
        ≡ map.get (rows_over (map.insert table r.0 r.1) rows) key)
        → (row_at s.places key ≡ map.get (map.insert table r.0 r.1) key
        → row_at (with_rows s (own_rows shape node rows) epoch).places key
        ≡ map.get (rows_over (map.insert table r.0 r.1) rows) key)
        → row_at (with_rows s (if b then r ∷ own_rows shape node rows else own_rows shape node rows) epoch).places key
        ≡ map.get (rows_over (map.insert table r.0 r.1) rows) key
    go true is own without = own put
    go false is own without = without (same ∙ other is (same_key r.0 key) refl ∙ sym inserted)

pub started_pending : (s : RowsState) (rows : List (List ℕ × List ℕ)) (epoch : ℕ)
    → (with_rows s rows epoch).pending ≡ s.pending
started_pending s [] epoch = refl
started_pending s (r ∷ rows) epoch = started_pending (put_row s r.0 r.1 epoch) rows epoch

pub keys_begin_at_rest : KeysBeginAtRest
unfolding fresh_part
keys_begin_at_rest member layout epoch rows key held =
    let own = own_rows layout.shape member.node rows in
    replica_is _ _
    (λ i. record {
      row = (row_of-at (with_rows no_rows own epoch) key
          ∙ started_row layout.shape member.node epoch no_rows map.empty rows key held
          (sym (map.get-empty key_cmp key))) i;
      pending = ap (λ xs. epochless (on key xs)) (started_pending no_rows own epoch) i;
    })
    (ap or_unlocked (map.get-empty key_cmp key)) refl

idle_well : (node : ℕ) (layout : Layout) (rows : List (List ℕ × List ℕ)) (epoch : ℕ)
    → IsWell (unasked_yet node layout (with_rows no_rows rows epoch) unused no_outlet)
idle_well node layout rows epoch = record { placed = put_placed no_rows rows epoch tt refl; orderly = empty_orderly }

part_well : (of : Part) (member : Member) (layout : Layout) (epoch : ℕ) (rows : List (List ℕ × List ℕ))
    → IsWellHost (fresh_part of member layout epoch rows)
unfolding fresh_part
part_well part.Main member layout epoch rows = idle_well 0 nowhere [] 0
part_well part.Tc member layout epoch rows = idle_well 0 nowhere [] 0
part_well part.Ldm member layout epoch rows =
    idle_well member.node layout (own_rows layout.shape member.node rows) epoch

started_well : (start : Start) (h : ℕ) → IsWellHost (started start h)
unfolding fresh_shell started
started_well start zero = idle_well 0 nowhere [] 0
started_well start (suc h) =
    part_well (part_by (h % 3)) (member_at (made start) (suc h)) (first_layout start.shape) start.epoch start.rows

pub logs_keep_well : LogsKeepWell
logs_keep_well start h [] = started_well start h
logs_keep_well start h (e ∷ log) =
    keeps_rows IsWell (λ s x well. signals_keep_well s x.body well) (after start h log) e.step.taken
    (logs_keep_well start h log)

-- a host's step is one of each of its keys
ldm_event : (s : LqhState) (at : BlockId) (x : Signal) (key : List ℕ) → IsWell s
    → at_key key (ldm_row s at x).state ≡ key_after (event_for key s at x.body) (at_key key s)
unfolding ldm_row
ldm_event s block.Lqh x key well = signals_are_events s x.body key well
ldm_event s _ x key well = refl

host_event : (s : host.Host) (x : Signal) (key : List ℕ) → IsWellHost s
    → key_in key (row s x).state ≡ key_after (event_in key s x) (key_in key s)
unfolding row
host_event (Shell a) x key well = refl
host_event (Main m) x key well = refl
host_event (Tc p) x key well = refl
host_event (Ldm s) x key well = ldm_event s x.to.block x key well

pub logs_follow : LogsFollowEvents
logs_follow start h log e key = host_event (after start h log) e.step.taken key (logs_keep_well start h log)

pub nodes_begin : NodesBeginAtRest
nodes_begin start node key some few held =
    ap (key_in key) (rows_started start node some few)
    ∙ keys_begin_at_rest (first_start node) (first_layout start.shape) start.epoch start.rows key held

pub keys_have_rows : KeysHaveRows
unfolding committed.row_at
keys_have_rows s key = refl
