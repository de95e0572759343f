-- What the rows of the node do at each step of the wait.
use Rattle.std.proofs.Common.{◌≡◌, ℕ, List, [], ◌∷◌, refl, ap, ◌∙◌}
use Rattle.std.specs.Cmp.Lexicographic.{nat_list_cmp_total}
use Rattle.std.specs.FinMap as map
use Rattle.std.specs.Prelude.{Option, None, Some, is_some, not, position}
use Rattle.sig_core.specs.declared.mark.Mark.{Mark}
use Rattle.sig_core.specs.declared.mark.Mark.TheVariants.{Applied, Done as Completed, Prepared}
use Rattle.sig_core.specs.declared.member.TxId.{TxId}
use Rattle.sig_core.specs.declared.op.Answer.TheVariants.{Done}
use Rattle.sig_core.specs.declared.outs.Outgoing.{Outgoing}
use Rattle.sig_core.specs.declared.redo.Redo.{Redo}
use Rattle.sig_core.specs.declared.redo.Redo.TheVariants as redo
use Rattle.sig_core.specs.declared.rows.PendingRecord.{PendingRecord}
use Rattle.sig_core.specs.declared.signal.Body.TheVariants.{Chain, Host as AnyHost}
use Rattle.sig_core.specs.declared.signal.chain.ChainSignal.TheVariants as told
use Rattle.sig_core.specs.declared.signal.chain.RowWork.TheVariants.{Operate}
use Rattle.sig_core.specs.declared.signal.host.HostSignal.TheVariants.{Continue}
use Rattle.sig_core.specs.declared.signal.host.Work.TheVariants.{Granted}
use Rattle.sig_core.specs.Journal.{JournalState}
use Rattle.sig_core.specs.Op.{answer_to}
use Rattle.sig_core.specs.Place.{coordinator, rows_of}
use Rattle.sig_core.specs.Redo.{size_of}
use Rattle.sig_core.specs.Rows as rows
use Rattle.sig_core.specs.Step.{Step, to_place}
use Rattle.frag_map.specs.Fragment.{frag_of}
use Rattle.frag_map.specs.Layout.{first_layout}
use Rattle.row_locks.proofs.LocksLemmas.{key_cmp, remove-absent, remove-insert}
use Rattle.row_locks.specs.declared.mode.Mode.TheVariants.{Exclusive}
use Rattle.row_locks.specs.Holders.{holder_of}
use Rattle.row_locks.specs.Queues.{wait_of}
use Rattle.row_locks.specs.Rows.{RowLock, released, row_lock}
use Rattle.row_locks.specs.Tables.{Locks, ahead_of, or_unlocked}
use Rattle.lqh_block.specs.Commit.{commit_row}
use Rattle.lqh_block.specs.Complete.{complete_row}
use Rattle.lqh_block.specs.declared.request.Marker.{Marker}
use Rattle.lqh_block.specs.declared.request.Request.{Request}
use Rattle.lqh_block.specs.Fresh.{no_outlet, unused}
use Rattle.lqh_block.specs.Operate.{granted_by, granted_row}
use Rattle.lqh_block.specs.State.{LqhState, serve_granted, with_lock}
use Rattle.lqh_block.specs.Storage.{committed_in, perform, store_row}
use Rattle.lqh_block.specs.Wait.{acknowledged}
use Rattle.node_core.specs.declared.host.Host.{Host}
use Rattle.node_core.specs.Fresh.{fresh_part}
use Rattle.node_core.specs.Row.{in_ldm, ldm_row, row}
use Rattle.world_core.specs.Hosts.{started}
use Rattle.answer_laws.specs.Sample.{first_tx, lone}
use Rattle.sample_runs.proofs.Locking.{asks}
use Rattle.sample_runs.proofs.Outlets.{outlet_behind}
use Rattle.sample_runs.proofs.PutRows.{comes}
use Rattle.sample_runs.proofs.Traces.{Do}
use Rattle.sample_runs.specs.Put.{key}
use Rattle.sample_runs.specs.Wait.{alone, first_value, first_write, second_tx, second_value, serving, waiter}

-- the lock of the key, where the first holds it, where the second waits, and where the second holds it
abbrev first_lock : RowLock
first_lock = row_lock (holder_of first_tx Exclusive ∷ []) []

abbrev waited_lock : RowLock
waited_lock = row_lock (holder_of first_tx Exclusive ∷ []) (wait_of second_tx Exclusive ∷ [])

abbrev second_lock : RowLock
second_lock = row_lock (holder_of second_tx Exclusive ∷ []) []

-- the locks so, each behind those before
abbrev nobody : Locks
nobody = map.empty

abbrev first_holds : Locks
first_holds = map.insert nobody key first_lock

abbrev second_waits : Locks
second_waits = map.insert first_holds key waited_lock

abbrev second_holds : Locks
second_holds = map.insert second_waits key second_lock

abbrev still_holds : Locks
still_holds = map.insert second_holds key second_lock

free_at : map.get nobody key ≡ None
free_at = map.get-empty key_cmp key

lock_at : (locks : Locks) (lock : RowLock) → map.get (map.insert locks key lock) key ≡ Some lock
lock_at locks lock = map.get-insert nat_list_cmp_total locks key lock key

-- where the key is let go of nobody holds anything
still_empty : map.remove nobody key ≡ nobody
still_empty = remove-absent nobody key free_at

emptied : map.remove still_holds key ≡ nobody
emptied =
    remove-insert second_holds key second_lock ∙ remove-insert second_waits key second_lock
    ∙ remove-insert first_holds key waited_lock ∙ remove-insert nobody key first_lock
    ∙ still_empty

-- the rows of the node: its row, what becomes of it, the bytes of the journal and its records, the locks, who waits and
-- the markers
abbrev with_row : Option (List ℕ) → ℕ → List PendingRecord → JournalState → List Redo → Locks → List Request
    → List Marker → LqhState
with_row row epoch pending journal redone locks waiting markers = record {
  node = 1;
  layout = first_layout lone.shape;
  rows = record { places = Some (rows.with_row key row epoch) ∷ []; pending = pending };
  journal = journal;
  outlet = outlet_behind redone;
  locks = locks;
  waiting = waiting;
  markers = markers;
}

abbrev unasked : LqhState
unasked = record {
  node = 1;
  layout = first_layout lone.shape;
  rows = rows.no_rows;
  journal = unused;
  outlet = no_outlet;
  locks = nobody;
  waiting = [];
  markers = [];
}

abbrev first_record : PendingRecord
first_record = rows.prepared first_tx key (Some first_value)

abbrev second_record : PendingRecord
second_record = rows.prepared second_tx key (Some second_value)

abbrev marker : TxId → List Marker
marker tx = record { tx = tx; key = key; epoch = 1 } ∷ []

-- what a put has the journal tell where it is prepared, and where it is committed
abbrev prepare : TxId → List ℕ → Redo
prepare tx value = redo.Prepare tx (frag_of lone.shape key) key (Some value)

abbrev commit : TxId → Redo
commit tx = redo.Commit tx 1 key

-- the records where the first put is prepared, where it is committed, and so for the second
abbrev first_told : List Redo
first_told = prepare first_tx first_value ∷ []

abbrev first_done : List Redo
first_done = commit first_tx ∷ first_told

abbrev second_told : List Redo
second_told = prepare second_tx second_value ∷ first_done

abbrev second_done : List Redo
second_done = commit second_tx ∷ second_told

-- so many bytes are used, and so many kept free
abbrev bytes : ℕ → ℕ → JournalState
bytes used reserved = record { used = used; reserved = reserved }

-- the first put is prepared
abbrev first_prepared : Locks → List Request → LqhState
first_prepared locks waiting = with_row None 0 (first_record ∷ []) (bytes 22 26) first_told locks waiting []

-- it is committed
abbrev first_committed : Locks → LqhState
first_committed locks =
    with_row (Some first_value) 1 (rows.committed first_record 1 ∷ []) (bytes 48 0) first_done locks (waiter ∷ [])
    (marker first_tx)

-- it is completed, behind the preparation of the second
abbrev first_completed : Locks → List Marker → LqhState
first_completed locks markers =
    with_row (Some first_value) 1 (second_record ∷ []) (bytes 70 26) second_told locks [] markers

-- the second is committed, and completed
abbrev second_committed : Locks → LqhState
second_committed locks =
    with_row (Some second_value) 1 (rows.committed second_record 1 ∷ []) (bytes 96 0) second_done locks []
    (marker second_tx)

abbrev second_completed : Locks → List Marker → LqhState
second_completed locks markers = with_row (Some second_value) 1 [] (bytes 96 0) second_done locks [] markers

-- a transaction lets go of the lock that is found
abbrev lets_go : LqhState → TxId → Outgoing → Mark → Option RowLock → Step Host
lets_go s tx send mark found =
    comes (with_lock s key (released (or_unlocked found) tx)) (send ∷ serve_granted 1 (released (or_unlocked found) tx))
    (mark ∷ [])

-- the requests whose lock is granted go on, where this lock is found
abbrev goes_on : LqhState → Option RowLock → Step Host
goes_on s found =
    in_ldm (granted_by s (position (λ (r : Request). not (is_some (ahead_of (or_unlocked found) r.tx))) s.waiting))

abbrev confirmed : TxId → Outgoing
confirmed tx = to_place (coordinator 1) (Chain (told.LqhKeyConf tx key Done))

abbrev committed_told : TxId → Outgoing
committed_told tx = to_place (coordinator 1) (Chain (told.Committed tx key))

abbrev completed_told : TxId → Outgoing
completed_told tx = to_place (coordinator 1) (Chain (told.Completed tx key))

abbrev pub serving_steps : List (Step Host)
serving_steps =
    comes (second_completed nobody []) [] []
    ∷ comes (second_completed nobody (marker second_tx)) (completed_told second_tx ∷ []) (Completed second_tx key ∷ [])
    ∷ comes (second_committed nobody) (committed_told second_tx ∷ []) (Applied second_tx key ∷ [])
    ∷ comes (first_completed still_holds []) [] []
    ∷ comes (first_completed still_holds (marker first_tx)) (completed_told first_tx ∷ []) (Completed first_tx key ∷ [])
    ∷ comes (with_row (Some first_value) 1 (rows.committed first_record 1 ∷ second_record ∷ []) (bytes 70 26)
    second_told second_holds [] (marker first_tx))
    (confirmed second_tx ∷ []) (Prepared second_tx key ∷ [])
    ∷ comes (first_committed second_holds)
    (committed_told first_tx ∷ to_place (rows_of 1) (AnyHost (Continue Granted 0)) ∷ []) (Applied first_tx key ∷ [])
    ∷ comes (first_prepared second_waits (waiter ∷ [])) [] []
    ∷ comes (first_prepared first_holds []) (confirmed first_tx ∷ []) (Prepared first_tx key ∷ [])
    ∷ []

pub serving_do : Do lone 3 serving serving_steps
unfolding started fresh_part row ldm_row perform answer_to store_row committed_in commit_row complete_row acknowledged
    granted_row size_of rows.row_of rows.record_of rows.seen rows.storing rows.is_full rows.commit_record
    rows.complete_record rows.record_state
serving_do = (
  record { at = refl; stamped = refl; does = refl; marks = refl; asked = tt },
  (
    record {
      at = refl;
      stamped = refl;
      does = ap
          (lets_go (second_completed nobody (marker second_tx)) second_tx (completed_told second_tx)
          (Completed second_tx key)) free_at
          ∙ ap (λ locks. comes (second_completed locks (marker second_tx)) (completed_told second_tx ∷ [])
          (Completed second_tx key ∷ [])) still_empty;
      marks = refl;
      asked = tt;
    },
    (
      record {
        at = refl;
        stamped = refl;
        does = ap
            (lets_go (second_committed still_holds) second_tx (committed_told second_tx) (Applied second_tx key))
            (lock_at second_holds second_lock)
            ∙ ap (λ locks. comes (second_committed locks) (committed_told second_tx ∷ [])
            (Applied second_tx key ∷ [])) emptied;
        marks = refl;
        asked = tt;
      },
      (
        record { at = refl; stamped = refl; does = refl; marks = refl; asked = tt },
        (
          record {
            at = refl;
            stamped = refl;
            does = ap
                (lets_go (first_completed second_holds (marker first_tx)) first_tx (completed_told first_tx)
                (Completed first_tx key)) (lock_at second_waits second_lock);
            marks = refl;
            asked = tt;
          },
          (
            record {
              at = refl;
              stamped = refl;
              does = ap (goes_on (first_committed second_holds))
                  (lock_at second_waits second_lock);
              marks = refl;
              asked = tt;
            },
            (
              record {
                at = refl;
                stamped = refl;
                does = ap
                    (lets_go (first_committed second_waits) first_tx (committed_told first_tx) (Applied first_tx key))
                    (lock_at first_holds waited_lock);
                marks = refl;
                asked = tt;
              },
              (
                record {
                  at = refl;
                  stamped = refl;
                  does = ap in_ldm
                      (asks (first_prepared first_holds []) waiter (Some first_lock) (lock_at nobody first_lock));
                  marks = refl;
                  asked = tt;
                },
                (
                  record {
                    at = refl;
                    stamped = refl;
                    does = ap in_ldm
                        (asks unasked (record { tx = first_tx; work = Operate first_write; chain = alone; at = 0 })
                        None free_at);
                    marks = refl;
                    asked = tt;
                  },
                  tt,
                ),
              ),
            ),
          ),
        ),
      ),
    ),
  ),
)
