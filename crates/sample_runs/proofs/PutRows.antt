-- What the rows of both nodes do at each step of the put.
use Rattle.std.proofs.Common.{◌≡◌, ℕ, List, [], ◌∷◌, refl, ap, ◌∙◌}
use Rattle.std.specs.FinMap as map
use Rattle.std.specs.Cmp.Lexicographic.{nat_list_cmp_total}
use Rattle.std.specs.Prelude.{Option, None, Some}
use Rattle.sig_core.specs.declared.mark.Mark.{Mark}
use Rattle.sig_core.specs.declared.mark.Mark.TheVariants.{Applied, Done as Completed, Prepared}
use Rattle.sig_core.specs.declared.op.Answer.TheVariants.{Done}
use Rattle.sig_core.specs.declared.outs.Outgoing.{Outgoing}
use Rattle.sig_core.specs.declared.redo.Redo.{Redo}
use Rattle.sig_core.specs.declared.redo.Redo.TheVariants as redo
use Rattle.sig_core.specs.declared.rows.PendingRecord.{PendingRecord}
use Rattle.sig_core.specs.declared.signal.Body.TheVariants.{Chain}
use Rattle.sig_core.specs.declared.signal.chain.ChainSignal.TheVariants as told
use Rattle.sig_core.specs.declared.signal.chain.RowWork.TheVariants.{Operate, Store}
use Rattle.sig_core.specs.Journal.{JournalState}
use Rattle.sig_core.specs.Op.{answer_to}
use Rattle.sig_core.specs.Place.{coordinator, rows_of}
use Rattle.sig_core.specs.Redo.{size_of}
use Rattle.sig_core.specs.Rows as rows
use Rattle.sig_core.specs.Step.{Step, to_place}
use Rattle.sig_core.specs.Work.{work_key}
use Rattle.frag_map.specs.Fragment.{frag_of}
use Rattle.frag_map.specs.Layout.{first_layout}
use Rattle.row_locks.proofs.LocksLemmas.{key_cmp, remove-absent, remove-insert}
use Rattle.row_locks.specs.declared.mode.Mode.TheVariants.{Exclusive}
use Rattle.row_locks.specs.Holders.{holder_of}
use Rattle.row_locks.specs.Rows.{RowLock, asked, released, unlocked}
use Rattle.row_locks.specs.Tables.{Locks, or_unlocked}
use Rattle.lqh_block.specs.Commit.{commit_row}
use Rattle.lqh_block.specs.Complete.{complete_row}
use Rattle.lqh_block.specs.declared.request.Marker.{Marker}
use Rattle.lqh_block.specs.declared.request.Request.{Request}
use Rattle.lqh_block.specs.Fresh.{no_outlet, unused}
use Rattle.lqh_block.specs.Operate.{asked_by, request_row}
use Rattle.lqh_block.specs.State.{LqhState, serve_granted, with_lock, with_locks}
use Rattle.lqh_block.specs.Storage.{committed_in, perform, store_row}
use Rattle.lqh_block.specs.Wait.{acknowledged}
use Rattle.lqh_block.specs.Work.{work_mode}
use Rattle.node_core.specs.declared.host.Host.{Host}
use Rattle.node_core.specs.declared.host.Host.TheVariants.{Ldm}
use Rattle.node_core.specs.Fresh.{fresh_part}
use Rattle.node_core.specs.Row.{in_ldm, ldm_row, row}
use Rattle.world_core.specs.Hosts.{started}
use Rattle.answer_laws.specs.Sample.{first_tx}
use Rattle.sample_runs.proofs.Outlets.{outlet_behind}
use Rattle.sample_runs.proofs.Traces.{Do}
use Rattle.sample_runs.specs.Put.{backup, key, primary, replicas, two, value, write}

-- a request for a key that nobody holds is performed at once
granted : (s : LqhState) (r : Request) → map.get s.locks (work_key r.work) ≡ None
    → request_row s r
    ≡ asked_by (with_locks s (map.insert s.locks (work_key r.work) (asked unlocked r.tx (work_mode r.work)).lock)) r
    (asked unlocked r.tx (work_mode r.work)).answer
unfolding request_row
granted s r none =
    ap (λ found. asked_by (with_locks s (map.insert s.locks (work_key r.work)
    (asked (or_unlocked found) r.tx (work_mode r.work)).lock)) r
    (asked (or_unlocked found) r.tx (work_mode r.work)).answer) none

-- the lock that the transaction has
abbrev held : RowLock
held = record { holders = holder_of first_tx Exclusive ∷ []; queue = [] }

abbrev nobody : Locks
nobody = map.empty

abbrev holding : Locks
holding = map.insert map.empty key held

free_at : map.get nobody key ≡ None
free_at = map.get-empty key_cmp key

held_at : map.get holding key ≡ Some held
held_at = map.get-insert nat_list_cmp_total nobody key held key

-- where the key is let go of nobody holds anything
emptied : map.remove holding key ≡ nobody
emptied = remove-insert nobody key held ∙ remove-absent nobody key free_at

still_empty : map.remove nobody key ≡ nobody
still_empty = remove-absent nobody key free_at

-- the rows of a node: a row, what becomes of it, the bytes of the journal and its records, the locks and the markers
abbrev with_row : ℕ → Option (List ℕ) → ℕ → List PendingRecord → JournalState → List Redo → Locks → List Marker
    → LqhState
with_row node row epoch pending journal redone locks markers = record {
  node = node;
  layout = first_layout two.shape;
  rows = record { places = Some (rows.with_row key row epoch) ∷ []; pending = pending };
  journal = journal;
  outlet = outlet_behind redone;
  locks = locks;
  waiting = [];
  markers = markers;
}

-- what the journal tells of the put where it is prepared, and where it is committed too
abbrev prepare : List Redo
prepare = redo.Prepare first_tx (frag_of two.shape key) key (Some value) ∷ []

abbrev commit : List Redo
commit = redo.Commit first_tx 1 key ∷ prepare

-- the put is prepared
abbrev prepared : ℕ → LqhState
prepared node =
    with_row node None 0 (rows.prepared first_tx key (Some value) ∷ []) (record { used = 22; reserved = 26 }) prepare
    holding []

-- it is committed, with these locks and markers
abbrev committed : ℕ → Locks → List Marker → LqhState
committed node locks markers =
    with_row node (Some value) 1 (rows.committed (rows.prepared first_tx key (Some value)) 1 ∷ [])
    (record { used = 48; reserved = 0 }) commit locks markers

-- it is completed, with these locks
abbrev completed : ℕ → Locks → LqhState
completed node locks = with_row node (Some value) 1 [] (record { used = 48; reserved = 0 }) commit locks []

abbrev marker : List Marker
marker = record { tx = first_tx; key = key; epoch = 1 } ∷ []

abbrev pub comes : LqhState → List Outgoing → List Mark → Step Host
comes s sends marks = record { state = Ldm s; effects = record { sends = sends; marks = marks } }

-- a row is committed at the primary, or completed: the lock is let go of
abbrev lets_go : LqhState → Outgoing → Mark → Option RowLock → Step Host
lets_go s send mark found =
    comes (with_lock s key (released (or_unlocked found) first_tx))
    (send ∷ serve_granted s.node (released (or_unlocked found) first_tx)) (mark ∷ [])

abbrev committed_told : Outgoing
committed_told = to_place (coordinator 1) (Chain (told.Committed first_tx key))

abbrev completed_told : Outgoing
completed_told = to_place (coordinator 1) (Chain (told.Completed first_tx key))

abbrev pub primary_steps : List (Step Host)
primary_steps =
    comes (completed 1 nobody) (completed_told ∷ []) (Completed first_tx key ∷ [])
    ∷ comes (committed 1 nobody []) [] []
    ∷ comes (committed 1 nobody marker) (committed_told ∷ []) (Applied first_tx key ∷ [])
    ∷ comes (prepared 1) (to_place (rows_of 2) (Chain (told.LqhKeyReq first_tx (Store key (Some value)) replicas 1)) ∷
    []) (Prepared first_tx key ∷ [])
    ∷ []

abbrev complete_primary : Outgoing
complete_primary = to_place (rows_of 1) (Chain (told.Complete first_tx key replicas 0))

abbrev pub backup_steps : List (Step Host)
backup_steps =
    comes (completed 2 nobody) (complete_primary ∷ []) (Completed first_tx key ∷ [])
    ∷ comes (committed 2 holding []) [] []
    ∷ comes (committed 2 holding marker) (to_place (rows_of 1) (Chain (told.Commit first_tx key 1 replicas 0)) ∷ []) []
    ∷ comes (prepared 2) (to_place (coordinator 1) (Chain (told.LqhKeyConf first_tx key Done)) ∷ [])
    (Prepared first_tx key ∷ [])
    ∷ []

-- the rows of a node that nobody asked for anything
abbrev unasked : ℕ → LqhState
unasked node = record {
  node = node;
  layout = first_layout two.shape;
  rows = rows.no_rows;
  journal = unused;
  outlet = no_outlet;
  locks = nobody;
  waiting = [];
  markers = [];
}

pub primary_do : Do two 3 primary primary_steps
unfolding started fresh_part row ldm_row perform answer_to store_row committed_in commit_row complete_row acknowledged
    size_of rows.row_of rows.record_of rows.seen rows.storing rows.is_full rows.commit_record rows.complete_record
    rows.record_state
primary_do = (
  record {
    at = refl;
    stamped = refl;
    does = ap (lets_go (completed 1 nobody) completed_told (Completed first_tx key)) free_at
        ∙ ap (λ locks. comes (completed 1 locks) (completed_told ∷ []) (Completed first_tx key ∷ [])) still_empty;
    marks = refl;
    asked = tt;
  },
  (
    record { at = refl; stamped = refl; does = refl; marks = refl; asked = tt },
    (
      record {
        at = refl;
        stamped = refl;
        does = ap (lets_go (committed 1 holding marker) committed_told (Applied first_tx key)) held_at
            ∙ ap (λ locks. comes (committed 1 locks marker) (committed_told ∷ []) (Applied first_tx key ∷ [])) emptied;
        marks = refl;
        asked = tt;
      },
      (
        record {
          at = refl;
          stamped = refl;
          does = ap in_ldm (granted (unasked 1) (record {
            tx = first_tx;
            work = Operate write;
            chain = replicas;
            at = 0;
          }) free_at);
          marks = refl;
          asked = tt;
        },
        tt,
      ),
    ),
  ),
)

pub backup_do : Do two 6 backup backup_steps
unfolding started fresh_part row ldm_row perform answer_to store_row committed_in commit_row complete_row acknowledged
    size_of rows.row_of rows.record_of rows.seen rows.storing rows.is_full rows.commit_record rows.complete_record
    rows.record_state
backup_do = (
  record {
    at = refl;
    stamped = refl;
    does = ap (lets_go (completed 2 holding) complete_primary (Completed first_tx key)) held_at
        ∙ ap (λ locks. comes (completed 2 locks) (complete_primary ∷ []) (Completed first_tx key ∷ [])) emptied;
    marks = refl;
    asked = tt;
  },
  (
    record { at = refl; stamped = refl; does = refl; marks = refl; asked = tt },
    (
      record { at = refl; stamped = refl; does = refl; marks = refl; asked = tt },
      (
        record {
          at = refl;
          stamped = refl;
          does = ap in_ldm (granted (unasked 2) (record {
            tx = first_tx;
            work = Store key (Some value);
            chain =
                replicas;
            at = 1;
          }) free_at);
          marks = refl;
          asked = tt;
        },
        tt,
      ),
    ),
  ),
)
