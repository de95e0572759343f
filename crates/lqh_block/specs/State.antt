-- The state of the rows of a node.
use Rattle.std.specs.Prelude.{ℕ, Bool, true, false, nat_lt, List, [], ◌∷◌}
use Rattle.sig_core.specs.declared.member.TxId.{TxId}
use Rattle.sig_core.specs.declared.outs.Outgoing.{Outgoing}
use Rattle.sig_core.specs.declared.signal.Body.TheVariants.{Host}
use Rattle.sig_core.specs.declared.signal.host.HostSignal.TheVariants.{Continue}
use Rattle.sig_core.specs.declared.signal.host.Work.{Work}
use Rattle.sig_core.specs.declared.signal.host.Work.TheVariants.{Granted}
use Rattle.frag_map.specs.Layout.{Layout}
use Rattle.sig_core.specs.Journal.{JournalState, OutletState}
use Rattle.sig_core.specs.Place.{rows_of}
use Rattle.sig_core.specs.Rows.{RowsState}
use Rattle.sig_core.specs.Step.{Step, to_place}
use Rattle.row_locks.specs.Rows.{Served}
use Rattle.row_locks.specs.Tables.{Locks, kept, released_at}
use Rattle.lqh_block.specs.declared.request.Marker.{Marker}
use Rattle.lqh_block.specs.declared.request.Request.{Request}
use Rattle.lqh_block.specs.Storage.{StorageState, storage}

-- a node's rows: its layout, the rows, the journal and what that has still to give out, the locks, the requests whose
-- lock wasn't granted when they came, the oldest first, and the markers of commits that their clients haven't
-- acknowledged, the oldest first
pub record LqhState : Type 0 where
  pub node : ℕ
  pub layout : Layout
  pub rows : RowsState
  pub journal : JournalState
  pub outlet : OutletState
  pub locks : Locks
  pub waiting : List Request
  pub markers : List Marker

abbrev pub storage_of : LqhState → StorageState
storage_of s = storage s.rows s.journal s.outlet s.layout.shape

abbrev pub with_storage : LqhState → StorageState → LqhState
with_storage s st = record {
  node = s.node;
  layout = s.layout;
  rows = st.rows;
  journal = st.journal;
  outlet = st.outlet;
  locks = s.locks;
  waiting = s.waiting;
  markers = s.markers;
}

abbrev pub with_rows : LqhState → RowsState → LqhState
with_rows s rows = record {
  node = s.node;
  layout = s.layout;
  rows = rows;
  journal = s.journal;
  outlet = s.outlet;
  locks = s.locks;
  waiting = s.waiting;
  markers = s.markers;
}

abbrev pub with_outlet : LqhState → OutletState → LqhState
with_outlet s outlet = record s { outlet = outlet }

abbrev pub with_journal : LqhState → JournalState → OutletState → LqhState
with_journal s journal outlet = record {
  node = s.node;
  layout = s.layout;
  rows = s.rows;
  journal = journal;
  outlet = outlet;
  locks = s.locks;
  waiting = s.waiting;
  markers = s.markers;
}

abbrev pub with_locks : LqhState → Locks → LqhState
with_locks s locks = record {
  node = s.node;
  layout = s.layout;
  rows = s.rows;
  journal = s.journal;
  outlet = s.outlet;
  locks = locks;
  waiting = s.waiting;
  markers = s.markers;
}

abbrev pub with_waiting : LqhState → List Request → LqhState
with_waiting s waiting = record {
  node = s.node;
  layout = s.layout;
  rows = s.rows;
  journal = s.journal;
  outlet = s.outlet;
  locks = s.locks;
  waiting = waiting;
  markers = s.markers;
}

abbrev pub with_markers : LqhState → List Marker → LqhState
with_markers s markers = record {
  node = s.node;
  layout = s.layout;
  rows = s.rows;
  journal = s.journal;
  outlet = s.outlet;
  locks = s.locks;
  waiting = s.waiting;
  markers = markers;
}

-- a step of the rows and the journal
abbrev pub in_storage : LqhState → Step StorageState → Step LqhState
in_storage s step = record { state = with_storage s step.state; effects = step.effects }

-- the signal by which the block goes on with some work
abbrev pub go_on : ℕ → Work → Outgoing
go_on node work = to_place (rows_of node) (Host (Continue work 0))

abbrev pub go_on_if : ℕ → Work → Bool → List Outgoing
go_on_if node work true = go_on node work ∷ []
go_on_if node work false = []

-- the signal by which the block goes on with waits that were granted, if some were
abbrev pub serve_granted : ℕ → Served → List Outgoing
serve_granted node served = go_on_if node Granted (nat_lt 0 served.granted)

-- the lock of the key, once the transaction lets go of it
abbrev pub freed_lock : LqhState → TxId → List ℕ → Served
freed_lock s tx key = released_at s.locks key tx

-- the lock of the key has come to be this
abbrev pub with_lock : LqhState → List ℕ → Served → LqhState
with_lock s key served = with_locks s (kept s.locks key served.lock)

-- the transaction lets go of the key's lock
abbrev pub unlocked : LqhState → TxId → List ℕ → LqhState
unlocked s tx key = with_lock s key (freed_lock s tx key)
