-- The rows of a node under views: who goes on holding locks when one is installed.
use Rattle.std.specs.Prelude.{ℕ, ◌&&◌, ◌||◌, Bool, nat_eq, is_some, List, []}
use Rattle.std.specs.List.{list_any}
use Rattle.frag_map.specs.Layout as layouts
use Rattle.sig_core.specs.declared.member.Member.{Member}
use Rattle.sig_core.specs.declared.member.TxId.{TxId}
use Rattle.sig_core.specs.declared.view.View.{View}
use Rattle.sig_core.specs.Rows.{RowsState, record_state}
use Rattle.row_locks.specs.Keeping.{all_left_to}
use Rattle.lqh_block.specs.State.{LqhState}

-- the transaction was begun by the coordinator of this member
abbrev pub was_begun_by : TxId → Member → Bool
was_begun_by tx member = nat_eq member.node tx.tc && nat_eq member.start tx.start

-- its coordinator is that of one of these members
abbrev pub is_coordinated : List Member → TxId → Bool
is_coordinated members tx = list_any (was_begun_by tx) members

-- a transaction goes on holding the lock of a key where it has a record on it, or its coordinator is a full member
abbrev pub goes_on_holding : RowsState → List Member → List ℕ → TxId → Bool
goes_on_holding rows full key tx = is_some (record_state rows tx key) || is_coordinated full tx

-- a view is installed: nobody waits any more, and who doesn't go on holding a lock lets go of it
abbrev pub entered : LqhState → View → LqhState
entered s view =
    record {
      node = s.node;
      layout = layouts.in_view s.layout view;
      rows = s.rows;
      journal = s.journal;
      outlet = s.outlet;
      locks = all_left_to (goes_on_holding s.rows view.full) s.locks;
      waiting = [];
      markers = s.markers;
    }
