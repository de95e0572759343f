-- The commit of a record, at one replica.
use Rattle.std.specs.Prelude.{ℕ, ◌-◌, ◌==◌, ◌&&◌, Bool, true, false, List, [], ◌∷◌, ◌++◌, Option, None, Some}
use Rattle.std.specs.List.{list_any}
use Rattle.sig_core.specs.declared.mark.Mark.{Mark}
use Rattle.sig_core.specs.declared.mark.Mark.TheVariants.{Applied}
use Rattle.sig_core.specs.declared.member.Member.{Member}
use Rattle.sig_core.specs.declared.member.TxId.{TxId}
use Rattle.sig_core.specs.declared.signal.Body.TheVariants.{Chain}
use Rattle.sig_core.specs.declared.signal.chain.ChainSignal.TheVariants.{Commit, Committed}
use Rattle.sig_core.specs.Chain.{node_at}
use Rattle.sig_core.specs.Place.{coordinator_of, rows_of}
use Rattle.sig_core.specs.Rows.{record_state}
use Rattle.sig_core.specs.Same.{same_key, same_tx}
use Rattle.sig_core.specs.Step.{Step, sending, to_place}
use Rattle.lqh_block.specs.declared.request.Marker.{Marker}
use Rattle.lqh_block.specs.State.{LqhState, freed_lock, serve_granted, storage_of, unlocked, with_markers, with_storage}
use Rattle.lqh_block.specs.Storage.{committed_in}

-- the marker of a commit, with its epoch
abbrev pub marker_of : TxId → List ℕ → ℕ → Marker
marker_of tx key epoch = record { tx = tx; key = key; epoch = epoch }

-- the marker is the transaction's on this key
abbrev pub is_marker : TxId → List ℕ → Marker → Bool
is_marker tx key m = same_tx m.tx tx && same_key m.key key

abbrev pub marked_if : List Marker → Marker → Bool → List Marker
marked_if markers marker true = markers
marked_if markers marker false = markers ++ marker ∷ []

-- the commit is marked, behind the others unless it is so already
abbrev pub marked : List Marker → TxId → List ℕ → ℕ → List Marker
marked markers tx key epoch = marked_if markers (marker_of tx key epoch) (list_any (is_marker tx key) markers)

-- a prepared record is committed and marked; where there is none nothing is
abbrev pub applied : LqhState → TxId → List ℕ → ℕ → Option Bool → LqhState
applied s tx key epoch (Some false) =
    with_markers (with_storage s (committed_in (storage_of s) tx key epoch)) (marked s.markers tx key epoch)
applied s tx key epoch _ = s

-- the primary is marked as having committed the row, where the transaction has a record
abbrev pub applied_marks : TxId → List ℕ → Option Bool → List Mark
applied_marks tx key None = []
applied_marks tx key (Some committed) = Applied tx key ∷ []

-- the commit is told: at the primary to the coordinator, once the lock is let go of, and else to the place in front
abbrev pub told_if : LqhState → TxId → List ℕ → ℕ → List Member → ℕ → Option Bool → Bool → Step LqhState
told_if s tx key epoch chain at had true =
    record {
      state = unlocked s tx key;
      effects = record {
        sends = to_place (coordinator_of tx) (Chain (Committed tx key)) ∷ serve_granted s.node (freed_lock s tx key);
        marks = applied_marks tx key had;
      };
    }
told_if s tx key epoch chain at had false =
    sending s (rows_of (node_at chain (at - 1))) (Chain (Commit tx key epoch chain (at - 1)))

abbrev pub told : LqhState → TxId → List ℕ → ℕ → List Member → ℕ → Option Bool → Step LqhState
told s tx key epoch chain at had = told_if s tx key epoch chain at had (at == 0)

-- a record is to be committed, at a place of its chain
unfoldable pub commit_row : LqhState → TxId → List ℕ → ℕ → List Member → ℕ → Step LqhState
commit_row s tx key epoch chain at =
    told (applied s tx key epoch (record_state s.rows tx key)) tx key epoch chain at (record_state s.rows tx key)
