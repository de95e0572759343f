-- A life may begin on new disks.
use Rattle.std.proofs.Common.{◌≡◌, ◌∙◌, ◌==◌, ℕ, zero, suc, ◌+◌, ◌-◌, Bool, true, false, List, [], refl, ap, sym, subst}
use Rattle.std.proofs.Common.{arith, get_or, replicate, if◌then◌else◌}
use Rattle.std.proofs.lemmas.List.{length-replicate}
use Rattle.std.specs.Cmp.Lexicographic.{slice_cmp}
use Rattle.std.specs.FinMap as map
use Rattle.std.specs.List.{AllByRecursion}
use Rattle.std.specs.Ordering.{nat_cmp}
use Rattle.std.specs.Prelude.{◌||◌, None, Ok}
use Rattle.frag_map.specs.Shape.{IsShape, group_of, groups}
use Rattle.host_io.specs.Call.{Call}
use Rattle.lcp_store.specs.Laws.{IsWordOf}
use Rattle.redo_log.specs.Stored.{files_of}
use Rattle.sig_core.specs.declared.key.TheConstants.{KEY_BYTES}
use Rattle.sig_core.specs.declared.value.TheConstants.{VALUE_BYTES}
use Rattle.sig_core.specs.declared.view.Shape.{Shape}
use Rattle.sig_core.specs.Table.{Rows}
use Rattle.sysfile_core.proofs.SlotLemmas.{short_slot}
use Rattle.sysfile_core.specs.declared.control.TheConstants.{CONTROL_BYTES}
use Rattle.sysfile_core.specs.declared.place.TheConstants.{CONTROL_FILE, SYSTEM_FILE}
use Rattle.sysfile_core.specs.declared.system.TheConstants.{SYSTEM_BYTES}
use Rattle.sysfile_core.specs.Places.{place_of}
use Rattle.sysfile_core.specs.Reading.{control_at, control_by, system_at, system_by}
use Rattle.sys_restart.proofs.LatestLemmas.{latest_ends, latest_more}
use Rattle.sys_restart.proofs.RestoredLemmas.{restored_new}
use Rattle.sys_restart.proofs.TableLemmas.{none_listed}
use Rattle.sys_restart.specs.Calls.{rows_of_node}
use Rattle.sys_restart.specs.Files.{Disks, Files, disks_of}
use Rattle.sys_restart.specs.Latest.{later, latest_from, latest_on, of_shape}
use Rattle.sys_restart.specs.LifeCalls.{record_of}
use Rattle.sys_restart.specs.Lost.{has_saved, was_saved}
use Rattle.sys_restart.specs.Places.{control_places, usable}
use Rattle.sys_restart.specs.Prepared.{AreStorable, HasKept, MayPrepare}
use Rattle.sys_restart.specs.ReadyDisks.{AreToPrepare}
use Rattle.sys_restart.specs.Restored.{nothing}
use Rattle.restart_laws.specs.HandedOn.{NewDisksAreFit}
use Rattle.restart_laws.specs.Lived.{MayBegin}

-- an empty file has no slot at any place
no_system : (which : ℕ) → system_at which [] ≡ Ok None
no_system which = ap (system_by (place_of which)) (short_slot (place_of which) SYSTEM_BYTES [] (omega arith))

no_control : (which : ℕ) → control_at which [] ≡ Ok None
no_control which = ap (control_by (place_of which)) (short_slot (place_of which) CONTROL_BYTES [] (omega arith))

none_kept : HasKept 0 []
none_kept = (None, (by ((control_places 0 []).free == 0), refl))
  where
    by : (first : Bool) → (if first then control_at 1 [] else control_at 0 []) ≡ Ok None
    by true = no_control 1
    by false = no_control 0

none_saved_yet : has_saved [] ≡ false
none_saved_yet =
    ap (λ found. was_saved (usable found) || was_saved (usable (control_at 1 []))) (no_control 0)
    ∙ ap (λ found. was_saved (usable found)) (no_control 1)

none_latest : (shape : Shape) (node : ℕ) (files : Files) → files SYSTEM_FILE ≡ []
    → latest_on shape node files ≡ Ok None
none_latest shape node files empty =
    ap (λ (bytes : List ℕ). later (of_shape shape node (system_at 0 bytes)) (of_shape shape node (system_at 1 bytes)))
    empty
    ∙ ap (λ found. later (of_shape shape node found) (of_shape shape node (system_at 1 []))) (no_system 0)
    ∙ ap (λ found. later (Ok None) (of_shape shape node found)) (no_system 1)

-- so no system slot is found where the system file of each node is empty
none_from : (shape : Shape) (disks : Disks) → ((node : ℕ) → disks node SYSTEM_FILE ≡ []) → (node more : ℕ)
    → latest_from shape disks node more (Ok None) ≡ Ok None
none_from shape disks empty node zero = latest_ends shape disks node zero (Ok None) refl
none_from shape disks empty node (suc more) =
    sym (latest_more shape disks node (suc more) more None None refl (none_latest shape node (disks node) (empty node)))
    ∙ none_from shape disks empty (node + 1) more

-- in a list of the same each is that, as what is found past its end
all_same : {A : Type 0} (a : A) (count at : ℕ) → get_or (replicate count a) at a ≡ a
all_same a zero at = refl
all_same a (suc count) zero = refl
all_same a (suc count) (suc at) = all_same a count at

-- no node has rows
no_rows : (shape : Shape) (node : ℕ) → rows_of_node shape node (nothing shape) ≡ map.empty
no_rows shape node = all_same map.empty (groups shape) (group_of shape node)

none_storable : (rows : Rows) → rows ≡ map.empty → AreStorable rows
none_storable rows none =
    subst (AllByRecursion (λ (row : List ℕ × List ℕ). IsWordOf 1 KEY_BYTES row.0 × IsWordOf 0 VALUE_BYTES row.1))
    (sym (ap (λ (all : Rows). map.entries all) none ∙ none_listed [] [] 0 0 refl refl (omega arith)))
    tt

may_prepare : (shape : Shape) (node : ℕ) (calls : List Call) → calls ≡ []
    → MayPrepare shape node (nothing shape) calls
may_prepare shape node calls none =
    subst (MayPrepare shape node (nothing shape)) (sym none)
    (record {
      kept = tt;
      settled = λ file below. refl;
      control = none_kept;
      rows = none_storable (rows_of_node shape node (nothing shape)) (no_rows shape node);
    })

are_to_prepare : (shape : Shape) (records : List (List Call)) → ((at : ℕ) → get_or records at [] ≡ [])
    → AreToPrepare shape (nothing shape) records
are_to_prepare shape records new = record {
  restored =
      restored_new shape (disks_of records)
      (none_from shape (disks_of records)
      (λ node. ap (λ (calls : List Call). files_of calls SYSTEM_FILE) (new (node - 1)))
      1 shape.nodes)
      (λ node. ap (λ (calls : List Call). has_saved (files_of calls CONTROL_FILE)) (new (node - 1)) ∙ none_saved_yet);
  each = λ node some low. may_prepare shape node (record_of records node) (new (node - 1));
}

may_begin : (shape : Shape) → IsShape shape → MayBegin shape (nothing shape)
may_begin shape is_shape = record {
  is_shape = is_shape;
  last = omega arith;
  groups_are = length-replicate (groups shape) map.empty;
  grouped =
      λ node key some low apart.
      ap (λ (rows : Rows). map.get rows key) (no_rows shape node)
      ∙ map.get-empty (slice_cmp nat_cmp) key;
}

pub new_disks_are_fit : NewDisksAreFit
new_disks_are_fit shape records is_shape new = (are_to_prepare shape records new, may_begin shape is_shape)
