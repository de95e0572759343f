-- Rows and redo that are of the group of the node on whose disk they are.
use Rattle.std.proofs.Common.{◌≡◌, ◌∙◌, ℕ, ◌+◌, ◌-◌, ◌==◌, ◌/◌, ◌%◌, ◌≤◌, ◌<◌, ◌&&◌, Bool, true, false, List, [], ◌∷◌, refl, ap, sym, subst, arith, if◌then◌else◌}
use Rattle.std.specs.Prelude.{Option, None, Some, Result, Ok, Err}
use Rattle.std.specs.FinMap as finmap
use Rattle.std.specs.List.{list_all}
use Rattle.std.proofs.Math.Nat.{div_self}
use Rattle.std.proofs.lemmas.Bool.{and_from, eq-eqb}
use Rattle.std.proofs.lemmas.Nat.{div_below}
use Rattle.frag_map.specs.Fragment.{frag_of, group_of_key}
use Rattle.frag_map.specs.Layout.{holds}
use Rattle.frag_map.specs.Shape.{IsShape, group_of, groups}
use Rattle.sig_core.specs.Table.{Rows}
use Rattle.sig_core.specs.declared.fault.RestartFault.{RestartFault}
use Rattle.sig_core.specs.declared.fault.RestartFault.TheVariants.{Damaged}
use Rattle.sig_core.specs.declared.redo.Redo.{Redo}
use Rattle.sig_core.specs.declared.slots.ControlSlot.{ControlSlot}
use Rattle.sig_core.specs.declared.slots.SystemSlot.{SystemSlot}
use Rattle.sig_core.specs.declared.view.Shape.{Shape}
use Rattle.sysfile_core.specs.declared.owner.TheConstants.{OWNER}
use Rattle.sysfile_core.specs.declared.place.TheConstants.{CONTROL_FILE, SYSTEM_FILE}
use Rattle.sysfile_core.specs.Owner.{owner_of}
use Rattle.sysfile_core.specs.Places.{place_of}
use Rattle.sys_restart.specs.Answers.{on_node}
use Rattle.sys_restart.specs.Files.{Files}
use Rattle.sys_restart.specs.Groups.{current_on, if_held, rows_on, unless_outdated}
use Rattle.sys_restart.specs.Held.{are_held, are_records_held, holds_record, is_held, key_of, newest_in, records_of}
use Rattle.sys_restart.specs.Lack.{lacking}
use Rattle.sys_restart.specs.Outdated.{is_outdated}
use Rattle.sys_restart.specs.Owner.{if_owned, is_owned}
use Rattle.sys_restart.specs.Redone.{log_of, records_in}
use Rattle.sys_restart.specs.SlotRows.{rows_of_slot}
use Rattle.sys_restart.proofs.TableLemmas.{nothing_listed}

no_rows : (fault : RestartFault) (part : Rows) → ◌≡◌ {A = Result Rows RestartFault} (Err fault) (Ok part) → ⊥
no_rows fault part is = cc

same_rows : (rows part : Rows) → ◌≡◌ {A = Result Rows RestartFault} (Ok rows) (Ok part) → rows ≡ part
same_rows rows part is = cc

-- rows that their node holds are kept, where it holds the records of the redo
pub held_kept : (shape : Shape) (node : ℕ) (files : Files) (slot : ControlSlot) (rows : Rows)
    → are_held shape node rows ≡ true → are_records_held shape node (records_of files slot) ≡ true
    → if_held shape node files slot (Ok rows) ≡ Ok rows
held_kept shape node files slot rows is redo =
    ap (λ (b : Bool). if b then Ok rows else Err (lacking node CONTROL_FILE files))
    (and_from (are_held shape node rows) (are_records_held shape node (records_of files slot)) is redo)

-- those that were kept are those that were read
pub record IsKept (shape : Shape) (node : ℕ) (files : Files) (slot : ControlSlot) (found : Result Rows RestartFault)
    (part : Rows) : Type 0 where
  pub found_so : found ≡ Ok part
  pub rows : are_held shape node part ≡ true
  pub redo : are_records_held shape node (records_of files slot) ≡ true

pub held_is : (shape : Shape) (node : ℕ) (files : Files) (slot : ControlSlot) (found : Result Rows RestartFault)
    (part : Rows) → if_held shape node files slot found ≡ Ok part → IsKept shape node files slot found part
held_is shape node files slot (Err fault) part is = absurd (no_rows fault part is)
held_is shape node files slot (Ok rows) part is =
    by (are_held shape node rows) (are_records_held shape node (records_of files slot)) refl refl is
  where
    by : (b c : Bool) → are_held shape node rows ≡ b → are_records_held shape node (records_of files slot) ≡ c
        → (if b && c then Ok rows else Err (lacking node CONTROL_FILE files)) ≡ Ok part
        → IsKept shape node files slot (Ok rows) part
    by true true e f is = record {
      found_so = is;
      rows = subst (λ (kept : Rows). are_held shape node kept ≡ true) (same_rows rows part is) e;
      redo = f;
    }
    by true false e f is = absurd (no_rows (lacking node CONTROL_FILE files) part is)
    by false c e f is = absurd (no_rows (lacking node CONTROL_FILE files) part is)

-- the same rows of other files are kept where those were, if they have the same redo
pub held_alike : (shape : Shape) (node : ℕ) (one two : Files) (slot : ControlSlot)
    (found other : Result Rows RestartFault) (part : Rows)
    → other ≡ found → records_of two slot ≡ records_of one slot
    → if_held shape node one slot found ≡ Ok part → if_held shape node two slot other ≡ Ok part
held_alike shape node one two slot found other part same redo is =
    let kept = held_is shape node one slot found part is in
    ap (if_held shape node two slot) (same ∙ kept.found_so)
    ∙ held_kept shape node two slot part kept.rows (ap (are_records_held shape node) redo ∙ kept.redo)

-- rows that are read under a control file of the node's own, and what such a file is
owned_kept : (node : ℕ) (owner : Option ℕ) (rows : Result Rows RestartFault) → is_owned node owner ≡ true
    → if_owned node owner rows ≡ rows
owned_kept node None rows own = refl
owned_kept node (Some owner) rows own =
    ap (λ (b : Bool). if b then rows else Err (Damaged node CONTROL_FILE (place_of OWNER + 1) owner)) own

owned_is : (node : ℕ) (owner : Option ℕ) (rows : Result Rows RestartFault) (part : Rows)
    → if_owned node owner rows ≡ Ok part → (is_owned node owner ≡ true) × (rows ≡ Ok part)
owned_is node None rows part is = (refl, is)
owned_is node (Some owner) rows part is = by (owner == node) is
  where
    by : (b : Bool) → (if b then rows else Err (Damaged node CONTROL_FILE (place_of OWNER + 1) owner)) ≡ Ok part
        → (b ≡ true) × (rows ≡ Ok part)
    by true is = (refl, is)
    by false is = absurd (no_rows (Damaged node CONTROL_FILE (place_of OWNER + 1) owner) part is)

-- the rows of a disk that is the node's own and whose control slots tell of no later epoch, and of one that gave rows
pub rows_current : (shape : Shape) (system : SystemSlot) (node : ℕ) (files : Files) (slot : ControlSlot)
    → is_owned node (owner_of (files CONTROL_FILE)) ≡ true
    → is_outdated system.generation system.epoch (files CONTROL_FILE) ≡ false
    → rows_on shape system node files slot
    ≡ if_held shape node files slot (on_node node (rows_of_slot system.epoch files slot))
rows_current shape system node files slot own is =
    owned_kept node (owner_of (files CONTROL_FILE)) (current_on shape system node files slot) own
    ∙ ap
    (λ (b : Bool). unless_outdated node files b
    (if_held shape node files slot (on_node node (rows_of_slot system.epoch files slot))))
    is

pub rows_owned : (shape : Shape) (system : SystemSlot) (node : ℕ) (files : Files) (slot : ControlSlot) (part : Rows)
    → rows_on shape system node files slot ≡ Ok part → is_owned node (owner_of (files CONTROL_FILE)) ≡ true
rows_owned shape system node files slot part is =
    (owned_is node (owner_of (files CONTROL_FILE)) (current_on shape system node files slot) part is).0

pub rows_are : (shape : Shape) (system : SystemSlot) (node : ℕ) (files : Files) (slot : ControlSlot) (part : Rows)
    → rows_on shape system node files slot ≡ Ok part
    → (is_outdated system.generation system.epoch (files CONTROL_FILE) ≡ false)
    × (if_held shape node files slot (on_node node (rows_of_slot system.epoch files slot)) ≡ Ok part)
rows_are shape system node files slot part is =
    by (is_outdated system.generation system.epoch (files CONTROL_FILE))
    (owned_is node (owner_of (files CONTROL_FILE)) (current_on shape system node files slot) part is).1
  where
    by : (b : Bool)
        → unless_outdated node files b
        (if_held shape node files slot (on_node node (rows_of_slot system.epoch files slot)))
        ≡ Ok part
        → (b ≡ false) × (if_held shape node files slot (on_node node (rows_of_slot system.epoch files slot)) ≡ Ok part)
    by true is = absurd (no_rows (lacking node SYSTEM_FILE files) part is)
    by false is = (refl, is)

-- a node holds no rows, and all of them where it holds each
pub none_held : (shape : Shape) (node : ℕ) → are_held shape node finmap.empty ≡ true
none_held shape node = ap (list_all (is_held shape node)) (nothing_listed finmap.empty refl)

-- nor has it records where the redo is empty
pub no_records : (shape : Shape) (node : ℕ) (files : Files) (slot : ControlSlot)
    → slot.redo_end ≤ slot.redo_start → are_records_held shape node (records_of files slot) ≡ true
unfolding log_of records_in
no_records shape node files slot none =
    let nothing : slot.redo_end - slot.redo_start ≡ 0 = omega (arith, none) in
    ap (λ (n : ℕ). are_records_held shape node (newest_in (log_of files slot.parity slot.redo_start n))) nothing

each_held : {A : Type 0} (test : A → Bool) (all : List A) → ((a : A) → test a ≡ true) → list_all test all ≡ true
each_held test [] each = refl
each_held test (a ∷ all) each = and_from (test a) (list_all test all) (each a) (each_held test all each)

-- where there is one group of nodes, each holds all keys
module _ (shape : Shape) (is : IsShape shape) (one : shape.nodes ≡ shape.replicas) where
  one_group : groups shape ≡ 1
  one_group = ap (λ (n : ℕ). n / shape.replicas) one ∙ div_self is.replicas_some

  first_group : (node : ℕ) → 1 ≤ node → node ≤ shape.nodes → group_of shape node ≡ 0
  first_group node some few =
      let below : (node - 1) / shape.replicas < 1 =
      div_below (node - 1) shape.replicas 1 is.replicas_some (omega (arith, some, few, one)) in
      omega (arith, below)

  no_other : (key : List ℕ) → group_of_key shape key ≡ 0
  no_other key =
      let rest : frag_of shape key % 1 ≡ 0 = omega arith in
      ap (λ (n : ℕ). frag_of shape key % n) one_group ∙ rest

  each_key : (node : ℕ) → 1 ≤ node → node ≤ shape.nodes → (key : List ℕ) → holds shape node key ≡ true
  each_key node some few key =
      eq-eqb (group_of shape node) (group_of_key shape key) (first_group node some few ∙ sym (no_other key))

  pub all_held : (node : ℕ) → 1 ≤ node → node ≤ shape.nodes → (rows : Rows) → are_held shape node rows ≡ true
  all_held node some few rows =
      each_held (is_held shape node) (finmap.entries rows) (λ row. each_key node some few row.0)

  pub all_records_held : (node : ℕ) → 1 ≤ node → node ≤ shape.nodes → (records : List Redo)
      → are_records_held shape node records ≡ true
  all_records_held node some few records =
      each_held (holds_record shape node) records (λ redo. each_key node some few (key_of redo))
