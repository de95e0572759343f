-- Disks that a restart can't tell apart.
use Rattle.std.proofs.Common.{◌≡◌, ◌∙◌, ℕ, zero, suc, ◌+◌, ◌*◌, Bool, true, false, List, [], ◌∷◌, ◌++◌, refl, ap, sym, subst, if◌then◌else◌}
use Rattle.std.specs.Prelude.{Option, None, Some, Result, Ok, Err}
use Rattle.frag_map.specs.Shape.{groups}
use Rattle.sig_core.specs.Table.{Rows}
use Rattle.sig_core.specs.declared.fault.RestartFault.{RestartFault}
use Rattle.sig_core.specs.declared.slots.ControlSlot.{ControlSlot}
use Rattle.sig_core.specs.declared.slots.SystemSlot.{SystemSlot}
use Rattle.sig_core.specs.declared.view.Shape.{Shape}
use Rattle.sysfile_core.specs.declared.place.TheConstants.{CONTROL_FILE}
use Rattle.sysfile_core.specs.Owner.{owner_of}
use Rattle.sysfile_core.specs.Reading.{control_of_file}
use Rattle.sys_restart.specs.declared.restored.Restored.{Restored}
use Rattle.sys_restart.specs.Answers.{on_node}
use Rattle.sys_restart.specs.Files.{Disks, Files}
use Rattle.sys_restart.specs.Groups.{also_on, and_rows, control_on, go_on, joined, rows_among, rows_from, rows_of_group, rows_of_groups, rows_on}
use Rattle.sys_restart.specs.Held.{records_of}
use Rattle.sys_restart.specs.Lack.{lacking}
use Rattle.sys_restart.specs.Latest.{later, latest_from, latest_of, latest_on}
use Rattle.sys_restart.specs.Outdated.{is_outdated}
use Rattle.sys_restart.specs.Owner.{is_owned}
use Rattle.sys_restart.specs.Restored.{nothing_by, restored_by, restored_of, with_rows}
use Rattle.sys_restart.specs.Same.{are_same}
use Rattle.sys_restart.specs.SlotRows.{rows_of_slot}
use Rattle.sys_restart.proofs.GroupsLemmas.{control_alike, control_there, group_among, group_found, rows_fail}
use Rattle.sys_restart.proofs.HeldLemmas.{held_alike, rows_are, rows_current, rows_owned}
use Rattle.sys_restart.proofs.LostLemmas.{StayUnsaved, lost_alike, nothing_only}

pub same_answer : {A E : Type 0} (a b : A) (r : Result A E) → r ≡ Ok a → r ≡ Ok b → a ≡ b
same_answer a b r one other = cc

pub no_answer : {A E : Type 0} (fault : E) (a : A) (r : Result A E) → r ≡ Err fault → r ≡ Ok a → ⊥
no_answer fault a r one other = cc

pub same_some : {A : Type 0} (a b : A) (x : Option A) → x ≡ Some a → x ≡ Some b → a ≡ b
same_some a b x one other = cc

pub not_none : {A : Type 0} (a : A) (x : Option A) → x ≡ None → x ≡ Some a → ⊥
not_none a x one other = cc

-- A restart of a generation reads the same of two disks of a node: the latest system slot; the control slot in use,
-- where it can be read; the rows of that slot and the records of its redo; that control slots tell of no later epoch;
-- and that the control file is the node's own, or no other's.
pub record AreAlike (shape : Shape) (node generation : ℕ) (one two : Files) : Type 0 where
  pub system : latest_on shape node two ≡ latest_on shape node one
  pub slots :
      (slot : Option ControlSlot) → control_of_file generation (one CONTROL_FILE) ≡ Ok slot
      → control_of_file generation (two CONTROL_FILE) ≡ Ok slot
  pub rows :
      (slot : ControlSlot) (epoch : ℕ) → control_of_file generation (one CONTROL_FILE) ≡ Ok (Some slot)
      → rows_of_slot epoch two slot ≡ rows_of_slot epoch one slot
  pub redo :
      (slot : ControlSlot) → control_of_file generation (one CONTROL_FILE) ≡ Ok (Some slot)
      → records_of two slot ≡ records_of one slot
  pub ahead :
      (epoch : ℕ) → is_outdated generation epoch (one CONTROL_FILE) ≡ false
      → is_outdated generation epoch (two CONTROL_FILE) ≡ false
  pub owned :
      is_owned node (owner_of (one CONTROL_FILE)) ≡ true → is_owned node (owner_of (two CONTROL_FILE)) ≡ true

pub alike_itself : (shape : Shape) (node generation : ℕ) (files : Files) → AreAlike shape node generation files files
alike_itself shape node generation files =
    record {
      system = refl;
      slots = λ slot is. is;
      rows = λ slot epoch is. refl;
      redo = λ slot is. refl;
      ahead = λ epoch is. is;
      owned = λ is. is;
    }

abbrev pub AllAlike : Shape → ℕ → Disks → Disks → Type 0
AllAlike shape generation one two = (node : ℕ) → AreAlike shape node generation (one node) (two node)

pub latest_alike : (shape : Shape) (generation : ℕ) (one two : Disks) → AllAlike shape generation one two
    → (node more : ℕ) (found : Result (Option SystemSlot) RestartFault)
    → latest_from shape two node more found ≡ latest_from shape one node more found
unfolding latest_from
latest_alike shape generation one two alike node zero found = refl
latest_alike shape generation one two alike node (suc more) found =
    ap (λ slot. latest_from shape two (node + 1) more (later found slot)) (alike node).system
    ∙ latest_alike shape generation one two alike (node + 1) more (later found (latest_on shape node (one node)))

-- what is joined depends on the rows of a disk alone
joined_alike : (node : ℕ) (one two : Files) (found after : Option Rows) (part : Result Rows RestartFault)
    → joined node one found part ≡ Ok after → joined node two found part ≡ Ok after
joined_alike node one two found after (Err fault) is = is
joined_alike node one two None after (Ok rows) is = is
joined_alike node one two (Some rows) after (Ok other) is = by (are_same rows other) is
  where
    by : (b : Bool) → (if b then Ok (Some rows) else Err (lacking node CONTROL_FILE one)) ≡ Ok after
        → (if b then Ok (Some rows) else Err (lacking node CONTROL_FILE two)) ≡ Ok after
    by true is = is
    by false is = absurd (no_answer (lacking node CONTROL_FILE one) after _ refl is)

module _ (shape : Shape) (system : SystemSlot) (one two : Disks)
    (alike : AllAlike shape system.generation one two) where
  -- the rows of a slot on a node's disk
  rows_alike : (node : ℕ) (slot : ControlSlot) (part : Rows)
      → control_of_file system.generation (one node CONTROL_FILE) ≡ Ok (Some slot)
      → rows_on shape system node (one node) slot ≡ Ok part → rows_on shape system node (two node) slot ≡ Ok part
  rows_alike node slot part there is =
      let was = rows_are shape system node (one node) slot part is in
      rows_current shape system node (two node) slot
      ((alike node).owned (rows_owned shape system node (one node) slot part is))
      ((alike node).ahead system.epoch was.0)
      ∙ held_alike shape node (one node) (two node) slot (on_node node (rows_of_slot system.epoch (one node) slot))
      (on_node node (rows_of_slot system.epoch (two node) slot)) part
      (ap (on_node node) ((alike node).rows slot system.epoch there)) ((alike node).redo slot there) was.1

  -- what is found on a node's disk beside what was found before
  also_alike : (node : ℕ) (found after : Option Rows)
      → also_on shape system node (one node) found (control_on system node (one node)) ≡ Ok after
      → also_on shape system node (two node) found (control_on system node (two node)) ≡ Ok after
  also_alike node found after is = by (control_on system node (one node)) refl
    where
      with_rows_of : (slot : ControlSlot) (part : Result Rows RestartFault)
          → control_on system node (one node) ≡ Ok (Some slot)
          → rows_on shape system node (one node) slot ≡ part
          → also_on shape system node (two node) found (control_on system node (two node)) ≡ Ok after
      with_rows_of slot (Err fault) e f =
          absurd (no_answer fault after _ (ap (joined node (one node) found) f)
          (sym (ap (also_on shape system node (one node) found) e) ∙ is))
      with_rows_of slot (Ok rows) e f =
          ap (also_on shape system node (two node) found)
          (control_alike system node (one node) (two node) (Some slot) (alike node).slots e)
          ∙ ap (joined node (two node) found)
          (rows_alike node slot rows (control_there system node (one node) slot e) f)
          ∙ joined_alike node (one node) (two node) found after (Ok rows)
          (sym (ap (joined node (one node) found) f)
          ∙ sym (ap (also_on shape system node (one node) found) e)
          ∙ is)

      by : (slot : Result (Option ControlSlot) RestartFault) → control_on system node (one node) ≡ slot
          → also_on shape system node (two node) found (control_on system node (two node)) ≡ Ok after
      by (Err fault) e =
          absurd (no_answer fault after _ (ap (also_on shape system node (one node) found) e) is)
      by (Ok None) e =
          ap (also_on shape system node (two node) found)
          (control_alike system node (one node) (two node) None (alike node).slots e)
          ∙ sym (ap (also_on shape system node (one node) found) e)
          ∙ is
      by (Ok (Some slot)) e = with_rows_of slot (rows_on shape system node (one node) slot) e refl

  among_alike : (node more : ℕ) (found after : Option Rows)
      → rows_among shape one system node more found ≡ Ok after
      → rows_among shape two system node more found ≡ Ok after
  unfolding rows_among
  among_alike node zero found after is = is
  among_alike node (suc more) found after is =
      by (also_on shape system node (one node) found (control_on system node (one node)))
      (λ next. among_alike (node + 1) more next after) refl
    where
      by : (here : Result (Option Rows) RestartFault)
          → ((next : Option Rows) → rows_among shape one system (node + 1) more next ≡ Ok after
          → rows_among shape two system (node + 1) more next ≡ Ok after)
          → also_on shape system node (one node) found (control_on system node (one node)) ≡ here
          → rows_among shape two system node (suc more) found ≡ Ok after
      by (Err fault) again e =
          absurd (no_answer fault after _ (ap (go_on (rows_among shape one system (node + 1) more)) e) is)
      by (Ok next) again e =
          ap (go_on (rows_among shape two system (node + 1) more)) (also_alike node found next e)
          ∙ again next (sym (ap (go_on (rows_among shape one system (node + 1) more)) e) ∙ is)

  pub group_alike : (first : ℕ) (part : Rows) → rows_of_group shape one system first ≡ Ok part
      → rows_of_group shape two system first ≡ Ok part
  group_alike first part is =
      group_found shape two system first part
      (among_alike first shape.replicas None (Some part) (group_among shape one system first part is))

  pub groups_alike : (group more : ℕ) (before all : List Rows)
      → rows_from shape one system group more (Ok before) ≡ Ok all
      → rows_from shape two system group more (Ok before) ≡ Ok all
  unfolding rows_from
  groups_alike group zero before all is = is
  groups_alike group (suc more) before all is =
      by (rows_of_group shape one system (group * shape.replicas + 1))
      (λ part. groups_alike (group + 1) more (before ++ part ∷ []) all) refl
    where
      by : (part : Result Rows RestartFault)
          → ((part : Rows) → rows_from shape one system (group + 1) more (Ok (before ++ part ∷ [])) ≡ Ok all
          → rows_from shape two system (group + 1) more (Ok (before ++ part ∷ [])) ≡ Ok all)
          → rows_of_group shape one system (group * shape.replicas + 1) ≡ part
          → rows_from shape two system group (suc more) (Ok before) ≡ Ok all
      by (Err fault) again e =
          absurd (no_answer fault all _
          (ap (λ part. rows_from shape one system (group + 1) more (and_rows (Ok before) part)) e
          ∙ rows_fail shape one system (group + 1) more fault)
          is)
      by (Ok part) again e =
          let rest : rows_from shape one system (group + 1) more (Ok (before ++ part ∷ [])) ≡ Ok all =
          sym (ap (λ part. rows_from shape one system (group + 1) more (and_rows (Ok before) part)) e) ∙ is in
          ap (λ part. rows_from shape two system (group + 1) more (and_rows (Ok before) part))
          (group_alike (group * shape.replicas + 1) part e)
          ∙ again part rest

-- A restart from one is that from the other, where rows that weren't saved stay so as long as none may be.
pub restored_alike : (shape : Shape) (one two : Disks) (r : Restored) → AllAlike shape r.generation one two
    → (r.epoch ≡ 0 → StayUnsaved one two) → restored_of shape one ≡ Ok r → restored_of shape two ≡ Ok r
unfolding restored_of
restored_alike shape one two r alike stay is = by (latest_of shape one) refl
  where
    latest : latest_of shape two ≡ latest_of shape one
    latest = latest_alike shape r.generation one two alike 1 shape.nodes (Ok None)

    rows_by_slot : (system : SystemSlot) (rows : Result (List Rows) RestartFault)
        → latest_of shape one ≡ Ok (Some system)
        → rows_of_groups shape one system ≡ rows → restored_by shape two (latest_of shape two) ≡ Ok r
    rows_by_slot system (Err fault) e f =
        absurd (no_answer fault r _ (ap (restored_by shape one) e ∙ ap (with_rows system) f) is)
    rows_by_slot system (Ok rows) e f =
        let made : Restored = record { generation = system.generation; epoch = system.epoch; groups = rows } in
        let same : made ≡ r = same_answer made r _ (ap (restored_by shape one) e ∙ ap (with_rows system) f) is in
        let generation : r.generation ≡ system.generation = ap (λ (s : Restored). s.generation) (sym same) in
        let here : AllAlike shape system.generation one two =
        subst (λ (g : ℕ). AllAlike shape g one two) generation alike in
        let again : rows_of_groups shape two system ≡ Ok rows =
        groups_alike shape system one two here 0 (groups shape) [] rows f in
        ap (restored_by shape two) (latest ∙ e) ∙ ap (with_rows system) again ∙ ap Ok same

    by : (found : Result (Option SystemSlot) RestartFault) → latest_of shape one ≡ found
        → restored_by shape two (latest_of shape two) ≡ Ok r
    by (Err fault) e = absurd (no_answer fault r _ (ap (restored_by shape one) e) is)
    by (Ok None) e =
        let none = nothing_only shape r _ (sym (ap (restored_by shape one) e) ∙ is) in
        let epoch : r.epoch ≡ 0 = ap (λ (s : Restored). s.epoch) (sym none.1) in
        ap (restored_by shape two) (latest ∙ e)
        ∙ ap (nothing_by shape) (lost_alike one two (stay epoch) 1 shape.nodes none.0)
        ∙ ap Ok none.1
    by (Ok (Some system)) e = rows_by_slot system (rows_of_groups shape one system) e refl
