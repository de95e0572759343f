-- The rows that a restart finds on disks of bytes are storable.
use Rattle.std.proofs.Common.{◌≡◌, ◌∙◌, ℕ, zero, suc, ◌+◌, ◌-◌, ◌*◌, List, [], ◌∷◌, ◌++◌, length, get_or, refl, ap, sym}
use Rattle.std.proofs.Common.{subst, inl, inr}
use Rattle.std.specs.Prelude.{IfSome, Option, None, Some, Result, Ok, Err}
use Rattle.std.specs.FinMap as finmap
use Rattle.std.specs.List.{All}
use Rattle.std.proofs.lemmas.Bool.{cases_lt}
use Rattle.std.proofs.lemmas.List.{get_or_past}
use Rattle.std.proofs.lemmas.List.Elements.{All-append, All-cons, All-nil, All-replicate}
use Rattle.frag_map.specs.Shape.{group_of, groups}
use Rattle.host_io.specs.Image.{AreBytes}
use Rattle.sig_core.specs.Table.{Rows}
use Rattle.sig_core.specs.declared.fault.ReadFault.{ReadFault}
use Rattle.sig_core.specs.declared.fault.RestartFault.{RestartFault}
use Rattle.sig_core.specs.declared.slots.ControlSlot.{ControlSlot}
use Rattle.sig_core.specs.declared.slots.SystemSlot.{SystemSlot}
use Rattle.sig_core.specs.declared.view.Shape.{Shape}
use Rattle.sys_restart.proofs.AlikeLemmas.{no_answer, same_answer}
use Rattle.sys_restart.proofs.GroupsLemmas.{among_ends, among_more, group_among, joined_is, rows_fail}
use Rattle.sys_restart.proofs.HeldLemmas.{held_is, rows_are}
use Rattle.sys_restart.proofs.LostLemmas.{nothing_only}
use Rattle.sys_restart.specs.Answers.{on_node}
use Rattle.sys_restart.specs.Checkpoint.{rows_of_file}
use Rattle.sys_restart.specs.Files.{Disks, Files}
use Rattle.sys_restart.specs.Groups.{also_on, and_rows, control_on, go_on, rows_among, rows_from, rows_of_group}
use Rattle.sys_restart.specs.Groups.{rows_of_groups, rows_on}
use Rattle.sys_restart.specs.Latest.{latest_of}
use Rattle.sys_restart.specs.Restored.{restored_by, restored_of, with_rows}
use Rattle.sys_restart.specs.SlotRows.{rows_of_slot, with_redo}
use Rattle.sys_restart.specs.declared.restored.Restored.{Restored}
use Rattle.node_restart.specs.Laws.{RestoredRowsAreStorable}
use Rattle.node_restart.proofs.StorableFiles.{checkpoint_has}
use Rattle.node_restart.proofs.StorableMaps.{HaveWords, none_have, storable}
use Rattle.node_restart.proofs.StorableRedo.{redone_has}

-- the rows that a slot names have words
slot_has : (epoch : ℕ) (files : Files) (slot : ControlSlot) (all : Rows) → ((file : ℕ) → AreBytes (files file))
    → rows_of_slot epoch files slot ≡ Ok all → HaveWords all
slot_has epoch files slot all are is =
    by (rows_of_file slot.ckpt_file slot.ckpt_size epoch (files slot.ckpt_file)) refl is
  where
    by : (rows : Result Rows ReadFault)
        → rows_of_file slot.ckpt_file slot.ckpt_size epoch (files slot.ckpt_file) ≡ rows
        → with_redo epoch files slot rows ≡ Ok all → HaveWords all
    by (Err fault) rows-is is = absurd (no_answer fault all _ refl is)
    by (Ok rows) rows-is is =
        redone_has epoch rows files slot.parity slot.redo_start (slot.redo_end - slot.redo_start) all are
        (checkpoint_has slot.ckpt_file slot.ckpt_size epoch (files slot.ckpt_file) rows rows-is) is

module _ (disks : Disks) (are : (node file : ℕ) → AreBytes (disks node file)) where
  -- rows that were read on a node's disk have words
  rows_have : (shape : Shape) (system : SystemSlot) (node : ℕ) (slot : ControlSlot) (all : Rows)
      → rows_on shape system node (disks node) slot ≡ Ok all → HaveWords all
  rows_have shape system node slot all is =
      on (rows_of_slot system.epoch (disks node) slot)
      (λ found found-is. slot_has system.epoch (disks node) slot found (are node) found-is)
      (held_is shape node (disks node) slot (on_node node (rows_of_slot system.epoch (disks node) slot)) all
      (rows_are shape system node (disks node) slot all is).1).found_so
    where
      on : (rows : Result Rows ReadFault) → ((found : Rows) → rows ≡ Ok found → HaveWords found)
          → on_node node rows ≡ Ok all → HaveWords all
      on (Err fault) has is = absurd (no_answer _ all _ refl is)
      on (Ok rows) has is = subst HaveWords (same_answer rows all _ refl is) (has rows refl)

  -- rows that are found on one more node of a group have words, where those before have
  also_have : (shape : Shape) (system : SystemSlot) (node : ℕ) (found after : Option Rows)
      (slot : Result (Option ControlSlot) RestartFault) → IfSome found HaveWords
      → also_on shape system node (disks node) found slot ≡ Ok after → IfSome after HaveWords
  also_have shape system node found after (Err fault) have is = absurd (no_answer fault after _ refl is)
  also_have shape system node found after (Ok None) have is =
      subst (λ (rows : Option Rows). IfSome rows HaveWords) (same_answer found after _ refl is) have
  also_have shape system node found after (Ok (Some slot)) have is =
      let (rows, (read, (after_is, rest))) =
      joined_is node (disks node) found after (rows_on shape system node (disks node) slot) is in
      subst (λ (own : Option Rows). IfSome own HaveWords) (sym after_is) (rows_have shape system node slot rows read)

  among_have : (shape : Shape) (system : SystemSlot) (node more : ℕ) (found after : Option Rows)
      → IfSome found HaveWords → rows_among shape disks system node more found ≡ Ok after → IfSome after HaveWords
  among_have shape system node zero found after have is =
      subst (λ (rows : Option Rows). IfSome rows HaveWords)
      (same_answer found after _ (among_ends shape disks system node found) is) have
  among_have shape system node (suc more) found after have is =
      by (also_on shape system node (disks node) found (control_on system node (disks node))) refl
      (λ next. among_have shape system (node + 1) more next after)
      (sym (among_more shape disks system node more found) ∙ is)
    where
      by : (here : Result (Option Rows) RestartFault)
          → also_on shape system node (disks node) found (control_on system node (disks node)) ≡ here
          → ((next : Option Rows) → IfSome next HaveWords
          → rows_among shape disks system (node + 1) more next ≡ Ok after → IfSome after HaveWords)
          → go_on (rows_among shape disks system (node + 1) more)
          (also_on shape system node (disks node) found (control_on system node (disks node))) ≡ Ok after
          → IfSome after HaveWords
      by (Err fault) here again all =
          absurd (no_answer fault after _ refl
          (sym (ap (go_on (rows_among shape disks system (node + 1) more)) here) ∙ all))
      by (Ok next) here again all =
          again next
          (also_have shape system node found next (control_on system node (disks node)) have here)
          (sym (ap (go_on (rows_among shape disks system (node + 1) more)) here) ∙ all)

  -- the rows of a group have words
  group_has : (shape : Shape) (system : SystemSlot) (first : ℕ) (all : Rows)
      → rows_of_group shape disks system first ≡ Ok all → HaveWords all
  group_has shape system first all is =
      among_have shape system first shape.replicas None (Some all) tt (group_among shape disks system first all is)

  -- and so have those of one group after the other
  groups_have : (shape : Shape) (system : SystemSlot) (group more : ℕ) (before all : List Rows) → All HaveWords before
      → rows_from shape disks system group more (Ok before) ≡ Ok all → All HaveWords all
  unfolding rows_from
  groups_have shape system group zero before all have is =
      subst (All HaveWords) (same_answer before all _ refl is) have
  groups_have shape system group (suc more) before all have is =
      by (rows_of_group shape disks system (group * shape.replicas + 1)) refl is
      (λ next. groups_have shape system (group + 1) more next all)
    where
      by : (part : Result Rows RestartFault) → rows_of_group shape disks system (group * shape.replicas + 1) ≡ part
          → rows_from shape disks system (group + 1) more (and_rows (Ok before) part) ≡ Ok all
          → ((next : List Rows) → All HaveWords next
          → rows_from shape disks system (group + 1) more (Ok next) ≡ Ok all → All HaveWords all)
          → All HaveWords all
      by (Err fault) part-is is again =
          absurd (no_answer fault all _ (rows_fail shape disks system (group + 1) more fault) is)
      by (Ok part) part-is is again =
          again (before ++ part ∷ [])
          (All-append HaveWords before (part ∷ []) have
          (All-cons HaveWords part [] (group_has shape system (group * shape.replicas + 1) part part-is)
          (All-nil HaveWords)))
          is

  -- all that is restored has words
  restored_has : (shape : Shape) (r : Restored) → restored_of shape disks ≡ Ok r → All HaveWords r.groups
  unfolding restored_of
  restored_has shape r is = by (latest_of shape disks) is
    where
      under : (system : SystemSlot) (rows : Result (List Rows) RestartFault) → rows_of_groups shape disks system ≡ rows
          → with_rows system rows ≡ Ok r → All HaveWords r.groups
      under system (Err fault) rows-is is = absurd (no_answer fault r _ refl is)
      under system (Ok rows) rows-is is =
          subst (λ (found : Restored). All HaveWords found.groups)
          (same_answer (record { generation = system.generation; epoch = system.epoch; groups = rows }) r _ refl is)
          (groups_have shape system 0 (groups shape) [] rows (All-nil HaveWords) rows-is)

      by : (found : Result (Option SystemSlot) RestartFault) → restored_by shape disks found ≡ Ok r
          → All HaveWords r.groups
      by (Err fault) is = absurd (no_answer fault r _ refl is)
      by (Ok None) is =
          subst (λ (found : Restored). All HaveWords found.groups) (nothing_only shape r _ is).1
          (All-replicate HaveWords (groups shape) finmap.empty none_have)
      by (Ok (Some system)) is = under system (rows_of_groups shape disks system) refl is

-- those of one group, or none
at_group : (all : List Rows) (group : ℕ) → All HaveWords all → HaveWords (get_or all group finmap.empty)
at_group all group have =
    elim (cases_lt group (length all)) [
      | inl below ↦ have group finmap.empty below
      | inr past ↦ subst HaveWords (sym (get_or_past all group finmap.empty past)) none_have
    ]

pub restored_storable : RestoredRowsAreStorable
restored_storable shape disks r are is node =
    storable (get_or r.groups (group_of shape node) finmap.empty)
    (at_group r.groups (group_of shape node) (restored_has disks are shape r is))
