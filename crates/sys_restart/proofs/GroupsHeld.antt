-- What is restored of each group is held by its nodes.
use Rattle.std.proofs.Common.{◌≡◌, ◌∙◌, ℕ, zero, suc, ◌+◌, ◌*◌, ◌==◌, true, List, [], ◌∷◌, ◌++◌, length, replicate, get_or, refl, ap, sym, subst, arith}
use Rattle.std.specs.Prelude.{Option, None, Some, Result, Ok, Err}
use Rattle.std.specs.FinMap as finmap
use Rattle.std.specs.List.{list_all}
use Rattle.std.proofs.lemmas.List.{length-append}
use Rattle.frag_map.specs.Fragment.{group_of_key}
use Rattle.frag_map.specs.Shape.{IsShape, groups}
use Rattle.sig_core.specs.Table.{Rows}
use Rattle.sig_core.specs.declared.fault.RestartFault.{RestartFault}
use Rattle.sig_core.specs.declared.slots.SystemSlot.{SystemSlot}
use Rattle.sig_core.specs.declared.view.Shape.{Shape}
use Rattle.sys_restart.specs.declared.restored.Restored.{Restored}
use Rattle.sys_restart.specs.Answers.{on_node}
use Rattle.sys_restart.specs.Files.{Disks}
use Rattle.sys_restart.specs.Groups.{and_rows, rows_from, rows_of_group, rows_of_groups}
use Rattle.sys_restart.specs.Held.{are_held}
use Rattle.sys_restart.specs.Latest.{latest_of}
use Rattle.sys_restart.specs.Restored.{restored_by, restored_of, with_rows}
use Rattle.sys_restart.specs.SlotRows.{rows_of_slot}
use Rattle.sys_restart.proofs.AlikeLemmas.{no_answer, same_answer}
use Rattle.sys_restart.proofs.GroupsLemmas.{group_is, rows_fail}
use Rattle.sys_restart.proofs.HeldLemmas.{held_is, none_held, rows_are}
use Rattle.sys_restart.proofs.LostLemmas.{nothing_only}
use Rattle.sys_restart.proofs.SeatLemmas.{first_of_group, node_of_group}

-- the rows of each group, from one on, are held by its first node
abbrev pub AreHeldFrom : Shape → ℕ → List Rows → Type 0
AreHeldFrom shape group [] = Unit {0}
AreHeldFrom shape group (rows ∷ more) =
    (are_held shape (group * shape.replicas + 1) rows ≡ true) × AreHeldFrom shape (group + 1) more

held_at : (shape : Shape) (all : List Rows) (from group : ℕ) → AreHeldFrom shape from all
    → are_held shape ((from + group) * shape.replicas + 1) (get_or all group finmap.empty) ≡ true
held_at shape [] from group held = none_held shape ((from + group) * shape.replicas + 1)
held_at shape (rows ∷ more) from zero held =
    subst (λ (g : ℕ). are_held shape (g * shape.replicas + 1) rows ≡ true)
    (let same : from ≡ from + 0 = omega arith in same) held.0
held_at shape (rows ∷ more) from (suc group) held =
    subst (λ (g : ℕ). are_held shape (g * shape.replicas + 1) (get_or more group finmap.empty) ≡ true)
    (let same : from + 1 + group ≡ from + suc group = omega arith in same)
    (held_at shape more (from + 1) group held.1)

pub group_held_in : (shape : Shape) (all : List Rows) (group : ℕ) → AreHeldFrom shape 0 all
    → are_held shape (group * shape.replicas + 1) (get_or all group finmap.empty) ≡ true
group_held_in shape all group held =
    subst (λ (g : ℕ). are_held shape (g * shape.replicas + 1) (get_or all group finmap.empty) ≡ true)
    (let same : 0 + group ≡ group = omega arith in same) (held_at shape all 0 group held)

-- those of one more group
held_more : (shape : Shape) (before : List Rows) (from : ℕ) (part : Rows) → AreHeldFrom shape from before
    → are_held shape ((from + length before) * shape.replicas + 1) part ≡ true
    → AreHeldFrom shape from (before ++ part ∷ [])
held_more shape [] from part held last = (
  subst (λ (g : ℕ). are_held shape (g * shape.replicas + 1) part ≡ true)
      (let same : from + 0 ≡ from = omega arith in same) last,
  tt,
)
held_more shape (rows ∷ more) from part held last = (
  held.0,
  held_more shape more (from + 1) part held.1
      (subst (λ (g : ℕ). are_held shape (g * shape.replicas + 1) part ≡ true)
      (let same : from + suc (length more) ≡ from + 1 + length more = omega arith in same) last),
)

nothing_held : (shape : Shape) (count from : ℕ) → AreHeldFrom shape from (replicate count finmap.empty)
nothing_held shape zero from = tt
nothing_held shape (suc count) from =
    (none_held shape (from * shape.replicas + 1), nothing_held shape count (from + 1))

module _ (shape : Shape) (is_shape : IsShape shape) (disks : Disks) where
  group_held : (system : SystemSlot) (group : ℕ) (part : Rows)
      → rows_of_group shape disks system (group * shape.replicas + 1) ≡ Ok part
      → are_held shape (group * shape.replicas + 1) part ≡ true
  group_held system group part is =
      let found = group_is shape disks system (group * shape.replicas + 1) part is in
      let kept =
      held_is shape found.node (disks found.node) found.slot
      (on_node found.node (rows_of_slot system.epoch (disks found.node) found.slot)) part
      (rows_are shape system found.node (disks found.node) found.slot part found.is).1 in
      ap
      (λ (of : ℕ). list_all (λ (row : List ℕ × List ℕ). of == group_of_key shape row.0) (finmap.entries part))
      (first_of_group shape.replicas group is_shape.replicas_some is_shape.replicas_few
      ∙ sym (node_of_group shape.replicas group found.node is_shape.replicas_some is_shape.replicas_few found.low
      found.high))
      ∙ kept.rows

  groups_held : (system : SystemSlot) (group more : ℕ) (before all : List Rows) → length before ≡ group
      → AreHeldFrom shape 0 before → rows_from shape disks system group more (Ok before) ≡ Ok all
      → AreHeldFrom shape 0 all
  unfolding rows_from
  groups_held system group zero before all many held is =
      subst (AreHeldFrom shape 0) (same_answer before all _ refl is) held
  groups_held system group (suc more) before all many held is =
      by (rows_of_group shape disks system (group * shape.replicas + 1)) refl is
      (λ next. groups_held system (group + 1) more next all)
    where
      by : (part : Result Rows RestartFault) → rows_of_group shape disks system (group * shape.replicas + 1) ≡ part
          → rows_from shape disks system (group + 1) more (and_rows (Ok before) part) ≡ Ok all
          → ((next : List Rows) → length next ≡ group + 1 → AreHeldFrom shape 0 next
          → rows_from shape disks system (group + 1) more (Ok next) ≡ Ok all → AreHeldFrom shape 0 all)
          → AreHeldFrom shape 0 all
      by (Err fault) e is again =
          absurd (no_answer fault all _ (rows_fail shape disks system (group + 1) more fault) is)
      by (Ok part) e is again =
          again (before ++ part ∷ [])
          (length-append before (part ∷ []) ∙ ap (λ (n : ℕ). n + 1) many)
          (held_more shape before 0 part held
          (subst (λ (g : ℕ). are_held shape (g * shape.replicas + 1) part ≡ true)
          (let same : group ≡ 0 + length before = omega (arith, many) in same) (group_held system group part e)))
          is

  -- and so are all that are restored
  pub restored_held : (r : Restored) → restored_of shape disks ≡ Ok r → AreHeldFrom shape 0 r.groups
  unfolding restored_of
  restored_held r is = by (latest_of shape disks) is
    where
      under : (system : SystemSlot) (rows : Result (List Rows) RestartFault) → rows_of_groups shape disks system ≡ rows
          → with_rows system rows ≡ Ok r → AreHeldFrom shape 0 r.groups
      under system (Err fault) e is = absurd (no_answer fault r _ refl is)
      under system (Ok rows) e is =
          subst (λ (found : Restored). AreHeldFrom shape 0 found.groups)
          (same_answer (record { generation = system.generation; epoch = system.epoch; groups = rows }) r _ refl is)
          (groups_held system 0 (groups shape) [] rows refl tt e)

      by : (found : Result (Option SystemSlot) RestartFault) → restored_by shape disks found ≡ Ok r
          → AreHeldFrom shape 0 r.groups
      by (Err fault) is = absurd (no_answer fault r _ refl is)
      by (Ok None) is =
          subst (λ (found : Restored). AreHeldFrom shape 0 found.groups) (nothing_only shape r _ is).1
          (nothing_held shape (groups shape) 0)
      by (Ok (Some system)) is = under system (rows_of_groups shape disks system) refl is
