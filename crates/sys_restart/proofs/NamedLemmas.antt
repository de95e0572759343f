-- Disks on which a life is named.
use Rattle.std.proofs.Common.{◌≡◌, ◌∙◌, ◌⊎◌, ℕ, zero, suc, ◌+◌, ◌-◌, ◌*◌, ◌≤◌, ◌<◌, ◌==◌, List, length, take, get_or, refl, ap, sym, subst, arith, inl, inr}
use Rattle.std.specs.Prelude.{Option, None, Some, Ok}
use Rattle.std.specs.FinMap as finmap
use Rattle.std.specs.List.{list_all}
use Rattle.std.proofs.lemmas.Bool.{cases_lt}
use Rattle.std.proofs.lemmas.List.{take_all, take_more}
use Rattle.frag_map.specs.Fragment.{group_of_key}
use Rattle.frag_map.specs.Shape.{IsShape, group_of, groups}
use Rattle.host_io.proofs.StateLemmas.{same_number}
use Rattle.sig_core.specs.Table.{Rows}
use Rattle.sig_core.specs.declared.slots.ControlSlot.{ControlSlot}
use Rattle.sig_core.specs.declared.slots.SystemSlot.{SystemSlot}
use Rattle.sig_core.specs.declared.view.Shape.{Shape}
use Rattle.sysfile_core.specs.declared.place.TheConstants.{CONTROL_FILE}
use Rattle.sysfile_core.specs.Reading.{later_system}
use Rattle.sys_restart.specs.declared.restored.Restored.{Restored}
use Rattle.sys_restart.specs.Answers.{on_node}
use Rattle.sys_restart.specs.Calls.{next_system}
use Rattle.sys_restart.specs.Files.{Disks}
use Rattle.sys_restart.specs.Groups.{also_on, and_rows, control_on, go_on, if_held, joined, rows_among, rows_from, rows_of_group}
use Rattle.sys_restart.specs.Latest.{later, latest_from, latest_of, latest_on}
use Rattle.sys_restart.specs.Owner.{is_owned}
use Rattle.sys_restart.specs.Prepared.{HasSlot, IsNamedOrBelow}
use Rattle.sys_restart.specs.Restored.{restored_by, restored_of, with_rows}
use Rattle.sys_restart.proofs.AlikeLemmas.{same_answer}
use Rattle.sys_restart.proofs.GroupsHeld.{AreHeldFrom, group_held_in}
use Rattle.sys_restart.proofs.GroupsLemmas.{among_next, control_saved, group_found, joined_same}
use Rattle.sys_restart.proofs.HeldLemmas.{held_kept, no_records, rows_current}
use Rattle.sys_restart.proofs.ListedLemmas.{listed_all}
use Rattle.sys_restart.proofs.NameLemmas.{first_named, later_either, second_named}
use Rattle.sys_restart.proofs.OutdatedLemmas.{in_use_last}
use Rattle.sys_restart.proofs.SeatLemmas.{first_of_group, group_fits, node_of_group}

-- each of so many nodes names the life by its latest slot, or none as late
abbrev pub EachNamedOrBelow : Shape → Restored → Disks → ℕ → ℕ → Type 0
EachNamedOrBelow shape r disks node count =
    (k : ℕ) → node ≤ k → k < node + count
    → (slot : Option SystemSlot) × ((latest_on shape k (disks k) ≡ Ok slot) × IsNamedOrBelow shape r slot)

-- one of them names it
abbrev pub OneNames : Shape → Restored → Disks → ℕ → ℕ → Type 0
OneNames shape r disks node count =
    (k : ℕ)
    × ((node ≤ k) × ((k < node + count) × (latest_on shape k (disks k) ≡ Ok (Some (next_system shape r)))))

-- then the latest slot names it
pub latest_named : (shape : Shape) (r : Restored) (disks : Disks) (node more : ℕ) (found : Option SystemSlot)
    → IsNamedOrBelow shape r found → EachNamedOrBelow shape r disks node more
    → (found ≡ Some (next_system shape r)) ⊎ OneNames shape r disks node more
    → latest_from shape disks node more (Ok found) ≡ Ok (Some (next_system shape r))
unfolding latest_from
latest_named shape r disks node zero found either each (inl named) = ap Ok named
latest_named shape r disks node zero found either each (inr (k, (low, (high, at)))) = absurd (omega (arith, low, high))
latest_named shape r disks node (suc more) found either each names =
    let here = each node (omega arith) (omega arith) in
    ap (λ slot. latest_from shape disks (node + 1) more (later (Ok found) slot)) here.1.0
    ∙ latest_named shape r disks (node + 1) more (later_system found here.0)
    (later_either shape r found here.0 either here.1.1)
    (λ k low high. each k (omega (arith, low)) (omega (arith, high)))
    (goes_on here.0 here.1.0 here.1.1 names)
  where
    goes_on : (slot : Option SystemSlot) → latest_on shape node (disks node) ≡ Ok slot → IsNamedOrBelow shape r slot
        → (found ≡ Some (next_system shape r)) ⊎ OneNames shape r disks node (suc more)
        → (later_system found slot ≡ Some (next_system shape r)) ⊎ OneNames shape r disks (node + 1) more
    goes_on slot is other (inl named) =
        inl (ap (λ (x : Option SystemSlot). later_system x slot) named ∙ first_named shape r slot other)
    goes_on slot is other (inr (k, (low, (high, at)))) =
        elim (cases_lt node k) [
          | inl less ↦ inr (k, (omega (arith, less), (omega (arith, high), at)))
          | inr most ↦
              let here : k ≡ node = omega (arith, low, most) in
              let now : latest_on shape node (disks node) ≡ Ok (Some (next_system shape r)) =
              subst (λ (n : ℕ). latest_on shape n (disks n) ≡ Ok (Some (next_system shape r))) here at in
              let same : slot ≡ Some (next_system shape r) =
              same_answer slot (Some (next_system shape r)) _ is now in
              inl (ap (later_system found) same ∙ second_named shape r found either)
        ]

-- each node is prepared
abbrev pub EachHasSlot : Shape → Restored → Disks → Type 0
EachHasSlot shape r disks =
    (node : ℕ) → 1 ≤ node → node ≤ shape.nodes → (slot : ControlSlot) × HasSlot shape node r (disks node) slot

module _ (shape : Shape) (r : Restored) (disks : Disks) (is : IsShape shape) (each : EachHasSlot shape r disks)
    (many : length r.groups ≡ groups shape) (held : AreHeldFrom shape 0 r.groups) where
  -- the rows of each node are those of its group
  node_named : (group node : ℕ) → group < groups shape → group * shape.replicas + 1 ≤ node
      → node < group * shape.replicas + 1 + shape.replicas → (found : Option Rows)
      → also_on shape (next_system shape r) node (disks node) found
      (control_on (next_system shape r) node (disks node))
      ≡ joined node (disks node) found (Ok (get_or r.groups group finmap.empty))
  node_named group node below low high found =
      let fits = group_fits shape.nodes shape.replicas group is.replicas_some is.replicas_few below in
      let within : node ≤ shape.nodes = omega (arith, fits, high) in
      let of : group_of shape node ≡ group =
      node_of_group shape.replicas group node is.replicas_some is.replicas_few low high in
      let has = each node (omega (arith, low)) within in
      let there =
      control_saved (next_system shape r) node (disks node) has.0
      (listed_all shape.nodes node (omega (arith, low)) within is.nodes_few) has.1.in_use
      (let up : r.epoch ≤ has.0.saved = omega (arith, has.1.saved) in up) in
      ap (also_on shape (next_system shape r) node (disks node) found) there
      ∙ ap (joined node (disks node) found)
      (rows_current shape (next_system shape r) node (disks node) has.0
      (ap (is_owned node) has.1.owner ∙ same_number node)
      (in_use_last (r.generation + 1) r.epoch (disks node CONTROL_FILE) has.0 has.1.in_use
      (let low : has.0.saved ≤ r.epoch = omega (arith, has.1.saved) in low))
      ∙ ap (if_held shape node (disks node) has.0)
      (ap (on_node node) has.1.has_rows ∙ ap (λ (g : ℕ). Ok (get_or r.groups g finmap.empty)) of)
      ∙ held_kept shape node (disks node) has.0 (get_or r.groups group finmap.empty)
      (ap
      (λ (g : ℕ). list_all (λ (row : List ℕ × List ℕ). g == group_of_key shape row.0)
      (finmap.entries (get_or r.groups group finmap.empty)))
      (of ∙ sym (first_of_group shape.replicas group is.replicas_some is.replicas_few))
      ∙ group_held_in shape r.groups group held)
      (no_records shape node (disks node) has.0 (omega (arith, has.1.start, has.1.end))))

  -- so those of further nodes are those that were found
  rest_named : (group node more : ℕ) → group < groups shape → group * shape.replicas + 1 ≤ node
      → node + more ≤ group * shape.replicas + 1 + shape.replicas
      → rows_among shape disks (next_system shape r) node more (Some (get_or r.groups group finmap.empty))
      ≡ Ok (Some (get_or r.groups group finmap.empty))
  unfolding rows_among
  rest_named group node zero below low high = refl
  rest_named group node (suc more) below low high =
      let rows = get_or r.groups group finmap.empty in
      ap (go_on (rows_among shape disks (next_system shape r) (node + 1) more))
      (node_named group node below low (omega (arith, high)) (Some rows) ∙ joined_same node (disks node) rows)
      ∙ rest_named group (node + 1) more below (omega (arith, low)) (omega (arith, high))

  one_group : (group less : ℕ) → group < groups shape → shape.replicas ≡ suc less
      → rows_of_group shape disks (next_system shape r) (group * shape.replicas + 1)
      ≡ Ok (get_or r.groups group finmap.empty)
  one_group group less below size =
      let first = group * shape.replicas + 1 in
      let rows = get_or r.groups group finmap.empty in
      group_found shape disks (next_system shape r) first rows
      (sym (among_next shape disks (next_system shape r) first shape.replicas less None (Some rows) size
      (node_named group first below (omega arith) (omega (arith, is.replicas_some)) None))
      ∙ rest_named group (first + 1) less below (omega arith) (omega (arith, size)))

  groups_named : (group more less : ℕ) → group + more ≡ groups shape → shape.replicas ≡ suc less
      → rows_from shape disks (next_system shape r) group more (Ok (take group r.groups)) ≡ Ok r.groups
  unfolding rows_from
  groups_named group zero less all size = ap Ok (take_all group r.groups (omega (arith, all, many)))
  groups_named group (suc more) less all size =
      ap
      (λ part. rows_from shape disks (next_system shape r) (group + 1) more
      (and_rows (Ok (take group r.groups)) part))
      (one_group group less (omega (arith, all)) size)
      ∙ ap (λ rows. rows_from shape disks (next_system shape r) (group + 1) more (Ok rows))
      (sym (take_more r.groups group finmap.empty (omega (arith, all, many))))
      ∙ groups_named (group + 1) more less (omega (arith, all)) size

  -- so a restart is of the life that is named
  pub restored_named : latest_of shape disks ≡ Ok (Some (next_system shape r))
      → restored_of shape disks
      ≡ Ok (record { generation = r.generation + 1; epoch = r.epoch; groups = r.groups })
  unfolding restored_of
  restored_named latest =
      ap (restored_by shape disks) latest
      ∙ ap (with_rows (next_system shape r))
      (groups_named 0 (groups shape) (shape.replicas - 1) (omega arith) (omega (arith, is.replicas_some)))
