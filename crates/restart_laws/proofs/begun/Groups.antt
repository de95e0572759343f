-- What was restored, as one map, has at each key what the map of the key's group has.
use Rattle.std.proofs.Common.{◌≡◌, ◌≤◌, ◌<◌, ◌⊎◌, inl, inr, ◌∙◌, ◌+◌, ◌*◌, ℕ, List, get_or, sym, ap, arith}
use Rattle.std.proofs.lemmas.Bool.{cases_lt, ne_eqb}
use Rattle.std.proofs.lemmas.List.{get_or_past}
use Rattle.std.specs.Cmp.Lexicographic.{slice_cmp}
use Rattle.std.specs.FinMap as map
use Rattle.std.specs.Ordering.{nat_cmp}
use Rattle.std.specs.Prelude.{None}
use Rattle.frag_map.specs.Fragment.{group_of_key}
use Rattle.frag_map.specs.Shape.{group_of, groups}
use Rattle.life_start.specs.Begun as begun
use Rattle.serial_model.specs.Legal as legal
use Rattle.sig_core.specs.declared.view.Shape.{Shape}
use Rattle.sys_restart.specs.declared.restored.Restored.{Restored}
use Rattle.restart_laws.specs.Lived.{MayBegin}
use Rattle.restart_laws.proofs.begun.Entries.{HasAlone, only_one}
use Rattle.restart_laws.proofs.groups.Nodes.{group_low, node_group}

module _ (shape : Shape) (r : Restored) (may : MayBegin shape r) (key : List ℕ) where
  -- no other group has the key
  alone : HasAlone key r.groups (group_of_key shape key)
  alone i differs = by (cases_lt i (groups shape))
    where
      by : (i < groups shape) ⊎ (groups shape ≤ i) → map.get (get_or r.groups i map.empty) key ≡ None
      by (inl below) =
          ap (λ group. map.get (get_or r.groups group map.empty) key) (sym group_is)
          ∙ may.grouped node key some low (ne_eqb (group_of shape node) (group_of_key shape key)
          (λ is. differs (sym group_is ∙ is)))
        where
          node : ℕ
          node = i * shape.replicas + 1

          some : 1 ≤ node
          some = omega arith

          low : node ≤ shape.nodes
          low =
              let replicas = may.is_shape.replicas_some in
              omega (arith, group_low shape may.is_shape i below, replicas)

          group_is : group_of shape node ≡ i
          group_is =
              let replicas = may.is_shape.replicas_some in
              node_group shape i node (omega arith) (omega (arith, replicas))
      by (inr past) =
          let many = may.groups_are in
          ap (λ rows. map.get rows key) (get_or_past r.groups i map.empty (omega (arith, past, many)))
          ∙ map.get-empty (slice_cmp nat_cmp) key

  pub group_has : map.get (legal.rows_of (begun.rows_of r.groups)) key
      ≡ map.get (get_or r.groups (group_of_key shape key) map.empty) key
  group_has = only_one key r.groups (group_of_key shape key) alone
