-- The rows with which the next life begins are those of the history of the one before.
use Rattle.std.proofs.Common.{◌≡◌, ◌≤◌, ◌<◌, ◌+◌, ◌*◌, ◌∙◌, ℕ, List, get_or, sym, ap, arith}
use Rattle.std.proofs.lemmas.Bool.{eq-eqb}
use Rattle.std.proofs.lemmas.Nat.{mod_below}
use Rattle.std.specs.FinMap as map
use Rattle.frag_map.specs.Fragment.{frag_of, group_of_key}
use Rattle.frag_map.specs.Shape.{group_of, groups}
use Rattle.life_start.specs.Begun as begun
use Rattle.saved_laws.specs.History.{row_up_to}
use Rattle.serial_model.specs.Legal as legal
use Rattle.sys_restart.specs.declared.restored.Restored.{Restored}
use Rattle.world_core.specs.Start.{Start}
use Rattle.world_core.specs.Steps.{HostStep}
use Rattle.restart_laws.specs.HandedOn.{LivesGoOnFromHistory}
use Rattle.restart_laws.specs.Lived.{MayBegin}
use Rattle.restart_laws.specs.Restart.{IsOfLife}
use Rattle.restart_laws.proofs.begun.Groups.{group_has}
use Rattle.restart_laws.proofs.groups.Nodes.{first_below, group_low, node_group}

module _ (start : Start) (r found : Restored) (logs : ℕ → List HostStep) (of_life : IsOfLife start r logs found)
    (may : MayBegin start.shape found) (key : List ℕ) where
  abbrev group : ℕ
  group = group_of_key start.shape key

  below : group < groups start.shape
  below =
      mod_below (frag_of start.shape key) (groups start.shape)
      (omega (arith, first_below start.shape may.is_shape))

  -- the first node of the key's group
  abbrev node : ℕ
  node = group * start.shape.replicas + 1

  some : 1 ≤ node
  some = omega arith

  low : node ≤ start.shape.nodes
  low =
      let replicas = may.is_shape.replicas_some in
      omega (arith, group_low start.shape may.is_shape group below, replicas)

  group_is : group_of start.shape node ≡ group
  group_is =
      let replicas = may.is_shape.replicas_some in
      node_group start.shape group node (omega arith) (omega (arith, replicas))

  pub rows_of_history : map.get (legal.rows_of (begun.rows_of found.groups)) key ≡ row_up_to start logs found.epoch key
  rows_of_history =
      group_has start.shape found may key
      ∙ ap (λ (g : ℕ). map.get (get_or found.groups g map.empty) key) (sym group_is)
      ∙ of_life.rows node key some low (eq-eqb (group_of start.shape node) group group_is)

pub lives_go_on_from_history : LivesGoOnFromHistory
lives_go_on_from_history = rows_of_history
