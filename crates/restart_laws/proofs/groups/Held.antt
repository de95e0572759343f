-- A node holds its rows where it has none of other keys.
use Rattle.std.proofs.Common.{◌≡◌, ℕ, Bool, true, false, List, [], ◌∷◌, refl}
use Rattle.std.proofs.lemmas.Bool.{and_from, true_from_ne_false}
use Rattle.std.specs.FinMap as map
use Rattle.std.specs.List.{AllByRecursion, list_all}
use Rattle.std.specs.Prelude.{None}
use Rattle.frag_map.specs.Layout.{holds}
use Rattle.sig_core.specs.Table.{Rows}
use Rattle.sig_core.specs.declared.view.Shape.{Shape}
use Rattle.sys_restart.proofs.AlikeLemmas.{not_none}
use Rattle.sys_restart.specs.Held.{are_held, is_held}
use Rattle.node_restart.proofs.StorableMaps.{each_entry}

all_pass : (test : List ℕ × List ℕ → Bool) (rows : List (List ℕ × List ℕ))
    → AllByRecursion (λ row. test row ≡ true) rows → list_all test rows ≡ true
all_pass test [] each = refl
all_pass test (row ∷ rows) each = and_from (test row) (list_all test rows) each.0 (all_pass test rows each.1)

pub rows_held : (shape : Shape) (node : ℕ) (rows : Rows)
    → ((key : List ℕ) → holds shape node key ≡ false → map.get rows key ≡ None) → are_held shape node rows ≡ true
rows_held shape node rows others =
    all_pass (is_held shape node) (map.entries rows)
    (each_entry (λ key value. holds shape node key ≡ true) rows
    (λ key value is.
    true_from_ne_false (holds shape node key) (λ off. not_none value (map.get rows key) (others key off) is)))
