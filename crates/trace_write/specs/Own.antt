-- Rows of a node's own, which traces can't tell.
use Rattle.std.specs.Prelude.{Bool, true, false, List, Option, None, Some}
use Rattle.std.specs.List.{list_any}
use Rattle.sig_core.specs.declared.slots.Slots.{Slots}

abbrev pub is_own : {A : Type 0} → Option A → Bool
is_own None = false
is_own (Some own) = true

-- a host found rows of its own
abbrev pub has_own : List Slots → Bool
has_own slots = list_any (λ found. is_own found.own) slots
