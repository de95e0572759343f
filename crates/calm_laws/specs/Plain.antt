-- The main parts of nodes, whose membership beats: in a cluster in which nothing can fail they do nothing.
use Rattle.std.specs.Prelude.{ℕ, zero, suc, ◌%◌, Bool, true, false}
use Rattle.sig_core.specs.declared.place.Part.{Part}
use Rattle.sig_core.specs.declared.place.Part.TheVariants.{Main}
use Rattle.world_core.specs.Hosts.{part_by}

abbrev pub is_main : Part → Bool
is_main Main = true
is_main part = false

-- host h is the main part of a node
abbrev pub is_beating : ℕ → Bool
is_beating zero = false
is_beating (suc h) = is_main (part_by (h % 3))
