-- What the journal of a node has to give out.
use Rattle.std.proofs.Common.{List, [], ◌∷◌}
use Rattle.sig_core.specs.declared.redo.Redo.{Redo}
use Rattle.sig_core.specs.Journal.{OutletState, behind}
use Rattle.lqh_block.specs.Fresh.{no_outlet}

-- these records, the newest first, none of which it has given out
abbrev pub outlet_behind : List Redo → OutletState
outlet_behind [] = no_outlet
outlet_behind (newest ∷ older) = behind (outlet_behind older) newest
