-- How the modes of locks stand to one another.
use Rattle.std.specs.Prelude.{Bool, true, false}
use Rattle.row_locks.specs.declared.mode.Mode.{Mode}
use Rattle.row_locks.specs.declared.mode.Mode.TheVariants.{Shared, Exclusive}

-- who holds the lock in the first mode has what a request for the second asks
abbrev pub is_enough : Mode → Mode → Bool
is_enough Exclusive asked = true
is_enough Shared Shared = true
is_enough Shared Exclusive = false

-- two transactions may hold the lock in these modes at the same time
abbrev pub agree : Mode → Mode → Bool
agree Shared Shared = true
agree Shared Exclusive = false
agree Exclusive other = false

-- the mode that is enough for both
abbrev pub stronger : Mode → Mode → Mode
stronger Exclusive other = Exclusive
stronger Shared other = other

-- the mode is the shared one
abbrev pub is_shared : Mode → Bool
is_shared Shared = true
is_shared Exclusive = false
