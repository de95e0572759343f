-- The entries of a history up to an epoch.
use Rattle.std.specs.Prelude.{ℕ, Bool, List, leb}
use Rattle.std.specs.List.{filter}
use Rattle.sig_core.specs.declared.entry.Entry.{Entry}

-- the entry's epoch isn't above this one
abbrev pub is_within : ℕ → Entry → Bool
is_within epoch entry = leb entry.epoch epoch

-- the entries of this epoch and those before it, in order
abbrev pub up_to_epoch : ℕ → List Entry → List Entry
up_to_epoch epoch entries = filter (is_within epoch) entries
