-- Why a node stopped, in words.
use Rattle.std.specs.Prelude.{ℕ, List, ◌++◌, codes}
use Rattle.std.specs.Fmt.{decimal}
use Rattle.sig_core.specs.declared.outcome.StopCause.{StopCause}
use Rattle.sig_core.specs.declared.outcome.StopCause.TheVariants.{Killed, Excluded, NoGroup, Disk, Memory, Clock}
use Rattle.sig_core.specs.declared.outcome.StopCause.TheVariants.{Sibling}

-- the words of a cause
abbrev pub cause_words : StopCause → List ℕ
cause_words Killed = codes "killed"
cause_words (Excluded view) = codes "excluded " ++ decimal view
cause_words (NoGroup group) = codes "nogroup " ++ decimal group
cause_words (Disk count) = codes "disk " ++ decimal count
cause_words Memory = codes "memory"
cause_words Clock = codes "clock"
cause_words (Sibling host) = codes "sibling"

-- the words of the stop of a node
abbrev pub stop_words : ℕ → StopCause → List ℕ
stop_words node cause = codes "node " ++ decimal node ++ codes " stopped " ++ cause_words cause
