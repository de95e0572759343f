-- Starts of nodes, of which the latest is remembered for each node.
use Rattle.std.specs.Prelude.{◌+◌, ◌&&◌, Bool, if◌then◌else◌, nat_lt, not, List, [], ◌∷◌, slice_index_or, slice_set}
use Rattle.sig_core.specs.declared.member.Member.{Member}
use Rattle.qmgr_block.specs.declared.starts.Starts.{Starts}
use Rattle.qmgr_block.specs.declared.starts.TheConstants.{NODES}

-- no start of any node
abbrev pub no_starts : Starts
no_starts = record { ends = 0 ∷ 0 ∷ 0 ∷ 0 ∷ 0 ∷ 0 ∷ 0 ∷ 0 ∷ 0 ∷ [] }

-- the member's start, or a later one of its node, is among them
unfoldable pub covers : Starts → Member → Bool
covers starts member = nat_lt member.start (slice_index_or starts.ends member.node 0)

-- the member's start is among them from now on, and with it the earlier ones of its node
unfoldable pub noted : Starts → Member → Starts
noted starts member =
    if nat_lt member.node NODES && not (covers starts member)
    then record { ends = slice_set starts.ends member.node (member.start + 1) }
    else starts

-- the starts of all these members are
unfoldable pub all_noted : Starts → List Member → Starts
all_noted starts [] = starts
all_noted starts (member ∷ members) = all_noted (noted starts member) members
