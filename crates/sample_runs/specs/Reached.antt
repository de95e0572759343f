-- Two nodes, of which the second was made again: where a host sends what is for the coordinator of that node.
use Rattle.std.specs.Prelude.{ℕ, List, [], ◌∷◌}
use Rattle.sig_core.specs.declared.member.Member.{Member}
use Rattle.sig_core.specs.declared.place.BlockId.TheVariants as block
use Rattle.sig_core.specs.declared.place.Place.{Place}
use Rattle.sig_core.specs.declared.view.View.{View}
use Rattle.world_views.specs.Hosts.{reached}

-- node 1, node 2, and node 2 once more
abbrev pub made_again : List Member
made_again = record { node = 1; start = 0 } ∷ record { node = 2; start = 0 } ∷ record { node = 2; start = 1 } ∷ []

-- the coordinator of node 2
abbrev pub second : Place
second = record { node = 2; block = block.Tc }

-- the host that gets what a host in this view sends to it
abbrev pub reached_by : ℕ → View → ℕ
reached_by host view = reached made_again host view second
