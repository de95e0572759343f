-- Views: the greatest one, and which nodes are live.
use Rattle.std.specs.Prelude.{ℕ, zero, suc, nat_lt, if◌then◌else◌, List, [], ◌∷◌}
use Rattle.world_core.specs.Steps.{HostStep}
use Rattle.sig_core.specs.declared.mark.Mark.{Mark}
use Rattle.sig_core.specs.declared.mark.Mark.TheVariants.{Installed}
use Rattle.sig_core.specs.declared.member.Member.{Member}
use Rattle.sig_core.specs.declared.view.View.{View}
use Rattle.frag_map.specs.Layout.{first_view}
use Rattle.world_core.specs.Hosts.{hosts}
use Rattle.world_core.specs.Start.{Start}

-- of two views the one with the greater number
abbrev pub greater : View → View → View
greater a b = if nat_lt a.number b.number then b else a

abbrev pub greatest_in : List Mark → View → View
greatest_in [] view = view
greatest_in (Installed other ∷ marks) view = greatest_in marks (greater view other)
greatest_in (mark ∷ marks) view = greatest_in marks view

abbrev pub greatest_of : List HostStep → View → View
greatest_of [] view = view
greatest_of (e ∷ log) view = greatest_in e.step.marks (greatest_of log view)

-- of a view and those that the hosts below n have installed, the one with the greatest number
abbrev pub greatest_below : ℕ → (ℕ → List HostStep) → View → View
greatest_below zero logs view = view
greatest_below (suc n) logs view = greatest_of (logs n) (greatest_below n logs view)

-- the view with the greatest number that a host has installed, or the first one
abbrev pub greatest_view : Start → (ℕ → List HostStep) → View
greatest_view start logs = greatest_below (hosts start) logs (first_view start.shape.nodes)

-- the live nodes of a cut are the full members of that view
abbrev pub live_nodes : Start → (ℕ → List HostStep) → List Member
live_nodes start logs = (greatest_view start logs).full
