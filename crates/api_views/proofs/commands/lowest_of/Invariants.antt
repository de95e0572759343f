use Rattle.std.proofs.Common.{◌≡◌, drop}
use Rattle.std.specs.Prelude.{None}
use Rattle.api_views.specs.Commands.{lowest_from}
use Rattle.api_views.proofs.commands.lowest_of.Given as goal

-- the least so far and those that are left have the least of all
abbrev pub invariant-loop-member : goal.invariant-loop-member
invariant-loop-member l =
    lowest_from l.stops l.least (drop l.member-index l.members) ≡ lowest_from l.stops None l.members
