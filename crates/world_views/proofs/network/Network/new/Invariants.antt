use Rattle.std.proofs.Common.{◌≡◌, ◌≤◌, replicate}
use Rattle.std.specs.Vec.{vec_capacity}
use Rattle.world_views.specs.Links.{new_link}
use Rattle.world_views.proofs.network.Network.new.Given as goal

-- as many inboxes as turns, all empty, and room for the others
abbrev pub invariant-loop : goal.invariant-loop
invariant-loop l =
    (l.inboxes.items ≡ replicate l.counter (replicate l.hosts new_link)) × (l.hosts ≤ vec_capacity l.inboxes)
