use Rattle.std.proofs.Common.{◌≡◌, ◌≤◌, replicate}
use Rattle.std.specs.Vec.{vec_capacity}
use Rattle.world_views.specs.Links.{new_link}
use Rattle.world_views.proofs.inbox.Inbox.new.Given as goal

-- as many links as turns, all empty, and room for the others
abbrev pub invariant-loop : goal.invariant-loop
invariant-loop l = (l.links.items ≡ replicate l.counter new_link) × (l.hosts ≤ vec_capacity l.links)
