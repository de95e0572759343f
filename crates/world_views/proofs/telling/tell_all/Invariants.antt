use Rattle.std.proofs.Common.{◌≡◌, ◌++◌, length}
use Rattle.api_block.specs.State.{with_replies}
use Rattle.api_views.specs.State.{with_api}
use Rattle.world_views.proofs.telling.tell_all.Given as goal

-- the replies told, and those that are left, are all, and nothing else changes
abbrev pub invariant-loop : goal.invariant-loop
invariant-loop l = record {
  told : l.replies.items ++ l.client.api.replies ≡ l.initial.replies.items ++ l.initial.client.api.replies;
  client : l.client ≡ with_api l.initial.client (with_replies l.initial.client.api l.client.api.replies);
}

abbrev pub decreases-loop : goal.decreases-loop
decreases-loop l = length l.client.api.replies
