use Rattle.std.proofs.Common.{◌≡◌, ◌++◌, length, map, take, drop}
use Rattle.world_views.specs.Links.{Inbox, link_from, with_link, without}
use Rattle.world_views.proofs.network.Network.lose.Given as goal

-- what was passed, and what is left after its loss, are the whole after its loss
abbrev pub invariant-loop-inbox : goal.invariant-loop-inbox
invariant-loop-inbox l = record {
  whole : take l.inbox-index l.inbox-items
      ++ map (λ (inbox : Inbox). with_link inbox l.from (without l.lost (link_from inbox l.from)))
      (drop l.inbox-index l.inbox-items)
      ≡ map (λ (inbox : Inbox). with_link inbox l.from (without l.lost (link_from inbox l.from))) l.initial.inbox-items;
  len : length l.inbox-items ≡ length l.initial.inbox-items;
}
