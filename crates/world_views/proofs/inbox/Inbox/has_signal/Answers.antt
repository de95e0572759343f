use Rattle.std.proofs.Common.{ap, ◌∙◌}
use Rattle.std.specs.Prelude.{nat_lt}
use Rattle.world_views.specs.Links.{has_signal}
use Rattle.world_views.proofs.BusyLinks.{busy_found}
use Rattle.world_views.proofs.inbox.Inbox.has_signal.Goals as goal

pub returns : goal.returns
returns c =
    ap (nat_lt 0) c.self.invariant.1 ∙ busy_found c.self.inside.links.items ∙ ap has_signal c.self.view_is
