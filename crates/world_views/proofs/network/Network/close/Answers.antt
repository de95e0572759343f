use Rattle.world_views.specs.Links.{has_signal}
use Rattle.world_views.proofs.FrontLemmas.{front_kept}
use Rattle.world_views.proofs.network.Network.close.Goals as goal

pub invariant_of-self : goal.invariant_of-self
invariant_of-self c =
    front_kept has_signal c.self.inside.idle c.args.to c.min-self-inside.result 4294967296 c.self.inside.inboxes.items
    c.close.new.self c.min-self-inside.ensures c.self.invariant

pub invariant_of-self-in_err-close : goal.invariant_of-self-in_err-close
invariant_of-self-in_err-close c =
    front_kept has_signal c.self.inside.idle c.args.to c.min-self-inside.result 4294967296 c.self.inside.inboxes.items
    c.close.new.self c.min-self-inside.ensures c.self.invariant
