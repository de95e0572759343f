use Rattle.std.proofs.Common.{◌≡◌}
use Rattle.sig_core.specs.declared.signal.Body.TheVariants as bodies
use Rattle.sig_core.specs.declared.signal.host.HostSignal.TheVariants.{Closed}
use Rattle.world_views.specs.Hosts.{front_of}
use Rattle.world_views.specs.Links.{close_below}
use Rattle.world_views.specs.Sending.{headed}
use Rattle.world_views.specs.World.{is_unclosed}
use Rattle.world_views.proofs.closing.close_all.Given as goal

-- the links to the hosts before the next one are closed
abbrev pub invariant-loop-to : goal.invariant-loop-to
invariant-loop-to l = record {
  closed : l.network
      ≡ close_below l.to l.initial.network l.by.host (is_unclosed l.by.host l.host.standing)
      (λ j. headed l.by 0 (record { to = front_of l.made j; body = bodies.Host (Closed l.cause) }));
}
