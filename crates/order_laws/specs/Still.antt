-- When nothing is under way.
use Rattle.std.specs.Prelude.{◌≤◌, List}
use Rattle.run_theory.specs.Lists.{Each}
use Rattle.world_core.specs.Hosts.{first_hosts}
use Rattle.world_core.specs.Start.{Start}
use Rattle.world_core.specs.Steps.{Addressed, HostStep}
use Rattle.run_laws.specs.Transit.{AreInTransit}

-- what is in transit is for hosts that aren't there
pub record IsStill (start : Start) (es : List HostStep) (xs : List Addressed) : Type 0 where
  pub transit : AreInTransit start es xs
  pub absent : Each (λ (x : Addressed). first_hosts start ≤ x.to) xs
