use Rattle.run_laws.proofs.routes.Routes.{signals_are_for_blocks, signals_are_routed}
use Rattle.run_laws.proofs.route_laws.signals_are_routed.Goals as goal

pub returns-clause-routed : goal.returns-clause-routed
returns-clause-routed c = signals_are_routed

pub returns-clause-blocks : goal.returns-clause-blocks
returns-clause-blocks c = signals_are_for_blocks
