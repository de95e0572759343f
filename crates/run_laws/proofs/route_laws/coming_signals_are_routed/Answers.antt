use Rattle.run_laws.proofs.routes.Events.{coming_are_routed, commits_end_at_primary, requests_are_for_replicas}
use Rattle.run_laws.proofs.route_laws.coming_signals_are_routed.Goals as goal

pub returns-clause-routed : goal.returns-clause-routed
returns-clause-routed c = coming_are_routed

pub returns-clause-requests : goal.returns-clause-requests
returns-clause-requests c = requests_are_for_replicas

pub returns-clause-commits : goal.returns-clause-commits
returns-clause-commits c = commits_end_at_primary
