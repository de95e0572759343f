use Rattle.request_laws.proofs.replicas.KeyEvents.{installations_are_events, installations_keep_well}
use Rattle.request_laws.proofs.replicas.KeyEvents.{signals_are_events, signals_keep_well}
use Rattle.request_laws.proofs.replica_laws.keys_follow_events.Goals as goal

pub returns-clause-signals : goal.returns-clause-signals
returns-clause-signals c = signals_are_events

pub returns-clause-installations : goal.returns-clause-installations
returns-clause-installations c = installations_are_events

pub returns-clause-well : goal.returns-clause-well
returns-clause-well c = signals_keep_well

pub returns-clause-well_installed : goal.returns-clause-well_installed
returns-clause-well_installed c = installations_keep_well
