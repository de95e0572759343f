use Rattle.key_laws.proofs.PrimaryOrder.{fair_order, timely_value}
use Rattle.key_laws.proofs.event_laws.events_at_primary.Goals as goal

pub returns-clause-order : goal.returns-clause-order
returns-clause-order c = fair_order

pub returns-clause-value : goal.returns-clause-value
returns-clause-value c = timely_value
