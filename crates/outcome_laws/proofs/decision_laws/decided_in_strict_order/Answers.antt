use Rattle.outcome_laws.proofs.order.ReportsBeforeAsks.{decisions_in_strict_order, histories_in_strict_order}
use Rattle.outcome_laws.proofs.decision_laws.decided_in_strict_order.Goals as goal

pub returns-clause-decisions : goal.returns-clause-decisions
returns-clause-decisions c = decisions_in_strict_order

pub returns-clause-history : goal.returns-clause-history
returns-clause-history c = histories_in_strict_order
