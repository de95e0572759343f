use Rattle.key_laws.proofs.LockHolding.{expiries_hold_on, grants_hold, releases_hold_on, requests_hold_on}
use Rattle.key_laws.proofs.lock_laws.holders_hold_on.Goals as goal

pub returns-clause-requested : goal.returns-clause-requested
returns-clause-requested c = requests_hold_on

pub returns-clause-granted : goal.returns-clause-granted
returns-clause-granted c = grants_hold

pub returns-clause-released : goal.returns-clause-released
returns-clause-released c = releases_hold_on

pub returns-clause-expired : goal.returns-clause-expired
returns-clause-expired c = expiries_hold_on
