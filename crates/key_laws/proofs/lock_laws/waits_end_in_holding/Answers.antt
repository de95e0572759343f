use Rattle.key_laws.proofs.LockWaiting.{attended_hold, expiries_attend, queued_wait, releases_attend, requests_attend}
use Rattle.key_laws.proofs.LockWaiting.{rounds_attend}
use Rattle.key_laws.proofs.lock_laws.waits_end_in_holding.Goals as goal

pub returns-clause-queued : goal.returns-clause-queued
returns-clause-queued c = queued_wait

pub returns-clause-requested : goal.returns-clause-requested
returns-clause-requested c = requests_attend

pub returns-clause-released : goal.returns-clause-released
returns-clause-released c = releases_attend

pub returns-clause-expired : goal.returns-clause-expired
returns-clause-expired c = expiries_attend

pub returns-clause-aged : goal.returns-clause-aged
returns-clause-aged c = rounds_attend

pub returns-clause-served : goal.returns-clause-served
returns-clause-served c = attended_hold
