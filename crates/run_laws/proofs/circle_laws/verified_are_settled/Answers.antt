use Rattle.run_laws.proofs.circle.VerifiedSettled.{verified_settled}
use Rattle.run_laws.proofs.circle_laws.verified_are_settled.Goals as goal

pub returns : goal.returns
returns c = verified_settled
