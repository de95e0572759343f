use Rattle.request_laws.proofs.strays.Numbers.{have_the_number}
use Rattle.request_laws.proofs.stray_laws.coordinators_have_the_number.Goals as goal

pub returns : goal.returns
returns c = have_the_number
