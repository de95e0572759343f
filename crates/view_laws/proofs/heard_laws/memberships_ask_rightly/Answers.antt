use Rattle.view_laws.proofs.memberships.Questions.{ask_rightly}
use Rattle.view_laws.proofs.heard_laws.memberships_ask_rightly.Goals as goal

pub returns : goal.returns
returns c = ask_rightly
