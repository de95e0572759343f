-- The ends of transactions that replies tell, and those that marks report; the answer that a signal tells.
use Rattle.std.specs.Prelude.{List, [], ◌∷◌}
use Rattle.sig_core.specs.declared.mark.Mark.{Mark}
use Rattle.sig_core.specs.declared.mark.Mark.TheVariants.{Reported}
use Rattle.sig_core.specs.declared.op.Answer.{Answer}
use Rattle.sig_core.specs.declared.outcome.Outcome.{Outcome}
use Rattle.sig_core.specs.declared.reply.ApiReply.{ApiReply}
use Rattle.sig_core.specs.declared.reply.ApiReply.TheVariants.{Ended}
use Rattle.sig_core.specs.declared.signal.Body.{Body}
use Rattle.sig_core.specs.declared.signal.Body.TheVariants.{Client}
use Rattle.sig_core.specs.declared.signal.client.ClientSignal.TheVariants.{TcKeyConf}

-- the outcomes that replies tell
abbrev pub outcomes_told : List ApiReply → List Outcome
outcomes_told [] = []
outcomes_told (Ended name outcome ∷ replies) = outcome ∷ outcomes_told replies
outcomes_told (reply ∷ replies) = outcomes_told replies

-- the outcomes that marks report
abbrev pub outcomes_marked : List Mark → List Outcome
outcomes_marked [] = []
outcomes_marked (Reported tx outcome ∷ marks) = outcome ∷ outcomes_marked marks
outcomes_marked (mark ∷ marks) = outcomes_marked marks

-- the answer of an operation that the signal tells
abbrev pub answer_in : Body → List Answer
answer_in (Client (TcKeyConf tx answer)) = answer ∷ []
answer_in body = []
