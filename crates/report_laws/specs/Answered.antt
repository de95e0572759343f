-- The answers among replies, the signals that tell of them, and the answers of an entry.
use Rattle.std.specs.Prelude.{Bool, false, List, [], ◌∷◌, map, reverse}
use Rattle.sig_core.specs.declared.entry.Entry.{Entry}
use Rattle.sig_core.specs.declared.member.TxId.{TxId}
use Rattle.sig_core.specs.declared.op.Answer.{Answer}
use Rattle.sig_core.specs.declared.op.Op.{Op}
use Rattle.sig_core.specs.declared.reply.ApiReply.{ApiReply}
use Rattle.sig_core.specs.declared.reply.ApiReply.TheVariants.{Answered}
use Rattle.sig_core.specs.declared.signal.Body.{Body}
use Rattle.sig_core.specs.declared.signal.Body.TheVariants.{Client}
use Rattle.sig_core.specs.declared.signal.client.ClientSignal.TheVariants.{TcKeyConf}
use Rattle.sig_core.specs.Same.{same_tx}

-- the answers among replies
abbrev pub answers_among : List ApiReply → List Answer
answers_among [] = []
answers_among (Answered name answer ∷ replies) = answer ∷ answers_among replies
answers_among (reply ∷ replies) = answers_among replies

-- the signal tells the client what an operation of the transaction was answered
abbrev pub is_answered : TxId → Body → Bool
is_answered tx (Client (TcKeyConf other answer)) = same_tx other tx
is_answered tx body = false

-- the answers of an entry, the newest first
abbrev pub answers_of : Entry → List Answer
answers_of entry = reverse (map (λ (op : Op × Answer). op.1) entry.ops)
