use Rattle.std.proofs.Common.{append_assoc}
use Rattle.script_lang.proofs.reply.waiting.cut_words.Goals as goal

pub returns : goal.returns
returns c = simp append_assoc c.in_ok-format.ensures.ok
