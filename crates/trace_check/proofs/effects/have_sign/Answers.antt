use Rattle.std.proofs.Common.{sym}
use Rattle.trace_check.proofs.effects.have_sign.Goals as goal

pub returns-then-have_near : goal.returns-then-have_near
returns-then-have_near c = sym (c.have_near.ensures c.if-have_near.true)
