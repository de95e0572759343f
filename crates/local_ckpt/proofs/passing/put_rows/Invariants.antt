use Rattle.local_ckpt.proofs.PassingLemmas.{IsPassed}
use Rattle.local_ckpt.proofs.passing.put_rows.Given as goal

-- so many rows were appended
abbrev pub invariant-loop-i : goal.invariant-loop-i
invariant-loop-i g l = IsPassed (g.R.Rows.state_of l.rows) l.from l.fn.out.items l._i l.place l.out.items
