use Rattle.sig_core.specs.Rows.{next_place}
use Rattle.lqh_block.specs.Dump.{dumped}
use Rattle.lqh_block.proofs.DumpLemmas.{IsListed}
use Rattle.lqh_block.proofs.dump.first_rows.Given as goal

abbrev pub invariant-loop-i : goal.invariant-loop-i
invariant-loop-i g l =
    IsListed (g.R.Rows.state_of l.rows) (dumped l.fn.list (next_place (g.R.Rows.state_of l.rows) l.at)) l._i l.list
    l.next
