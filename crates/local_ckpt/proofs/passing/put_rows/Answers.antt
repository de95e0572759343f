use Rattle.std.proofs.Common.{sym}
use Rattle.local_ckpt.proofs.PassingLemmas.{full_piece, last_piece, one_passed}
use Rattle.local_ckpt.proofs.passing.put_rows.Goals as goal

-- one row more is passed
pub loop-i-preserved : goal.loop-i-preserved
loop-i-preserved g c =
    one_passed (g.R.Rows.state_of c.args.rows.now) c.args.from c.args.out.now.items c.loop-i._i c.loop-i.place
    c.in-Some.at c.loop-i.out.items c.put_row_at.new.out.items c.loop-i.invariant (sym c.in-Some.ensures.next)
    c.in_ok-put_row_at-in-Some.ensures

pub returns-clause-place : goal.returns-clause-place
returns-clause-place g c =
    (full_piece (g.R.Rows.state_of c.args.rows.now) c.args.from c.args.out.now.items c.loop-i._i c.loop-i.place
    c.loop-i.out.items c.loop-i.invariant c.loop-i.auto._i-end c.loop-i-test.false).place_is

pub returns-clause-rows : goal.returns-clause-rows
returns-clause-rows g c =
    (full_piece (g.R.Rows.state_of c.args.rows.now) c.args.from c.args.out.now.items c.loop-i._i c.loop-i.place
    c.loop-i.out.items c.loop-i.invariant c.loop-i.auto._i-end c.loop-i-test.false).bytes_are

pub returns-in-None-clause-place : goal.returns-in-None-clause-place
returns-in-None-clause-place g c =
    (last_piece (g.R.Rows.state_of c.args.rows.now) c.args.from c.args.out.now.items c.loop-i._i c.loop-i.place
    c.loop-i.out.items c.loop-i.invariant c.loop-i.auto._i-end (sym c.in-None.ensures.next)).place_is

pub returns-in-None-clause-rows : goal.returns-in-None-clause-rows
returns-in-None-clause-rows g c =
    (last_piece (g.R.Rows.state_of c.args.rows.now) c.args.from c.args.out.now.items c.loop-i._i c.loop-i.place
    c.loop-i.out.items c.loop-i.invariant c.loop-i.auto._i-end (sym c.in-None.ensures.next)).bytes_are
