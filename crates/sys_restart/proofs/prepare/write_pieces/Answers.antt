use Rattle.std.proofs.Common.{drop, refl, take, arith}
use Rattle.sys_restart.proofs.PieceLemmas.{writing_begins, writing_ends, writing_more, writing_stops}
use Rattle.sys_restart.proofs.prepare.write_pieces.Goals as goal

pub pieces-init : goal.pieces-init
pieces-init g c = record {
  within = omega arith;
  steady = omega arith;
  written = λ calls told. writing_begins c.args.file c.args.bytes.now calls (g.D.Disk.told c.args.disk.now) told;
}

-- one more piece was written
pub pieces-preserved : goal.pieces-preserved
pieces-preserved g c =
    let at = c.pieces.at in
    let bytes = c.args.bytes.now in
    record {
      within = c.piece_len-len.ensures.within;
      steady = omega (arith, c.pieces.invariant.steady, c.in-Ok.ensures.steady);
      written = λ calls told.
          writing_more c.args.file at c.piece_len-len.result bytes (take c.piece_len-len.result (drop at bytes)) calls
          (g.D.Disk.told c.pieces.disk) (g.D.Disk.told c.write_piece.new.disk)
          (c.pieces.invariant.written calls told) c.pieces-test.true c.piece_len-len.ensures.value refl
          c.in-Ok.ensures.written;
    }

-- one failed
pub returns-in-Err-clause-runs : goal.returns-in-Err-clause-runs
returns-in-Err-clause-runs g c = λ calls told.
    let at = c.pieces.at in
    let bytes = c.args.bytes.now in
    writing_stops c.args.file at c.piece_len-len.result bytes (take c.piece_len-len.result (drop at bytes)) calls
    (g.D.Disk.told c.pieces.disk) (g.D.Disk.told c.write_piece.new.disk) (c.pieces.invariant.written calls told)
    c.pieces-test.true c.piece_len-len.ensures.value refl c.in-Err.ensures.written

pub returns-in-Err-clause-cause : goal.returns-in-Err-clause-cause
returns-in-Err-clause-cause g c = omega (arith, c.pieces.invariant.steady, c.in-Err.ensures.cause)

-- all were written
pub returns-clause-runs : goal.returns-clause-runs
returns-clause-runs g c = λ calls told.
    writing_ends c.args.file c.pieces.at c.args.bytes.now calls (g.D.Disk.told c.pieces.disk)
    (c.pieces.invariant.written calls told) c.pieces-test.false
