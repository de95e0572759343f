use Rattle.std.proofs.Common.{ℕ, ◌+◌, ◌-◌, ap, drop, take, arith}
use Rattle.node_disk.proofs.RedoLemmas.{writing_begins, writing_ends, writing_more, writing_stops}
use Rattle.node_disk.proofs.redo.write_pieces.Goals as goal

pub pieces-init : goal.pieces-init
pieces-init g c = record {
  within = omega arith;
  steady = omega arith;
  written = λ calls told.
      writing_begins c.args.parity c.args.from c.args.bytes.now calls (g.D.Disk.told c.args.disk.now) told;
}

-- one more piece was written
pub pieces-preserved : goal.pieces-preserved
pieces-preserved g c =
    let done = c.pieces.done in
    let bytes = c.args.bytes.now in
    let len = c.piece_len-len.result in
    record {
      within = omega (arith, c.piece_len-len.ensures.within, c.pieces-test.true);
      steady = omega (arith, c.pieces.invariant.steady, c.in-Ok.ensures.steady);
      written = λ calls told.
          writing_more c.args.parity c.args.from bytes done len (take (done + len - done) (drop done bytes)) calls
          (g.D.Disk.told c.pieces.disk) (g.D.Disk.told c.write_piece.new.disk) c.pieces-test.true
          c.piece_len-len.ensures.value
          (ap (λ (n : ℕ). take n (drop done bytes)) (omega arith)) (c.pieces.invariant.written calls told)
          c.in-Ok.ensures.written;
    }

-- one failed
pub returns-in-Err-clause-runs : goal.returns-in-Err-clause-runs
returns-in-Err-clause-runs g c = λ calls told.
    let done = c.pieces.done in
    let bytes = c.args.bytes.now in
    let len = c.piece_len-len.result in
    writing_stops c.args.parity c.args.from bytes done len (take (done + len - done) (drop done bytes)) calls
    (g.D.Disk.told c.pieces.disk) (g.D.Disk.told c.write_piece.new.disk) c.pieces-test.true
    c.piece_len-len.ensures.value
    (ap (λ (n : ℕ). take n (drop done bytes)) (omega arith)) (c.pieces.invariant.written calls told)
    c.in-Err.ensures.written

pub returns-in-Err-clause-cause : goal.returns-in-Err-clause-cause
returns-in-Err-clause-cause g c = omega (arith, c.pieces.invariant.steady, c.in-Err.ensures.cause)

-- all were written
pub returns-clause-runs : goal.returns-clause-runs
returns-clause-runs g c = λ calls told.
    writing_ends c.args.parity c.args.from c.args.bytes.now c.pieces.done calls (g.D.Disk.told c.pieces.disk)
    (c.pieces.invariant.written calls told) c.pieces-test.false
