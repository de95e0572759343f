use Rattle.std.proofs.Common.{rules, ◌≡◌, ◌∙◌, length, take, arith}
use Rattle.redo_log.specs.Stored.{files_of}
use Rattle.redo_log.proofs.StoredLemmas.{more_stored, short_stored}
use Rattle.redo_log.proofs.stored.read_log.Goals as goal

-- the file of the last piece ended within it
pub returns-then-count-len-clause-stored : goal.returns-then-count-len-clause-stored
returns-then-count-len-clause-stored g c =
    let len = length (take c.piece_len-len.result c.pieces.room) in
    let size : len ≡ c.piece_len-len.result = search rules in
    λ calls told.
    short_stored (files_of calls) c.args.parity c.args.from c.pieces.at c.args.to c.pieces.bytes.items
    c.read_piece.new.bytes.items len c.in_ok-count.count c.pieces.invariant.here
    (omega (arith, size, c.piece_len-len.ensures.last)) (omega (arith, size, c.piece_len-len.ensures.file))
    (c.in_ok-count.ensures.piece calls (c.pieces.invariant.unrecorded ∙ told))
    (omega (arith, size, c.if-count-len.true))
    (c.pieces.invariant.each calls told)

-- one more piece was read whole
pub pieces-preserved : goal.pieces-preserved
pieces-preserved g c =
    let len = length (take c.piece_len-len.result c.pieces.room) in
    let size : len ≡ c.piece_len-len.result = search rules in
    record {
      unrecorded = c.read_piece.ensures.unrecorded ∙ c.pieces.invariant.unrecorded;
      steady = omega (arith, c.pieces.invariant.steady, c.read_piece.ensures.steady);
      here = omega (arith, c.in_ok-count.ensures.size, c.pieces.invariant.here);
      within = omega (arith, size, c.in_ok-count.ensures.most, c.piece_len-len.ensures.last);
      each = λ calls told.
          more_stored (files_of calls) c.args.parity c.args.from c.pieces.at c.pieces.bytes.items
          c.read_piece.new.bytes.items
          len c.in_ok-count.count c.pieces.invariant.here (omega (arith, size, c.piece_len-len.ensures.file))
          (c.in_ok-count.ensures.piece calls (c.pieces.invariant.unrecorded ∙ told))
          (c.pieces.invariant.each calls told);
    }
