-- A step of a walk: rows are passed, and their bytes stand behind those before.
use Rattle.std.proofs.Common.{◌≡◌, ◌+◌, ℕ, zero, suc, true, false, List, [], ◌∷◌, ◌++◌, length, refl, sym, ap, ◌∙◌}
use Rattle.std.proofs.Common.{append-nil, arith}
use Rattle.std.specs.Prelude.{◌==◌, if◌then◌else◌, is_some, Option, None, Some, slice_index_or}
use Rattle.std.specs.List.{flat_map}
use Rattle.std.proofs.lemmas.Bool.Decides.{nat_tests}
use Rattle.std.proofs.lemmas.Grind.{flat_map-append}
use Rattle.std.proofs.lemmas.List.{length-append}
use Rattle.sig_core.specs.declared.rows.Slot.{Slot}
use Rattle.sig_core.specs.Rows.{RowsState, has_row, next_place}
use Rattle.sig_core.specs.Table.{Rows}
use Rattle.sig_core.specs.declared.stored_row.StoredRow.{StoredRow}
use Rattle.sig_core.specs.Checkpoint.{head_bytes, row_bytes}
use Rattle.redo_log.specs.Laws.{bytes_in}
use Rattle.sig_core.specs.declared.piece.Piece.{Piece}
use Rattle.sig_core.specs.declared.walk.TheConstants.{PIECE_ROWS}
use Rattle.local_ckpt.specs.Events.{Moment, given_by, stepped_by, moment}
use Rattle.local_ckpt.specs.Laws.{pieces_bytes}
use Rattle.sig_core.specs.Passing.{Passed, pass, pass_by, passed_from, row_in, row_with}
use Rattle.sig_core.specs.Walk.{head_at, next_piece, rows_at}
use Rattle.local_ckpt.proofs.CoverLemmas.{HasCome, many_passed}
use Rattle.local_ckpt.proofs.PassingLemmas.{row_there}
use Rattle.local_ckpt.proofs.WayLemmas.{IsUnderWay, checkpoint_bytes}

-- some rows, one at least
pub record IsSome (rows : List StoredRow) : Type 0 where
  pub row : StoredRow
  pub others : List StoredRow
  pub are : rows ≡ row ∷ others

row_some : (s : RowsState) (slot : Option Slot) → has_row slot ≡ true → IsSome (row_in s slot)
row_some s None is = absurd cc
row_some s (Some slot) is = by slot.row refl is
  where
    by : (row : Option (List ℕ)) → slot.row ≡ row → is_some row ≡ true → IsSome (row_with s slot.key slot.row)
    by None e is = absurd cc
    by (Some value) e is = record { row = _; others = []; are = ap (row_with s slot.key) e }

some_more : (xs ys : List StoredRow) → IsSome xs → IsSome (xs ++ ys)
some_more xs ys is = record { row = is.row; others = is.others ++ ys; are = ap (λ w. w ++ ys) is.are }

-- where there is a next row, one at least is passed
some_passed : (s : RowsState) (place at : ℕ) → next_place s place ≡ Some at → (more : ℕ)
    → IsSome (pass s (suc more) (record { rows = []; place = place })).rows
some_passed s place at is zero = by (next_place s place) is
  where
    by : (o : Option ℕ) → o ≡ Some at → IsSome (pass_by s (record { rows = []; place = place }) o).rows
    by None e = absurd cc
    by (Some first) e =
        let one : first ≡ at = cc in
        row_some s (slice_index_or s.places first None)
        (ap (λ n. has_row (slice_index_or s.places n None)) one ∙ row_there s place at is)
some_passed s place at is (suc more) =
    let d : Passed =
    pass s (suc more) (record { rows = []; place = place }) in by d (next_place s d.place)
    (some_passed s place at is more)
  where
    by : (d : Passed) (o : Option ℕ) → IsSome d.rows → IsSome (pass_by s d o).rows
    by d None is = is
    by d (Some next) is = some_more d.rows (row_in s (slice_index_or s.places next None)) is

pub some_in_piece : (s : RowsState) (place at : ℕ) → next_place s place ≡ Some at → IsSome (passed_from s place).rows
unfolding passed_from
some_in_piece s place at is = some_passed s place at is 127

-- rows behind those of a checkpoint, with the head where there were none
pub checkpoint_more : (written rows : List StoredRow) (size : ℕ) → size ≡ length (checkpoint_bytes written)
    → IsSome rows
    → checkpoint_bytes written ++ rows_at size rows ≡ checkpoint_bytes (written ++ rows)
checkpoint_more [] rows size is some =
    ap (λ n. head_at n ++ flat_map row_bytes rows) is ∙ sym (first rows some.row some.others some.are)
  where
    first : (rows : List StoredRow) (row : StoredRow) (others : List StoredRow) → rows ≡ row ∷ others
        → checkpoint_bytes rows ≡ head_bytes ++ flat_map row_bytes rows
    first [] row others e = absurd cc
    first (x ∷ xs) row others e = refl
checkpoint_more (w ∷ written) rows size is some =
    let long : length (checkpoint_bytes (w ∷ written)) ≡ suc (suc (length (flat_map row_bytes (w ∷ written)))) = refl in
    let later : (size == 0) ≡ false = grind (arith, nat_tests, is, long) in
    ap (λ b. checkpoint_bytes (w ∷ written) ++ ((if b then head_bytes else []) ++ flat_map row_bytes rows)) later
    ∙ ap (λ x. 0 ∷ 2 ∷ x) (sym (flat_map-append row_bytes (w ∷ written) rows))

pub pieces_more : (pieces : List Piece) (piece : Piece)
    → pieces_bytes (pieces ++ piece ∷ []) ≡ pieces_bytes pieces ++ piece.bytes
pieces_more pieces piece =
    flat_map-append bytes_in pieces (piece ∷ []) ∙ ap (λ w. pieces_bytes pieces ++ w) (append-nil piece.bytes)

some_come : (own : ℕ → Rows) (m : Moment) (way : IsUnderWay own m)
    → HasCome m.rows m.log m.walk.epoch (passed_from m.rows m.walk.place).place
    (way.written ++ (passed_from m.rows m.walk.place).rows)
unfolding passed_from
some_come own m way =
    many_passed m.rows m.log m.walk.epoch way.orderly way.readable way.fits PIECE_ROWS m.walk.place way.written way.come

pub steps : (own : ℕ → Rows) (m : Moment) → IsUnderWay own m → (o : Option ℕ) → next_place m.rows m.walk.place ≡ o
    → IsUnderWay own (moment m.rows m.log (stepped_by m.rows m.walk o) (given_by m.rows m.walk m.pieces o))
steps own m way None e = way
steps own m way (Some at) e =
    let rows : List StoredRow = (passed_from m.rows m.walk.place).rows in
    let piece : Piece = next_piece m.rows m.walk in
    record {
      orderly = way.orderly;
      readable = way.readable;
      images = way.images;
      prepared = way.prepared;
      fits = way.fits;
      up_to = way.up_to;
      written = way.written ++ rows;
      come = some_come own m way;
      bytes_are = pieces_more m.pieces piece ∙ ap (λ w. w ++ piece.bytes) way.bytes_are
          ∙ checkpoint_more way.written rows m.walk.size (way.size_is ∙ ap length way.bytes_are)
          (some_in_piece m.rows m.walk.place at e);
      size_is = ap (λ n. n + length piece.bytes) way.size_is ∙ sym (length-append (pieces_bytes m.pieces) piece.bytes)
          ∙ sym (ap length (pieces_more m.pieces piece));
    }
