-- The pieces that calls give out lie one behind the other, and are the bytes of the records.
use Rattle.std.proofs.Common.{◌≡◌, ◌<◌, ◌+◌, ℕ, Bool, true, false, List, [], ◌∷◌, ◌++◌, length, take, refl, sym, ap}
use Rattle.std.proofs.Common.{subst, ◌∙◌, append_assoc, append-nil, arith}
use Rattle.std.specs.Prelude.{nat_eq, if◌then◌else◌}
use Rattle.std.specs.List.{flat_map}
use Rattle.std.proofs.lemmas.Bool.Decides.{nat_tests}
use Rattle.std.proofs.lemmas.List.{length-take-le, take-append-drop}
use Rattle.sig_core.specs.Redo.{bytes_of}
use Rattle.redo_log.specs.Laws.{LogCall, Keep, Append, GiveOut, Cut, IsLaidAt, AreLaidFrom, after_all, records_of}
use Rattle.redo_log.specs.Laws.{pieces_of, bytes_in}
use Rattle.sig_core.specs.declared.piece.Piece.{Piece}
use Rattle.redo_log.specs.LogState.{LogState, appended, cut_to, given_out, next_len, next_piece, with_reserved}

piece_len : (s : LogState) → length (take (next_len s) s.left) ≡ next_len s
piece_len s = length-take-le (next_len s) s.left (omega arith)

is_laid : (s : LogState) → 0 < next_len s → IsLaidAt s.parity s.flushed (next_piece s)
is_laid s some =
    let len = piece_len s in
    record { file = refl; at = refl; some = rw len some; few = rw len (omega arith); within = rw len (omega arith) }

placed_by : (s : LogState) (pieces : List Piece) (none : Bool) → nat_eq (next_len s) 0 ≡ none
    → AreLaidFrom s.parity (s.flushed + next_len s) pieces
    → AreLaidFrom s.parity s.flushed ((if none then [] else next_piece s ∷ []) ++ pieces)
placed_by s pieces true is are =
    let same : s.flushed + next_len s ≡ s.flushed = grind (arith, nat_tests, is) in
    subst (λ (n : ℕ). AreLaidFrom s.parity n pieces) same are
placed_by s pieces false is are =
    let some : 0 < next_len s = grind (arith, nat_tests, is) in
    (is_laid s some, subst (λ (n : ℕ). AreLaidFrom s.parity (s.flushed + n) pieces) (sym (piece_len s)) are)

pub placed : (calls : List LogCall) (s : LogState) → AreLaidFrom s.parity s.flushed (pieces_of calls s)
placed [] s = tt
placed (Keep bytes ∷ calls) s = placed calls (with_reserved s bytes)
placed (Append redo ∷ calls) s = placed calls (appended s redo)
placed (GiveOut ∷ calls) s =
    placed_by s (pieces_of calls (given_out s)) (nat_eq (next_len s) 0) refl (placed calls (given_out s))
placed (Cut at ∷ calls) s = placed calls (cut_to s at)

-- the bytes of the next piece, if there is one, and of further ones
given_by : (s : LogState) (pieces : List Piece) (rest : List ℕ) (none : Bool) → nat_eq (next_len s) 0 ≡ none
    → flat_map bytes_in ((if none then [] else next_piece s ∷ []) ++ pieces) ++ rest
    ≡ take (next_len s) s.left ++ (flat_map bytes_in pieces ++ rest)
given_by s pieces rest true is =
    let zero-len : next_len s ≡ 0 = grind (arith, nat_tests, is) in
    ap (λ (n : ℕ). take n s.left ++ (flat_map bytes_in pieces ++ rest)) (sym zero-len)
given_by s pieces rest false is = append_assoc (take (next_len s) s.left) (flat_map bytes_in pieces) rest

pub given : (calls : List LogCall) (s : LogState)
    → flat_map bytes_in (pieces_of calls s) ++ (after_all calls s).left ≡ s.left ++ flat_map bytes_of (records_of calls)
given [] s = sym (append-nil s.left)
given (Keep bytes ∷ calls) s = given calls (with_reserved s bytes)
given (Append redo ∷ calls) s =
    given calls (appended s redo) ∙ append_assoc s.left (bytes_of redo) (flat_map bytes_of (records_of calls))
given (GiveOut ∷ calls) s =
    let t : LogState = given_out s in
    given_by s (pieces_of calls t) (after_all calls t).left (nat_eq (next_len s) 0) refl
    ∙ ap (λ (w : List ℕ). take (next_len s) s.left ++ w) (given calls t)
    ∙ sym (append_assoc (take (next_len s) s.left) t.left (flat_map bytes_of (records_of calls)))
    ∙ ap (λ (w : List ℕ). w ++ flat_map bytes_of (records_of calls)) (take-append-drop (next_len s) s.left)
given (Cut at ∷ calls) s = given calls (cut_to s at)
