-- What the pieces of a log leave in files, and what a crash leaves of it.
use Rattle.std.proofs.Common.{◌≡◌, ◌∙◌, ◌⊎◌, ◌≤◌, ◌<◌, ◌+◌, ◌-◌, ℕ, Bool, true, false, ◌==◌, List, [], ◌∷◌, ◌++◌}
use Rattle.std.proofs.Common.{length, take, drop, get_or, if◌then◌else◌, nat_eq, refl, sym, ap, subst, inl, inr}
use Rattle.std.proofs.Common.{length-append, arith}
use Rattle.std.specs.List.{flat_map}
use Rattle.std.proofs.lemmas.Bool.{cases_lt, eq-eqb, eqb-true}
use Rattle.std.proofs.lemmas.Bool.Decides.{nat_tests}
use Rattle.std.proofs.lemmas.List.{get_or-append_right, get_or-drop, get_or_append_left, length-drop, length-take-le}
use Rattle.std.proofs.lemmas.List.{take_at}
use Rattle.host_io.specs.declared.limits.TheConstants.{FILES}
use Rattle.host_io.specs.DiskState.{FileState, laid, settled, state_of, written}
use Rattle.host_io.proofs.LaidLemmas.{laid_elsewhere, laid_here, laid_reaches}
use Rattle.host_io.proofs.StateLemmas.{laid_grows}
use Rattle.sig_core.specs.declared.journal.TheConstants.{JOURNAL_BYTES}
use Rattle.sig_core.specs.Redo.{bytes_of}
use Rattle.sig_core.specs.declared.ring.TheConstants.{LOG_FILE_BYTES}
use Rattle.redo_log.specs.Laws.{LogCall, Keep, Append, GiveOut, Cut, AreLaidFrom, IsLaidAt, after_all, bytes_in}
use Rattle.redo_log.specs.Laws.{pieces_of, records_of}
use Rattle.sig_core.specs.declared.piece.Piece.{Piece}
use Rattle.redo_log.specs.LogState.{LogState, appended, cut_to, fresh_log, given_out, next_len, next_piece}
use Rattle.redo_log.specs.LogState.{with_reserved}
use Rattle.sig_core.specs.Ring.{file_of, place_of}
use Rattle.redo_log.specs.Stored.{AreStored, IsStored}
use Rattle.redo_log.specs.StoredLaws.{PiecesAreStored, SyncedBytesStay, WritesLayPieces, with_piece, with_pieces}
use Rattle.redo_log.proofs.LawLemmas.{given, placed}
use Rattle.redo_log.proofs.StoredLemmas.{near_file, near_place, stands}

-- positions less than the ring apart have places of their own
apart : (parity p q : ℕ) → p < q → q < p + JOURNAL_BYTES → file_of parity p ≡ file_of parity q
    → place_of p ≡ place_of q → ⊥
apart parity p q before near files places = omega (arith, before, near, files, places)

-- a later piece lies elsewhere in the file of a position, if it ends less than the ring behind it
outside : (parity position p : ℕ) (piece : Piece) → IsLaidAt parity position piece → p < position
    → position + length piece.bytes ≤ p + JOURNAL_BYTES → file_of parity p ≡ piece.file
    → (place_of p < piece.at) ⊎ (piece.at + length piece.bytes ≤ place_of p)
outside parity position p piece lies before near file_is =
    elim (cases_lt (place_of p) piece.at) [
      | inl below ↦ inl below
      | inr above ↦
          elim (cases_lt (place_of p) (piece.at + length piece.bytes)) [
            | inr behind ↦ inr behind
            | inl within ↦
                let more : ℕ = place_of p - piece.at in
                let near_by : place_of position + more < LOG_FILE_BYTES =
                omega (arith, lies.at, lies.within, above, within) in
                let file : file_of parity p ≡ file_of parity (position + more) =
                file_is ∙ lies.file ∙ sym (near_file parity position more near_by) in
                let place : place_of p ≡ place_of (position + more) =
                omega (arith, near_place position more near_by, lies.at, above) in
                absurd (apart parity p (position + more) (omega (arith, before))
                (omega (arith, near, above, within)) file place)
          ]
    ]

-- what stands at the place of a position still stands there after a later piece
kept_by : (parity position p byte : ℕ) (piece : Piece) (files : ℕ → List ℕ) (same : Bool)
    → (piece.file == file_of parity p) ≡ same
    → IsLaidAt parity position piece → p < position → position + length piece.bytes ≤ p + JOURNAL_BYTES
    → IsStored files parity p byte → IsStored (with_piece piece files) parity p byte
kept_by parity position p byte piece files false is lies before near stored =
    let old : List ℕ = files (file_of parity p) in
    let bytes : with_piece piece files (file_of parity p) ≡ old =
    ap (λ (b : Bool). if b then laid piece.at piece.bytes old else old) is in
    record {
      there = subst (λ (w : List ℕ). place_of p < length w) (sym bytes) stored.there;
      same = subst (λ (w : List ℕ). byte ≡ get_or w (place_of p) 0) (sym bytes) stored.same;
    }
kept_by parity position p byte piece files true is lies before near stored =
    let old : List ℕ = files (file_of parity p) in
    let bytes : with_piece piece files (file_of parity p) ≡ laid piece.at piece.bytes old =
    ap (λ (b : Bool). if b then laid piece.at piece.bytes old else old) is in
    let elsewhere =
    outside parity position p piece lies before near (sym (eqb-true piece.file (file_of parity p) is)) in
    record {
      there = subst (λ (w : List ℕ). place_of p < length w) (sym bytes)
          (omega (arith, stored.there, laid_grows piece.at piece.bytes old));
      same = subst (λ (w : List ℕ). byte ≡ get_or w (place_of p) 0) (sym bytes)
          (stored.same ∙ sym (laid_elsewhere piece.at piece.bytes old (place_of p) stored.there elsewhere));
    }

-- and after many
kept : (parity position p byte : ℕ) (pieces : List Piece) (files : ℕ → List ℕ) → AreLaidFrom parity position pieces
    → p < position
    → position + length (flat_map bytes_in pieces) ≤ p + JOURNAL_BYTES → IsStored files parity p byte
    → IsStored (with_pieces pieces files) parity p byte
kept parity position p byte [] files lie before near stored = stored
kept parity position p byte (piece ∷ pieces) files lie before near stored =
    let size = length-append piece.bytes (flat_map bytes_in pieces) in
    kept parity (position + length piece.bytes) p byte pieces (with_piece piece files) lie.1 (omega (arith, before))
    (omega (arith, size, near))
    (kept_by parity position p byte piece files (piece.file == file_of parity p) refl lie.0 before
    (omega (arith, size, near)) stored)

-- the bytes of a piece stand at their places after it
put_there : (parity position behind : ℕ) (piece : Piece) (files : ℕ → List ℕ) → IsLaidAt parity position piece
    → behind < length piece.bytes
    → IsStored (with_piece piece files) parity (position + behind) (get_or piece.bytes behind 0)
put_there parity position behind piece files lies below =
    let old : List ℕ = files piece.file in
    let bytes : with_piece piece files piece.file ≡ laid piece.at piece.bytes old =
    ap (λ (b : Bool). if b then laid piece.at piece.bytes old else old) (eq-eqb piece.file piece.file refl) in
    let near : place_of position + behind < LOG_FILE_BYTES = omega (arith, lies.at, lies.within, below) in
    let place : place_of (position + behind) ≡ piece.at + behind =
    omega (arith, near_place position behind near, lies.at) in
    stands (with_piece piece files) parity (position + behind) (get_or piece.bytes behind 0) piece.file
    (piece.at + behind)
    (near_file parity position behind near ∙ sym lies.file) place
    (subst (λ (w : List ℕ). piece.at + behind < length w) (sym bytes)
    (omega (arith, laid_reaches piece.at piece.bytes old lies.some, below)))
    (subst (λ (w : List ℕ). get_or piece.bytes behind 0 ≡ get_or w (piece.at + behind) 0) (sym bytes)
    (sym (laid_here piece.at piece.bytes old behind below)))

-- the bytes of pieces that lie one behind the other, but for those that are the ring or more behind the last one
laid_stored : (parity position : ℕ) (pieces : List Piece) (files : ℕ → List ℕ) → AreLaidFrom parity position pieces
    → (behind : ℕ)
    → behind < length (flat_map bytes_in pieces) → length (flat_map bytes_in pieces) ≤ behind + JOURNAL_BYTES
    → IsStored (with_pieces pieces files) parity (position + behind) (get_or (flat_map bytes_in pieces) behind 0)
laid_stored parity position [] files lie behind below near = absurd (omega (arith, below))
laid_stored parity position (piece ∷ pieces) files lie behind below near =
    let rest : List ℕ = flat_map bytes_in pieces in
    let len : ℕ = length piece.bytes in
    let all : ℕ → List ℕ = with_pieces pieces (with_piece piece files) in
    let size = length-append piece.bytes rest in
    elim (cases_lt behind len) [
      | inl first ↦
          let byte : get_or piece.bytes behind 0 ≡ get_or (piece.bytes ++ rest) behind 0 =
          sym (get_or_append_left piece.bytes rest 0 behind first) in
          subst (λ (b : ℕ). IsStored all parity (position + behind) b) byte
          (kept parity (position + len) (position + behind) (get_or piece.bytes behind 0) pieces
          (with_piece piece files) lie.1
          (omega (arith, first)) (omega (arith, size, near)) (put_there parity position behind piece files lie.0 first))
      | inr later ↦
          let more : ℕ = behind - len in
          let byte : get_or rest more 0 ≡ get_or (piece.bytes ++ rest) behind 0 =
          sym (get_or-append_right piece.bytes rest len behind 0 refl later) in
          let there : position + len + more ≡ position + behind = omega (arith, later) in
          subst (λ (b : ℕ). IsStored all parity (position + behind) b) byte
          (subst (λ (p : ℕ). IsStored all parity p (get_or rest more 0)) there
          (laid_stored parity (position + len) pieces (with_piece piece files) lie.1 more
          (omega (arith, size, below, later))
          (omega (arith, size, near, later))))
    ]

-- all bytes up to a position are given out in pieces
flushed_one : (s : LogState) (pieces : List Piece) (none : Bool) → nat_eq (next_len s) 0 ≡ none
    → s.flushed + next_len s + length (flat_map bytes_in pieces)
    ≡ s.flushed + length (flat_map bytes_in ((if none then [] else next_piece s ∷ []) ++ pieces))
flushed_one s pieces true is = let zero_len : next_len s ≡ 0 = grind (arith, nat_tests, is) in omega (arith, zero_len)
flushed_one s pieces false is =
    let len : length (take (next_len s) s.left) ≡ next_len s = length-take-le (next_len s) s.left (omega arith) in
    omega (arith, length-append (take (next_len s) s.left) (flat_map bytes_in pieces), len)

flushed_by : (calls : List LogCall) (s : LogState)
    → (after_all calls s).flushed ≡ s.flushed + length (flat_map bytes_in (pieces_of calls s))
flushed_by [] s = omega arith
flushed_by (Keep bytes ∷ calls) s = flushed_by calls (with_reserved s bytes)
flushed_by (Append redo ∷ calls) s = flushed_by calls (appended s redo)
flushed_by (GiveOut ∷ calls) s =
    flushed_by calls (given_out s) ∙ flushed_one s (pieces_of calls (given_out s)) (nat_eq (next_len s) 0) refl
flushed_by (Cut at ∷ calls) s = flushed_by calls (cut_to s at)

-- what was given out is a front of the records' bytes
front_given : (given left all : List ℕ) (flushed : ℕ) → given ++ left ≡ all → flushed ≡ length given
    → take flushed all ≡ given
front_given given left all flushed e size = ap (take flushed) (sym e) ∙ take_at given left flushed (sym size)

-- some of the bytes, from a position on
from_there : (files : ℕ → List ℕ) (parity from flushed : ℕ) (bytes : List ℕ) → from ≤ flushed → flushed ≡ length bytes
    → ((behind : ℕ) → behind < length bytes → from ≤ behind → IsStored files parity behind (get_or bytes behind 0))
    → AreStored files parity from (flushed - from) (drop from bytes)
from_there files parity from flushed bytes order size each =
    let len = length-drop from bytes in
    record {
      each = λ behind below.
          subst (λ (b : ℕ). IsStored files parity (from + behind) b) (sym (get_or-drop from bytes behind 0))
          (each (from + behind) (omega (arith, len, below)) (omega arith));
      most = omega (arith, len, size);
      all = λ short. absurd (omega (arith, len, size, short));
    }

pub pieces_stored : PiecesAreStored
pieces_stored generation parity from calls files order near =
    let s : LogState = fresh_log generation parity in
    let pieces : List Piece = pieces_of calls s in
    let bytes : List ℕ = flat_map bytes_in pieces in
    let flushed : ℕ = (after_all calls s).flushed in
    let size : flushed ≡ length bytes = omega (arith, flushed_by calls s) in
    let front : take flushed (flat_map bytes_of (records_of calls)) ≡ bytes =
    front_given bytes (after_all calls s).left (flat_map bytes_of (records_of calls)) flushed (given calls s) size in
    subst (λ (w : List ℕ). AreStored (with_pieces pieces files) parity from (flushed - from) (drop from w)) (sym front)
    (from_there (with_pieces pieces files) parity from flushed bytes order size
    (λ behind below reach.
    subst (λ (p : ℕ). IsStored (with_pieces pieces files) parity p (get_or bytes behind 0)) (omega arith)
    (laid_stored parity 0 pieces files (placed calls s) behind below (omega (arith, size, near, reach)))))

-- a write, whether it is of this file or not
laid_by_write : (piece : Piece) (s : FileState) (same : Bool)
    → (if same then written s piece.at (length piece.bytes) piece.bytes else s).bytes
    ≡ (if same then laid piece.at piece.bytes s.bytes else s.bytes)
laid_by_write piece s true = refl
laid_by_write piece s false = refl

left_by_sync : (s : FileState) (same : Bool) → (if same then settled s.bytes else s).bytes ≡ s.bytes
left_by_sync s true = refl
left_by_sync s false = refl

pub writes_lay : WritesLayPieces
writes_lay piece calls file synced = (
  laid_by_write piece (state_of calls file) (piece.file == file),
  left_by_sync (state_of calls file) (synced == file),
)

-- the files of a log are files of a disk
log_file : (parity position : ℕ) → parity ≤ 1 → file_of parity position < FILES
log_file parity position two = omega (arith, two)

pub synced_stay : SyncedBytesStay
synced_stay calls parity from bytes image two synced each left behind below =
    let position : ℕ = from + behind in
    let one = left (file_of parity position) (log_file parity position two) in
    let is = synced behind below in
    record {
      there = omega (arith, is.below, one.from_synced);
      same = (each behind below).same ∙ sym (one.clean (place_of position) is.below is.clean);
    }
