-- What the calls that write redo leave of its bytes.
use Rattle.std.proofs.Common.{◌≡◌, ◌∙◌, ◌⊎◌, ℕ, zero, suc, ◌+◌, ◌-◌, ◌/◌, ◌≤◌, ◌<◌, ◌==◌, Bool, true, false, List, []}
use Rattle.std.proofs.Common.{◌∷◌, ◌++◌}
use Rattle.std.proofs.Common.{length, map, get_or, if◌then◌else◌, refl, ap, sym, subst, inl, inr, append-nil, arith}
use Rattle.std.specs.List.{flat_map}
use Rattle.std.specs.Prelude.{replicate}
use Rattle.std.proofs.lemmas.Bool.{cases_lt, eqb-true}
use Rattle.std.proofs.lemmas.List.{get_or-append_right, get_or_append_left, length-append, length-drop}
use Rattle.host_io.specs.Call.{Call, Synced}
use Rattle.host_io.specs.DiskState.{FileState, laid, settled, state_of, written}
use Rattle.host_io.proofs.LaidLemmas.{laid_elsewhere, laid_here, laid_reaches}
use Rattle.host_io.proofs.StateLemmas.{laid_grows, same_number}
use Rattle.redo_log.specs.Laws.{AreLaidFrom, GiveOut, IsLaidAt, after_all, bytes_in, pieces_of, records_of}
use Rattle.sig_core.specs.Redo.{bytes_of}
use Rattle.redo_log.specs.LogState.{LogState, given_out, next_len}
use Rattle.redo_log.specs.Stored.{IsStored, files_of}
use Rattle.redo_log.specs.StoredLaws.{IsSynced}
use Rattle.redo_log.proofs.LawLemmas.{given, placed}
use Rattle.redo_log.proofs.StoredLemmas.{near_file, near_place, stands}
use Rattle.sig_core.specs.declared.journal.TheConstants.{JOURNAL_BYTES}
use Rattle.sig_core.specs.declared.piece.Piece.{Piece}
use Rattle.sig_core.specs.declared.ring.TheConstants.{LOG_FILE_BYTES}
use Rattle.sig_core.specs.Ring.{file_of, place_of}
use Rattle.sysfile_core.proofs.FileLemmas.{clean_written}
use Rattle.sysfile_core.proofs.RunLemmas.{all_done, done}
use Rattle.sys_restart.proofs.MomentLemmas.{done_then}
use Rattle.node_disk.specs.RedoLaws.{IsKept, RedoIsSyncedFirst}
use Rattle.node_disk.specs.Saving.{file_end, log_with, piece_calls, pieces_with, redo_calls, sync_calls, write_of}
use Rattle.node_disk.proofs.RedoLemmas.{first_sync, no_syncs, none_synced, written_as}

-- a piece lies in another file than a position, or in other places
abbrev pub IsClear : ℕ → ℕ → Piece → Type 0
IsClear parity p piece =
    ((piece.file == file_of parity p) ≡ false)
    ⊎ ((place_of p < piece.at) ⊎ (piece.at + length piece.bytes ≤ place_of p))

-- positions less than the ring apart have places of their own
own_place : (parity p q : ℕ) → p < q → q < p + JOURNAL_BYTES → file_of parity p ≡ file_of parity q
    → place_of p ≡ place_of q → ⊥
own_place parity p q before near files places = omega (arith, before, near, files, places)

-- a later piece that ends less than the ring behind a position is clear of it
pub clear_of : (parity position p : ℕ) (piece : Piece) → IsLaidAt parity position piece → p < position
    → position + length piece.bytes ≤ p + JOURNAL_BYTES → IsClear parity p piece
clear_of parity position p piece lies before near = by (piece.file == file_of parity p) refl
  where
    within : piece.file ≡ file_of parity p → piece.at ≤ place_of p → place_of p < piece.at + length piece.bytes → ⊥
    within same above below =
        let more : ℕ = place_of p - piece.at in
        let near_by : place_of position + more < LOG_FILE_BYTES =
        omega (arith, lies.at, lies.within, above, below) in
        let file : file_of parity p ≡ file_of parity (position + more) =
        sym same ∙ lies.file ∙ sym (near_file parity position more near_by) in
        let place : place_of p ≡ place_of (position + more) =
        omega (arith, near_place position more near_by, lies.at, above) in
        own_place parity p (position + more) (omega (arith, before)) (omega (arith, near, above, below)) file place

    by : (same : Bool) → (piece.file == file_of parity p) ≡ same → IsClear parity p piece
    by false is = inl is
    by true is =
        elim (cases_lt (place_of p) piece.at) [
          | inl below ↦ inr (inl below)
          | inr above ↦
              elim (cases_lt (place_of p) (piece.at + length piece.bytes)) [
                | inr behind ↦ inr (inr behind)
                | inl less ↦ absurd (within (eqb-true piece.file (file_of parity p) is) above less)
              ]
        ]

-- a file after a call has a property that it has in either case
pub in_either : (P : FileState → Type 0) (b : Bool) (s t : FileState) → P s → P t → P (if b then s else t)
in_either P true s t one other = one
in_either P false s t one other = other

-- after a write that is clear of a position the property of its file is as before, or as after a write elsewhere
clear_write : (P : FileState → Type 0) (parity p : ℕ) (piece : Piece) (calls : List Call) → IsClear parity p piece
    → P (state_of calls (file_of parity p))
    → ((place_of p < piece.at) ⊎ (piece.at + length piece.bytes ≤ place_of p)
    → P (written (state_of calls (file_of parity p)) piece.at (length piece.bytes) piece.bytes))
    → P (state_of (write_of piece ∷ calls) (file_of parity p))
clear_write P parity p piece calls (inl apart) before elsewhere =
    subst
    (λ (b : Bool). P (if b then written (state_of calls (file_of parity p)) piece.at (length piece.bytes) piece.bytes
    else state_of calls (file_of parity p)))
    (sym apart) before
clear_write P parity p piece calls (inr apart) before elsewhere =
    in_either P (piece.file == file_of parity p)
    (written (state_of calls (file_of parity p)) piece.at (length piece.bytes) piece.bytes)
    (state_of calls (file_of parity p)) (elsewhere apart) before

-- a byte stands at a place of a file
abbrev Stands : ℕ → ℕ → FileState → Type 0
Stands place byte s = (place < length s.bytes) × (byte ≡ get_or s.bytes place 0)

stands_written : (place byte at : ℕ) (bytes : List ℕ) (s : FileState) → Stands place byte s
    → (place < at) ⊎ (at + length bytes ≤ place) → Stands place byte (written s at (length bytes) bytes)
stands_written place byte at bytes s is apart =
    (omega (arith, is.0, laid_grows at bytes s.bytes), is.1 ∙ sym (laid_elsewhere at bytes s.bytes place is.0 apart))

synced_written : (place at : ℕ) (bytes : List ℕ) (s : FileState) → place < length s.bytes → IsSynced s place
    → (place < at) ⊎ (at + length bytes ≤ place) → IsSynced (written s at (length bytes) bytes) place
synced_written place at bytes s there is apart =
    record { below = is.below; clean = clean_written s at (length bytes) bytes place there apart is.clean }

stored_written : (parity p byte : ℕ) (piece : Piece) (calls : List Call) → IsClear parity p piece
    → IsStored (files_of calls) parity p byte → IsStored (files_of (write_of piece ∷ calls)) parity p byte
stored_written parity p byte piece calls clear is =
    let stands_then : Stands (place_of p) byte (state_of (write_of piece ∷ calls) (file_of parity p)) =
    clear_write (Stands (place_of p) byte) parity p piece calls clear (is.there, is.same)
    (stands_written (place_of p) byte piece.at piece.bytes (state_of calls (file_of parity p)) (is.there, is.same)) in
    record { there = stands_then.0; same = stands_then.1 }

pub kept_written : (parity p byte : ℕ) (piece : Piece) (calls : List Call) → IsClear parity p piece
    → IsKept calls parity p byte → IsKept (write_of piece ∷ calls) parity p byte
kept_written parity p byte piece calls clear is = record {
  stored = stored_written parity p byte piece calls clear is.stored;
  synced = clear_write (λ s. IsSynced s (place_of p)) parity p piece calls clear is.synced
      (synced_written (place_of p) piece.at piece.bytes (state_of calls (file_of parity p)) is.stored.there is.synced);
}

-- what a piece that is clear of a position keeps is kept by later pieces, up to the ring behind it
through_pieces : (Holds : List Call → Type 0) (parity p position : ℕ) (pieces : List Piece) (calls : List Call)
    → ((piece : Piece) (made : List Call) → IsClear parity p piece → Holds made → Holds (write_of piece ∷ made))
    → AreLaidFrom parity position pieces → p < position
    → position + length (flat_map bytes_in pieces) ≤ p + JOURNAL_BYTES → Holds calls
    → Holds (done (map write_of pieces) calls)
through_pieces Holds parity p position [] calls keeps lie before near holds = holds
through_pieces Holds parity p position (piece ∷ pieces) calls keeps lie before near holds =
    let size = length-append piece.bytes (flat_map bytes_in pieces) in
    through_pieces Holds parity p (position + length piece.bytes) pieces (write_of piece ∷ calls) keeps lie.1
    (omega (arith, before)) (omega (arith, size, near))
    (keeps piece calls (clear_of parity position p piece lie.0 before (omega (arith, size, near))) holds)

-- the bytes of a piece stand at their places after it
stands_there : (parity position behind : ℕ) (piece : Piece) (calls : List Call) → IsLaidAt parity position piece
    → behind < length piece.bytes
    → IsStored (files_of (write_of piece ∷ calls)) parity (position + behind) (get_or piece.bytes behind 0)
stands_there parity position behind piece calls lies below =
    let old : List ℕ = files_of calls piece.file in
    let bytes : files_of (write_of piece ∷ calls) piece.file ≡ laid piece.at piece.bytes old =
    ap
    (λ (b : Bool). (if b then written (state_of calls piece.file) piece.at (length piece.bytes) piece.bytes
    else state_of calls piece.file).bytes)
    (same_number piece.file) in
    let near : place_of position + behind < LOG_FILE_BYTES = omega (arith, lies.at, lies.within, below) in
    let place : place_of (position + behind) ≡ piece.at + behind =
    omega (arith, near_place position behind near, lies.at) in
    stands (files_of (write_of piece ∷ calls)) parity (position + behind) (get_or piece.bytes behind 0) piece.file
    (piece.at + behind) (near_file parity position behind near ∙ sym lies.file) place
    (subst (λ (w : List ℕ). piece.at + behind < length w) (sym bytes)
    (omega (arith, laid_reaches piece.at piece.bytes old lies.some, below)))
    (subst (λ (w : List ℕ). get_or piece.bytes behind 0 ≡ get_or w (piece.at + behind) 0) (sym bytes)
    (sym (laid_here piece.at piece.bytes old behind below)))

-- those of all pieces stand there after the last one, if the ring has room for them
all_stand : (parity position : ℕ) (pieces : List Piece) (calls : List Call) → AreLaidFrom parity position pieces
    → length (flat_map bytes_in pieces) ≤ JOURNAL_BYTES → (behind : ℕ) → behind < length (flat_map bytes_in pieces)
    → IsStored (files_of (done (map write_of pieces) calls)) parity (position + behind)
    (get_or (flat_map bytes_in pieces) behind 0)
all_stand parity position [] calls lie few behind below = absurd (omega (arith, below))
all_stand parity position (piece ∷ pieces) calls lie few behind below =
    let rest : List ℕ = flat_map bytes_in pieces in
    let len : ℕ = length piece.bytes in
    let after : ℕ → List ℕ = files_of (done (map write_of pieces) (write_of piece ∷ calls)) in
    let size = length-append piece.bytes rest in
    elim (cases_lt behind len) [
      | inl first ↦
          let byte : get_or piece.bytes behind 0 ≡ get_or (piece.bytes ++ rest) behind 0 =
          sym (get_or_append_left piece.bytes rest 0 behind first) in
          subst (λ (b : ℕ). IsStored after parity (position + behind) b) byte
          (through_pieces
          (λ made. IsStored (files_of made) parity (position + behind) (get_or piece.bytes behind 0)) parity
          (position + behind) (position + len) pieces (write_of piece ∷ calls)
          (stored_written parity (position + behind) (get_or piece.bytes behind 0)) lie.1 (omega (arith, first))
          (omega (arith, size, few)) (stands_there parity position behind piece calls lie.0 first))
      | inr later ↦
          let more : ℕ = behind - len in
          let byte : get_or rest more 0 ≡ get_or (piece.bytes ++ rest) behind 0 =
          sym (get_or-append_right piece.bytes rest len behind 0 refl later) in
          subst (λ (b : ℕ). IsStored after parity (position + behind) b) byte
          (subst (λ (p : ℕ). IsStored after parity p (get_or rest more 0)) (omega (arith, later))
          (all_stand parity (position + len) pieces (write_of piece ∷ calls) lie.1 (omega (arith, size, few)) more
          (omega (arith, size, below, later))))
    ]

-- a log that was asked often enough has given out all its bytes
none_left : (count : ℕ) (log : LogState) → length log.left ≤ count → (after_all (replicate count GiveOut) log).left ≡ []
none_left zero log few = none log.left few
  where
    none : (bytes : List ℕ) → length bytes ≤ 0 → bytes ≡ []
    none [] few = refl
    none (byte ∷ bytes) few = absurd (omega (arith, few))
none_left (suc count) log few =
    none_left count (given_out log) (omega (arith, few, length-drop (next_len log) log.left))

records_none : (count : ℕ) → records_of (replicate count GiveOut) ≡ []
records_none zero = refl
records_none (suc count) = records_none count

-- so its pieces are its bytes
pub pieces_are : (parity from : ℕ) (bytes : List ℕ)
    → flat_map bytes_in (pieces_with (length bytes) (log_with parity from bytes)) ≡ bytes
pieces_are parity from bytes =
    let log = log_with parity from bytes in
    let asked = replicate (length bytes) GiveOut in
    let pieces = flat_map bytes_in (pieces_of asked log) in
    sym (append-nil pieces)
    ∙ ap (λ rest. pieces ++ rest) (sym (none_left (length bytes) log (omega arith)))
    ∙ given asked log
    ∙ ap (λ records. bytes ++ flat_map bytes_of records) (records_none (length bytes))
    ∙ append-nil bytes

-- a sync leaves what stands, and what is kept
sync_leaves : (P : FileState → Type 0) (file this : ℕ) (calls : List Call) → P (state_of calls this)
    → P (settled (state_of calls this).bytes) → P (state_of (Synced file ∷ calls) this)
sync_leaves P file this calls before after =
    in_either P (file == this) (settled (state_of calls this).bytes) (state_of calls this) after before

stored_synced : (file parity p byte : ℕ) (calls : List Call) → IsStored (files_of calls) parity p byte
    → IsStored (files_of (Synced file ∷ calls)) parity p byte
stored_synced file parity p byte calls is =
    let stands_then : Stands (place_of p) byte (state_of (Synced file ∷ calls) (file_of parity p)) =
    sync_leaves (Stands (place_of p) byte) file (file_of parity p) calls (is.there, is.same) (is.there, is.same) in
    record { there = stands_then.0; same = stands_then.1 }

pub kept_synced : (file parity p byte : ℕ) (calls : List Call) → IsKept calls parity p byte
    → IsKept (Synced file ∷ calls) parity p byte
kept_synced file parity p byte calls is = record {
  stored = stored_synced file parity p byte calls is.stored;
  synced = sync_leaves (λ s. IsSynced s (place_of p)) file (file_of parity p) calls is.synced
      (record { below = is.stored.there; clean = refl });
}

-- what stands is kept once its file is synced
kept_then : (parity p byte : ℕ) (calls : List Call) → IsStored (files_of calls) parity p byte
    → IsKept (Synced (file_of parity p) ∷ calls) parity p byte
kept_then parity p byte calls is = record {
  stored = stored_synced (file_of parity p) parity p byte calls is;
  synced = subst
      (λ (b : Bool). IsSynced (if b then settled (files_of calls (file_of parity p)) else state_of calls (file_of parity
      p)) (place_of p))
      (sym (same_number (file_of parity p))) (record { below = is.there; clean = refl });
}

-- after syncs
module _ (parity p byte end : ℕ) where
  kept_on : (count at : ℕ) (calls : List Call) → IsKept calls parity p byte
      → IsKept (done (sync_calls count parity at end) calls) parity p byte
  kept_on zero at calls is =
      subst (λ asks. IsKept (done asks calls) parity p byte) (sym (none_synced parity at end)) is
  kept_on (suc count) at calls is =
      elim (cases_lt at end) [
        | inl some ↦
            subst (λ asks. IsKept (done asks calls) parity p byte) (sym (first_sync count parity at end some))
            (kept_on count (file_end at end) (Synced (file_of parity at) ∷ calls)
            (kept_synced (file_of parity at) parity p byte calls is))
        | inr all ↦
            subst (λ asks. IsKept (done asks calls) parity p byte) (sym (no_syncs (suc count) parity at end all)) is
      ]

  -- the file of a position is among those that are synced
  becomes_kept : (count at : ℕ) (calls : List Call) → end - at ≤ count → at ≤ p → p < end
      → IsStored (files_of calls) parity p byte → IsKept (done (sync_calls count parity at end) calls) parity p byte
  becomes_kept zero at calls few least most is = absurd (omega (arith, few, least, most))
  becomes_kept (suc count) at calls few least most is =
      let some : at < end = omega (arith, least, most) in
      subst (λ asks. IsKept (done asks calls) parity p byte) (sym (first_sync count parity at end some))
      (elim (cases_lt p (file_end at end)) [
        | inl here ↦
            let same : at / LOG_FILE_BYTES ≡ p / LOG_FILE_BYTES = omega (arith, least, here) in
            let file : file_of parity p ≡ file_of parity at = omega (arith, same) in
            kept_on count (file_end at end) (Synced (file_of parity at) ∷ calls)
            (subst (λ (f : ℕ). IsKept (Synced f ∷ calls) parity p byte) file (kept_then parity p byte calls is))
        | inr later ↦
            becomes_kept count (file_end at end) (Synced (file_of parity at) ∷ calls) (omega (arith, few, some)) later
            most (stored_synced (file_of parity at) parity p byte calls is)
      ])

pub synced_first : RedoIsSyncedFirst
synced_first parity from bytes calls after few runs = (new, old)
  where
    end : ℕ
    end = from + length bytes

    pieces : List Piece
    pieces = pieces_with (length bytes) (log_with parity from bytes)

    lie : AreLaidFrom parity from pieces
    lie = placed (replicate (length bytes) GiveOut) (log_with parity from bytes)

    are : flat_map bytes_in pieces ≡ bytes
    are = pieces_are parity from bytes

    size : length (flat_map bytes_in pieces) ≡ length bytes
    size = ap length are

    is : after ≡ done (sync_calls (length bytes) parity from end) (done (map write_of pieces) calls)
    is =
        all_done (redo_calls parity from bytes) calls after runs
        ∙ done_then (piece_calls (length bytes) parity from bytes) (sync_calls (length bytes) parity from end) calls
        ∙ ap (λ asks. done (sync_calls (length bytes) parity from end) (done asks calls))
        (written_as (length bytes) parity from bytes)

    new : (behind : ℕ) → behind < length bytes → IsKept after parity (from + behind) (get_or bytes behind 0)
    new behind below =
        subst (λ made. IsKept made parity (from + behind) (get_or bytes behind 0)) (sym is)
        (becomes_kept parity (from + behind) (get_or bytes behind 0) end (length bytes) from
        (done (map write_of pieces) calls) (omega arith) (omega arith) (omega (arith, below))
        (subst
        (λ (w : List ℕ). IsStored (files_of (done (map write_of pieces) calls)) parity (from + behind) (get_or w behind
        0)) are
        (all_stand parity from pieces calls lie (omega (arith, size, few)) behind (omega (arith, size, below)))))

    old : (position byte : ℕ) → position < from → end ≤ position + JOURNAL_BYTES → IsKept calls parity position byte
        → IsKept after parity position byte
    old position byte before near kept =
        subst (λ made. IsKept made parity position byte) (sym is)
        (kept_on parity position byte end (length bytes) from (done (map write_of pieces) calls)
        (through_pieces (λ made. IsKept made parity position byte) parity position from pieces calls
        (kept_written parity position byte) lie before (omega (arith, size, near)) kept))
