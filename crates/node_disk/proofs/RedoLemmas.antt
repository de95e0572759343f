-- The calls that write redo and sync its files.
use Rattle.std.proofs.Common.{◌≡◌, ◌∙◌, ◌≤◌, ◌<◌, ℕ, zero, suc, ◌+◌, ◌-◌, min, Bool, true, false, ◌==◌, nat_eq, List}
use Rattle.std.proofs.Common.{[], ◌∷◌}
use Rattle.std.proofs.Common.{◌++◌, length, map, take, drop, if◌then◌else◌, refl, ap, sym, subst, inl, inr, arith}
use Rattle.std.specs.Prelude.{Option, Some}
use Rattle.std.proofs.lemmas.Bool.{cases_lt, le-ltb, lt-ltb, ne_eqb}
use Rattle.std.proofs.lemmas.List.{drop-drop, drop_all, length-drop}
use Rattle.host_io.specs.Call.{Call, Synced, Wrote}
use Rattle.host_io.specs.Disk.{IsSynced, IsWritten}
use Rattle.redo_log.specs.LogState.{LogState, given_out, next_len, next_piece}
use Rattle.sig_core.specs.declared.piece.TheConstants.{PIECE_BYTES}
use Rattle.sig_core.specs.declared.ring.TheConstants.{LOG_FILE_BYTES}
use Rattle.sig_core.specs.Ring.{file_of, place_of}
use Rattle.sysfile_core.specs.declared.place.TheConstants.{CONTROL_FILE}
use Rattle.sysfile_core.specs.Runs.{Runs}
use Rattle.node_disk.specs.Saving.{file_end, log_with, piece_calls, pieces_with, redo_calls, sync_calls, write_of}
use Rattle.node_disk.proofs.CallLemmas.{AreElsewhere, AreLeft, all_left, both_elsewhere, none_left, one_made}
use Rattle.node_disk.proofs.CallLemmas.{sync_failed, write_failed}

-- a log without bytes gives out none
none_with : (count : ℕ) (log : LogState) → log.left ≡ [] → pieces_with count log ≡ []
none_with zero log is = refl
none_with (suc count) log is =
    let len : next_len log ≡ 0 = omega (arith, ap length is) in
    ap (λ (n : ℕ). (if nat_eq n 0 then [] else next_piece log ∷ []) ++ pieces_with count (given_out log)) len
    ∙ none_with count (given_out log) (drop_all (next_len log) log.left (omega (arith, ap length is)))

pub no_pieces : (count parity at : ℕ) (bytes : List ℕ) → length bytes ≤ 0 → piece_calls count parity at bytes ≡ []
unfolding piece_calls
no_pieces count parity at [] few = ap (map write_of) (none_with count (log_with parity at []) refl)
no_pieces count parity at (byte ∷ bytes) few = absurd (omega (arith, few))

-- the first piece, and those behind it
pub first_piece : (count parity at len : ℕ) (bytes : List ℕ) → 0 < length bytes
    → len ≡ min (min (length bytes) PIECE_BYTES) (LOG_FILE_BYTES - place_of at)
    → piece_calls (suc count) parity at bytes
    ≡ Wrote (file_of parity at) (place_of at) (take len bytes) ∷ piece_calls count parity (at + len) (drop len bytes)
unfolding piece_calls
first_piece count parity at len bytes some is =
    let log = log_with parity at bytes in
    let more : nat_eq (next_len log) 0 ≡ false = ne_eqb (next_len log) 0 (λ none. absurd (omega (arith, none, some))) in
    ap (λ (b : Bool). map write_of ((if b then [] else next_piece log ∷ []) ++ pieces_with count (given_out log))) more
    ∙ ap (λ (n : ℕ). Wrote (file_of parity at) (place_of at) (take n bytes)
    ∷ map write_of (pieces_with count (log_with parity (at + n) (drop n bytes)))) (sym is)

-- Bytes of the redo were written from a position on, up to so many.
pub record IsWriting (parity from : ℕ) (bytes : List ℕ) (done : ℕ) (calls : List Call) (told : Option (List Call))
    : Type 0 where
  pub count : ℕ
  pub few : length bytes - done ≤ count
  pub left :
      AreLeft (piece_calls (length bytes) parity from bytes) (piece_calls count parity (from + done) (drop done bytes))
      calls told

pub writing_begins : (parity from : ℕ) (bytes : List ℕ) (calls : List Call) (told : Option (List Call))
    → told ≡ Some calls → IsWriting parity from bytes 0 calls told
writing_begins parity from bytes calls told is =
    let asks = piece_calls (length bytes) parity from bytes in
    record {
      count = length bytes;
      few = omega arith;
      left = subst (λ (at : ℕ). AreLeft asks (piece_calls (length bytes) parity at bytes) calls told) (omega arith)
          (all_left asks calls told is);
    }

-- what is left begins with this piece
left_first : (count parity from done len : ℕ) (bytes piece : List ℕ) → done < length bytes
    → len ≡ min (min (length bytes - done) PIECE_BYTES) (LOG_FILE_BYTES - place_of (from + done))
    → piece ≡ take len (drop done bytes)
    → piece_calls (suc count) parity (from + done) (drop done bytes)
    ≡ Wrote (file_of parity (from + done)) (place_of (from + done)) piece
    ∷ piece_calls count parity (from + (done + len)) (drop (done + len) bytes)
left_first count parity from done len bytes piece some is same =
    let at = from + done in
    let size : length (drop done bytes) ≡ length bytes - done = length-drop done bytes in
    first_piece count parity at len (drop done bytes) (omega (arith, size, some)) (omega (arith, is, size))
    ∙ ap (λ one. Wrote (file_of parity at) (place_of at) one ∷ piece_calls count parity (at + len) (drop len (drop done
    bytes))) (sym same)
    ∙ ap (λ (p : ℕ). Wrote (file_of parity at) (place_of at) piece
    ∷ piece_calls count parity p (drop len (drop done bytes))) (omega arith)
    ∙ ap (λ rest. Wrote (file_of parity at) (place_of at) piece ∷ piece_calls count parity (from + (done + len)) rest)
    (drop-drop len done bytes ∙ ap (λ (n : ℕ). drop n bytes) (omega arith))

module _ (parity from : ℕ) (bytes : List ℕ) (done len : ℕ) (piece : List ℕ) (calls : List Call)
    (told after : Option (List Call)) (some : done < length bytes)
    (is : len ≡ min (min (length bytes - done) PIECE_BYTES) (LOG_FILE_BYTES - place_of (from + done)))
    (same : piece ≡ take len (drop done bytes)) where
  abbrev asks : List Call
  asks = piece_calls (length bytes) parity from bytes

  abbrev left_with : ℕ → List Call
  left_with count = piece_calls count parity (from + done) (drop done bytes)

  -- one more piece was written
  pub writing_more : IsWriting parity from bytes done calls told
      → ((now : List Call) → told ≡ Some now
      → IsWritten now after (file_of parity (from + done)) (place_of (from + done)) piece true)
      → IsWriting parity from bytes (done + len) calls after
  writing_more writing made = by writing.count writing.few writing.left
    where
      by : (count : ℕ) → length bytes - done ≤ count → AreLeft asks (left_with count) calls told
          → IsWriting parity from bytes (done + len) calls after
      by zero few left = absurd (omega (arith, few, some))
      by (suc count) few left = record {
        count = count;
        few = omega (arith, few, is, some);
        left = one_made (Wrote (file_of parity (from + done)) (place_of (from + done)) piece) asks
            (piece_calls count parity (from + (done + len)) (drop (done + len) bytes)) (left_with (suc count)) calls
            told
            after left (left_first count parity from done len bytes piece some is same) made;
      }

  -- a piece failed
  pub writing_stops : IsWriting parity from bytes done calls told
      → ((now : List Call) → told ≡ Some now
      → IsWritten now after (file_of parity (from + done)) (place_of (from + done)) piece false)
      → Runs asks calls after false
  writing_stops writing failed = by writing.count writing.few writing.left
    where
      by : (count : ℕ) → length bytes - done ≤ count → AreLeft asks (left_with count) calls told
          → Runs asks calls after false
      by zero few left = absurd (omega (arith, few, some))
      by (suc count) few left =
          write_failed (file_of parity (from + done)) (place_of (from + done)) piece asks
          (piece_calls count parity (from + (done + len)) (drop (done + len) bytes)) (left_with (suc count)) calls told
          after left (left_first count parity from done len bytes piece some is same) failed

-- all were written
pub writing_ends : (parity from : ℕ) (bytes : List ℕ) (done : ℕ) (calls : List Call) (told : Option (List Call))
    → IsWriting parity from bytes done calls told → length bytes ≤ done
    → Runs (piece_calls (length bytes) parity from bytes) calls told true
writing_ends parity from bytes done calls told writing all =
    let size : length (drop done bytes) ≡ length bytes - done = length-drop done bytes in
    none_left (piece_calls (length bytes) parity from bytes)
    (piece_calls writing.count parity (from + done) (drop done bytes)) calls told writing.left
    (no_pieces writing.count parity (from + done) (drop done bytes) (omega (arith, size, all)))

pub written_as : (count parity at : ℕ) (bytes : List ℕ)
    → piece_calls count parity at bytes ≡ map write_of (pieces_with count (log_with parity at bytes))
unfolding piece_calls
written_as count parity at bytes = refl

none_written : (parity at : ℕ) (bytes : List ℕ) → piece_calls zero parity at bytes ≡ []
unfolding piece_calls
none_written parity at bytes = refl

-- the first file, and those behind it
pub first_sync : (count parity at end : ℕ) → at < end
    → sync_calls (suc count) parity at end ≡ Synced (file_of parity at) ∷ sync_calls count parity (file_end at end) end
unfolding sync_calls
first_sync count parity at end some =
    ap (λ (b : Bool). if b then Synced (file_of parity at) ∷ sync_calls count parity (file_end at end) end else [])
    (lt-ltb at end some)

pub no_syncs : (count parity at end : ℕ) → end ≤ at → sync_calls count parity at end ≡ []
unfolding sync_calls
no_syncs zero parity at end all = refl
no_syncs (suc count) parity at end all =
    ap (λ (b : Bool). if b then Synced (file_of parity at) ∷ sync_calls count parity (file_end at end) end else [])
    (le-ltb at end all)

pub none_synced : (parity at end : ℕ) → sync_calls zero parity at end ≡ []
unfolding sync_calls
none_synced parity at end = refl

-- The files of the redo from a position on were synced, up to another.
pub record IsSyncing (parity from end at : ℕ) (calls : List Call) (told : Option (List Call)) : Type 0 where
  pub count : ℕ
  pub few : end - at ≤ count
  pub left : AreLeft (sync_calls (end - from) parity from end) (sync_calls count parity at end) calls told

pub syncing_begins : (parity from end : ℕ) (calls : List Call) (told : Option (List Call)) → told ≡ Some calls
    → IsSyncing parity from end from calls told
syncing_begins parity from end calls told is =
    record {
      count = end - from;
      few = omega arith;
      left = all_left (sync_calls (end - from) parity from end) calls told is;
    }

module _ (parity from end at : ℕ) (calls : List Call) (told after : Option (List Call)) (some : at < end) where
  abbrev syncs : List Call
  syncs = sync_calls (end - from) parity from end

  -- one more file was synced
  pub syncing_more : (next : ℕ) → next ≡ file_end at end → IsSyncing parity from end at calls told
      → ((now : List Call) → told ≡ Some now → IsSynced now after (file_of parity at) true)
      → IsSyncing parity from end next calls after
  syncing_more next is syncing made = by syncing.count syncing.few syncing.left
    where
      by : (count : ℕ) → end - at ≤ count → AreLeft syncs (sync_calls count parity at end) calls told
          → IsSyncing parity from end next calls after
      by zero few left = absurd (omega (arith, few, some))
      by (suc count) few left = record {
        count = count;
        few = omega (arith, few, is, some);
        left = subst (λ (p : ℕ). AreLeft syncs (sync_calls count parity p end) calls after) (sym is)
            (one_made (Synced (file_of parity at)) syncs (sync_calls count parity (file_end at end) end)
            (sync_calls (suc count) parity at end) calls told after left (first_sync count parity at end some) made);
      }

  -- a sync failed
  pub syncing_stops : IsSyncing parity from end at calls told
      → ((now : List Call) → told ≡ Some now → IsSynced now after (file_of parity at) false)
      → Runs syncs calls after false
  syncing_stops syncing failed = by syncing.count syncing.few syncing.left
    where
      by : (count : ℕ) → end - at ≤ count → AreLeft syncs (sync_calls count parity at end) calls told
          → Runs syncs calls after false
      by zero few left = absurd (omega (arith, few, some))
      by (suc count) few left =
          sync_failed (file_of parity at) syncs (sync_calls count parity (file_end at end) end)
          (sync_calls (suc count) parity at end) calls told after left (first_sync count parity at end some) failed

-- all were synced
pub syncing_ends : (parity from end at : ℕ) (calls : List Call) (told : Option (List Call))
    → IsSyncing parity from end at calls told → end ≤ at
    → Runs (sync_calls (end - from) parity from end) calls told true
syncing_ends parity from end at calls told syncing all =
    none_left (sync_calls (end - from) parity from end) (sync_calls syncing.count parity at end) calls told syncing.left
    (no_syncs syncing.count parity at end all)

-- Calls on redo are of the files of its parity.
pub syncs_elsewhere : (this count parity at end : ℕ) → ((position : ℕ) → (file_of parity position == this) ≡ false)
    → AreElsewhere this (sync_calls count parity at end)
syncs_elsewhere this zero parity at end apart =
    subst (AreElsewhere this) (sym (none_synced parity at end)) tt
syncs_elsewhere this (suc count) parity at end apart =
    elim (cases_lt at end) [
      | inl some ↦
          subst (AreElsewhere this) (sym (first_sync count parity at end some))
          (apart at, syncs_elsewhere this count parity (file_end at end) end apart)
      | inr all ↦ subst (AreElsewhere this) (sym (no_syncs (suc count) parity at end all)) tt
    ]

pub pieces_elsewhere : (this count parity at : ℕ) (bytes : List ℕ)
    → ((position : ℕ) → (file_of parity position == this) ≡ false)
    → AreElsewhere this (piece_calls count parity at bytes)
pieces_elsewhere this zero parity at bytes apart =
    subst (AreElsewhere this) (sym (none_written parity at bytes)) tt
pieces_elsewhere this (suc count) parity at bytes apart =
    elim (cases_lt 0 (length bytes)) [
      | inl some ↦
          let len = next_len (log_with parity at bytes) in
          subst (AreElsewhere this) (sym (first_piece count parity at len bytes some refl))
          (apart at, pieces_elsewhere this count parity (at + len) (drop len bytes) apart)
      | inr none ↦ subst (AreElsewhere this) (sym (no_pieces (suc count) parity at bytes none)) tt
    ]

pub redo_elsewhere : (this parity from : ℕ) (bytes : List ℕ)
    → ((position : ℕ) → (file_of parity position == this) ≡ false) → AreElsewhere this (redo_calls parity from bytes)
redo_elsewhere this parity from bytes apart =
    both_elsewhere this (piece_calls (length bytes) parity from bytes)
    (sync_calls (length bytes) parity from (from + length bytes))
    (pieces_elsewhere this (length bytes) parity from bytes apart)
    (syncs_elsewhere this (length bytes) parity from (from + length bytes) apart)

-- none of them is the control file
pub not_control : (parity position : ℕ) → (file_of parity position == CONTROL_FILE) ≡ false
not_control parity position =
    ne_eqb (file_of parity position) CONTROL_FILE (λ same. absurd (omega (arith, same)))
