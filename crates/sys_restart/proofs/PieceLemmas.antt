-- Bytes that are written to a file piece by piece.
use Rattle.std.proofs.Common.{◌≡◌, ◌∙◌, ℕ, zero, suc, ◌+◌, ◌-◌, ◌≤◌, ◌<◌, min, Bool, true, false, List, [], ◌∷◌, ◌++◌, length, take, drop, refl, ap, sym, subst, arith, inl, inr}
use Rattle.std.specs.Prelude.{Option, Some, Result, Ok, Err, OnErr}
use Rattle.std.proofs.lemmas.Bool.{cases_lt, true≢false}
use Rattle.std.proofs.lemmas.List.{drop-drop, drop_all, length-drop, take_all}
use Rattle.host_io.specs.Call.{Call, Synced, Wrote}
use Rattle.host_io.specs.Disk.{IsAdded, IsSynced, IsWritten}
use Rattle.host_io.specs.Fault.{Rose}
use Rattle.sig_core.specs.declared.piece.TheConstants.{PIECE_BYTES}
use Rattle.sysfile_core.specs.Runs.{Runs}
use Rattle.sys_restart.specs.Calls.{piece_calls}

no_pieces : (more file at : ℕ) → piece_calls more file at [] ≡ []
unfolding piece_calls
no_pieces zero file at = refl
no_pieces (suc more) file at = refl

-- the first piece, and those behind it
first_piece : (more file at : ℕ) (rest : List ℕ) → 0 < length rest
    → piece_calls (suc more) file at rest
    ≡ Wrote file at (take PIECE_BYTES rest) ∷ piece_calls more file (at + PIECE_BYTES) (drop PIECE_BYTES rest)
unfolding piece_calls
first_piece more file at [] some = absurd (omega (arith, some))
first_piece more file at (byte ∷ rest) some = refl

next_piece : (more file at len : ℕ) (rest : List ℕ) → 0 < length rest → len ≡ min PIECE_BYTES (length rest)
    → piece_calls (suc more) file at rest
    ≡ Wrote file at (take len rest) ∷ piece_calls more file (at + len) (drop len rest)
next_piece more file at len rest some is =
    elim (cases_lt (length rest) PIECE_BYTES) [
      | inl last ↦
          let whole : len ≡ length rest = omega (arith, is, last) in
          first_piece more file at rest some
          ∙ ap
          (λ piece. Wrote file at piece ∷ piece_calls more file (at + PIECE_BYTES) (drop PIECE_BYTES rest))
          (take_all PIECE_BYTES rest (omega (arith, last)) ∙ sym (take_all len rest (omega (arith, whole))))
          ∙ ap (λ calls. Wrote file at (take len rest) ∷ calls)
          (ap (piece_calls more file (at + PIECE_BYTES)) (drop_all PIECE_BYTES rest (omega (arith, last)))
          ∙ no_pieces more file (at + PIECE_BYTES)
          ∙ sym (ap (piece_calls more file (at + len)) (drop_all len rest (omega (arith, whole)))
          ∙ no_pieces more file (at + len)))
      | inr many ↦
          let full : PIECE_BYTES ≡ len = omega (arith, is, many) in
          first_piece more file at rest some
          ∙ ap (λ (n : ℕ). Wrote file at (take n rest) ∷ piece_calls more file (at + n) (drop n rest)) full
    ]

-- The record of a disk tells that bytes of a file were written up to a place: what the calls for the rest come to is
-- what those for all do.
pub record IsWriting (file at : ℕ) (bytes : List ℕ) (calls : List Call) (told : Option (List Call)) : Type 0 where
  pub now : List Call
  pub tells : told ≡ Some now
  pub more : ℕ
  pub few : length bytes - at ≤ more
  pub runs :
      (end : Option (List Call)) (ok : Bool) → Runs (piece_calls more file at (drop at bytes)) now end ok
      → Runs (piece_calls (length bytes) file 0 bytes) calls end ok

pub writing_begins : (file : ℕ) (bytes : List ℕ) (calls : List Call) (told : Option (List Call)) → told ≡ Some calls
    → IsWriting file 0 bytes calls told
writing_begins file bytes calls told is =
    record { now = calls; tells = is; more = length bytes; few = omega arith; runs = λ end ok runs. runs }

rest_size : (at : ℕ) (bytes : List ℕ) → length (drop at bytes) ≡ length bytes - at
rest_size at bytes = length-drop at bytes

-- the calls for the rest, of which the first writes this piece
rest_calls : (file at len more : ℕ) (bytes piece : List ℕ) → at < length bytes → length bytes - at ≤ suc more
    → len ≡ min PIECE_BYTES (length bytes - at) → piece ≡ take len (drop at bytes)
    → piece_calls (suc more) file at (drop at bytes)
    ≡ Wrote file at piece ∷ piece_calls more file (at + len) (drop (at + len) bytes)
rest_calls file at len more bytes piece some few is same =
    let size = rest_size at bytes in
    next_piece more file at len (drop at bytes) (omega (arith, size, some)) (omega (arith, size, is))
    ∙ ap (λ one. Wrote file at one ∷ piece_calls more file (at + len) (drop len (drop at bytes))) (sym same)
    ∙ ap (λ behind. Wrote file at piece ∷ piece_calls more file (at + len) behind)
    (drop-drop len at bytes ∙ ap (λ (n : ℕ). drop n bytes) (omega arith))

-- one more piece was written
pub writing_more : (file at len : ℕ) (bytes piece : List ℕ) (calls : List Call) (told after : Option (List Call))
    → IsWriting file at bytes calls told → at < length bytes → len ≡ min PIECE_BYTES (length bytes - at)
    → piece ≡ take len (drop at bytes)
    → ((now : List Call) → told ≡ Some now → IsWritten now after file at piece true)
    → IsWriting file (at + len) bytes calls after
writing_more file at len bytes piece calls told after writing some is same written =
    by writing.more writing.few writing.runs
  where
    added : IsAdded writing.now after (Wrote file at piece)
    added = written writing.now writing.tells

    by : (more : ℕ) → length bytes - at ≤ more
        → ((end : Option (List Call)) (ok : Bool) → Runs (piece_calls more file at (drop at bytes)) writing.now end ok
        → Runs (piece_calls (length bytes) file 0 bytes) calls end ok)
        → IsWriting file (at + len) bytes calls after
    by zero few runs = absurd (omega (arith, few, some))
    by (suc more) few runs = record {
      now = Wrote file at piece ∷ writing.now;
      tells = added.grown;
      more = more;
      few = omega (arith, few, is, some);
      runs = λ end ok rest.
          runs end ok
          (subst (λ asks. Runs asks writing.now end ok)
          (sym (rest_calls file at len more bytes piece some few is same)) (inr (added.allowed, rest)));
    }

-- a piece failed
pub writing_stops : (file at len : ℕ) (bytes piece : List ℕ) (calls : List Call) (told after : Option (List Call))
    → IsWriting file at bytes calls told → at < length bytes → len ≡ min PIECE_BYTES (length bytes - at)
    → piece ≡ take len (drop at bytes)
    → ((now : List Call) → told ≡ Some now → IsWritten now after file at piece false)
    → Runs (piece_calls (length bytes) file 0 bytes) calls after false
writing_stops file at len bytes piece calls told after writing some is same written =
    by writing.more writing.few writing.runs
  where
    by : (more : ℕ) → length bytes - at ≤ more
        → ((end : Option (List Call)) (ok : Bool) → Runs (piece_calls more file at (drop at bytes)) writing.now end ok
        → Runs (piece_calls (length bytes) file 0 bytes) calls end ok)
        → Runs (piece_calls (length bytes) file 0 bytes) calls after false
    by zero few runs = absurd (omega (arith, few, some))
    by (suc more) few runs =
        runs after false
        (subst (λ asks. Runs asks writing.now after false)
        (sym (rest_calls file at len more bytes piece some few is same))
        (inl (written writing.now writing.tells, refl)))

-- all were written
pub writing_ends : (file at : ℕ) (bytes : List ℕ) (calls : List Call) (told : Option (List Call))
    → IsWriting file at bytes calls told → length bytes ≤ at
    → Runs (piece_calls (length bytes) file 0 bytes) calls told true
writing_ends file at bytes calls told writing all =
    writing.runs told true
    (subst (λ asks. Runs asks writing.now told true)
    (sym (ap (piece_calls writing.more file at) (drop_all at bytes all) ∙ no_pieces writing.more file at))
    (writing.tells, refl))

-- calls of which one failed, and others that weren't made behind it
pub runs_stop : (asks more calls : List Call) (told : Option (List Call)) → Runs asks calls told false
    → Runs (asks ++ more) calls told false
runs_stop [] more calls told runs = absurd (true≢false (sym runs.1))
runs_stop (ask ∷ asks) more calls told (inl fails) = inl fails
runs_stop (ask ∷ asks) more calls told (inr (may, runs)) = inr (may, runs_stop asks more (ask ∷ calls) told runs)

-- a sync behind others
pub sync_runs : (file : ℕ) (calls : List Call) (told : Option (List Call)) (ok : Bool) → IsSynced calls told file ok
    → Runs (Synced file ∷ []) calls told ok
sync_runs file calls told true is = inr (is.allowed, (is.grown, refl))
sync_runs file calls told false is = inl (is, refl)

-- a count that rose behind calls that didn't lower it
pub rose_after : {A E : Type 0} (result : Result A E) (first before now : ℕ) → first ≤ before
    → OnErr result (Rose before now) → OnErr result (Rose first now)
rose_after (Ok a) first before now less is = tt
rose_after (Err fault) first before now less is = omega (arith, less, is)
