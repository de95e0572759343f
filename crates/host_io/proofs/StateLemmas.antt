-- What the record of a disk leaves of a file: its bytes are bytes, and the synced end and the dirty ranges lie within.
use Rattle.std.proofs.Common.{◌≡◌, ℕ, ◌+◌, ◌-◌, ◌≤◌, ◌<◌, Bool, true, false, ◌==◌, List, [], ◌∷◌, ◌++◌, length, take}
use Rattle.std.proofs.Common.{drop, replicate, get_or, if◌then◌else◌, refl, ap, subst, arith, length-append}
use Rattle.std.proofs.lemmas.Bool.{eq-eqb}
use Rattle.std.proofs.lemmas.List.{ext_get_or, length-drop, length-replicate, length-take-le}
use Rattle.std.proofs.lemmas.List.Elements.{All-append, All-drop, All-nil, All-push, All-replicate, All-take}
use Rattle.std.proofs.lemmas.List.Elements.{All-weaker}
use Rattle.std.specs.List.{All}
use Rattle.host_io.specs.declared.limits.TheConstants.{FILES}
use Rattle.host_io.specs.Call.{Call, Wrote, Tore, Synced, Lost}
use Rattle.host_io.specs.DiskState.{FileState, LiesWithin, dirtied, filled_up, fresh_file, laid, put_over, settled}
use Rattle.host_io.specs.DiskState.{state_of, written}
use Rattle.host_io.specs.Image.{AreBytes, IsImage, IsRecord}
use Rattle.host_io.specs.Laws.{ReadsAsAnImage, SyncedIsKept}

pub record IsSound (s : FileState) : Type 0 where
  pub are_bytes : AreBytes s.bytes
  pub to_synced : s.synced ≤ length s.bytes
  pub ranges : All (λ range. LiesWithin (length s.bytes) range) s.dirty

abbrev pub IsByte : ℕ → Type 0
IsByte byte = byte < 256

pub length_filled : (end : ℕ) (bytes : List ℕ) → length (filled_up end bytes) ≡ length bytes + (end - length bytes)
length_filled end bytes =
    rw (length-append bytes (replicate (end - length bytes) 0))
    (ap (λ n. length bytes + n) (length-replicate (end - length bytes) 0))

-- how long a file is after a piece was laid down
pub length_put : (at : ℕ) (piece bytes : List ℕ) → at + length piece ≤ length bytes
    → length (put_over at piece bytes) ≡ length bytes
length_put at piece bytes fits =
    rw (
      length-append (take at bytes ++ piece) (drop (at + length piece) bytes),
      length-append (take at bytes) piece,
      length-drop (at + length piece) bytes,
      length-take-le at bytes (omega (arith, fits)),
    )
    (omega (arith, fits))

pub laid_grows : (at : ℕ) (piece bytes : List ℕ) → length bytes ≤ length (laid at piece bytes)
laid_grows at [] bytes = omega arith
laid_grows at (byte ∷ piece) bytes =
    let end = at + length (byte ∷ piece) in
    let full = length_filled end bytes in
    let put = length_put at (byte ∷ piece) (filled_up end bytes) (omega (arith, full)) in
    omega (arith, full, put)

pub laid_bytes : (at : ℕ) (piece bytes : List ℕ) → AreBytes piece → AreBytes bytes → AreBytes (laid at piece bytes)
laid_bytes at [] bytes new old = old
laid_bytes at (byte ∷ piece) bytes new old =
    let end = at + length (byte ∷ piece) in
    let full : AreBytes (filled_up end bytes)
    = All-append IsByte bytes (replicate (end - length bytes) 0) old
    (All-replicate IsByte (end - length bytes) 0 (omega arith)) in
    All-append
    IsByte
    (take at (filled_up end bytes) ++ (byte ∷ piece))
    (drop end (filled_up end bytes))
    (All-append IsByte (take at (filled_up end bytes)) (byte ∷ piece) (All-take IsByte at (filled_up end bytes) full)
    new)
    (All-drop IsByte end (filled_up end bytes) full)

dirtied_within : (at asked before now : ℕ) → before ≤ now → LiesWithin now (dirtied at asked before now)
dirtied_within at asked before now grows = (omega (arith, grows), omega (arith, grows))

-- the dirty ranges after a write lie within the file
pub ranges_grow : (s : FileState) (at asked : ℕ) (piece : List ℕ) → All (LiesWithin (length s.bytes)) s.dirty
    → All (LiesWithin (length (laid at piece s.bytes))) (written s at asked piece).dirty
ranges_grow s at asked piece ranges =
    let now = length (laid at piece s.bytes) in
    let grows = laid_grows at piece s.bytes in
    All-push
    (LiesWithin now)
    s.dirty
    (dirtied at asked (length s.bytes) now)
    (All-weaker
    (LiesWithin (length s.bytes))
    (LiesWithin now)
    (λ range within. (within.0, omega (arith, grows, within.1)))
    s.dirty
    ranges)
    (dirtied_within at asked (length s.bytes) now grows)

pub written_sound : (s : FileState) (at asked : ℕ) (piece : List ℕ) → IsSound s → AreBytes piece
    → IsSound (written s at asked piece)
written_sound s at asked piece sound new =
    record {
      are_bytes = laid_bytes at piece s.bytes new sound.are_bytes;
      to_synced = omega (arith, laid_grows at piece s.bytes, sound.to_synced);
      ranges = ranges_grow s at asked piece sound.ranges;
    }

pub settled_sound : (bytes : List ℕ) → AreBytes bytes → IsSound (settled bytes)
settled_sound bytes are =
    record { are_bytes = are; to_synced = omega arith; ranges = All-nil (LiesWithin (length bytes)) }

pub fresh_sound : IsSound fresh_file
fresh_sound =
    record { are_bytes = All-nil IsByte; to_synced = omega arith; ranges = All-nil (LiesWithin 0) }

either_sound : (same : Bool) (changed old : FileState) → IsSound changed → IsSound old
    → IsSound (if same then changed else old)
either_sound true changed old new before = new
either_sound false changed old new before = before

-- each file of a record is so
pub sound_of : (calls : List Call) (file : ℕ) → IsRecord calls → file < FILES → IsSound (state_of calls file)
sound_of [] file kept here = fresh_sound
sound_of (Wrote to at bytes ∷ calls) file kept here =
    let s = state_of calls file in
    let before = sound_of calls file kept.1 here in
    either_sound
    (to == file)
    (written s at (length bytes) bytes)
    s
    (written_sound s at (length bytes) bytes before kept.0.1)
    before
sound_of (Tore to at asked piece ∷ calls) file kept here =
    let s = state_of calls file in
    let before = sound_of calls file kept.1 here in
    either_sound
    (to == file)
    (written s at (length asked) piece)
    s
    (written_sound s at (length asked) piece before kept.0.2)
    before
sound_of (Synced to ∷ calls) file kept here =
    let s = state_of calls file in
    let before = sound_of calls file kept.1 here in
    either_sound (to == file) (settled s.bytes) s (settled_sound s.bytes before.are_bytes) before
sound_of (Lost files ∷ calls) file kept here = settled_sound (get_or files file []) (kept.0.1 file here).bytes

pub reads_as_an_image : ReadsAsAnImage
reads_as_an_image calls kept file here =
    let sound = sound_of calls file kept here in
    record {
      bytes = sound.are_bytes;
      from_synced = sound.to_synced;
      to_end = omega arith;
      clean = λ at below free. refl;
    }

-- a file of which nothing is dirty has one image
pub settled_is_kept : (bytes image : List ℕ) → IsImage (settled bytes) image → image ≡ bytes
settled_is_kept bytes image one =
    ext_get_or
    0
    image
    bytes
    (omega (arith, one.from_synced, one.to_end))
    (λ at below. one.clean at (omega (arith, below, one.to_end)) refl)

pub same_number : (n : ℕ) → (n == n) ≡ true
same_number n = eq-eqb n n refl

pub synced_is_kept : SyncedIsKept
synced_is_kept calls file image kept here one =
    settled_is_kept
    (state_of calls file).bytes
    image
    (subst
    (λ (same : Bool). IsImage (if same then settled (state_of calls file).bytes else state_of calls file) image)
    (same_number file)
    one)
