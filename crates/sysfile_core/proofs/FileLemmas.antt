-- What a write leaves of what stands outside of its piece, and what a crash leaves of bytes that are kept.
use Rattle.std.proofs.Common.{◌≡◌, ◌∙◌, ◌⊎◌, ℕ, ◌+◌, ◌≤◌, ◌<◌, Bool, true, false, nat_le, nat_lt, ◌&&◌, List, [], ◌∷◌}
use Rattle.std.proofs.Common.{length, get_or, refl, arith, inl, inr}
use Rattle.std.specs.Prelude.{min, ◌||◌}
use Rattle.std.specs.List.{list_any}
use Rattle.std.proofs.lemmas.Bool.{and_left, and_right, le-ltb, lt-leb, true≢false}
use Rattle.std.proofs.lemmas.List.Folds.{list_any-append}
use Rattle.host_io.specs.declared.dirty.DirtyRange.{DirtyRange}
use Rattle.host_io.specs.DiskState.{FileState, dirtied, is_dirty, laid, settled, written}
use Rattle.host_io.specs.Image.{IsImage}
use Rattle.host_io.proofs.LaidLemmas.{laid_elsewhere}
use Rattle.host_io.proofs.StateLemmas.{laid_grows}

-- a range has a place
abbrev covers : ℕ → DirtyRange → Bool
covers p range = nat_le range.from p && nat_lt p range.to

outside_range : (p from to : ℕ) → (p < from) ⊎ (to ≤ p) → (nat_le from p && nat_lt p to) ≡ false
outside_range p from to (inl before) = and_left (nat_le from p) (nat_lt p to) (lt-leb from p before)
outside_range p from to (inr behind) = and_right (nat_le from p) (nat_lt p to) (le-ltb p to behind)

outside_dirtied : (at asked before now p : ℕ) → p < before → (p < at) ⊎ (at + asked ≤ p)
    → covers p (dirtied at asked before now) ≡ false
outside_dirtied at asked before now p old (inl early) =
    outside_range p (min at before) (min (at + asked) now) (inl (omega (arith, old, early)))
outside_dirtied at asked before now p old (inr late) =
    outside_range p (min at before) (min (at + asked) now) (inr (omega (arith, late)))

neither : (x y : Bool) → x ≡ false → y ≡ false → (x || (y || false)) ≡ false
neither true y one other = absurd (true≢false one)
neither false true one other = absurd (true≢false other)
neither false false one other = refl

-- a place that a write doesn't ask for is as clean as before
pub clean_written : (s : FileState) (at asked : ℕ) (piece : List ℕ) (p : ℕ) → p < length s.bytes
    → (p < at) ⊎ (at + asked ≤ p) → is_dirty s p ≡ false → is_dirty (written s at asked piece) p ≡ false
clean_written s at asked piece p old apart clean =
    let range = dirtied at asked (length s.bytes) (length (laid at piece s.bytes)) in
    let new : covers p range ≡ false =
    outside_dirtied at asked (length s.bytes) (length (laid at piece s.bytes)) p old apart in
    list_any-append (covers p) s.dirty (range ∷ []) ∙ neither (list_any (covers p) s.dirty) (covers p range) clean new

-- The bytes from one place up to another are those of `old`, and no crash changes them.
pub record Keeps (old : List ℕ) (from to : ℕ) (s : FileState) : Type 0 where
  pub synced : to ≤ s.synced
  pub ends : s.synced ≤ length s.bytes
  pub clean : (at : ℕ) → from ≤ at → at < to → is_dirty s at ≡ false
  pub same : (at : ℕ) → from ≤ at → at < to → get_or s.bytes at 0 ≡ get_or old at 0

apart_at : (from to at asked p : ℕ) → from ≤ p → p < to → (to ≤ at) ⊎ (at + asked ≤ from) → (p < at) ⊎ (at + asked ≤ p)
apart_at from to at asked p low high (inl before) = inl (omega (arith, high, before))
apart_at from to at asked p low high (inr behind) = inr (omega (arith, low, behind))

fewer_apart : (at asked count p : ℕ) → count ≤ asked → (p < at) ⊎ (at + asked ≤ p) → (p < at) ⊎ (at + count ≤ p)
fewer_apart at asked count p few (inl before) = inl before
fewer_apart at asked count p few (inr behind) = inr (omega (arith, few, behind))

pub keeps_written : (old : List ℕ) (from to : ℕ) (s : FileState) (at asked : ℕ) (piece : List ℕ) → Keeps old from to s
    → length piece ≤ asked → (to ≤ at) ⊎ (at + asked ≤ from) → Keeps old from to (written s at asked piece)
keeps_written old from to s at asked piece k few apart =
    record {
      synced = k.synced;
      ends = omega (arith, k.ends, laid_grows at piece s.bytes);
      clean =
          λ p low high.
          clean_written s at asked piece p (omega (arith, high, k.synced, k.ends))
          (apart_at from to at asked p low high apart)
          (k.clean p low high);
      same =
          λ p low high.
          laid_elsewhere at piece s.bytes p (omega (arith, high, k.synced, k.ends))
          (fewer_apart at asked (length piece) p few (apart_at from to at asked p low high apart))
          ∙ k.same p low high;
    }

pub keeps_settled : (old : List ℕ) (from to : ℕ) (s : FileState) → Keeps old from to s
    → Keeps old from to (settled s.bytes)
keeps_settled old from to s k =
    record {
      synced = omega (arith, k.synced, k.ends);
      ends = omega arith;
      clean = λ p low high. refl;
      same = k.same;
    }

-- the bytes of a file of which nothing is dirty are kept
pub settled_keeps : (bytes : List ℕ) (from to : ℕ) → to ≤ length bytes → Keeps bytes from to (settled bytes)
settled_keeps bytes from to within =
    record { synced = within; ends = omega arith; clean = λ p low high. refl; same = λ p low high. refl }

pub keeps_image : (old : List ℕ) (from to : ℕ) (s : FileState) (image : List ℕ) → Keeps old from to s → IsImage s image
    → (p : ℕ) → from ≤ p → p < to → get_or image p 0 ≡ get_or old p 0
keeps_image old from to s image k one p low high =
    one.clean p (omega (arith, high, k.synced)) (k.clean p low high) ∙ k.same p low high
