-- What the picks leave of a disk is an image of it.
use Rattle.std.proofs.Common.{◌≡◌, ◌∙◌, ◌⊎◌, ℕ, zero, suc, ◌+◌, ◌-◌, ◌≤◌, ◌<◌, Bool, false, nat_le, nat_lt, ◌&&◌, List}
use Rattle.std.proofs.Common.{[], ◌∷◌, ◌++◌, length, take, drop, replicate, get_or, refl, ap, sym, subst, arith, inl}
use Rattle.std.proofs.Common.{inr, length-append}
use Rattle.std.proofs.lemmas.Bool.{and_cases, leb-false, ltb-false, or_parts}
use Rattle.std.proofs.lemmas.List.{get_or-append_right, get_or-drop, get_or-take, get_or_append_left, length-drop}
use Rattle.std.proofs.lemmas.List.{length-replicate, length-take, length-take-le}
use Rattle.std.proofs.lemmas.List.Elements.{All-append, All-drop, All-head, All-replicate, All-tail, All-take}
use Rattle.std.specs.List.{All, list_any}
use Rattle.host_io.specs.declared.dirty.DirtyRange.{DirtyRange}
use Rattle.host_io.specs.DiskState.{FileState, LiesWithin, fresh_file}
use Rattle.host_io.specs.Image.{AreBytes, IsImage}
use Rattle.host_io.specs.Outcome.{Spoiled, crash, crashed, next_pick, next_picks, over_range, share, spoiled}
use Rattle.host_io.proofs.StateLemmas.{IsByte, IsSound}

abbrev pub covers : ℕ → DirtyRange → Bool
covers at range = nat_le range.from at && nat_lt at range.to

-- a place that a range doesn't cover lies before it or behind it
pub outside : (at : ℕ) (range : DirtyRange) → covers at range ≡ false → (at < range.from) ⊎ (range.to ≤ at)
outside at range free =
    elim (and_cases (nat_le range.from at) (nat_lt at range.to) free) [
      | inl before ↦ inl (leb-false range.from at before)
      | inr behind ↦ inr (ltb-false at range.to behind)
    ]

length_picks : (count : ℕ) (picks : List ℕ) → length (next_picks count picks) ≡ count
unfolding next_picks
length_picks count picks =
    rw (
      length-append (take count picks) (replicate (count - length picks) 0),
      length-take count picks,
      length-replicate {A = ℕ} (count - length picks) 0,
    )
    (omega arith)

picks_are_bytes : (count : ℕ) (picks : List ℕ) → AreBytes picks → AreBytes (next_picks count picks)
unfolding next_picks
picks_are_bytes count picks are =
    All-append
    IsByte
    (take count picks)
    (replicate (count - length picks) 0)
    (All-take IsByte count picks are)
    (All-replicate IsByte (count - length picks) 0 (omega arith))

length_front : (range : DirtyRange) (bytes picks : List ℕ) → LiesWithin (length bytes) range
    → length (take range.from bytes ++ next_picks (range.to - range.from) picks) ≡ range.to
length_front range bytes picks within =
    rw (
      length-append (take range.from bytes) (next_picks (range.to - range.from) picks),
      length_picks (range.to - range.from) picks,
      length-take-le range.from bytes (omega (arith, within.0, within.1)),
    )
    (omega (arith, within.0))

length_over : (range : DirtyRange) (bytes picks : List ℕ) → LiesWithin (length bytes) range
    → length (over_range range bytes picks) ≡ length bytes
unfolding over_range
length_over range bytes picks within =
    rw (
      length-append (take range.from bytes ++ next_picks (range.to - range.from) picks) (drop range.to bytes),
      length_front range bytes picks within,
      length-drop range.to bytes,
    )
    (omega (arith, within.1))

over_elsewhere : (range : DirtyRange) (bytes picks : List ℕ) (at : ℕ) → LiesWithin (length bytes) range
    → covers at range ≡ false → get_or (over_range range bytes picks) at 0 ≡ get_or bytes at 0
unfolding over_range
over_elsewhere range bytes picks at within free = by (outside at range free)
  where
    long : length (take range.from bytes ++ next_picks (range.to - range.from) picks) ≡ range.to
    long = length_front range bytes picks within

    short : length (take range.from bytes) ≡ range.from
    short = length-take-le range.from bytes (omega (arith, within.0, within.1))

    by : (at < range.from) ⊎ (range.to ≤ at) → get_or (over_range range bytes picks) at 0 ≡ get_or bytes at 0
    by (inl before) =
        get_or_append_left
        (take range.from bytes ++ next_picks (range.to - range.from) picks)
        (drop range.to bytes)
        0
        at
        (omega (arith, long, before, within.0))
        ∙ get_or_append_left
        (take range.from bytes)
        (next_picks (range.to - range.from) picks)
        0
        at
        (omega (arith, short, before))
        ∙ get_or-take range.from bytes at 0 before
    by (inr behind) =
        get_or-append_right
        (take range.from bytes ++ next_picks (range.to - range.from) picks)
        (drop range.to bytes)
        range.to
        at
        0
        long
        behind
        ∙ get_or-drop range.to bytes (at - range.to) 0
        ∙ ap (λ place. get_or bytes place 0) (omega (arith, behind))

-- what crashed ranges leave of bytes: as many, and the same but for those ranges
pub record KeepsClean (ranges : List DirtyRange) (old : List ℕ) (left : Spoiled) : Type 0 where
  pub long : length left.bytes ≡ length old
  pub are : AreBytes left.bytes
  pub others : AreBytes left.picks
  pub same : (at : ℕ) → list_any (covers at) ranges ≡ false → get_or left.bytes at 0 ≡ get_or old at 0

pub spoiled_keeps : (ranges : List DirtyRange) (bytes picks : List ℕ) → All (LiesWithin (length bytes)) ranges
    → AreBytes bytes → AreBytes picks → KeepsClean ranges bytes (spoiled ranges bytes picks)
unfolding over_range
spoiled_keeps [] bytes picks within are from =
    record { long = refl; are = are; others = from; same = λ at free. refl }
spoiled_keeps (range ∷ ranges) bytes picks within are from =
    let count = range.to - range.from in
    let over = over_range range bytes picks in
    let here = All-head (LiesWithin (length bytes)) range ranges within in
    let long = length_over range bytes picks here in
    let are_over : AreBytes (over_range range bytes picks)
    = All-append
    IsByte
    (take range.from bytes ++ next_picks count picks)
    (drop range.to bytes)
    (All-append
    IsByte
    (take range.from bytes)
    (next_picks count picks)
    (All-take IsByte range.from bytes are)
    (picks_are_bytes count picks from))
    (All-drop IsByte range.to bytes are) in
    let rest = spoiled_keeps
    ranges
    over
    (drop count picks)
    (subst
    (λ (size : ℕ). All (LiesWithin size) ranges)
    (sym long)
    (All-tail (LiesWithin (length bytes)) range ranges within))
    are_over
    (All-drop IsByte count picks from) in
    record {
      long = rest.long ∙ long;
      are = rest.are;
      others = rest.others;
      same =
          λ at free.
          let parts = or_parts (covers at range) (list_any (covers at) ranges) free in
          rest.same at parts.1 ∙ over_elsewhere range bytes picks at here parts.0;
    }

cut_short : (old left : List ℕ) (synced extra : ℕ) → length left ≡ length old → synced ≤ length old
    → (synced ≤ length (take (synced + extra) left)) × (length (take (synced + extra) left) ≤ length old)
cut_short old left synced extra long to_synced =
    let size = length-take (synced + extra) left in
    (omega (arith, size, long, to_synced), omega (arith, size, long))

-- a file after a crash is an image of it, and the picks that are left are bytes
pub crashed_image : (s : FileState) (picks : List ℕ) → IsSound s → AreBytes picks → IsImage s (crashed s picks).bytes
unfolding crashed
crashed_image s picks sound from =
    let left = spoiled s.dirty s.bytes (drop 1 picks) in
    let keeps =
    spoiled_keeps s.dirty s.bytes (drop 1 picks) sound.ranges sound.are_bytes (All-drop IsByte 1 picks from) in
    let extra = share (length s.bytes - s.synced) (next_pick picks) in
    let ends = cut_short s.bytes left.bytes s.synced extra keeps.long sound.to_synced in
    record {
      bytes = All-take IsByte (s.synced + extra) left.bytes keeps.are;
      from_synced = ends.0;
      to_end = ends.1;
      clean =
          λ at below free.
          get_or-take (s.synced + extra) left.bytes at 0 (omega (arith, below)) ∙ keeps.same at free;
    }

pub crashed_picks : (s : FileState) (picks : List ℕ) → IsSound s → AreBytes picks → AreBytes (crashed s picks).picks
unfolding crashed
crashed_picks s picks sound from =
    (spoiled_keeps s.dirty s.bytes (drop 1 picks) sound.ranges sound.are_bytes (All-drop IsByte 1 picks from)).others

pub crash_length : (files : List FileState) (picks : List ℕ) → length (crash files picks).files ≡ length files
crash_length [] picks = refl
crash_length (s ∷ files) picks = ap suc (crash_length files (crashed s picks).picks)

-- and so is each file of a disk
pub crash_images : (files : List FileState) (picks : List ℕ) → All IsSound files → AreBytes picks → (k : ℕ)
    → k < length files → IsImage (get_or files k fresh_file) (get_or (crash files picks).files k [])
crash_images [] picks sound from k below = absurd (omega (arith, below))
crash_images (s ∷ files) picks sound from zero below = crashed_image s picks (All-head IsSound s files sound) from
crash_images (s ∷ files) picks sound from (suc k) below =
    let here = All-head IsSound s files sound in
    crash_images
    files
    (crashed s picks).picks
    (All-tail IsSound s files sound)
    (crashed_picks s picks here from)
    k
    (omega (arith, below))
