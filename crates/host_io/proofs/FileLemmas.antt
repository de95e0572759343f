-- What the calls of a file in memory make of its bytes.
use Rattle.std.proofs.Common.{◌≡◌, ◌∙◌, ℕ, ◌+◌, ◌-◌, ◌*◌, ◌/◌, ◌≤◌, ◌<◌, ◌^◌, List, [], ◌∷◌, ◌++◌, length, take, drop}
use Rattle.std.proofs.Common.{replicate, refl, ap, sym, subst, arith, append_assoc, length-append}
use Rattle.std.proofs.Math.Nat.{div-le_of_le-mul, mul-le-mul, mul-le-mul_left}
use Rattle.std.proofs.lemmas.List.{append-nil, drop-drop, drop_more, take_all}
use borrow.Rule.Slice.PartMut.{put_mid}
use Rattle.host_io.specs.DiskState.{filled_up, laid, put_over}
use Rattle.host_io.specs.Outcome.{next_picks, over_range, share}
use Rattle.host_io.proofs.StateLemmas.{laid_grows, length_filled, length_put, ranges_grow}

-- a share is part of the whole, and is found without an overflow
pub share_within : (whole pick : ℕ) → pick < 256 → share whole pick ≤ whole
unfolding share
share_within whole pick byte =
    div-le_of_le-mul 255 (omega (arith, mul-le-mul_left {m = pick} {n = 255} whole (omega (arith, byte))))

pub product_fits : (whole pick : ℕ) → whole ≤ 2 ^ 32 → pick < 256 → whole * pick < 2 ^ 64
product_fits whole pick small byte =
    omega (arith, mul-le-mul {n₁ = whole} {m₁ = pick} {n₂ = 2 ^ 32} {m₂ = 255} small (omega (arith, byte)))

-- bytes that reach an end, and those that are filled up to it
pub filled_already : (end : ℕ) (bytes : List ℕ) → end ≤ length bytes → filled_up end bytes ≡ bytes
filled_already end bytes reach =
    let none : 0 ≡ end - length bytes = omega (arith, reach) in
    subst (λ (n : ℕ). bytes ++ replicate n 0 ≡ bytes) none (append-nil bytes)

pub kept_whole : (end : ℕ) (bytes : List ℕ) → length bytes ≤ end → take end bytes ≡ bytes
kept_whole end bytes short = take_all end bytes short

-- a piece that is put over bytes that reach its end
pub piece_put : (at count : ℕ) (piece bytes : List ℕ) → count ≡ length piece
    → put_mid at count bytes piece ≡ put_over at piece bytes
piece_put at count piece bytes size =
    subst
    (λ (n : ℕ). put_mid at n bytes piece ≡ put_over at piece bytes)
    (sym size)
    (rw (append_assoc (take at bytes) piece (drop (at + length piece) bytes), drop-drop) refl)

pub laid_some : (at : ℕ) (piece bytes : List ℕ) → 0 < length piece
    → put_over at piece (filled_up (at + length piece) bytes) ≡ laid at piece bytes
laid_some at [] bytes some = absurd (omega (arith, some))
laid_some at (byte ∷ piece) bytes some = refl

pub laid_nothing : (at : ℕ) (piece bytes : List ℕ) → length piece ≡ 0 → laid at piece bytes ≡ bytes
laid_nothing at [] bytes none = refl
laid_nothing at (byte ∷ piece) bytes none = absurd (omega (arith, none))

-- how far a file goes after a piece was laid down
pub laid_ends : (at top : ℕ) (piece bytes : List ℕ) → length bytes ≤ top → at + length piece ≤ top
    → length (laid at piece bytes) ≤ top
laid_ends at top [] bytes old new = old
laid_ends at top (byte ∷ piece) bytes old new =
    let end = at + length (byte ∷ piece) in
    let full = length_filled end bytes in
    let put = length_put at (byte ∷ piece) (filled_up end bytes) (omega (arith, full)) in
    omega (arith, full, put, old, new)

-- one pick more is used up
pub pick_more : (used : ℕ) (picks : List ℕ) → drop (used + 1) picks ≡ drop 1 (drop used picks)
pick_more used picks = sym (drop-drop 1 used picks)

-- a range that has taken the next picks
pub range_put : (from to count : ℕ) (bytes new picks : List ℕ) → from ≤ to → count ≡ to - from
    → new ≡ next_picks count picks
    → put_mid from (to - from) bytes new ≡ over_range (record { from = from; to = to }) bytes picks
unfolding over_range
range_put from to count bytes new picks order size taken =
    let taken_all : new ≡ next_picks (to - from) picks = subst (λ (n : ℕ). new ≡ next_picks n picks) size taken in
    let behind : drop (to - from) (drop from bytes) ≡ drop to bytes
    = drop-drop (to - from) from bytes ∙ ap (λ (n : ℕ). drop n bytes) (omega (arith, order)) in
    rw (taken_all, behind) (sym (append_assoc (take from bytes) (next_picks (to - from) picks) (drop to bytes)))

pub ruleset laying = (ranges_grow, laid_ends, laid_grows)

pub ruleset putting = (piece_put, laid_some, laid_nothing, length_filled)

pub ruleset filling = (filled_already, kept_whole)

pub ruleset sharing = (product_fits, share_within)

pub ruleset spoiling = (drop_more)

pub ruleset picking = (drop-drop, pick_more)
