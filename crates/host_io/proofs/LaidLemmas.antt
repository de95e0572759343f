-- What laying a piece down makes of the bytes of a file, place by place.
use Rattle.std.proofs.Common.{◌≡◌, ◌∙◌, ◌⊎◌, ℕ, ◌+◌, ◌-◌, ◌≤◌, ◌<◌, List, [], ◌∷◌, ◌++◌, length, take, drop, replicate}
use Rattle.std.proofs.Common.{get_or, refl, ap, arith, inl, inr, length-append}
use Rattle.std.proofs.lemmas.List.{get_or-append_right, get_or-drop, get_or-take, get_or_append_left, length-take-le}
use Rattle.host_io.specs.DiskState.{filled_up, laid, put_over}
use Rattle.host_io.proofs.StateLemmas.{length_filled, length_put}

filled_below : (end : ℕ) (bytes : List ℕ) (p : ℕ) → p < length bytes
    → get_or (filled_up end bytes) p 0 ≡ get_or bytes p 0
filled_below end bytes p below = get_or_append_left bytes (replicate (end - length bytes) 0) 0 p below

put_before : (at : ℕ) (piece bytes : List ℕ) (p : ℕ) → p < at → at + length piece ≤ length bytes
    → get_or (put_over at piece bytes) p 0 ≡ get_or bytes p 0
put_before at piece bytes p before fits =
    let front : length (take at bytes) ≡ at = length-take-le at bytes (omega (arith, fits)) in
    let both = length-append (take at bytes) piece in
    get_or_append_left (take at bytes ++ piece) (drop (at + length piece) bytes) 0 p
    (omega (arith, front, both, before))
    ∙ get_or_append_left (take at bytes) piece 0 p (omega (arith, front, before))
    ∙ get_or-take at bytes p 0 before

put_behind : (at : ℕ) (piece bytes : List ℕ) (p : ℕ) → at + length piece ≤ p → at + length piece ≤ length bytes
    → get_or (put_over at piece bytes) p 0 ≡ get_or bytes p 0
put_behind at piece bytes p behind fits =
    let front : length (take at bytes) ≡ at = length-take-le at bytes (omega (arith, fits)) in
    let both : length (take at bytes ++ piece) ≡ at + length piece =
    length-append (take at bytes) piece ∙ ap (λ n. n + length piece) front in
    get_or-append_right (take at bytes ++ piece) (drop (at + length piece) bytes) (at + length piece) p 0 both behind
    ∙ get_or-drop (at + length piece) bytes (p - (at + length piece)) 0
    ∙ ap (λ (q : ℕ). get_or bytes q 0) (omega (arith, behind))

put_here : (at : ℕ) (piece bytes : List ℕ) (k : ℕ) → k < length piece → at + length piece ≤ length bytes
    → get_or (put_over at piece bytes) (at + k) 0 ≡ get_or piece k 0
put_here at piece bytes k within fits =
    let front : length (take at bytes) ≡ at = length-take-le at bytes (omega (arith, fits)) in
    let both = length-append (take at bytes) piece in
    get_or_append_left (take at bytes ++ piece) (drop (at + length piece) bytes) 0 (at + k)
    (omega (arith, front, both, within))
    ∙ get_or-append_right (take at bytes) piece at (at + k) 0 front (omega arith)
    ∙ ap (λ (q : ℕ). get_or piece q 0) (omega arith)

-- a place that a piece doesn't reach has the byte that it had
pub laid_elsewhere : (at : ℕ) (piece bytes : List ℕ) (p : ℕ) → p < length bytes → (p < at) ⊎ (at + length piece ≤ p)
    → get_or (laid at piece bytes) p 0 ≡ get_or bytes p 0
laid_elsewhere at [] bytes p below apart = refl
laid_elsewhere at (byte ∷ piece) bytes p below (inl before) =
    let end = at + length (byte ∷ piece) in
    let full = length_filled end bytes in
    put_before at (byte ∷ piece) (filled_up end bytes) p before (omega (arith, full)) ∙ filled_below end bytes p below
laid_elsewhere at (byte ∷ piece) bytes p below (inr behind) =
    let end = at + length (byte ∷ piece) in
    let full = length_filled end bytes in
    put_behind at (byte ∷ piece) (filled_up end bytes) p behind (omega (arith, full)) ∙ filled_below end bytes p below

-- a place of the piece has the piece's byte
pub laid_here : (at : ℕ) (piece bytes : List ℕ) (k : ℕ) → k < length piece
    → get_or (laid at piece bytes) (at + k) 0 ≡ get_or piece k 0
laid_here at [] bytes k within = absurd (omega (arith, within))
laid_here at (byte ∷ piece) bytes k within =
    let end = at + length (byte ∷ piece) in
    let full = length_filled end bytes in
    put_here at (byte ∷ piece) (filled_up end bytes) k within (omega (arith, full))

-- the file reaches the end of the piece
pub laid_reaches : (at : ℕ) (piece bytes : List ℕ) → 0 < length piece → at + length piece ≤ length (laid at piece bytes)
laid_reaches at [] bytes some = absurd (omega (arith, some))
laid_reaches at (byte ∷ piece) bytes some =
    let end = at + length (byte ∷ piece) in
    let full = length_filled end bytes in
    let put = length_put at (byte ∷ piece) (filled_up end bytes) (omega (arith, full)) in
    omega (arith, full, put)
