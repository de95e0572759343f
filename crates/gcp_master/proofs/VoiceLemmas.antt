-- A confirmation more in the array.
use Rattle.std.proofs.Common.{◌≡◌, ◌<◌, ◌+◌, ◌-◌, zero, suc, length, ℕ, List, [], ◌∷◌, take, drop, refl, ap, sym, ◌∙◌}
use Rattle.std.proofs.Common.{arith, slice_set}
use Rattle.std.specs.Prelude.{replicate}
use Rattle.std.proofs.lemmas.List.{length-set}
use Rattle.sig_core.specs.Filled.{IsFilled, length-held}

-- behind the place that is set nothing changes
drop-set : {X : Type 0} (items : List X) (len : ℕ) (x : X)
    → drop (suc len) (slice_set items len x) ≡ drop (suc len) items
drop-set [] zero x = refl
drop-set [] (suc len) x = refl
drop-set (y ∷ items) zero x = refl
drop-set (y ∷ items) (suc len) x = drop-set items len x

drop-one : {X : Type 0} (items : List X) (len : ℕ) → drop (suc len) items ≡ drop 1 (drop len items)
drop-one [] zero = refl
drop-one [] (suc len) = refl
drop-one (y ∷ items) zero = refl
drop-one (y ∷ items) (suc len) = drop-one items len

one_less : {X : Type 0} (n : ℕ) (x : X) → drop 1 (replicate n x) ≡ replicate (n - 1) x
one_less zero x = refl
one_less (suc n) x = let e : suc n - 1 ≡ n = omega arith in ap (λ n. replicate n x) (sym e)

-- the array is still filled up
pub pushed : {X : Type 0} (filler : X) (items : List X) (len : ℕ) (x : X) → IsFilled filler 16 items len
    → length (take len items) < 16 → IsFilled filler 16 (slice_set items len x) (len + 1)
pushed filler items len x is few =
    let held = length-held is in
    let next : len + 1 ≡ suc len = omega arith in
    let less : (16 - len) - 1 ≡ 16 - (len + 1) = omega arith in
    record {
      fits = omega (arith, held, few);
      whole = length-set items len x ∙ is.whole;
      rest =
          ap (λ n. drop n (slice_set items len x)) next ∙ drop-set items len x ∙ drop-one items len
          ∙ ap (drop 1) is.rest ∙ one_less (16 - len) filler ∙ ap (λ n. replicate n filler) less;
    }
