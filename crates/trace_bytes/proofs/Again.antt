-- Readers that read again what is written, whatever follows it.
use Rattle.std.proofs.Common.{◌≡◌, ℕ, ◌≤◌, Bool, false, List, ◌∷◌, ◌++◌, refl, ap, ◌∙◌, append_assoc, arith}
use Rattle.std.specs.Prelude.{Result, Ok, Err, nat_lt}
use Rattle.std.proofs.lemmas.Bool.{le-ltb}
use Rattle.redo_format.specs.Reading.{◌>>=◌, and_then, told, byte_at}
use Rattle.redo_format.proofs.Readers.{Reads}

pub record Again {A : Type 0} (Fits : A → Type 0) (spelled : A → List ℕ) (read : List ℕ → Result (A × List ℕ) ℕ) : Type
    0 where
  pub reads : (x : A) (rest : List ℕ) → Fits x → read (spelled x ++ rest) ≡ Ok (x, rest)

-- from a reader that reads nothing else besides
pub from_reads : {A : Type 0} {F G : A → Type 0} {s : A → List ℕ} {r : List ℕ → Result (A × List ℕ) ℕ}
    → Reads F s r → ((x : A) → G x → F x) → Again G s r
from_reads reads fits = record { reads = λ x rest is. reads.again x rest (fits x is) }

-- one thing and then another
pub both : {A B : Type 0} {F : A → Type 0} {s : A → List ℕ} {r : List ℕ → Result (A × List ℕ) ℕ}
    {G : B → Type 0} {t : B → List ℕ} {q : List ℕ → Result (B × List ℕ) ℕ}
    → Again F s r → Again G t q → Again {A = A × B} (λ p. F p.0 × G p.1) (λ p. s p.0 ++ t p.1) (and_then r (λ _. q))
both {A = A} {B = B} {s = s} {r = r} {t = t} {q = q} one other = record {
  reads = λ x rest fits.
      rw (append_assoc (s x.0) (t x.1) rest, one.reads x.0 (t x.1 ++ rest) fits.0, other.reads x.1 rest fits.1) refl;
}

-- the same, told in another way
pub again : {A B : Type 0} {F : A → Type 0} {s : A → List ℕ} {r : List ℕ → Result (A × List ℕ) ℕ}
    (f : A → B) → Again F s r → (x : A) (rest : List ℕ) → F x → told f r (s x ++ rest) ≡ Ok (f x, rest)
again f one x rest fits = ap (λ found. found >>= λ y. Ok (f y.0, y.1)) (one.reads x rest fits)

-- of a value of another type
pub again_as : {A B : Type 0} {F : A → Type 0} {s : A → List ℕ} {r : List ℕ → Result (A × List ℕ) ℕ}
    (G : B → Type 0) (f : A → B) (g : B → A) → Again F s r → ((y : B) → G y → F (g y)) → ((y : B) → G y → f (g y) ≡ y)
    → Again G (λ y. s (g y)) (told f r)
again_as G f g one fits same = record {
  reads = λ y rest is. again f one (g y) rest (fits y is) ∙ ap (λ x. Ok (x, rest)) (same y is);
}

-- a number that is known, from `least` to `most`, and what stands behind it
pub known_in : {A : Type 0} (least most : ℕ) (of : ℕ → List ℕ → Result (A × List ℕ) ℕ) (number : ℕ) (bytes : List ℕ)
    (x : A × List ℕ)
    → least ≤ number → number ≤ most → of number bytes ≡ Ok x
    → told (λ y. y.1) (and_then (byte_at least most) of) (number ∷ bytes) ≡ Ok x
known_in least most of number bytes x ge le is =
    let low : nat_lt number least ≡ false = le-ltb _ _ ge in
    let high : nat_lt most number ≡ false = le-ltb _ _ le in
    rw (low, high, is) refl

-- a kind that is known, and what stands behind it
pub known : {A : Type 0} (most : ℕ) (of : ℕ → List ℕ → Result (A × List ℕ) ℕ) (kind : ℕ) (bytes : List ℕ)
    (x : A × List ℕ)
    → kind ≤ most → of kind bytes ≡ Ok x → told (λ y. y.1) (and_then (byte_at 0 most) of) (kind ∷ bytes) ≡ Ok x
known most of kind bytes x le is = known_in 0 most of kind bytes x (omega arith) le is
