-- How a text falls into lines.
use Rattle.std.proofs.Common.{◌≡◌, ℕ, suc, ◌+◌, ◌≤◌, ◌<◌, List, [], ◌∷◌, ◌++◌, length, take, drop, Bool, true, false}
use Rattle.std.proofs.Common.{cond, not, refl, ap, sym, subst, ◌∙◌, arith}
use Rattle.std.specs.Prelude.{None, Some, position, nat_lt}
use Rattle.std.specs.List.{position_or_len, slice_split, onto_first}
use Rattle.std.proofs.lemmas.Bool.Decides.{nat_tests}
use Rattle.std.proofs.lemmas.List.Splits.{slice_split-cons_yes, slice_split-cons_no}
use Rattle.console.specs.Given.{is_newline}

place-yes : (byte : ℕ) (bytes : List ℕ) → is_newline byte ≡ true → position_or_len is_newline (byte ∷ bytes) ≡ 0
place-yes byte bytes is = ap (λ b. cond (not b) (1 + position_or_len is_newline bytes) 0) is

place-no : (byte : ℕ) (bytes : List ℕ) → is_newline byte ≡ false
    → position_or_len is_newline (byte ∷ bytes) ≡ suc (position_or_len is_newline bytes)
place-no byte bytes is =
    let one_more : 1 + position_or_len is_newline bytes ≡ suc (position_or_len is_newline bytes) = omega arith in
    ap (λ b. cond (not b) (1 + position_or_len is_newline bytes) 0) is ∙ one_more

-- up to the newline at a place stands one line, and the others are those of what follows
pub record SplitsAt (held : List ℕ) (at : ℕ) : Type 0 where
  pub lines : (more : List ℕ)
      → slice_split is_newline (held ++ more) ≡ take at held ∷ slice_split is_newline (drop (at + 1) held ++ more)

splits_here : (byte : ℕ) (bytes : List ℕ) → is_newline byte ≡ true → SplitsAt (byte ∷ bytes) 0
splits_here byte bytes is = record { lines = λ more. slice_split-cons_yes is_newline byte (bytes ++ more) is }

splits_later : (byte : ℕ) (bytes : List ℕ) (at : ℕ) → is_newline byte ≡ false → SplitsAt bytes at
    → SplitsAt (byte ∷ bytes) (suc at)
splits_later byte bytes at is later = record {
  lines = λ more.
      (let shift : suc (at + 1) ≡ suc at + 1 = omega arith in
      (slice_split-cons_no is_newline byte (bytes ++ more) is ∙ ap (onto_first byte) (later.lines more))
      ∙ ap (λ n. (byte ∷ take at bytes) ∷ slice_split is_newline (drop n (byte ∷ bytes) ++ more)) shift);
}

splits_by : (byte : ℕ) (bytes : List ℕ) (b : Bool) → is_newline byte ≡ b
    → position_or_len is_newline (byte ∷ bytes) < length (byte ∷ bytes)
    → (position_or_len is_newline bytes < length bytes → SplitsAt bytes (position_or_len is_newline bytes))
    → SplitsAt (byte ∷ bytes) (position_or_len is_newline (byte ∷ bytes))
splits_by byte bytes true is found later =
    subst (SplitsAt (byte ∷ bytes)) (sym (place-yes byte bytes is)) (splits_here byte bytes is)
splits_by byte bytes false is found later =
    let place = place-no byte bytes is in
    subst (SplitsAt (byte ∷ bytes)) (sym place) (splits_later byte bytes _ is (later (omega (arith, place, found))))

splits_found : (held : List ℕ) → position_or_len is_newline held < length held
    → SplitsAt held (position_or_len is_newline held)
splits_found [] found = absurd (omega arith)
splits_found (byte ∷ bytes) found = splits_by byte bytes (is_newline byte) refl found (splits_found bytes)

-- the place that was found, and that it lies within
found_at : (b : Bool) (n at : ℕ) → cond b (Some n) None ≡ Some at → (b ≡ true) × (n ≡ at)
found_at true n at e = (refl, cc)
found_at false n at e = cc

pub splits_at : (held : List ℕ) (at : ℕ) → position is_newline held ≡ Some at → SplitsAt held at
splits_at held at e =
    let found =
    found_at (nat_lt (position_or_len is_newline held) (length held)) (position_or_len is_newline held) at e in
    let within : position_or_len is_newline held < length held = grind (arith, nat_tests, found.0) in
    subst (SplitsAt held) found.1 (splits_found held within)

pub found_within : (held : List ℕ) (at : ℕ) → position is_newline held ≡ Some at → at < length held
found_within held at e =
    let found =
    found_at (nat_lt (position_or_len is_newline held) (length held)) (position_or_len is_newline held) at e in
    let within : position_or_len is_newline held < length held = grind (arith, nat_tests, found.0) in
    subst (λ n. n < length held) found.1 within

-- bytes with no newline are one line
pub record IsOneLine (held : List ℕ) : Type 0 where
  pub lines : slice_split is_newline held ≡ held ∷ []

one_line_by : (byte : ℕ) (bytes : List ℕ) (b : Bool) → is_newline byte ≡ b
    → length (byte ∷ bytes) ≤ position_or_len is_newline (byte ∷ bytes)
    → (length bytes ≤ position_or_len is_newline bytes → IsOneLine bytes) → IsOneLine (byte ∷ bytes)
one_line_by byte bytes true is none later = absurd (omega (arith, place-yes byte bytes is, none))
one_line_by byte bytes false is none later =
    let rest = later (omega (arith, place-no byte bytes is, none)) in
    record { lines = slice_split-cons_no is_newline byte bytes is ∙ ap (onto_first byte) rest.lines }

one_line_past : (held : List ℕ) → length held ≤ position_or_len is_newline held → IsOneLine held
one_line_past [] none = record { lines = refl }
one_line_past (byte ∷ bytes) none = one_line_by byte bytes (is_newline byte) refl none (one_line_past bytes)

not_found : (b : Bool) (n : ℕ) → cond b (Some n) None ≡ None → b ≡ false
not_found true n e = cc
not_found false n e = refl

pub one_line : (held : List ℕ) → position is_newline held ≡ None → IsOneLine held
one_line held e =
    let none = not_found (nat_lt (position_or_len is_newline held) (length held)) (position_or_len is_newline held) e in
    one_line_past held (grind (arith, nat_tests, none))
