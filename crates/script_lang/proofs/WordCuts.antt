-- How a line falls into words.
use Rattle.std.proofs.Common.{◌≡◌, ℕ, suc, ◌+◌, ◌≤◌, List, [], ◌∷◌, length, take, drop, Bool, true, false, cond, not}
use Rattle.std.proofs.Common.{refl, ap, sym, subst, ◌∙◌, arith}
use Rattle.std.specs.Prelude.{None, Some, position, nat_lt, filter}
use Rattle.std.specs.List.{position_or_len, before_first, after_first, slice_split, onto_first}
use Rattle.std.proofs.lemmas.Bool.{ne_eqb}
use Rattle.std.proofs.lemmas.Bool.Decides.{nat_tests}
use Rattle.std.proofs.lemmas.List.{take_all, take_rest, drop_all}
use Rattle.std.proofs.lemmas.List.Splits.{slice_split-cons_yes, slice_split-cons_no}
use Rattle.script_lang.specs.Words.{words, is_space, is_word}

-- what a place says that may be past the end
at_place : (b : Bool) (n i : ℕ) → cond b (Some n) None ≡ Some i → n ≡ i
at_place true n i e = cc
at_place false n i e = cc

past_place : (b : Bool) (n : ℕ) → cond b (Some n) None ≡ None → b ≡ false
past_place true n e = cc
past_place false n e = refl

pub before_found : (p : ℕ → Bool) (xs : List ℕ) (i : ℕ) → position p xs ≡ Some i → take i xs ≡ before_first p xs
before_found p xs i e = sym (ap (λ n. take n xs) (at_place _ _ i e))

pub after_found : (p : ℕ → Bool) (xs : List ℕ) (i : ℕ) → position p xs ≡ Some i → drop (i + 1) xs ≡ after_first p xs
after_found p xs i e = sym (ap (λ n. drop (n + 1) xs) (at_place _ _ i e))

pub none_left : (p : ℕ → Bool) (xs : List ℕ) → position p xs ≡ None → length xs ≤ position_or_len p xs
none_left p xs e =
    let past : nat_lt (position_or_len p xs) (length xs) ≡ false = past_place _ _ e in
    grind (arith, nat_tests, past)

pub before_none : (p : ℕ → Bool) (xs : List ℕ) → position p xs ≡ None → xs ≡ before_first p xs
before_none p xs e = sym (take_all (position_or_len p xs) xs (none_left p xs e))

pub after_none : (p : ℕ → Bool) (xs : List ℕ) → position p xs ≡ None → [] ≡ after_first p xs
after_none p xs e = sym (drop_all (position_or_len p xs + 1) xs (let past = none_left p xs e in omega arith))

pub ruleset cuts = (before_found, after_found, before_none, after_none, take_rest)

-- the part before the first space is the first part, and the others are those of what stands behind it
record IsCut (line : List ℕ) : Type 0 where
  parts : List (List ℕ)
  split : slice_split is_space line ≡ before_first is_space line ∷ parts
  rest : filter is_word parts ≡ words (after_first is_space line)

place-space : (byte : ℕ) (line : List ℕ) → is_space byte ≡ true → position_or_len is_space (byte ∷ line) ≡ 0
place-space byte line space = ap (λ b. cond (not b) (1 + position_or_len is_space line) 0) space

place-other : (byte : ℕ) (line : List ℕ) → is_space byte ≡ false
    → position_or_len is_space (byte ∷ line) ≡ suc (position_or_len is_space line)
place-other byte line other =
    let one_more : 1 + position_or_len is_space line ≡ suc (position_or_len is_space line) = omega arith in
    ap (λ b. cond (not b) (1 + position_or_len is_space line) 0) other ∙ one_more

cut_space : (byte : ℕ) (line : List ℕ) → is_space byte ≡ true → IsCut (byte ∷ line)
cut_space byte line space = record {
  parts = slice_split is_space line;
  split = slice_split-cons_yes is_space byte line space
      ∙ ap (λ n. take n (byte ∷ line) ∷ slice_split is_space line) (sym (place-space byte line space));
  rest = ap (λ n. words (drop (n + 1) (byte ∷ line))) (sym (place-space byte line space));
}

cut_other : (byte : ℕ) (line : List ℕ) → is_space byte ≡ false → IsCut line → IsCut (byte ∷ line)
cut_other byte line other cut = record {
  parts = cut.parts;
  split = slice_split-cons_no is_space byte line other ∙ ap (onto_first byte) cut.split
      ∙ ap (λ n. take n (byte ∷ line) ∷ cut.parts) (sym (place-other byte line other));
  rest = cut.rest ∙ (let shift : suc (position_or_len is_space line + 1) ≡ suc (position_or_len is_space line) + 1 =
      omega arith in
      ap (λ n. words (drop n (byte ∷ line))) shift)
      ∙ ap (λ n. words (drop (n + 1) (byte ∷ line))) (sym (place-other byte line other));
}

cut_by : (byte : ℕ) (line : List ℕ) (b : Bool) → is_space byte ≡ b → IsCut line → IsCut (byte ∷ line)
cut_by byte line true space cut = cut_space byte line space
cut_by byte line false other cut = cut_other byte line other cut

is_cut : (line : List ℕ) → IsCut line
is_cut [] = record { parts = []; split = refl; rest = refl }
is_cut (byte ∷ line) = cut_by byte line (is_space byte) refl (is_cut line)

-- a line that begins with another byte begins with a word, up to the first space
pub words-first : (byte : ℕ) (line : List ℕ) → is_space byte ≡ false
    → words (byte ∷ line) ≡ before_first is_space (byte ∷ line) ∷ words (after_first is_space (byte ∷ line))
words-first byte line other =
    let cut = is_cut (byte ∷ line) in
    ap (filter is_word) cut.split
    ∙ ap (λ n. filter is_word (take n (byte ∷ line) ∷ cut.parts)) (place-other byte line other)
    ∙ ap (λ n. take n (byte ∷ line) ∷ filter is_word cut.parts) (sym (place-other byte line other))
    ∙ ap (λ parts. before_first is_space (byte ∷ line) ∷ parts) cut.rest

-- the same, of a line and its first byte
pub words-word : (line : List ℕ) (byte : ℕ) (rest : List ℕ) → line ≡ byte ∷ rest → (byte ≡ 32 → ⊥)
    → words line ≡ before_first is_space line ∷ words (after_first is_space line)
words-word line byte rest is other =
    let P : List ℕ → Type 0 = λ l. words l ≡ before_first is_space l ∷ words (after_first is_space l) in
    subst P (sym is) (words-first byte rest (ne_eqb byte 32 other))
