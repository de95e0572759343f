-- The words of a line.
use Rattle.std.specs.Prelude.{ℕ, Bool, true, false, ◌==◌, List, [], ◌∷◌, filter, Option, None, Some}
use Rattle.std.specs.List.{slice_split}

-- what is between words
abbrev pub is_space : ℕ → Bool
is_space byte = byte == 32

abbrev pub is_word : List ℕ → Bool
is_word [] = false
is_word (byte ∷ part) = true

-- the parts between spaces that are not empty
abbrev pub words : List ℕ → List (List ℕ)
words line = filter is_word (slice_split is_space line)

-- there is no word
abbrev pub no_words : List (List ℕ) → Bool
no_words [] = true
no_words (first ∷ more) = false

-- the one word that there is
abbrev pub one_word : List (List ℕ) → Option (List ℕ)
one_word [] = None
one_word (first ∷ []) = Some first
one_word (first ∷ second ∷ more) = None

-- the two words that there are
abbrev pub two_words : List (List ℕ) → Option (List ℕ × List ℕ)
two_words [] = None
two_words (first ∷ []) = None
two_words (first ∷ second ∷ []) = Some (first, second)
two_words (first ∷ second ∷ third ∷ more) = None

-- one word or two; the second is empty where there is one
abbrev pub one_or_two : List (List ℕ) → Option (List ℕ × List ℕ)
one_or_two [] = None
one_or_two (first ∷ []) = Some (first, [])
one_or_two (first ∷ second ∷ []) = Some (first, second)
one_or_two (first ∷ second ∷ third ∷ more) = None
