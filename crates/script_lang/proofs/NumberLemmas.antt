-- Reading a number digit by digit.
use Rattle.std.proofs.Common.{◌≡◌, ℕ, List, [], ◌∷◌, ap, sym, ◌∙◌}
use Rattle.std.specs.Prelude.{Option, None, Some}
use Rattle.script_lang.specs.Number.{read_digits, read_next, with_digit}

-- a digit that can't be read ends it
pub reading_ends : (most value byte : ℕ) (word rest : List ℕ) (r : Option ℕ) → read_digits most value word ≡ r
    → word ≡ byte ∷ rest
    → with_digit most value byte ≡ None → None ≡ r
reading_ends most value byte word rest r reads is none =
    sym (ap (read_next (λ next. read_digits most next rest)) none) ∙ sym (ap (read_digits most value) is) ∙ reads

-- and one that can goes on with the rest
pub reading_goes_on : (most value next byte : ℕ) (word rest : List ℕ) (r : Option ℕ) → read_digits most value word ≡ r
    → word ≡ byte ∷ rest
    → with_digit most value byte ≡ Some next → read_digits most next rest ≡ r
reading_goes_on most value next byte word rest r reads is some =
    sym (ap (read_next (λ next. read_digits most next rest)) some) ∙ sym (ap (read_digits most value) is) ∙ reads

-- at the end nothing is left to read
pub reading_done : (most value : ℕ) (word : List ℕ) (r : Option ℕ) → read_digits most value word ≡ r → word ≡ []
    → Some value ≡ r
reading_done most value word r reads is = sym (ap (read_digits most value) is) ∙ reads

pub ruleset reads = (reading_ends, reading_goes_on, reading_done)
