-- Keys of a transaction, each once, in the order in which they were told.
use Rattle.std.specs.Prelude.{ℕ, Bool, true, false, List, [], ◌∷◌, ◌++◌}
use Rattle.std.specs.List.{list_any}
use Rattle.sig_core.specs.Same.{same_key}

-- the key is among these
abbrev pub has_key : List (List ℕ) → List ℕ → Bool
has_key keys key = list_any (same_key key) keys

abbrev pub with_key_if : List (List ℕ) → List ℕ → Bool → List (List ℕ)
with_key_if keys key true = keys
with_key_if keys key false = keys ++ key ∷ []

-- one more key, which stands last unless it is among them
unfoldable pub with_key : List (List ℕ) → List ℕ → List (List ℕ)
with_key keys key = with_key_if keys key (has_key keys key)
