-- Which keys have places.
use Rattle.std.specs.Prelude.{◌≡◌, if◌then◌else◌, ℕ, Bool, true, false, List, [], ◌∷◌, Option, None, Some}
use Rattle.sig_core.specs.declared.rows.Slot.{Slot}
use Rattle.sig_core.specs.Rows.{is_at}

-- the key has a place
abbrev pub has_place : List (Option Slot) → List ℕ → Bool
has_place [] key = false
has_place (slot ∷ places) key = if is_at key slot then true else has_place places key

-- no key has two
abbrev pub AreApart : List (Option Slot) → Type 0
AreApart [] = Unit {0}
AreApart (None ∷ places) = AreApart places
AreApart (Some slot ∷ places) = (has_place places slot.key ≡ false) × AreApart places
