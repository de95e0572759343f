-- Words on lists that have the newest entry first.
use Rattle.std.specs.Prelude.{◌≡◌, ◌⊎◌, List, [], ◌∷◌, ◌++◌}

-- P holds of each entry
abbrev pub Each : {A : Type 0} → (A → Type 0) → List A → Type 0
Each P [] = Unit {0}
Each P (x ∷ xs) = P x × Each P xs

-- x is one of the entries
abbrev pub IsIn : {A : Type 0} → A → List A → Type 0
IsIn x [] = ⊥
IsIn x (y ∷ ys) = (x ≡ y) ⊎ IsIn x ys

-- the list has an entry
abbrev pub HasEntry : {A : Type 0} → List A → Type 0
HasEntry [] = ⊥
HasEntry (x ∷ xs) = Unit {0}

-- `past` is an older part of `all`: newer entries in front of it make up the whole
pub record IsPast {A : Type 0} (past all : List A) : Type 0 where
  pub newer : List A
  pub is : all ≡ newer ++ past
