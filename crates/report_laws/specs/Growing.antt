-- Histories of larger cuts have what those of smaller ones have.
use Rattle.std.specs.Prelude.{◌≡◌, ◌⊎◌, ℕ, List, [], ◌∷◌}
use Rattle.run_theory.specs.Cuts.{IsCut}
use Rattle.world_core.specs.History.{history}
use Rattle.world_core.specs.Hosts.{hosts}
use Rattle.world_core.specs.Start.{Start}
use Rattle.world_core.specs.Steps.{HostStep}

-- the list begins with x, and P holds of the rest of it
pub record BeginsWith {A : Type 0} (P : List A → Type 0) (x : A) (list : List A) : Type 0 where
  pub rest : List A
  pub is : list ≡ x ∷ rest
  pub holds : P rest

-- the first list is the second with some items left out
abbrev pub IsSublist : {A : Type 0} → List A → List A → Type 0
IsSublist list [] = list ≡ []
IsSublist list (x ∷ others) = IsSublist list others ⊎ BeginsWith (λ rest. IsSublist rest others) x list

-- of two cuts, one within the other, the smaller one's history is that of the larger one with some entries left out
abbrev pub HistoriesGrow : Type 0
HistoriesGrow =
    (start : Start) (small large : ℕ → List HostStep) → IsCut small large
    → IsSublist (history (hosts start) small) (history (hosts start) large)
