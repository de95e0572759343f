-- A life that begins.
use Rattle.std.proofs.Common.{◌≡◌, ℕ, zero, suc, List, [], ◌∷◌, ◌++◌, length, take, refl, ap, subst, sym, arith}
use Rattle.std.specs.Prelude.{IfOk, Option, Result, Ok, Err}
use Rattle.host_io.specs.Call.{Call}
use Rattle.world_core.specs.Start.{NobodyStarts, Start}
use Rattle.world_views.specs.Driven.{IsWorld}
use Rattle.world_views.specs.World.{new_world, Whole}
use Rattle.world_views.proofs.WorldLemmas.{begun_world}

pub opened_world : {A E : Type 0} (result : Result A E) (whole : A → Whole) (from : A → Start)
    → ((w : A) → NobodyStarts (from w)) → IfOk result (λ w. whole w ≡ new_world (from w))
    → IfOk result (λ w. IsWorld (whole w))
opened_world (Ok w) whole from nobody same = begun_world (whole w) (from w) (nobody w) same
opened_world (Err unopened) whole from nobody same = tt

-- what is so of the disks that it begins on is so of its own
pub opened_so : {A E V D : Type 0} (result : Result A E) (disks : A → V) (made : V) (items : V → List D)
    (told : List D → List (Option (List Call))) (Holds : List (Option (List Call)) → Type 0)
    → IfOk result (λ w. disks w ≡ made) → {now : List D} → now ≡ items made → Holds (told now)
    → IfOk result (λ w. Holds (told (items (disks w))))
opened_so (Ok w) disks made items told Holds same here holds =
    subst (λ v. Holds (told (items v))) (sym same) (subst (λ v. Holds (told v)) here holds)
opened_so (Err unopened) disks made items told Holds same here holds = tt

-- a list that was written over the head of another as long
pub written_back : {A : Type 0} (new rest : List A) (n : ℕ) → length new ≡ n → new ≡ take n (new ++ rest)
written_back [] rest zero many = refl
written_back [] rest (suc n) many = absurd (omega (arith, many))
written_back (x ∷ new) rest zero many = absurd (omega (arith, many))
written_back (x ∷ new) rest (suc n) many = ap (λ xs. x ∷ xs) (written_back new rest n (omega (arith, many)))
