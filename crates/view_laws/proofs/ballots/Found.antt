-- Where a test finds something among members, one of them passes it.
use Rattle.std.proofs.Common.{◌≡◌, ◌⊎◌, Bool, true, List, [], ◌∷◌, refl, inl, inr}
use Rattle.std.proofs.lemmas.Bool.{false≢true, or_cases}
use Rattle.std.specs.List.{list_any}
use Rattle.run_theory.specs.Lists.{IsIn}
use Rattle.sig_core.specs.declared.member.Member.{Member}

pub record Found (p : Member → Bool) (members : List Member) : Type 0 where
  pub member : Member
  pub there : IsIn member members
  pub passes : p member ≡ true

pub found : (p : Member → Bool) (members : List Member) → list_any p members ≡ true → Found p members
found p [] e = absurd (false≢true e)
found p (x ∷ members) e = by (or_cases (p x) (list_any p members) e) (found p members)
  where
    by : (p x ≡ true) ⊎ (list_any p members ≡ true) → (list_any p members ≡ true → Found p members)
        → Found p (x ∷ members)
    by (inl passes) rest = record { member = x; there = inl refl; passes = passes }
    by (inr later) rest =
        let one = rest later in
        record { member = one.member; there = inr one.there; passes = one.passes }
