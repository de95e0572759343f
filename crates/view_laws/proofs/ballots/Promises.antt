-- The promises of a member in ballots, from the newest to the oldest.
use Rattle.std.proofs.Common.{◌≡◌, ◌<◌, List, [], ◌∷◌, false, refl, sym, ap, ◌∙◌, subst, inl, inr, ⊎_elim, arith}
use Rattle.run_theory.specs.Lists.{IsIn}
use Rattle.run_theory.proofs.Pasts.{each_in}
use Rattle.sig_core.specs.declared.member.Member.{Member}
use Rattle.sig_core.specs.declared.view.Shape.{Shape}
use Rattle.sig_core.specs.declared.view.View.{View}
use Rattle.view_laws.specs.Ballots.{Ballots, HasPromised, IsBacked, Promised}
use Rattle.view_laws.specs.Orderly.{AreOrderly, ArePromises}
use Rattle.view_laws.specs.Sets.{all_of}

module _ (b : Ballots) (member : Member) where
  pub older_promises : (newest : Promised) (older : List Promised) → ArePromises b member (newest ∷ older)
      → ArePromises b member older
  older_promises newest [] are = tt
  older_promises newest (last ∷ older) are = are.2

  -- each older promise has a lesser number
  pub promises_rise : (newest : Promised) (older : List Promised) → ArePromises b member (newest ∷ older)
      → (one : Promised) → IsIn one older → one.set.number < newest.set.number
  promises_rise newest [] are one i = absurd i
  promises_rise newest (last ∷ older) are one (inl is) =
      subst (λ (p : Promised). p.set.number < newest.set.number) (sym is) are.0
  promises_rise newest (last ∷ older) are one (inr i) =
      omega (arith, promises_rise last older are.2 one i, are.0)

  -- so two promises of one number are one
  pub one_promise : (all : List Promised) → ArePromises b member all → (one other : Promised)
      → IsIn one all → IsIn other all → one.set.number ≡ other.set.number → one ≡ other
  one_promise [] are one other i j same = absurd i
  one_promise (newest ∷ older) are one other (inl is) (inl like) same = is ∙ sym like
  one_promise (newest ∷ older) are one other (inl is) (inr j) same =
      absurd (omega (arith, promises_rise newest older are other j, same, ap (λ (p : Promised). p.set.number) is))
  one_promise (newest ∷ older) are one other (inr i) (inl like) same =
      absurd (omega (arith, promises_rise newest older are one i, same, ap (λ (p : Promised). p.set.number) like))
  one_promise (newest ∷ older) are one other (inr i) (inr j) same =
      one_promise older (older_promises newest older are) one other i j same

  -- a member of the first view that promised anything has the first view as its oldest promise
  pub first_promise : (all : List Promised) → ArePromises b member all → (some : Promised) → IsIn some all
      → IsIn member (all_of b.first) → (one : Promised) × IsIn one all × (one.set ≡ b.first)
  first_promise [] are some i inside = absurd i
  first_promise (promise ∷ []) are some i inside =
      ⊎_elim (λ h. (promise, inl refl, h.1)) (λ h. absurd (h.0 inside)) are
  first_promise (promise ∷ last ∷ older) are some i inside =
      let one = first_promise (last ∷ older) are.2 last (inl refl) inside in
      (one.0, inr one.1, one.2)

-- two backed sets of one number with a member in common are the same
pub backed_same : (shape : Shape) (b : Ballots) → AreOrderly shape b → (one other : View) → IsBacked b one
    → IsBacked b other → one.number ≡ other.number → (member : Member) → IsIn member (all_of one)
    → IsIn member (all_of other) → one ≡ other
backed_same shape b o one other backed too same member i j =
    ap (λ (p : Promised). p.set) (one_promise b member (b.promises member) (o.promises member)
    (record { set = one; adopted = false }) (record { set = other; adopted = false })
    (each_in (HasPromised b one) member (all_of one) backed i).promised
    (each_in (HasPromised b other) member (all_of other) too j).promised same)
