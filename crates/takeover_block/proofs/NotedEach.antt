-- What holds of what is gathered, with one more record.
use Rattle.std.proofs.Common.{◌≡◌, ◌⊎◌, inl, inr, ℕ, List, [], ◌∷◌, ◌++◌, refl, sym, subst}
use Rattle.std.specs.Prelude.{Option}
use Rattle.run_theory.specs.Lists.{Each}
use Rattle.run_theory.proofs.Pasts.{each_after, each_append, each_before}
use Rattle.sig_core.specs.declared.member.TxId.{TxId}
use Rattle.takeover_block.specs.declared.gathered.Gathered.{Gathered}
use Rattle.takeover_block.specs.Gathered.{noted, told_first, told_more}
use Rattle.takeover_block.proofs.NotedLemmas.{Apart, Distinct, IsMore, IsNew, distinct_with, noted_is, others}
use Rattle.takeover_block.proofs.SoundLemmas.{IsHere, here_own}

each_zip : (A B Q : Gathered → Type 0) (gs : List Gathered) → ((g : Gathered) → A g → B g → Q g) → Each A gs → Each B gs
    → Each Q gs
each_zip A B Q [] f a b = tt
each_zip A B Q (g ∷ gs) f a b = (f g a.0 b.0, each_zip A B Q gs f a.1 b.1)

around : (P : Gathered → Type 0) (front back : List Gathered) (w : Gathered) → Each P (front ++ back) → P w
    → Each P (front ++ w ∷ back)
around P front back w each own =
    each_append P front (w ∷ back) (each_before P front back each) (own, each_after P front back each)

apart_from : (P : Gathered → Type 0) (front back : List Gathered) (w : Gathered) → Each P (front ++ w ∷ back)
    → Each P (front ++ back)
apart_from P front back w each =
    each_append P front back (each_before P front (w ∷ back) each) (each_after P front (w ∷ back) each).1

at_w : (P : Gathered → Type 0) (front back : List Gathered) (w : Gathered) → Each P (front ++ w ∷ back) → P w
at_w P front back w each = (each_after P front (w ∷ back) each).0

module _ (tx : TxId) (key : List ℕ) (epoch : Option ℕ) (gs : List Gathered) where
  -- P before, and Q after
  pub noted_map : (P Q : Gathered → Type 0) → Distinct gs → Each P gs → ((g : Gathered) → (g.tx ≡ tx → ⊥) → P g → Q g)
      → (Apart tx gs → Q (told_first tx key epoch)) → ((g : Gathered) → g.tx ≡ tx → P g → Q (told_more g key epoch))
      → Each Q (noted gs tx key epoch)
  noted_map P Q distinct each still first more = by (noted_is gs tx key epoch)
    where
      by : IsNew tx key epoch gs (noted gs tx key epoch) ⊎ IsMore tx key epoch gs (noted gs tx key epoch)
          → Each Q (noted gs tx key epoch)
      by (inl n) =
          subst (Each Q) (sym n.after) (around Q n.front n.back (told_first tx key epoch)
          (each_zip (λ g. g.tx ≡ tx → ⊥) P Q (n.front ++ n.back) still (subst (Apart tx) n.is n.apart)
          (subst (Each P) n.is each)) (first n.apart))
      by (inr m) =
          let all = subst (Each P) m.is each in
          let rest = others m.front m.back m.own (subst Distinct m.is distinct) in
          let away : Apart tx (m.front ++ m.back) = subst (λ t. Apart t (m.front ++ m.back)) m.same rest.apart in
          subst (Each Q) (sym m.after) (around Q m.front m.back (told_more m.own key epoch)
          (each_zip (λ g. g.tx ≡ tx → ⊥) P Q (m.front ++ m.back) still away (apart_from P m.front m.back m.own all))
          (more m.own m.same (at_w P m.front m.back m.own all)))

  pub noted_distinct : Distinct gs → Distinct (noted gs tx key epoch)
  noted_distinct distinct = by (noted_is gs tx key epoch)
    where
      by : IsNew tx key epoch gs (noted gs tx key epoch) ⊎ IsMore tx key epoch gs (noted gs tx key epoch)
          → Distinct (noted gs tx key epoch)
      by (inl n) =
          subst Distinct (sym n.after) (distinct_with n.front n.back (told_first tx key epoch)
          (subst Distinct n.is distinct) (subst (Apart tx) n.is n.apart))
      by (inr m) =
          let rest = others m.front m.back m.own (subst Distinct m.is distinct) in
          subst Distinct (sym m.after)
          (distinct_with m.front m.back (told_more m.own key epoch) rest.distinct rest.apart)

  pub noted_here : IsHere (noted gs tx key epoch) tx
  noted_here = by (noted_is gs tx key epoch)
    where
      by : IsNew tx key epoch gs (noted gs tx key epoch) ⊎ IsMore tx key epoch gs (noted gs tx key epoch)
          → IsHere (noted gs tx key epoch) tx
      by (inl n) =
          subst (λ gs. IsHere gs tx) (sym n.after) (here_own tx n.front n.back (told_first tx key epoch) refl)
      by (inr m) =
          subst (λ gs. IsHere gs tx) (sym m.after) (here_own tx m.front m.back (told_more m.own key epoch) m.same)

  -- who isn't there now wasn't before
  pub noted_apart : (u : TxId) → Apart u (noted gs tx key epoch) → Apart u gs
  noted_apart u apart = by (noted_is gs tx key epoch)
    where
      by : IsNew tx key epoch gs (noted gs tx key epoch) ⊎ IsMore tx key epoch gs (noted gs tx key epoch) → Apart u gs
      by (inl n) =
          subst (Apart u) (sym n.is)
          (apart_from (λ g. g.tx ≡ u → ⊥) n.front n.back (told_first tx key epoch) (subst (Apart u) n.after apart))
      by (inr m) =
          let all = subst (Apart u) m.after apart in
          let w = told_more m.own key epoch in
          subst (Apart u) (sym m.is)
          (around (λ g. g.tx ≡ u → ⊥) m.front m.back m.own
          (apart_from (λ g. g.tx ≡ u → ⊥) m.front m.back w all) (at_w (λ g. g.tx ≡ u → ⊥) m.front m.back w all))
