-- What stands on a link, told of its signals and of what it holds.
use Rattle.std.proofs.Common.{◌≡◌, ◌-◌, ℕ, List, [], ◌∷◌, ◌++◌, length, reverse, refl, sym, ap, subst, ◌∙◌, arith}
use Rattle.std.proofs.Common.{length-append}
use Rattle.std.proofs.lemmas.List.{length-map, length-reverse, length-take-le, map-append, reverse-append}
use Rattle.std.specs.Prelude.{drop, map, take}
use Rattle.run_theory.specs.Lists.{Each}
use Rattle.run_theory.proofs.Pasts.{each_after, each_before}
use Rattle.sig_core.specs.declared.signal.Body.{Body}
use Rattle.sig_core.specs.declared.signal.Signal.{Signal}
use Rattle.world_core.specs.Right.{arriving}
use Rattle.world_core.specs.Steps.{Addressed}
use Rattle.world_views.specs.Links.{LinkState, without}
use Rattle.world_views.specs.Right.{on_link}
use Rattle.world_views.proofs.GivenFacts.{lost_past}
use Rattle.restart_laws.proofs.telling.Facts.{IsSo}

module _ (Q : Body → Type 0) where
  abbrev pub IsSoOn : Signal → Type 0
  IsSoOn x = Q x.body

  arriving_each : (j : ℕ) (xs : List Signal) → Each (IsSo Q) (map (arriving j) (reverse xs)) → Each IsSoOn xs
  arriving_each j [] all = tt
  arriving_each j (x ∷ xs) all =
      let parts : Each (IsSo Q) (map (arriving j) (reverse xs) ++ arriving j x ∷ []) =
      subst (Each (IsSo Q))
      (ap (map (arriving j)) (reverse-append (x ∷ []) xs) ∙ map-append (arriving j) (reverse xs) (x ∷ [])) all
      in (
        (each_after (IsSo Q) (map (arriving j) (reverse xs)) (arriving j x ∷ []) parts).0,
        arriving_each j xs (each_before (IsSo Q) (map (arriving j) (reverse xs)) (arriving j x ∷ []) parts),
      )

  -- what is so of all that a link holds is so of what stands on it
  pub on_link_each : (j : ℕ) (l : LinkState) (before : List Addressed) → Each (IsSo Q) (on_link j l ++ before)
      → Each IsSoOn l.signals
  on_link_each j l before all = arriving_each j l.signals (each_before (IsSo Q) (on_link j l) before all)

  -- and what is so of all but the newest is so of what stands on it where the youngest is lost
  pub left_each : (j : ℕ) (l : LinkState) (before : List Addressed) → Each (IsSo Q) (drop 1 (on_link j l ++ before))
      → Each IsSoOn (without 1 l).signals
  left_each j l before all = by l.signals refl
    where
      on_length : (ys : List Signal) → length (map (arriving j) (reverse ys)) ≡ length ys
      on_length ys = length-map (reverse ys) (arriving j) ∙ length-reverse ys

      -- it is shorter than the whole
      shorter : (newer : List Addressed) → on_link j l ++ before ≡ newer ++ (on_link j (without 1 l) ++ before)
          → newer ≡ [] → (x : Signal) (xs : List Signal) → l.signals ≡ x ∷ xs → ⊥
      shorter newer is none x xs had =
          let same : length (on_link j l ++ before) ≡ length (newer ++ (on_link j (without 1 l) ++ before)) =
          ap length is in
          let nothing : length newer ≡ 0 = ap length none in
          omega (
            arith,
            same,
            nothing,
            length-append newer (on_link j (without 1 l) ++ before),
            length-append (on_link j l) before,
            length-append (on_link j (without 1 l)) before,
            on_length l.signals,
            on_length (without 1 l).signals,
            length-take-le (length l.signals - 1) l.signals (omega arith),
            ap length had,
          )

      behind : (newer : List Addressed) → on_link j l ++ before ≡ newer ++ (on_link j (without 1 l) ++ before)
          → (newer ≡ [] → Each (IsSo Q) (on_link j (without 1 l) ++ before))
          → Each (IsSo Q) (on_link j (without 1 l) ++ before)
      behind [] is none = none refl
      behind (y ∷ newer) is none =
          each_after (IsSo Q) newer (on_link j (without 1 l) ++ before)
          (subst (λ ys. Each (IsSo Q) (drop 1 ys)) is all)

      by : (xs : List Signal) → l.signals ≡ xs → Each IsSoOn (without 1 l).signals
      by [] is = subst (λ xs. Each IsSoOn (take (length xs - 1) xs)) (sym is) tt
      by (x ∷ xs) is =
          let past = lost_past j 1 l before in
          on_link_each j (without 1 l) before
          (behind past.newer past.is (λ none. absurd (shorter past.newer past.is none x xs is)))
