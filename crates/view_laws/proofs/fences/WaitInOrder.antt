-- Promises that wait for fences do so in order: what confirms one confirms the first that waits for that part.
use Rattle.std.proofs.Common.{◌≡◌, ◌⊎◌, ◌≤◌, ◌+◌, ◌==◌, ◌∙◌, ℕ, suc, Bool, true, false, List, [], ◌∷◌, ◌++◌, length}
use Rattle.std.proofs.Common.{refl, ap, sym, subst, arith, inl, inr}
use Rattle.std.proofs.lemmas.Bool.{and_parts, eqb-true, ltb-false, ltb-true}
use Rattle.std.specs.Prelude.{if◌then◌else◌, Some}
use Rattle.run_theory.specs.Lists.{Each, IsIn}
use Rattle.run_theory.proofs.Pasts.{each_in}
use Rattle.sig_core.proofs.Firsts.{set_first}
use Rattle.sig_core.specs.Firsts.{drop_first, first}
use Rattle.qmgr_block.specs.declared.promise.Promise.{Promise}
use Rattle.qmgr_block.specs.Promise.{is_fenced, less, waits_for}

-- how often a promise waits for a part, and how often at most: the part ldm once, the part tc twice
abbrev pub left : Bool → Promise → ℕ
left true p = p.ldm
left false p = p.tc

abbrev pub full : Bool → ℕ
full true = 1
full false = 2

-- so often for each of so many promises
abbrev pub times : Bool → ℕ → ℕ
times true n = n
times false n = n + n

-- the two are one part
abbrev pub same : Bool → Bool → ℕ
same true true = 1
same false false = 1
same b c = 0

abbrev pub left_all : Bool → List Promise → ℕ
left_all c [] = 0
left_all c (p ∷ ps) = left c p + left_all c ps

-- behind a promise that waits for the part all wait for it as they began
abbrev pub InOrder : Bool → List Promise → Type 0
InOrder c [] = Unit {0}
InOrder c (p ∷ ps) = (left c p ≤ full c) × ((left c p ≡ 0) ⊎ Each (λ q. left c q ≡ full c) ps) × InOrder c ps

-- how many stand behind the first that waits
abbrev pub behind : Bool → List Promise → ℕ
behind b [] = 0
behind b (p ∷ ps) = if waits_for b p then length ps else behind b ps

full_some : (c : Bool) → 1 ≤ full c
full_some true = omega arith
full_some false = omega arith

pub times_more : (c : Bool) (n : ℕ) → times c (suc n) ≡ full c + times c n
times_more true n = omega arith
times_more false n = omega arith

pub waits_some : (b : Bool) (p : Promise) → waits_for b p ≡ true → 1 ≤ left b p
waits_some true p e = omega (arith, ltb-true 0 p.ldm e)
waits_some false p e = omega (arith, ltb-true 0 p.tc e)

waits_none : (b : Bool) (p : Promise) → waits_for b p ≡ false → left b p ≡ 0
waits_none true p e = omega (arith, ltb-false 0 p.ldm e)
waits_none false p e = omega (arith, ltb-false 0 p.tc e)

less_left : (b c : Bool) (p : Promise) → 1 ≤ left b p → left c (less b p) + same b c ≡ left c p
less_left true true p some = omega (arith, some)
less_left true false p some = omega arith
less_left false true p some = omega arith
less_left false false p some = omega (arith, some)

fenced_none : (p : Promise) → is_fenced p ≡ true → (c : Bool) → left c p ≡ 0
fenced_none p e true = eqb-true p.ldm 0 (and_parts (p.tc == 0) (p.ldm == 0) e).1
fenced_none p e false = eqb-true p.tc 0 (and_parts (p.tc == 0) (p.ldm == 0) e).0

pub same_cases : (b c : Bool) → (b ≡ c) ⊎ (same b c ≡ 0)
same_cases true true = inl refl
same_cases true false = inr refl
same_cases false true = inr refl
same_cases false false = inl refl

first_in : (b : Bool) (ps : List Promise) (p : Promise) → first (waits_for b) ps ≡ Some p → IsIn p ps
first_in b [] p is = absurd cc
first_in b (q ∷ ps) p is = by (waits_for b q) is (first_in b ps p)
  where
    by : (w : Bool) → (if w then Some q else first (waits_for b) ps) ≡ Some p
        → (first (waits_for b) ps ≡ Some p → IsIn p ps) → IsIn p (q ∷ ps)
    by true is later = inl (let one : p ≡ q = cc in one)
    by false is later = inr (later is)

few_left : (c : Bool) (ps : List Promise) → InOrder c ps → left_all c ps ≤ times c (length ps)
few_left true [] order = omega arith
few_left false [] order = omega arith
few_left c (p ∷ ps) order = omega (arith, order.0, few_left c ps order.2, times_more c (length ps))

module _ (b c : Bool) where
  -- the first that waits waits less
  module _ (p : Promise) (some : 1 ≤ left b p) where
    set_full : (ps : List Promise) → left c (less b p) ≡ left c p → first (waits_for b) ps ≡ Some p
        → Each (λ q. left c q ≡ full c) ps
        → Each (λ q. left c q ≡ full c) (set_first (waits_for b) (less b p) ps)
    set_full [] stays is all = tt
    set_full (q ∷ ps) stays is all = by (waits_for b q) is (set_full ps stays)
      where
        by : (w : Bool) → (if w then Some q else first (waits_for b) ps) ≡ Some p
            → (first (waits_for b) ps ≡ Some p → Each (λ q. left c q ≡ full c) ps
            → Each (λ q. left c q ≡ full c) (set_first (waits_for b) (less b p) ps))
            → Each (λ q. left c q ≡ full c) (if w then less b p ∷ ps else q ∷ set_first (waits_for b) (less b p) ps)
        by true is later = let one : q ≡ p = cc in (stays ∙ ap (left c) (sym one) ∙ all.0, all.1)
        by false is later = (all.0, later is all.1)

    pub set_left : (ps : List Promise) → first (waits_for b) ps ≡ Some p
        → left_all c (set_first (waits_for b) (less b p) ps) + same b c ≡ left_all c ps
    set_left [] is = absurd cc
    set_left (q ∷ ps) is = by (waits_for b q) is (set_left ps)
      where
        by : (w : Bool) → (if w then Some q else first (waits_for b) ps) ≡ Some p
            → (first (waits_for b) ps ≡ Some p
            → left_all c (set_first (waits_for b) (less b p) ps) + same b c ≡ left_all c ps)
            → left_all c (if w then less b p ∷ ps else q ∷ set_first (waits_for b) (less b p) ps) + same b c
            ≡ left c q + left_all c ps
        by true is later =
            let one : q ≡ p = cc in omega (arith, less_left b c p some, ap (left c) one)
        by false is later = omega (arith, later is)

    pub set_order : (ps : List Promise) → first (waits_for b) ps ≡ Some p → InOrder c ps
        → InOrder c (set_first (waits_for b) (less b p) ps)
    set_order [] is order = absurd cc
    set_order (q ∷ ps) is order = by (waits_for b q) refl is (set_order ps)
      where
        lesser : q ≡ p → (left c q ≡ 0) ⊎ Each (λ q. left c q ≡ full c) ps
            → (left c (less b p) ≡ 0) ⊎ Each (λ q. left c q ≡ full c) ps
        lesser one (inl none) = inl (omega (arith, none, less_left b c p some, ap (left c) one))
        lesser one (inr all) = inr all

        behind_all : left b q ≡ 0 → first (waits_for b) ps ≡ Some p → Each (λ q. left c q ≡ full c) ps
            → (b ≡ c) ⊎ (same b c ≡ 0)
            → (left c q ≡ 0) ⊎ Each (λ q. left c q ≡ full c) (set_first (waits_for b) (less b p) ps)
        behind_all none is all (inl one) = inl (subst (λ c. left c q ≡ 0) one none)
        behind_all none is all (inr apart) =
            inr (set_full ps (omega (arith, apart, less_left b c p some)) is all)

        later_all : left b q ≡ 0 → first (waits_for b) ps ≡ Some p
            → (left c q ≡ 0) ⊎ Each (λ q. left c q ≡ full c) ps
            → (left c q ≡ 0) ⊎ Each (λ q. left c q ≡ full c) (set_first (waits_for b) (less b p) ps)
        later_all none is (inl gone) = inl gone
        later_all none is (inr all) = behind_all none is all (same_cases b c)

        by : (w : Bool) → waits_for b q ≡ w → (if w then Some q else first (waits_for b) ps) ≡ Some p
            → (first (waits_for b) ps ≡ Some p → InOrder c ps → InOrder c (set_first (waits_for b) (less b p) ps))
            → InOrder c (if w then less b p ∷ ps else q ∷ set_first (waits_for b) (less b p) ps)
        by true e is later =
            let one : q ≡ p = cc in
            (omega (arith, order.0, less_left b c p some, ap (left c) one), lesser one order.1, order.2)
        by false e is later = (order.0, later_all (waits_none b q e) is order.1, later is order.2)

  -- the first that waits is taken out, where it waits no more
  module _ (p : Promise) (some : 1 ≤ left b p) (fenced : is_fenced (less b p) ≡ true) where
    drop_each : (P : Promise → Type 0) (ps : List Promise) → Each P ps → Each P (drop_first (waits_for b) ps)
    drop_each P [] all = tt
    drop_each P (q ∷ ps) all = by (waits_for b q) (drop_each P ps all.1)
      where
        by : (w : Bool) → Each P (drop_first (waits_for b) ps)
            → Each P (if w then ps else q ∷ drop_first (waits_for b) ps)
        by true later = all.1
        by false later = (all.0, later)

    pub drop_left : (ps : List Promise) → first (waits_for b) ps ≡ Some p
        → left_all c ps ≤ left_all c (drop_first (waits_for b) ps) + same b c
    drop_left [] is = absurd cc
    drop_left (q ∷ ps) is = by (waits_for b q) is (drop_left ps)
      where
        by : (w : Bool) → (if w then Some q else first (waits_for b) ps) ≡ Some p
            → (first (waits_for b) ps ≡ Some p → left_all c ps ≤ left_all c (drop_first (waits_for b) ps) + same b c)
            → left c q + left_all c ps ≤ left_all c (if w then ps else q ∷ drop_first (waits_for b) ps) + same b c
        by true is later =
            let one : q ≡ p = cc in
            omega (arith, less_left b c p some, fenced_none (less b p) fenced c, ap (left c) one)
        by false is later = omega (arith, later is)

    pub drop_order : (ps : List Promise) → InOrder c ps → InOrder c (drop_first (waits_for b) ps)
    drop_order [] order = tt
    drop_order (q ∷ ps) order = by (waits_for b q) (drop_order ps order.2)
      where
        rest : (left c q ≡ 0) ⊎ Each (λ q. left c q ≡ full c) ps
            → (left c q ≡ 0) ⊎ Each (λ q. left c q ≡ full c) (drop_first (waits_for b) ps)
        rest (inl none) = inl none
        rest (inr all) = inr (drop_each (λ q. left c q ≡ full c) ps all)

        by : (w : Bool) → InOrder c (drop_first (waits_for b) ps)
            → InOrder c (if w then ps else q ∷ drop_first (waits_for b) ps)
        by true later = order.2
        by false later = (order.0, rest order.1, later)

    -- those before it wait for nothing
    before_none : (q : Promise) (ps : List Promise) → left b q ≡ 0 → first (waits_for b) ps ≡ Some p
        → (left c q ≡ 0) ⊎ Each (λ q. left c q ≡ full c) ps → (b ≡ c) ⊎ (same b c ≡ 0) → left c q ≡ 0
    before_none q ps none is (inl gone) cases = gone
    before_none q ps none is (inr all) (inl one) = subst (λ c. left c q ≡ 0) one none
    before_none q ps none is (inr all) (inr apart) =
        absurd (omega (
          arith,
          apart,
          less_left b c p some,
          fenced_none (less b p) fenced c,
          full_some c,
          each_in (λ q. left c q ≡ full c) p ps all (first_in b ps p is),
        ))

    pub drop_few : (ps : List Promise) → first (waits_for b) ps ≡ Some p → InOrder c ps
        → left_all c (drop_first (waits_for b) ps) ≤ times c (behind b ps)
    drop_few [] is order = absurd cc
    drop_few (q ∷ ps) is order = by (waits_for b q) refl is (drop_few ps)
      where
        by : (w : Bool) → waits_for b q ≡ w → (if w then Some q else first (waits_for b) ps) ≡ Some p
            → (first (waits_for b) ps ≡ Some p → InOrder c ps
            → left_all c (drop_first (waits_for b) ps) ≤ times c (behind b ps))
            → left_all c (if w then ps else q ∷ drop_first (waits_for b) ps)
            ≤ times c (if w then length ps else behind b ps)
        by true e is later = few_left c ps order.2
        by false e is later =
            omega (arith, later is order.2, before_none q ps (waits_none b q e) is order.1 (same_cases b c))

-- one more waits behind all
module _ (c : Bool) (p : Promise) (fresh : left c p ≡ full c) where
  snoc_full : (ps : List Promise) → Each (λ q. left c q ≡ full c) ps → Each (λ q. left c q ≡ full c) (ps ++ p ∷ [])
  snoc_full [] all = (fresh, tt)
  snoc_full (q ∷ ps) all = (all.0, snoc_full ps all.1)

  pub snoc_left : (ps : List Promise) → left_all c (ps ++ p ∷ []) ≡ left_all c ps + full c
  snoc_left [] = omega (arith, fresh)
  snoc_left (q ∷ ps) = omega (arith, snoc_left ps)

  pub snoc_order : (ps : List Promise) → InOrder c ps → InOrder c (ps ++ p ∷ [])
  snoc_order [] order = (omega (arith, fresh), inr tt, tt)
  snoc_order (q ∷ ps) order = (order.0, by order.1, snoc_order ps order.2)
    where
      by : (left c q ≡ 0) ⊎ Each (λ q. left c q ≡ full c) ps
          → (left c q ≡ 0) ⊎ Each (λ q. left c q ≡ full c) (ps ++ p ∷ [])
      by (inl none) = inl none
      by (inr all) = inr (snoc_full ps all)
