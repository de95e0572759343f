-- What is gathered stands in order of `TxId`.
use Rattle.std.proofs.Common.{◌≡◌, ◌∙◌, ◌<◌, ◌⊎◌, inl, inr, ℕ, suc, ◌==◌, ◌&&◌}
use Rattle.std.proofs.Common.{◌||◌, Bool, true, false, List, [], ◌∷◌, ◌++◌}
use Rattle.std.proofs.Common.{drop, length, nat_lt, take, arith, refl, ap, sym, subst}
use Rattle.std.proofs.lemmas.Bool.{and_from, and_parts, eq-eqb, eqb-true, lt-ltb, ltb-true, or_cases, or_parts}
use Rattle.std.proofs.lemmas.Bool.Decides.{nat_tests}
use Rattle.std.proofs.lemmas.List.{take-append-drop}
use Rattle.std.specs.Prelude.{Option, None, Some, insert, position}
use Rattle.run_theory.specs.Lists.{Each}
use Rattle.run_theory.proofs.Pasts.{each_after, each_append, each_before, each_map}
use Rattle.sig_core.specs.declared.member.TxId.{TxId}
use Rattle.sig_core.proofs.Firsts.{place_by, position-cons}
use Rattle.takeover_block.specs.declared.gathered.Gathered.{Gathered}
use Rattle.takeover_block.specs.Gathered.{is_before, is_behind, noted, place_for, place_or, told_first, told_more}
use Rattle.takeover_block.specs.Laws.{AreInOrder}
use Rattle.takeover_block.proofs.NotedLemmas.{Apart, NotedAs, noted_as}

-- one number is less, or the two are one and a test passes
abbrev lex : ℕ → ℕ → Bool → Bool
lex a b r = nat_lt a b || (a == b && r)

lex_parts : (a b : ℕ) (r : Bool) → lex a b r ≡ true → (a < b) ⊎ ((a ≡ b) × (r ≡ true))
lex_parts a b r e = by (or_cases (nat_lt a b) (a == b && r) e)
  where
    by : (nat_lt a b ≡ true) ⊎ ((a == b && r) ≡ true) → (a < b) ⊎ ((a ≡ b) × (r ≡ true))
    by (inl less) = inl (ltb-true a b less)
    by (inr both) = let parts = and_parts (a == b) r both in inr (eqb-true a b parts.0, parts.1)

lex_less : (a b : ℕ) (r : Bool) → a < b → lex a b r ≡ true
lex_less a b r less = ap (λ x. x || (a == b && r)) (lt-ltb a b less)

or_true : (x y : Bool) → y ≡ true → (x || y) ≡ true
or_true true y e = refl
or_true false y e = e

lex_same : (a b : ℕ) (r : Bool) → a ≡ b → r ≡ true → lex a b r ≡ true
lex_same a b r same e = or_true (nat_lt a b) (a == b && r) (and_from (a == b) r (eq-eqb a b same) e)

lex_trans : (a b c : ℕ) (r s t : Bool) → (r ≡ true → s ≡ true → t ≡ true) → lex a b r ≡ true → lex b c s ≡ true
    → lex a c t ≡ true
lex_trans a b c r s t rest one other = by (lex_parts a b r one) (lex_parts b c s other)
  where
    by : (a < b) ⊎ ((a ≡ b) × (r ≡ true)) → (b < c) ⊎ ((b ≡ c) × (s ≡ true)) → lex a c t ≡ true
    by (inl less) (inl more) = lex_less a c t (omega arith)
    by (inl less) (inr same) = let e = same.0 in lex_less a c t (omega (arith, e))
    by (inr same) (inl more) = let e = same.0 in lex_less a c t (omega (arith, e))
    by (inr one) (inr other) = lex_same a c t (one.0 ∙ other.0) (rest one.1 other.1)

not_less : (a b : ℕ) → nat_lt a b ≡ false → (b < a) ⊎ (a ≡ b)
not_less a b e = by (nat_lt b a) refl
  where
    by : (less : Bool) → nat_lt b a ≡ less → (b < a) ⊎ (a ≡ b)
    by true less = inl (ltb-true b a less)
    by false more = inr (grind (arith, nat_tests))

lex_total : (a b : ℕ) (r s : Bool) → (a ≡ b → r ≡ false → s ≡ true) → lex a b r ≡ false → lex b a s ≡ true
lex_total a b r s rest e = by (not_less a b (or_parts (nat_lt a b) (a == b && r) e).0)
  where
    later : (same : Bool) → same ≡ true → (same && r) ≡ false → r ≡ false
    later true is e = e
    later false is e = absurd cc

    by : (b < a) ⊎ (a ≡ b) → lex b a s ≡ true
    by (inl less) = lex_less b a s less
    by (inr same) =
        lex_same b a s (sym same)
        (rest same (later (a == b) (eq-eqb a b same) (or_parts (nat_lt a b) (a == b && r) e).1))

less_trans : (a b c : ℕ) → nat_lt a b ≡ true → nat_lt b c ≡ true → nat_lt a c ≡ true
less_trans a b c one other =
    let less : a < b = ltb-true a b one in
    let more : b < c = ltb-true b c other in
    lt-ltb a c (omega arith)

before_trans : (a b c : TxId) → is_before a b ≡ true → is_before b c ≡ true → is_before a c ≡ true
before_trans a b c one other =
    lex_trans a.tc b.tc c.tc (lex a.start b.start (nat_lt a.seq b.seq)) (lex b.start c.start (nat_lt b.seq c.seq))
    (lex a.start c.start (nat_lt a.seq c.seq))
    (lex_trans a.start b.start c.start (nat_lt a.seq b.seq) (nat_lt b.seq c.seq) (nat_lt a.seq c.seq)
    (less_trans a.seq b.seq c.seq)) one other

-- of two transactions one stands before the other
before_total : (a b : TxId) → (b ≡ a → ⊥) → is_before a b ≡ false → is_before b a ≡ true
before_total a b apart e =
    lex_total a.tc b.tc (lex a.start b.start (nat_lt a.seq b.seq)) (lex b.start a.start (nat_lt b.seq a.seq))
    (λ tcs. lex_total a.start b.start (nat_lt a.seq b.seq) (nat_lt b.seq a.seq)
    (λ starts last. by tcs starts (not_less a.seq b.seq last))) e
  where
    by : a.tc ≡ b.tc → a.start ≡ b.start → (b.seq < a.seq) ⊎ (a.seq ≡ b.seq) → nat_lt b.seq a.seq ≡ true
    by tcs starts (inl less) = lt-ltb b.seq a.seq less
    by tcs starts (inr same) =
        absurd (apart (λ i. record { tc = sym tcs i; start = sym starts i; seq = sym same i }))

-- a transaction is put before the first that is behind it
abbrev put : List Gathered → Gathered → List Gathered
put gs w = insert gs (place_for gs w.tx) w

each_put : (P : Gathered → Type 0) (gs : List Gathered) (w : Gathered) → Each P gs → P w → Each P (put gs w)
each_put P gs w each own =
    let n = place_for gs w.tx in
    let parts : Each P (take n gs ++ drop n gs) = subst (Each P) (sym (take-append-drop n gs)) each in
    each_append P (take n gs) (w ∷ drop n gs) (each_before P (take n gs) (drop n gs) parts)
    (own, each_after P (take n gs) (drop n gs) parts)

place-cons : (g : Gathered) (gs : List Gathered) (tx : TxId) (b : Bool) → is_before tx g.tx ≡ b
    → place_for (g ∷ gs) tx ≡ (place_or (length (g ∷ gs)) (place_by b (position (is_behind tx) gs)))
place-cons g gs tx b e =
    ap (place_or (length (g ∷ gs))) (position-cons (is_behind tx) g gs)
    ∙ ap (λ b. place_or (length (g ∷ gs)) (place_by b (position (is_behind tx) gs))) e

behind_place : (n : ℕ) (at : Option ℕ) → place_or (suc n) (place_by false at) ≡ suc (place_or n at)
behind_place n None = refl
behind_place n (Some at) = refl

put_order : (gs : List Gathered) (w : Gathered) → Apart w.tx gs → AreInOrder gs → AreInOrder (put gs w)
put_order [] w apart order = (tt, tt)
put_order (g ∷ gs) w apart order = by (is_before w.tx g.tx) refl (put_order gs w apart.1 order.1)
  where
    by : (b : Bool) → is_before w.tx g.tx ≡ b → AreInOrder (put gs w) → AreInOrder (put (g ∷ gs) w)
    by true e rest =
        let place : place_for (g ∷ gs) w.tx ≡ 0 = place-cons g gs w.tx true e in
        subst (λ n. AreInOrder (insert (g ∷ gs) n w)) (sym place) (
          (
            e,
            each_map (λ later. is_before g.tx later.tx ≡ true) (λ later. is_before w.tx later.tx ≡ true) gs
                (λ later more. before_trans w.tx g.tx later.tx e more) order.0,
          ),
          order,
        )
    by false e rest =
        let place : place_for (g ∷ gs) w.tx ≡ suc (place_for gs w.tx) =
        place-cons g gs w.tx false e ∙ behind_place (length gs) (position (is_behind w.tx) gs) in
        subst (λ n. AreInOrder (insert (g ∷ gs) n w)) (sym place) (
          each_put (λ later. is_before g.tx later.tx ≡ true) gs w order.0 (before_total w.tx g.tx apart.0 e),
          rest,
        )

-- one takes the place of another of the same transaction
same_order : (front back : List Gathered) (g w : Gathered) → w.tx ≡ g.tx → AreInOrder (front ++ g ∷ back)
    → AreInOrder (front ++ w ∷ back)
same_order [] back g w same order =
    (subst (λ tx. Each (λ (later : Gathered). is_before tx later.tx ≡ true) back) (sym same) order.0, order.1)
same_order (f ∷ fs) back g w same order =
    let P : Gathered → Type 0 = λ later. is_before f.tx later.tx ≡ true in
    let behind = each_after P fs (g ∷ back) order.0 in (
      each_append P fs (w ∷ back) (each_before P fs (g ∷ back) order.0)
          (ap (is_before f.tx) same ∙ behind.0, behind.1),
      same_order fs back g w same order.1,
    )

-- so with what is noted
pub noted_order : (gs : List Gathered) (tx : TxId) (key : List ℕ) (epoch : Option ℕ) → AreInOrder gs
    → AreInOrder (noted gs tx key epoch)
noted_order gs tx key epoch order = by (noted_as gs tx key epoch)
  where
    by : NotedAs tx key epoch gs (noted gs tx key epoch) → AreInOrder (noted gs tx key epoch)
    by (inl new) = subst AreInOrder (sym new.1) (put_order gs (told_first tx key epoch) new.0 order)
    by (inr m) =
        subst AreInOrder (sym m.after)
        (same_order m.front m.back m.own (told_more m.own key epoch) refl (subst AreInOrder m.is order))
