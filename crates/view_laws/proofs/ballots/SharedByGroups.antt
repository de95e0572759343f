-- A set that has all nodes of a group and one that has a node of each share a full member, where both are of one set.
use Rattle.std.proofs.Common.{◌≡◌, ◌<◌, ◌≤◌, ◌+◌, ◌-◌, ◌*◌, ◌/◌, ◌%◌, ℕ, zero, suc, Bool, true, false, not}
use Rattle.std.proofs.Common.{if◌then◌else◌, Option, None, Some, is_some, List, ◌∷◌, length, refl, sym, subst, ⊎_elim}
use Rattle.std.proofs.Common.{eq-or-lt_of_le, eqb-true, leb-true, filter, arith, true≢false}
use Rattle.std.proofs.lemmas.Nat.{div-add-mod'}
use Rattle.frag_map.specs.Groups.{is_manned, is_viable, is_whole, lost_from, lost_group, whole_from, whole_group}
use Rattle.frag_map.specs.Replicas.{is_of_group}
use Rattle.frag_map.specs.Shape.{IsShape, groups}
use Rattle.run_theory.specs.Lists.{Each, IsIn}
use Rattle.run_theory.proofs.Pasts.{each_from}
use Rattle.sig_core.specs.declared.member.Member.{Member}
use Rattle.sig_core.specs.declared.view.Shape.{Shape}
use Rattle.sig_core.specs.declared.view.View.{View}
use Rattle.view_laws.specs.Sets.{AreApart, IsApart, all_of}
use Rattle.view_laws.proofs.ballots.Found.{Found, found}
use Rattle.view_laws.proofs.ballots.DistinctNodes.{IsNear, apart_filter, apart_front, apart_same, each_filter, few_near}
use Rattle.view_laws.proofs.ballots.DistinctNodes.{some_node}

module _ (shape : Shape) (set : View) where
  manned_from : (first n : ℕ) → lost_from shape set first n ≡ None → (group : ℕ) → first ≤ group → group < first + n
      → is_manned shape set group ≡ true
  manned_from first zero is group from below = absurd (omega (arith, from, below))
  manned_from first (suc n) is group from below =
      by (is_manned shape set first) refl is
      (λ rest above. manned_from (first + 1) n rest group above (omega (arith, below)))
    where
      by : (b : Bool) → is_manned shape set first ≡ b
          → (if b then lost_from shape set (first + 1) n else Some first) ≡ None
          → (lost_from shape set (first + 1) n ≡ None → first + 1 ≤ group → is_manned shape set group ≡ true)
          → is_manned shape set group ≡ true
      by false e lost rest = absurd cc
      by true e lost rest =
          ⊎_elim (λ same. subst (λ g. is_manned shape set g ≡ true) same e) (λ above. rest lost (omega (arith, above)))
          (eq-or-lt_of_le from)

  -- a viable set has a full member of each group
  pub viable_manned : is_viable shape set ≡ true → (group : ℕ) → group < groups shape → is_manned shape set group ≡ true
  unfolding lost_group
  viable_manned viable group below =
      manned_from 0 (groups shape) (by (lost_from shape set 0 (groups shape)) viable) group (omega arith)
      (omega (arith, below))
    where
      by : (lost : Option ℕ) → not (is_some lost) ≡ true → lost ≡ None
      by None is = refl
      by (Some lost) is = absurd (true≢false (sym is))

  -- a set with a whole group has one
  whole_from_one : (first n : ℕ) → whole_from shape set first n ≡ true
      → (group : ℕ) × (first ≤ group) × (group < first + n) × (is_whole shape set group ≡ true)
  whole_from_one first zero is = absurd (true≢false (sym is))
  whole_from_one first (suc n) is = by (is_whole shape set first) refl is (whole_from_one (first + 1) n)
    where
      by : (b : Bool) → is_whole shape set first ≡ b
          → (if b then true else whole_from shape set (first + 1) n) ≡ true
          → (whole_from shape set (first + 1) n ≡ true
          → (group : ℕ) × (first + 1 ≤ group) × (group < first + 1 + n) × (is_whole shape set group ≡ true))
          → (group : ℕ) × (first ≤ group) × (group < first + suc n) × (is_whole shape set group ≡ true)
      by true e whole rest = (first, omega arith, omega arith, e)
      by false e whole rest = let r = rest whole in (r.0, omega (arith, r.1), omega (arith, r.2), r.3)

  pub whole_one : whole_group shape set ≡ true
      → (group : ℕ) × (group < groups shape) × (is_whole shape set group ≡ true)
  unfolding whole_group
  whole_one is = let r = whole_from_one 0 (groups shape) is in (r.0, omega (arith, r.2), r.3)

module _ (shape : Shape) (is : IsShape shape) where
  -- a member of a group has one of its nodes
  group_near : (group : ℕ) (member : Member) → 1 ≤ member.node → is_of_group shape group member ≡ true
      → IsNear (group * shape.replicas + 1) shape.replicas member
  group_near group member some of =
      let is_group : (member.node - 1) / shape.replicas ≡ group = eqb-true _ _ of in
      let parts :
      (member.node - 1) / shape.replicas * shape.replicas + (member.node - 1) % shape.replicas ≡ member.node - 1 =
      div-add-mod' (member.node - 1) shape.replicas in
      let low : (member.node - 1) % shape.replicas < shape.replicas = omega (arith, is.replicas_some) in
      let parts' : group * shape.replicas + (member.node - 1) % shape.replicas ≡ member.node - 1 =
      subst (λ g. g * shape.replicas + (member.node - 1) % shape.replicas ≡ member.node - 1) is_group parts in
      (omega (arith, some, parts'), omega (arith, some, parts', low))

  -- of two sets whose full members are all of one, in which no node stands twice, the one with a whole group and the
  -- other viable
  pub shares_full : (all : List Member) → AreApart all → (whole viable : View)
      → ((x : Member) → IsIn x whole.full → IsIn x all) → ((x : Member) → IsIn x viable.full → IsIn x all)
      → AreApart (all_of whole) → whole_group shape whole ≡ true → is_viable shape viable ≡ true
      → ((x : Member) → IsIn x whole.full → IsIn x viable.full → ⊥) → ⊥
  shares_full all apart whole viable from from_too whole_apart has each none =
      few one.member one.there one.passes
    where
      group : (group : ℕ) × (group < groups shape) × (is_whole shape whole group ≡ true)
      group = whole_one shape whole has

      one : Found (is_of_group shape group.0) viable.full
      one = found (is_of_group shape group.0) viable.full (viable_manned shape viable each group.0 group.1)

      test : Member → Bool
      test = is_of_group shape group.0

      low : ℕ
      low = group.0 * shape.replicas + 1

      near : (x : Member) → IsIn x all → test x ≡ true → IsNear low shape.replicas x
      near x i of = group_near group.0 x (some_node all x apart i) of

      few : (x : Member) → IsIn x viable.full → test x ≡ true → ⊥
      few x i of =
          let seats : List Member = filter test whole.full in
          let others : Each (IsApart x) seats =
          each_filter test (IsApart x) whole.full (each_from _ whole.full (λ y j h same.
          none y j (subst (λ z. IsIn z viable.full) (apart_same all apart x y (from_too x i) (from y j) same) i))) in
          let seats_apart : AreApart seats =
          apart_filter test whole.full (apart_front whole.full whole.starting whole_apart) in
          let seats_near : Each (IsNear low shape.replicas) seats =
          each_filter test (IsNear low shape.replicas) whole.full
          (each_from _ whole.full (λ y j h. near y (from y j) h)) in
          let fits : length (x ∷ seats) ≤ shape.replicas =
          few_near low shape.replicas (x ∷ seats) (some_node all x apart (from_too x i), others, seats_apart)
          (near x (from_too x i) of, seats_near) in
          let many : shape.replicas ≤ length seats = leb-true _ _ group.2 in
          omega (arith, fits, many)
