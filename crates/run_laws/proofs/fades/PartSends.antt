-- A part of what a transaction sends when it commits or completes: how much it weighs, which keys it leads to, what it
-- tells.
use Rattle.std.proofs.Common.{◌≡◌, ℕ, zero, suc, ◌+◌, ◌-◌, ◌≤◌, ◌<◌, List, [], ◌∷◌, ◌++◌, length, take, drop, map, min}
use Rattle.std.proofs.Common.{Bool, true, false, refl, ap, sym, ◌∙◌, subst, arith, length-take, length-drop}
use Rattle.std.specs.Prelude.{◌==◌, ◌&&◌, nat_le, nat_lt, if◌then◌else◌}
use Rattle.std.specs.List.{flat_map}
use Rattle.std.proofs.lemmas.Bool.Decides.{nat_tests}
use Rattle.std.proofs.lemmas.List.{length-map}
use Rattle.run_theory.specs.Lists.{Each}
use Rattle.run_theory.proofs.Pasts.{each_append}
use Rattle.sig_core.specs.declared.portion.TheConstants.{PORTION}
use Rattle.sig_core.specs.declared.member.Member.{Member}
use Rattle.sig_core.specs.declared.member.TxId.{TxId}
use Rattle.sig_core.specs.declared.outs.Outgoing.{Outgoing}
use Rattle.frag_map.specs.Layout.{Layout}
use Rattle.sig_core.specs.Chain.{last_place}
use Rattle.sig_core.specs.Same.{same_key, same_tx}
use Rattle.tc_block.specs.declared.phase.Phase.TheVariants.{Committing, Completing}
use Rattle.tc_block.specs.declared.touched.Touched.{Touched}
use Rattle.tc_block.specs.Part.{part_effects, rest_if}
use Rattle.tc_block.specs.Sends.{commit_of, complete_if, front_sends, key_sends, phase_sends}
use Rattle.run_theory.proofs.EachSent.{each_drop, each_mapped, each_take}
use Rattle.sig_core.proofs.Keys.{same_key-self, same_tx-self}
use Rattle.host_laws.proofs.rows.Operations.{true_and}
use Rattle.run_theory.specs.Counts.{one_if}
use Rattle.host_laws.proofs.coordinator.Sends.{eqb-self}
use Rattle.run_laws.proofs.fades.Signals.{Tells, cover, weight}
use Rattle.run_laws.proofs.transit.Weighing.{in_sends, weigh, weigh_append}

ones : {A : Type 0} (f : A → ℕ) (xs : List A) → Each (λ x. f x ≡ 1) xs → weigh f xs ≡ length xs
ones f [] all = refl
ones f (x ∷ xs) all = omega (arith, all.0, ones f xs all.1)

-- an item in the part weighs in it
in_part : {A B : Type 0} (f : B → ℕ) (g : A → B) (front : List A) (x : A) (back : List A) (at n : ℕ) → at ≤ length front
    → length front < at + n
    → f (g x) ≤ weigh f (take n (drop at (map g (front ++ x ∷ back))))
in_part f g [] x back zero zero low high = absurd (omega (arith, high))
in_part f g [] x back zero (suc n) low high = omega arith
in_part f g [] x back (suc at) n low high = absurd (omega (arith, low))
in_part f g (y ∷ front) x back zero zero low high = absurd (omega (arith, high))
in_part f g (y ∷ front) x back zero (suc n) low high =
    omega (arith, in_part f g front x back zero n (omega arith) (omega (arith, high)))
in_part f g (y ∷ front) x back (suc at) n low high =
    in_part f g front x back at n (omega (arith, low)) (omega (arith, high))

-- a place of a list
pub length_middle : {A : Type 0} (front : List A) (x : A) (back : List A) → length front < length (front ++ x ∷ back)
length_middle [] x back = omega arith
length_middle (y ∷ front) x back = omega (arith, length_middle front x back)

module _ (tx : TxId) (node : ℕ) (layout : Layout) where
  commits_are : (epoch awaited : ℕ) (touched : List Touched)
      → phase_sends layout tx (Committing epoch awaited) touched ≡ map (commit_of tx epoch) touched
  unfolding phase_sends front_sends key_sends
  commits_are epoch awaited touched = all touched
    where
      all : (us : List Touched)
          → flat_map (key_sends layout tx (Committing epoch awaited)) us ≡ map (commit_of tx epoch) us
      all [] = refl
      all (u ∷ us) = ap (λ os. commit_of tx epoch u ∷ os) (all us)

  pub part_weighs : (epoch awaited at : ℕ) (touched : List Touched)
      → in_sends (weight tx (length touched))
      (part_effects node tx (phase_sends layout tx (Committing epoch awaited) touched) at).sends ≤ length touched - at
  unfolding part_effects
  part_weighs epoch awaited at touched =
      subst (λ xs. in_sends (weight tx (length touched))
      (take PORTION (drop at xs) ++ rest_if node tx at (nat_lt (at + PORTION) (length xs))) ≤ length touched - at)
      (sym (commits_are epoch awaited touched))
      (by (nat_lt (at + PORTION) (length xs)) refl)
    where
      xs : List Outgoing
      xs = map (commit_of tx epoch) touched

      w : Outgoing → ℕ
      w o = weight tx (length touched) o.to o.body

      each_one : Each (λ o. w o ≡ 1) xs
      each_one = each_mapped (λ o. w o ≡ 1) (commit_of tx epoch) touched (λ u. ap one_if (same_tx-self tx))

      part_is : weigh w (take PORTION (drop at xs)) ≡ min PORTION (length touched - at)
      part_is =
          ones w (take PORTION (drop at xs))
          (each_take (λ o. w o ≡ 1) PORTION (drop at xs) (each_drop (λ o. w o ≡ 1) at xs each_one))
          ∙ (length-take PORTION (drop at xs)
          ∙ (ap (λ m. min PORTION m) (length-drop at xs) ∙ ap (λ m. min PORTION (m - at))
          (length-map touched (commit_of tx epoch))))

      rest_is : weigh w (rest_if node tx at true) ≡ length touched - (at + PORTION)
      rest_is = omega (arith, ap (λ b. if b then length touched - (at + PORTION) else 0) (same_tx-self tx))

      by : (b : Bool) → nat_lt (at + PORTION) (length xs) ≡ b
          → weigh w (take PORTION (drop at xs) ++ rest_if node tx at b) ≤ length touched - at
      by true e = omega (
        arith,
        weigh_append w (take PORTION (drop at xs)) (rest_if node tx at true),
        part_is,
        rest_is,
        far e,
        length-map touched (commit_of tx epoch),
      )
        where
          far : nat_lt (at + PORTION) (length xs) ≡ true → at + PORTION < length xs
          far q = grind (arith, nat_tests, q)
      by false e = omega (arith, weigh_append w (take PORTION (drop at xs)) (rest_if node tx at false), part_is)

  pub part_covers : (epoch awaited at : ℕ) (front : List Touched) (u : Touched) (back : List Touched) → node ≡ tx.tc
      → at ≤ length front
      → 1 ≤ in_sends (cover tx u.key (length front))
      (part_effects node tx (phase_sends layout tx (Committing epoch awaited) (front ++ u ∷ back)) at).sends
  unfolding part_effects
  part_covers epoch awaited at front u back home low =
      subst (λ xs. 1 ≤ in_sends (cover tx u.key (length front))
      (take PORTION (drop at xs) ++ rest_if node tx at (nat_lt (at + PORTION) (length xs))))
      (sym (commits_are epoch awaited (front ++ u ∷ back)))
      (by (nat_lt (length front) (at + PORTION)) refl)
    where
      xs : List Outgoing
      xs = map (commit_of tx epoch) (front ++ u ∷ back)

      c : Outgoing → ℕ
      c o = cover tx u.key (length front) o.to o.body

      here : c (commit_of tx epoch u) ≡ 1
      here = ap one_if (true_and (same_tx tx tx) (same_key u.key u.key) (same_tx-self tx) (same_key-self u.key))

      near : nat_lt (length front) (at + PORTION) ≡ true → length front < at + PORTION
      near q = grind (arith, nat_tests, q)

      far : nat_lt (length front) (at + PORTION) ≡ false → at + PORTION ≤ length front
      far q = grind (arith, nat_tests, q)

      next : nat_lt (length front) (at + PORTION) ≡ false → nat_lt (at + PORTION) (length xs) ≡ true
      next q =
          let more : at + PORTION < length xs =
          omega (arith, far q, length_middle front u back, length-map (front ++ u ∷ back) (commit_of tx epoch)) in
          grind (arith, nat_tests, more)

      le : nat_lt (length front) (at + PORTION) ≡ false → nat_le (at + PORTION) (length front) ≡ true
      le q = let more : at + PORTION ≤ length front = far q in grind (arith, nat_tests, more)

      rest_covers : nat_lt (length front) (at + PORTION) ≡ false → 1 ≤ weigh c (rest_if node tx at true)
      rest_covers q =
          omega (
            arith,
            ap one_if (true_and (node == tx.tc) (same_tx tx tx && nat_le (at + PORTION) (length front))
                (subst (λ k. (k == tx.tc) ≡ true) (sym home) (eqb-self tx.tc))
                (true_and (same_tx tx tx) (nat_le (at + PORTION) (length front)) (same_tx-self tx) (le q))),
          )

      by : (b : Bool) → nat_lt (length front) (at + PORTION) ≡ b
          → 1 ≤ weigh c (take PORTION (drop at xs) ++ rest_if node tx at (nat_lt (at + PORTION) (length xs)))
      by true e =
          omega (
            arith,
            here,
            in_part c (commit_of tx epoch) front u back at PORTION low (near e),
            weigh_append c (take PORTION (drop at xs)) (rest_if node tx at (nat_lt (at + PORTION) (length xs))),
          )
      by false e =
          omega (
            arith,
            rest_covers e,
            weigh_append c (take PORTION (drop at xs)) (rest_if node tx at true),
            ap (λ b. weigh c (take PORTION (drop at xs) ++ rest_if node tx at b)) (next e),
          )

  -- the first signal is the first commit
  pub record Starts (first : Outgoing) (sends : List Outgoing) : Type 0 where
    pub more : List Outgoing
    pub is : sends ≡ first ∷ more

  pub first_commit : (epoch awaited : ℕ) (u : Touched) (us : List Touched)
      → Starts (commit_of tx epoch u)
      (part_effects node tx (phase_sends layout tx (Committing epoch awaited) (u ∷ us)) 0).sends
  unfolding part_effects
  first_commit epoch awaited u us =
      subst (λ xs. Starts (commit_of tx epoch u)
      (take PORTION (drop 0 xs) ++ rest_if node tx 0 (nat_lt (0 + PORTION) (length xs))))
      (sym (commits_are epoch awaited (u ∷ us)))
      (record {
        more = take (PORTION - 1) (map (commit_of tx epoch) us) ++ rest_if node tx 0
            (nat_lt (0 + PORTION) (length (map (commit_of tx epoch) (u ∷ us))));
        is = refl;
      })

  pub no_commits : (epoch awaited : ℕ)
      → (part_effects node tx (phase_sends layout tx (Committing epoch awaited) []) 0).sends ≡ []
  unfolding part_effects
  no_commits epoch awaited =
      ap (λ xs. take PORTION (drop 0 xs) ++ rest_if node tx 0 (nat_lt (0 + PORTION) (length xs)))
      (commits_are epoch awaited [])

  module _ (Spread : List ℕ → List Member → ℕ → Type 0) (AtAll : List ℕ → Type 0) where
    abbrev SoTells : Outgoing → Type 0
    SoTells o = Tells tx Spread AtAll o.body

    rest_tells : (at : ℕ) (b : Bool) → Each SoTells (rest_if node tx at b)
    rest_tells at true = (tt, tt)
    rest_tells at false = tt

    part_tells : (xs : List Outgoing) (at : ℕ) → Each SoTells xs → Each SoTells (part_effects node tx xs at).sends
    unfolding part_effects
    part_tells xs at all =
        each_append SoTells (take PORTION (drop at xs)) (rest_if node tx at (nat_lt (at + PORTION) (length xs)))
        (each_take SoTells PORTION (drop at xs) (each_drop SoTells at xs all))
        (rest_tells at (nat_lt (at + PORTION) (length xs)))

    pub commits_tell : (epoch awaited at : ℕ) (touched : List Touched)
        → Each (λ (u : Touched). Spread u.key u.chain (last_place u.chain)) touched
        → Each SoTells (part_effects node tx (phase_sends layout tx (Committing epoch awaited) touched) at).sends
    commits_tell epoch awaited at touched all =
        part_tells (phase_sends layout tx (Committing epoch awaited) touched) at
        (subst (Each SoTells) (sym (commits_are epoch awaited touched)) (each touched all))
      where
        each : (us : List Touched) → Each (λ (u : Touched). Spread u.key u.chain (last_place u.chain)) us
            → Each SoTells (map (commit_of tx epoch) us)
        each [] all = tt
        each (u ∷ us) all = (λ e. all.0, each us all.1)

    pub completions_tell : (epoch awaited at : ℕ) (touched : List Touched) → Each (λ (u : Touched). AtAll u.key) touched
        → Each SoTells (part_effects node tx (phase_sends layout tx (Completing epoch awaited) touched) at).sends
    unfolding phase_sends front_sends key_sends
    completions_tell epoch awaited at touched all =
        part_tells (phase_sends layout tx (Completing epoch awaited) touched) at (tt, each touched all)
      where
        one : (u : Touched) → AtAll u.key → (b : Bool) → Each SoTells (complete_if tx u b)
        one u d true = (λ e. d, tt)
        one u d false = tt

        each : (us : List Touched) → Each (λ (u : Touched). AtAll u.key) us
            → Each SoTells (flat_map (key_sends layout tx (Completing epoch awaited)) us)
        each [] all = tt
        each (u ∷ us) all =
            each_append SoTells (complete_if tx u u.written)
            (flat_map (key_sends layout tx (Completing epoch awaited)) us) (one u all.0 u.written) (each us all.1)
