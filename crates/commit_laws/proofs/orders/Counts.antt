-- A membership orders a takeover once along its list of orders: where it takes a signal to go on from a place in front
-- of that order it sends the order, or the signal to go on from another such place, and nothing of the kind behind it.
use Rattle.std.proofs.Common.{◌≡◌, ◌≤◌, ◌<◌, ◌+◌, ◌++◌, ◌&&◌, ◌⊎◌, ℕ, zero, suc, Bool, true, false, List, [], ◌∷◌, drop}
use Rattle.std.proofs.Common.{inl, inr, length, nat_le, refl, ap, take, arith}
use Rattle.std.proofs.lemmas.Bool.{cases_lt, true≢false}
use Rattle.std.proofs.lemmas.Bool.Decides.{nat_tests}
use Rattle.std.specs.List.{count_by}
use Rattle.run_theory.proofs.EachSent.{each_drop, each_take}
use Rattle.run_theory.proofs.Pasts.{each_map}
use Rattle.sig_core.specs.declared.outs.Outgoing.{Outgoing}
use Rattle.sig_core.specs.declared.place.BlockId.{BlockId}
use Rattle.sig_core.specs.declared.portion.TheConstants.{PORTION}
use Rattle.sig_core.specs.declared.signal.Body.{Body}
use Rattle.sig_core.specs.declared.signal.Body.TheVariants.{Host, Takeover}
use Rattle.sig_core.specs.declared.signal.host.HostSignal.TheVariants.{Continue}
use Rattle.sig_core.specs.declared.signal.host.Work.TheVariants.{Members}
use Rattle.sig_core.specs.declared.signal.takeover.TakeoverSignal.TheVariants.{TakeoverOrd}
use Rattle.sig_core.specs.Place.{membership}
use Rattle.sig_core.specs.Portion.{rest_if}
use Rattle.tc_block.specs.Complete.{one_if}
use Rattle.outcome_laws.proofs.once.Counted.{count_none}
use Rattle.outcome_laws.proofs.coordinators.Lists.{count_both, count_more, one_few}
use Rattle.commit_laws.proofs.orders.Words.{AreQuiet, IsQuiet, is_membership, is_ordering}

-- the order to a takeover, and the signals to go on from a place up to this one
abbrev pub counts : ℕ → BlockId → Body → Bool
counts last b (Takeover TakeoverOrd) = true
counts last b (Host (Continue Members at)) = is_membership b && nat_le at last
counts last b body = false

abbrev pub is_counted : ℕ → Outgoing → Bool
is_counted last sent = counts last sent.to.block sent.body

abbrev pub count_orders : ℕ → List Outgoing → ℕ
count_orders last sends = count_by (λ (sent : Outgoing). counts last sent.to.block sent.body) sends

module _ (last : ℕ) where
  quiet_uncounted : (b : BlockId) (body : Body) → is_ordering b body ≡ false → counts last b body ≡ false
  quiet_uncounted b (Takeover TakeoverOrd) quiet = absurd (true≢false quiet)
  quiet_uncounted b (Host (Continue Members at)) quiet = ap (λ c. c && nat_le at last) quiet
  quiet_uncounted b body quiet = refl

  pub quiet_none : (sends : List Outgoing) → AreQuiet sends → count_orders last sends ≡ 0
  quiet_none sends all =
      count_none (is_counted last) sends
      (each_map IsQuiet (λ (sent : Outgoing). is_counted last sent ≡ false) sends
      (λ sent quiet. quiet_uncounted sent.to.block sent.body quiet) all)

  -- parts of a list count no more than the list
  take_few : (n : ℕ) (xs : List Outgoing) → count_orders last (take n xs) ≤ count_orders last xs
  take_few zero xs = omega arith
  take_few (suc n) [] = omega arith
  take_few (suc n) (x ∷ xs) =
      omega (arith, take_few n xs, count_more (is_counted last) x (take n xs), count_more (is_counted last) x xs)

  drop_few : (n : ℕ) (xs : List Outgoing) → count_orders last (drop n xs) ≤ count_orders last xs
  drop_few zero xs = omega arith
  drop_few (suc n) [] = omega arith
  drop_few (suc n) (x ∷ xs) = omega (arith, drop_few n xs, count_more (is_counted last) x xs)

-- behind the order, and in front of it, all is quiet
behind_quiet : (front : List Outgoing) (order : Outgoing) (back : List Outgoing) → AreQuiet back → (at : ℕ)
    → length front < at → AreQuiet (drop at (front ++ order ∷ back))
behind_quiet front order back quiet zero above = absurd (omega (arith, above))
behind_quiet [] order back quiet (suc at) above = each_drop IsQuiet at back quiet
behind_quiet (x ∷ front) order back quiet (suc at) above =
    behind_quiet front order back quiet at (omega (arith, above))

take_front : (front back : List Outgoing) → AreQuiet front → (n : ℕ) → n ≤ length front
    → AreQuiet (take n (front ++ back))
take_front front back quiet zero low = tt
take_front [] back quiet (suc n) low = absurd (omega (arith, low))
take_front (x ∷ front) back quiet (suc n) low = (quiet.0, take_front front back quiet.1 n (omega (arith, low)))

front_quiet : (front back : List Outgoing) → AreQuiet front → (at n : ℕ) → at + n ≤ length front
    → AreQuiet (take n (drop at (front ++ back)))
front_quiet front back quiet zero n low = take_front front back quiet n (omega (arith, low))
front_quiet [] back quiet (suc at) n low = absurd (omega (arith, low))
front_quiet (x ∷ front) back quiet (suc at) n low = front_quiet front back quiet.1 at n (omega (arith, low))

le_is : (a b : ℕ) → a ≤ b → nat_le a b ≡ true
le_is a b low = grind (arith, nat_tests)

le_one : (a b : ℕ) → a ≤ b → one_if (nat_le a b) ≡ 1
le_one a b low = ap one_if (le_is a b low)

-- a greater number is not at most a lesser
pub le_none : (a b : ℕ) → b < a → nat_le a b ≡ false
le_none a b above = grind (arith, nat_tests)

module _ (node : ℕ) (front : List Outgoing) (order : Outgoing) (back : List Outgoing) (first : AreQuiet front)
    (then : AreQuiet back)
  where
    abbrev last : ℕ
    last = length front

    abbrev all : List Outgoing
    all = front ++ order ∷ back

    whole_few : count_orders last all ≤ 1
    whole_few =
        omega (
          arith,
          count_both (is_counted last) front (order ∷ back),
          quiet_none last front first,
          count_more (is_counted last) order back,
          quiet_none last back then,
          one_few (is_counted last order),
        )

    rest_few : (at : ℕ) (b : Bool) → count_orders last (rest_if (membership node) Members at b) ≤ 1
    rest_few at true = few (nat_le (at + PORTION) last)
      where
        few : (b : Bool) → count_by (λ (c : Bool). c) (b ∷ []) ≤ 1
        few true = omega arith
        few false = omega arith
    rest_few at false = omega arith

    rest_none : (at : ℕ) (b : Bool) → last < at + PORTION
        → count_orders last (rest_if (membership node) Members at b) ≡ 0
    rest_none at true above =
        ap (λ (c : Bool). count_by (λ (c : Bool). c) (c ∷ [])) (le_none (at + PORTION) last above)
    rest_none at false above = refl

    -- what is sent of the list from a place on
    pub portion_counts : (at : ℕ) (b : Bool)
        → count_orders (length front) (take PORTION (drop at (front ++ order ∷ back)) ++ rest_if (membership node)
        Members at b)
        ≤ one_if (nat_le at (length front))
    portion_counts at b = by (cases_lt last at)
      where
        both : count_orders last (take PORTION (drop at all) ++ rest_if (membership node) Members at b)
            ≡ count_orders last (take PORTION (drop at all))
            + count_orders last (rest_if (membership node) Members at b)
        both = count_both (is_counted last) (take PORTION (drop at all)) (rest_if (membership node) Members at b)

        goes : at ≤ last → (last < at + PORTION) ⊎ (at + PORTION ≤ last)
            → count_orders last (take PORTION (drop at all) ++ rest_if (membership node) Members at b)
            ≤ one_if (nat_le at last)
        goes low (inl here) =
            omega (
              arith,
              both,
              take_few last PORTION (drop at all),
              drop_few last at all,
              whole_few,
              rest_none at b here,
              le_one at last low,
            )
        goes low (inr later) =
            omega (
              arith,
              both,
              quiet_none last (take PORTION (drop at all)) (front_quiet front (order ∷ back) first at PORTION later),
              rest_few at b,
              le_one at last low,
            )

        by : (last < at) ⊎ (at ≤ last)
            → count_orders last (take PORTION (drop at all) ++ rest_if (membership node) Members at b)
            ≤ one_if (nat_le at last)
        by (inl above) =
            omega (
              arith,
              both,
              quiet_none last (take PORTION (drop at all))
                  (each_take IsQuiet PORTION (drop at all) (behind_quiet front order back then at above)),
              rest_none at b (omega (arith, above)),
            )
        by (inr low) = goes low (cases_lt last (at + PORTION))
