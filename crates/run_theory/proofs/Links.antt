-- Stamps along a log and along a link, and what a link gives as its sender's log grows or is cut.
use Rattle.std.proofs.Common.{◌≡◌, ◌⊎◌, ◌==◌, ◌<◌, ◌≤◌, ℕ, max, Bool, true, false, List, [], ◌∷◌, ◌++◌, if◌then◌else◌}
use Rattle.std.proofs.Common.{refl, sym, ap, subst, inl, inr, arith}
use Rattle.run_theory.specs.Lists.{Each, IsPast}
use Rattle.run_theory.specs.Machine.{Machine, IsStamped}
use Rattle.run_theory.specs.Links.{sent_by, put, sent, IsGiven}
use Rattle.run_theory.specs.Logs.{last, IsBehind, IsRunning, IsStep, IsLog}
use Rattle.run_theory.proofs.Pasts.{past_self, past_nil, past_more, past_trans, past_cases, each_map, each_past}

-- the newest entry has a stamp below s
abbrev pub HeadBelow : {E X : Type 0} → Machine E X → ℕ → List X → Type 0
HeadBelow m s [] = Unit {0}
HeadBelow m s (x ∷ xs) = m.sent_at x < s

is_behind : (skips : Bool) (before stamp : ℕ) → IsBehind skips before stamp → before < stamp
is_behind false before stamp is = omega (arith, is)
is_behind true before stamp is = is

module _ {E X : Type 0} (m : Machine E X) where
  pub step_above : (h : ℕ) (log : List E) (e : E) → IsStep m h log e → last m h log < m.stamp e
  step_above h log e s =
      omega (arith, is_behind m.skips (max (last m h log) (m.sent_at (m.signal e))) (m.stamp e) s.stamped)

  pub signal_below : (h : ℕ) (log : List E) (e : E) → IsStep m h log e → m.sent_at (m.signal e) < m.stamp e
  signal_below h log e s =
      omega (arith, is_behind m.skips (max (last m h log) (m.sent_at (m.signal e))) (m.stamp e) s.stamped)

  -- no step of a log has a stamp above the last one
  pub stamps_below : (h : ℕ) (log : List E) → IsLog m h log → Each (λ e. m.stamp e ≤ last m h log) log
  stamps_below h [] l = tt
  stamps_below h (e ∷ log) l = (
    omega arith,
    each_map (λ f. m.stamp f ≤ last m h log) (λ f. m.stamp f ≤ m.stamp e) log
        (λ f b. omega (arith, step_above h log e l.0)) (stamps_below h log l.1),
  )

  pub log_after : (h : ℕ) (newer log : List E) → IsLog m h (newer ++ log) → IsLog m h log
  log_after h [] log l = l
  log_after h (e ∷ newer) log l = log_after h newer log l.1

  pub log_past : (h : ℕ) {log all : List E} → IsPast log all → IsLog m h all → IsLog m h log
  log_past h {log} p l = log_after h p.newer log (subst (IsLog m h) p.is l)

  pub last_after : (h : ℕ) (newer log : List E) → IsLog m h (newer ++ log) → last m h log ≤ last m h (newer ++ log)
  last_after h [] log l = omega arith
  last_after h (e ∷ newer) log l = omega (arith, last_after h newer log l.1, step_above h (newer ++ log) e l.0)

  pub last_past : (h : ℕ) {log all : List E} → IsPast log all → IsLog m h all → last m h log ≤ last m h all
  last_past h {log} p l =
      subst (λ w. last m h log ≤ last m h w) (sym p.is) (last_after h p.newer log (subst (IsLog m h) p.is l))

  -- what a step puts on a link goes in front of what was there
  maybe_past : (b : Bool) (x : X) (before : List X) → IsPast before (if b then x ∷ before else before)
  maybe_past true x before = past_more x (past_self before)
  maybe_past false x before = past_self before

  pub put_past : (j : ℕ) (xs before : List X) → IsPast before (put m j xs before)
  put_past j [] before = past_self before
  put_past j (x ∷ xs) before =
      past_trans (maybe_past (m.to x == j) x before) (put_past j xs (if m.to x == j then x ∷ before else before))

  pub sent_more : (i j : ℕ) (log : List E) (e : E) → IsPast (sent m i j log) (sent m i j (e ∷ log))
  sent_more i j log e = put_past j (sent_by m i log e) (sent m i j log)

  maybe_each : (P : X → Type 0) (b : Bool) (x : X) (before : List X) → P x → Each P before
      → Each P (if b then x ∷ before else before)
  maybe_each P true x before p h = (p, h)
  maybe_each P false x before p h = h

  pub put_each : (P : X → Type 0) (j : ℕ) (xs before : List X) → Each P xs → Each P before → Each P (put m j xs before)
  put_each P j [] before h k = k
  put_each P j (x ∷ xs) before h k =
      put_each P j xs (if m.to x == j then x ∷ before else before) h.1 (maybe_each P (m.to x == j) x before h.0 k)

  -- what holds of each signal that a step sends, if it doesn't stop, holds of each that it puts on links
  sent_by_each' : (P : X → Type 0) (b : Bool) (xs : List X) → (b ≡ false → Each P xs) → Each P (if b then [] else xs)
  sent_by_each' P true xs h = tt
  sent_by_each' P false xs h = h refl

  pub sent_by_each : (P : X → Type 0) (h : ℕ) (log : List E) (e : E) → (m.stops e ≡ false → Each P (m.sends h log e))
      → Each P (sent_by m h log e)
  sent_by_each P h log e f = sent_by_each' P (m.stops e) (m.sends h log e) f

  -- a step that stops sends nothing
  sent_by_stop' : (b : Bool) (xs : List X) → b ≡ true → (if b then [] else xs) ≡ []
  sent_by_stop' true xs e = refl
  sent_by_stop' false xs e = absurd cc

  pub sent_by_stop : (h : ℕ) (log : List E) (e : E) → m.stops e ≡ true → sent_by m h log e ≡ []
  sent_by_stop h log e s = sent_by_stop' (m.stops e) (m.sends h log e) s

  -- a part whose newest entry isn't among what was put on last is a part of what was there before
  past_maybe : (b : Bool) (y x : X) (xs before : List X) → (y ≡ x → ⊥)
      → IsPast (x ∷ xs) (if b then y ∷ before else before) → IsPast (x ∷ xs) before
  past_maybe false y x xs before apart p = p
  past_maybe true y x xs before apart p = go (past_cases y p)
    where
      go : (y ∷ before ≡ x ∷ xs) ⊎ IsPast (x ∷ xs) before → IsPast (x ∷ xs) before
      go (inl e) = absurd (apart cc)
      go (inr q) = q

  pub past_under_put : (s j : ℕ) (x : X) (xs ys before : List X) → m.sent_at x < s → Each (λ y. m.sent_at y ≡ s) ys
      → IsPast (x ∷ xs) (put m j ys before) → IsPast (x ∷ xs) before
  past_under_put s j x xs [] before below h p = p
  past_under_put s j x xs (y ∷ ys) before below h p =
      let apart : y ≡ x → ⊥ = λ e. apart' y x below h.0 e in
      past_maybe (m.to y == j) y x xs before apart
      (past_under_put s j x xs ys (if m.to y == j then y ∷ before else before) below h.1 p)
    where
      apart' : (y x : X) → m.sent_at x < s → m.sent_at y ≡ s → y ≡ x → ⊥
      apart' y x below at e = omega (arith, ap m.sent_at e)

  module _ (stamped : IsStamped m) where
    pub sent_by_stamped : (h : ℕ) (log : List E) (e : E) → Each (λ x. m.sent_at x ≡ m.stamp e) (sent_by m h log e)
    sent_by_stamped h log e = sent_by_each (λ x. m.sent_at x ≡ m.stamp e) h log e (λ _. stamped.sends h log e)

    -- no signal on a link has a stamp above the last one of its sender
    pub sent_below : (i j : ℕ) (log : List E) → IsLog m i log → Each (λ x. m.sent_at x ≤ last m i log) (sent m i j log)
    sent_below i j [] l = tt
    sent_below i j (e ∷ log) l =
        put_each (λ x. m.sent_at x ≤ m.stamp e) j (sent_by m i log e) (sent m i j log)
        (each_map (λ x. m.sent_at x ≡ m.stamp e) (λ x. m.sent_at x ≤ m.stamp e) (sent_by m i log e)
        (λ x at. omega (arith, at)) (sent_by_stamped i log e))
        (each_map (λ x. m.sent_at x ≤ last m i log) (λ x. m.sent_at x ≤ m.stamp e) (sent m i j log)
        (λ x b. omega (arith, b, step_above i log e l.0)) (sent_below i j log l.1))

    pub given_below : (i j : ℕ) (log : List E) (xs : List X) → IsLog m i log → IsGiven m i j log xs
        → Each (λ x. m.sent_at x ≤ last m i log) xs
    given_below i j log xs l (inl p) = each_past (λ x. m.sent_at x ≤ last m i log) p (sent_below i j log l)
    given_below i j [] xs l (inr c) = absurd c
    given_below i j (e ∷ log) xs l (inr c) =
        let P : X → Type 0 = λ x. m.sent_at x ≤ m.stamp e in
        let all : Each P (m.closing i log e j ∷ c.rest) =
        (omega (arith, stamped.closing i log e j), each_past P c.past (sent_below i j (e ∷ log) l)) in
        subst (Each P) (sym c.is) all

    -- what a link gave before its sender's newest step it gave by the log below that step
    pub given_before : (i j : ℕ) (e : E) (log : List E) (xs : List X) → HeadBelow m (m.stamp e) xs
        → IsGiven m i j (e ∷ log) xs → IsGiven m i j log xs
    given_before i j e log [] below g = inl (past_nil (sent m i j log))
    given_before i j e log (x ∷ xs) below (inl p) =
        inl (past_under_put (m.stamp e) j x xs (sent_by m i log e) (sent m i j log) below (sent_by_stamped i log e) p)
    given_before i j e log (x ∷ xs) below (inr c) =
        let head : x ≡ m.closing i log e j = cc (c.is) in
        absurd (omega (arith, stamped.closing i log e j, ap m.sent_at head))

    pub given_after : (i j : ℕ) (newer log : List E) (xs : List X) → IsLog m i (newer ++ log)
        → Each (λ x. m.sent_at x ≤ last m i log) xs → IsGiven m i j (newer ++ log) xs → IsGiven m i j log xs
    given_after i j [] log xs l below g = g
    given_after i j (e ∷ newer) log xs l below g =
        given_after i j newer log xs l.1 below (given_before i j e (newer ++ log) xs (head xs below) g)
      where
        head : (xs : List X) → Each (λ x. m.sent_at x ≤ last m i log) xs → HeadBelow m (m.stamp e) xs
        head [] b = tt
        head (x ∷ xs) b = omega (arith, b.0, last_after i newer log l.1, step_above i (newer ++ log) e l.0)

  -- an older part of what a link gave is what it gave
  pub given_less : (i j : ℕ) (log : List E) {xs ys : List X} → IsPast xs ys → IsGiven m i j log ys
      → IsGiven m i j log xs
  given_less i j log p (inl q) = inl (past_trans p q)
  given_less i j [] p (inr c) = absurd c
  given_less i j (e ∷ log) {xs} {ys} p (inr c) = go (past_cases (m.closing i log e j) (subst (IsPast xs) c.is p))
    where
      go : (m.closing i log e j ∷ c.rest ≡ xs) ⊎ IsPast xs c.rest → IsGiven m i j (e ∷ log) xs
      go (inl is) = inr (record { stops = c.stops; rest = c.rest; is = sym is; past = c.past })
      go (inr q) = inl (past_trans q c.past)

  -- what a running host's link gave it gives still after one more step
  pub given_more : (i j : ℕ) (log : List E) (e : E) (xs : List X) → IsRunning m log → IsGiven m i j log xs
      → IsGiven m i j (e ∷ log) xs
  given_more i j log e xs runs (inl p) = inl (past_trans p (sent_more i j log e))
  given_more i j [] e xs runs (inr c) = absurd c
  given_more i j (f ∷ log) e xs runs (inr c) = absurd (cc (runs, c.stops))
