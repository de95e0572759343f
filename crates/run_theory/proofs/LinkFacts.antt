-- Links in words of their own: order, closing, stamps, and how often a signal is taken.
use Rattle.std.proofs.Common.{◌≡◌, ◌≢◌, ◌⊎◌, ◌==◌, ◌+◌, ◌<◌, ◌≤◌, ℕ, zero, suc, Bool, true, false, cond, List, [], ◌∷◌}
use Rattle.std.proofs.Common.{◌++◌, length, reverse, count_by, slice_get, Some, if◌then◌else◌, refl, sym, ap, ◌∙◌}
use Rattle.std.proofs.Common.{subst, inl, inr, arith, eqb-true, Option, None, filter_map}
use Rattle.std.proofs.lemmas.List.{reverse-append, length-reverse}
use Rattle.std.proofs.lemmas.List.Sums.{sum_by-append}
use Rattle.run_theory.specs.Lists.{IsIn, IsPast}
use Rattle.run_theory.specs.Machine.{Machine, IsStamped}
use Rattle.run_theory.specs.Links.{sent_by, put, sent, taken, Closes, IsGiven}
use Rattle.run_theory.specs.Logs.{last, IsStep, IsLog, IsMade, IsThere}
use Rattle.run_theory.specs.Runs.{AreLogs}
use Rattle.run_theory.specs.LinkLaws.{at_time, IsClosingOf, offered, IsSentBy}
use Rattle.run_theory.proofs.Pasts.{entry_past, past_map, filter_map_none, past_self, past_more, past_trans, each_in}
use Rattle.run_theory.proofs.Pasts.{in_past}
use Rattle.run_theory.proofs.Links.{step_above, signal_below, log_past, sent_by_stop, sent_by_stamped, sent_below}
use Rattle.run_theory.proofs.Links.{given_less}
use Rattle.run_theory.proofs.Runs.{taken-step, if_true}
use Rattle.run_theory.proofs.Orders.{made_last}
use Rattle.run_theory.proofs.Cuts.{taken_past}

-- what stands in the front of a list stands at the same place in the whole
get_front : {A : Type 0} (xs ys : List A) (k : ℕ) (x : A) → slice_get xs k ≡ Some x → slice_get (xs ++ ys) k ≡ Some x
get_front [] ys k x is = absurd cc
get_front (y ∷ xs) ys zero x is = is
get_front (y ∷ xs) ys (suc k) x is = get_front xs ys k x is

-- what stands in a list with one more entry
get_push : {A : Type 0} (xs : List A) (y : A) (k : ℕ) (x : A) → slice_get (xs ++ y ∷ []) k ≡ Some x
    → (slice_get xs k ≡ Some x) ⊎ ((k ≡ length xs) × (y ≡ x))
get_push [] y zero x is = inr (refl, cc)
get_push [] y (suc k) x is = absurd cc
get_push (z ∷ xs) y zero x is = inl is
get_push (z ∷ xs) y (suc k) x is = go (get_push xs y k x is)
  where
    go : (slice_get xs k ≡ Some x) ⊎ ((k ≡ length xs) × (y ≡ x))
        → (slice_get xs k ≡ Some x) ⊎ ((suc k ≡ suc (length xs)) × (y ≡ x))
    go (inl is) = inl is
    go (inr is) = inr (ap suc is.0, is.1)

pub at_time_past : {A : Type 0} {xs ys : List A} (k : ℕ) (x : A) → IsPast xs ys → at_time xs k ≡ Some x
    → at_time ys k ≡ Some x
at_time_past {A} {xs} {ys} k x p is =
    let same : reverse ys ≡ reverse xs ++ reverse p.newer = ap reverse p.is ∙ reverse-append p.newer xs in
    subst (λ w. slice_get w k ≡ Some x) (sym same) (get_front (reverse xs) (reverse p.newer) k x is)

at_time_push : {A : Type 0} (xs : List A) (y : A) (k : ℕ) (x : A) → at_time (y ∷ xs) k ≡ Some x
    → (at_time xs k ≡ Some x) ⊎ ((k ≡ length xs) × (y ≡ x))
at_time_push xs y k x is =
    go (get_push (reverse xs) y k x (subst (λ w. slice_get w k ≡ Some x) (reverse-append (y ∷ []) xs) is))
  where
    go : (slice_get (reverse xs) k ≡ Some x) ⊎ ((k ≡ length (reverse xs)) × (y ≡ x))
        → (slice_get (reverse xs) k ≡ Some x) ⊎ ((k ≡ length xs) × (y ≡ x))
    go (inl is) = inl is
    go (inr is) = inr (is.0 ∙ length-reverse xs, is.1)

count_cons : {A : Type 0} (p : A → Bool) (x : A) (xs : List A)
    → count_by p (x ∷ xs) ≡ count_by p (x ∷ []) + count_by p xs
count_cons p x xs = sum_by-append (λ y. cond (p y) 1 0) (x ∷ []) xs

-- a part has no more entries that pass a test
count_past : {A : Type 0} (p : A → Bool) {xs ys : List A} → IsPast xs ys → count_by p xs ≤ count_by p ys
count_past p {xs} {ys} past = subst (λ w. count_by p xs ≤ count_by p w) (sym past.is) (go past.newer)
  where
    go : (newer : List _) → count_by p xs ≤ count_by p (newer ++ xs)
    go [] = omega arith
    go (x ∷ newer) = omega (arith, go newer, count_cons p x (newer ++ xs))

module _ {E X : Type 0} (m : Machine E X) where
  -- the k-th signal that was taken is the k-th that was sent, or the closing
  pub first_in_first_out : (logs : ℕ → List E) → AreLogs m logs → (i j k : ℕ) (x : X)
      → at_time (taken m i (logs j)) k ≡ Some x
      → (at_time (sent m i j (logs i)) k ≡ Some x)
      ⊎ (IsClosingOf m i j (logs i) x × (suc k ≡ length (taken m i (logs j))))
  first_in_first_out logs a i j k x is = go (logs i) (taken m i (logs j)) (a.linked i j) is
    where
      closed : (e : E) (log : List E) (xs : List X) → (c : Closes m i log e j (sent m i j (e ∷ log)) xs)
          → (at_time c.rest k ≡ Some x) ⊎ ((k ≡ length c.rest) × (m.closing i log e j ≡ x))
          → (at_time (sent m i j (e ∷ log)) k ≡ Some x) ⊎ (IsClosingOf m i j (e ∷ log) x × (suc k ≡ length xs))
      closed e log xs c (inl is) = inl (at_time_past k x c.past is)
      closed e log xs c (inr is) = inr ((c.stops, sym is.1), ap suc is.0 ∙ sym (ap length c.is))

      go : (log : List E) (xs : List X) → IsGiven m i j log xs → at_time xs k ≡ Some x
          → (at_time (sent m i j log) k ≡ Some x) ⊎ (IsClosingOf m i j log x × (suc k ≡ length xs))
      go log xs (inl p) is = inl (at_time_past k x p is)
      go [] xs (inr c) is = absurd c
      go (e ∷ log) xs (inr c) is =
          closed e log xs c (at_time_push c.rest (m.closing i log e j) k x (subst (λ w. at_time w k ≡ Some x) c.is is))

  -- what is read off the signals taken from a link, but not off its closing, is an older part of what is read off those
  -- sent
  pub link_projects : {Y : Type 0} (logs : ℕ → List E) → AreLogs m logs → (i j : ℕ) (f : X → Option Y)
      → ((x : X) → IsClosingOf m i j (logs i) x → f x ≡ None)
      → IsPast (filter_map f (taken m i (logs j))) (filter_map f (sent m i j (logs i)))
  link_projects {Y} logs a i j f none = go (logs i) (taken m i (logs j)) none (a.linked i j)
    where
      go : (log : List E) (xs : List X) → ((x : X) → IsClosingOf m i j log x → f x ≡ None) → IsGiven m i j log xs
          → IsPast (filter_map f xs) (filter_map f (sent m i j log))
      go log xs none (inl p) = past_map f xs (sent m i j log) p
      go [] xs none (inr c) = absurd c
      go (e ∷ log) xs none (inr c) =
          let same : filter_map f xs ≡ filter_map f c.rest = ap (filter_map f) c.is
          ∙ filter_map_none f (m.closing i log e j) c.rest (none (m.closing i log e j) (c.stops, refl)) in
          subst (λ w. IsPast w (filter_map f (sent m i j (e ∷ log)))) (sym same)
          (past_map f c.rest (sent m i j (e ∷ log)) c.past)

  -- nothing follows a step that stops
  pub nothing_follows_stop : (h : ℕ) (newer older : List E) (e : E) → IsLog m h (newer ++ e ∷ older) → m.stops e ≡ true
      → newer ≡ []
  nothing_follows_stop h [] older e l stop = refl
  nothing_follows_stop h (f ∷ newer) older e l stop = go newer (nothing_follows_stop h newer older e l.1 stop) l.0
    where
      go : (newer : List E) → newer ≡ [] → IsStep m h (newer ++ e ∷ older) f → f ∷ newer ≡ []
      go [] is s = absurd (cc (s.runs, stop))
      go (g ∷ newer) is s = absurd cc

  -- a host that was made later makes its steps after the step that made it
  pub hosts_are_made_first : (logs : ℕ → List E) → AreLogs m logs → (h : ℕ) (e : E) (older : List E)
      → IsPast (e ∷ older) (logs h) → m.made h ≢ 0
      → (d : IsMade m h (logs 0)) × (m.stamp d.step < m.stamp e)
  hosts_are_made_first logs a h e older p later = go (a.there h (entry_past p tt))
    where
      l : IsLog m h (e ∷ older)
      l = log_past m h p (a.local h)

      go : IsThere m h (logs 0) → (d : IsMade m h (logs 0)) × (m.stamp d.step < m.stamp e)
      go (inl first) = absurd (later first)
      go (inr d) = (d, omega (arith, d.at, made_last m h older l.1, step_above m h older e l.0))

  -- of the signals that pass a test, no more are taken than were put on the link
  pub taken_at_most_once : (logs : ℕ → List E) → AreLogs m logs → (i j : ℕ) (p : X → Bool)
      → count_by p (taken m i (logs j)) ≤ count_by p (offered m i j (logs i))
  taken_at_most_once logs a i j p = go (logs i) (taken m i (logs j)) (a.linked i j)
    where
      front : (b : Bool) (x : X) (xs : List X) → IsPast xs (if b then x ∷ xs else xs)
      front true x xs = past_more x (past_self xs)
      front false x xs = past_self xs

      more : (log : List E) → IsPast (sent m i j log) (offered m i j log)
      more [] = past_self []
      more (e ∷ log) = front (m.stops e) (m.closing i log e j) (sent m i j (e ∷ log))

      go : (log : List E) (xs : List X) → IsGiven m i j log xs → count_by p xs ≤ count_by p (offered m i j log)
      go log xs (inl past) = count_past p (past_trans past (more log))
      go [] xs (inr c) = absurd c
      go (e ∷ log) xs (inr c) =
          let all : List X = sent m i j (e ∷ log) in
          let le : count_by p (m.closing i log e j ∷ c.rest)
          ≤ count_by p (m.closing i log e j ∷ all) = omega (
            arith,
            count_past p c.past,
            count_cons p (m.closing i log e j) c.rest,
            count_cons p (m.closing i log e j) all,
          ) in
          subst (λ w. count_by p w ≤ count_by p (offered m i j (e ∷ log))) (sym c.is)
          (subst (λ w. count_by p (m.closing i log e j ∷ c.rest) ≤ count_by p w)
          (sym (if_true (m.closing i log e j ∷ all) all c.stops)) le)

  -- a signal on a link was sent by a step of its sender, which has its stamp
  in_put : (j : ℕ) (x : X) (xs before : List X) → IsIn x (put m j xs before)
      → (IsIn x xs × (m.to x ≡ j)) ⊎ IsIn x before
  in_put j x [] before i = inr i
  in_put j x (y ∷ xs) before i = go (m.to y == j) refl (in_put j x xs (if m.to y == j then y ∷ before else before) i)
    where
      go : (b : Bool) → (m.to y == j) ≡ b → (IsIn x xs × (m.to x ≡ j)) ⊎ IsIn x (if b then y ∷ before else before)
          → ((x ≡ y) ⊎ IsIn x xs) × (m.to x ≡ j) ⊎ IsIn x before
      go b is (inl in') = inl (inr in'.0, in'.1)
      go true is (inr (inl same)) = inl (inl same, ap m.to same ∙ eqb-true (m.to y) j is)
      go true is (inr (inr old)) = inr old
      go false is (inr old) = inr old

  sent_by_more : (i j : ℕ) (e : E) (log : List E) (x : X) → IsSentBy m i j log x → IsSentBy m i j (e ∷ log) x
  sent_by_more i j e log x s = record {
    step = s.step;
    before = s.before;
    past = past_more e s.past;
    at = s.at;
    sends = s.sends;
  }

  module _ (stamped : IsStamped m) where
    in_sent : (i j : ℕ) (log : List E) (x : X) → IsIn x (sent m i j log) → IsSentBy m i j log x
    in_sent i j [] x i' = absurd i'
    in_sent i j (e ∷ log) x i' = go (in_sent i j log x) (in_put j x (sent_by m i log e) (sent m i j log) i')
      where
        go : (IsIn x (sent m i j log) → IsSentBy m i j log x)
            → (IsIn x (sent_by m i log e) × (m.to x ≡ j)) ⊎ IsIn x (sent m i j log) → IsSentBy m i j (e ∷ log) x
        go below (inl new) = record {
          step = e;
          before = log;
          past = past_self (e ∷ log);
          at = sym (each_in (λ y. m.sent_at y ≡ m.stamp e) x (sent_by m i log e) (sent_by_stamped m stamped i log e)
              new.0);
          sends = inl new;
        }
        go below (inr old) = sent_by_more i j e log x (below old)

    in_given : (i j : ℕ) (log : List E) (x : X) (xs : List X) → IsGiven m i j log (x ∷ xs) → IsSentBy m i j log x
    in_given i j log x xs (inl p) = in_sent i j log x (in_past x p (inl refl))
    in_given i j [] x xs (inr c) = absurd c
    in_given i j (e ∷ log) x xs (inr c) =
        let same : x ≡ m.closing i log e j = cc (c.is) in
        record {
          step = e;
          before = log;
          past = past_self (e ∷ log);
          at = sym (ap m.sent_at same ∙ stamped.closing i log e j);
          sends = inr (c.stops, same);
        }

    -- and the step that took it has the greater stamp
    pub stamps_rise : (logs : ℕ → List E) → AreLogs m logs → (j : ℕ) (e : E) (older : List E)
        → IsPast (e ∷ older) (logs j) → m.asked e ≡ false
        → (s : IsSentBy m (m.from (m.signal e)) j (logs (m.from (m.signal e))) (m.signal e))
        × (m.stamp s.step < m.stamp e)
    stamps_rise logs a j e older p asked =
        let i = m.from (m.signal e) in
        let l : IsLog m j (e ∷ older) = log_past m j p (a.local j) in
        let took : IsPast (m.signal e ∷ taken m i older) (taken m i (logs j)) =
        subst (λ w. IsPast w (taken m i (logs j))) (taken-step m i e older asked refl) (taken_past m i p) in
        let s : IsSentBy m i j (logs i) (m.signal e) =
        in_given i j (logs i) (m.signal e) (taken m i older) (given_less m i j (logs i) took (a.linked i j)) in
        (s, omega (arith, s.at, signal_below m j older e l.0))

    -- after the closing nothing more is taken
    pub closing_is_last : (logs : ℕ → List E) → AreLogs m logs → (i j : ℕ) (x : X) (newer older : List X)
        → IsClosingOf m i j (logs i) x → taken m i (logs j) ≡ newer ++ x ∷ older → newer ≡ []
    closing_is_last logs a i j x newer older closes is =
        go (logs i) (a.local i) closes (subst (IsGiven m i j (logs i)) is (a.linked i j))
      where
        -- the closing is none of the signals that were sent
        apart : (e : E) (log : List E) → IsLog m i (e ∷ log) → IsClosingOf m i j (e ∷ log) x
            → IsIn x (sent m i j (e ∷ log)) → ⊥
        apart e log l c i' =
            let same : sent m i j (e ∷ log) ≡ sent m i j log =
            ap (λ w. put m j w (sent m i j log)) (sent_by_stop m i log e c.0) in
            let below : m.sent_at x ≤ last m i log = each_in (λ y. m.sent_at y ≤ last m i log) x (sent m i j log)
            (sent_below m stamped i j log l.1) (subst (IsIn x) same i') in
            omega (arith, below, step_above m i log e l.0, ap m.sent_at c.1, stamped.closing i log e j)

        in_newer : (newer : List X) → IsIn x (newer ++ x ∷ older)
        in_newer [] = inl refl
        in_newer (y ∷ newer) = inr (in_newer newer)

        go : (log : List E) → IsLog m i log → IsClosingOf m i j log x → IsGiven m i j log (newer ++ x ∷ older)
            → newer ≡ []
        go [] l c g = absurd c
        go (e ∷ log) l c (inl p) = absurd (apart e log l c (in_past x p (in_newer newer)))
        go (e ∷ log) l c (inr d) = rest newer d.is
          where
            rest : (newer : List X) → newer ++ x ∷ older ≡ m.closing i log e j ∷ d.rest → newer ≡ []
            rest [] is = refl
            rest (y ∷ newer) is =
                let same : newer ++ x ∷ older ≡ d.rest = cc (is) in
                absurd (apart e log l c (in_past x d.past (subst (IsIn x) same (in_newer newer))))
