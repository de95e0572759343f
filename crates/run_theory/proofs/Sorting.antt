-- A sort by stamp keeps each log, since along a log the stamps rise.
use Rattle.std.proofs.Common.{◌≡◌, ◌≢◌, ◌⊎◌, ◌==◌, ◌+◌, ◌<◌, ◌≤◌, ◌&&◌, ℕ, zero, suc, Bool, true, false, cond, List, []}
use Rattle.std.proofs.Common.{◌∷◌, ◌++◌, length, count_by, Contains, slice_index_or, IsPermutation, refl, sym, ap, ap₂}
use Rattle.std.proofs.Common.{◌∙◌, subst, inl, inr, ⊎_elim, arith, eq-eqb, ne_eqb, append-nil}
use Rattle.std.proofs.lemmas.List.Sums.{sum_by-cons}
use Rattle.std.proofs.lemmas.List.Sorted.{IsPermutation-sym, Contains-permutation, sum_by-IsPermutation}
use Rattle.std.proofs.lemmas.Bool.{cases_eq, cases_lt}
use Rattle.run_theory.specs.Lists.{Each, IsIn}
use Rattle.run_theory.specs.Machine.{Machine, IsStamped}
use Rattle.run_theory.specs.Runs.{log_of, Run, AreLogs, IsWithin}
use Rattle.run_theory.specs.Orders.{HasLogs, IsByStamp, joined}
use Rattle.run_theory.proofs.Pasts.{each_in, each_map, each_from}
use Rattle.run_theory.proofs.Runs.{log_of-own, log_of-other}
use Rattle.run_theory.proofs.Orders.{each_log, run_by_stamp}
use Rattle.run_theory.proofs.Merging.{AreOfHosts, Rises, of_hosts, log_of-append, log_of-host, log_of-no_host}

in_contains : {A : Type 0} (x : A) (xs : List A) → IsIn x xs → Contains xs x
in_contains x [] i = absurd i
in_contains x (y ∷ ys) (inl e) = (0, omega arith, sym e)
in_contains x (y ∷ ys) (inr i) = let c = in_contains x ys i in (suc c.0, omega (arith, c.1), c.2)

contains_in : {A : Type 0} (x : A) (xs : List A) (k : ℕ) → k < length xs → slice_index_or xs k x ≡ x → IsIn x xs
contains_in x [] k lt is = absurd (omega arith)
contains_in x (y ∷ ys) zero lt is = inl (sym is)
contains_in x (y ∷ ys) (suc k) lt is = inr (contains_in x ys k (omega arith) is)

-- an entry of a list is one of the same list in another order
in_permutation : {A : Type 0} (x : A) (xs ys : List A) → IsPermutation xs ys → IsIn x xs → IsIn x ys
in_permutation x xs ys p i = let c = Contains-permutation xs ys x p (in_contains x xs i) in contains_in x ys c.0 c.1 c.2

module _ {E X : Type 0} (m : Machine E X) where
  -- the step has this stamp
  abbrev has_stamp : ℕ → E → Bool
  has_stamp s e = m.stamp e == s

  -- the step is of this host, and has this stamp
  abbrev is_at : ℕ → ℕ → E → Bool
  is_at h s e = (m.host e == h) && (m.stamp e == s)

  count_here : (s : ℕ) (e : E) (log : List E) → m.stamp e ≡ s
      → count_by (has_stamp s) (e ∷ log) ≡ 1 + count_by (has_stamp s) log
  count_here s e log at = sum_by-cons (λ f. cond (has_stamp s f) 1 0) e log
      ∙ ap (λ b. cond b 1 0 + count_by (has_stamp s) log) (eq-eqb (m.stamp e) s at)

  count_there : (s : ℕ) (e : E) (log : List E) → m.stamp e ≢ s
      → count_by (has_stamp s) (e ∷ log) ≡ 0 + count_by (has_stamp s) log
  count_there s e log at = sum_by-cons (λ f. cond (has_stamp s f) 1 0) e log
      ∙ ap (λ b. cond b 1 0 + count_by (has_stamp s) log) (ne_eqb (m.stamp e) s at)

  count_above : (s : ℕ) (log : List E) → Each (λ f. m.stamp f < s) log → count_by (has_stamp s) log ≡ 0
  count_above s [] all = refl
  count_above s (e ∷ log) all =
      omega (arith, count_there s e log (λ is. omega (arith, is, all.0)), count_above s log all.1)

  -- where the stamps rise none comes twice
  count_rises : (s : ℕ) (log : List E) → Rises m log → count_by (has_stamp s) log ≤ 1
  count_rises s [] r = omega arith
  count_rises s (e ∷ log) r = go (count_rises s log r.1) (cases_eq (m.stamp e) s)
    where
      go : count_by (has_stamp s) log ≤ 1 → (m.stamp e ≡ s) ⊎ (m.stamp e ≢ s) → count_by (has_stamp s) (e ∷ log) ≤ 1
      go le (inl at) =
          omega (arith, count_here s e log at, count_above s log (subst (λ k. Each (λ f. m.stamp f < k) log) at r.0))
      go le (inr at) = omega (arith, le, count_there s e log at)

  count_in : (s : ℕ) (x : E) (log : List E) → IsIn x log → m.stamp x ≡ s → 1 ≤ count_by (has_stamp s) log
  count_in s x [] i at = absurd i
  count_in s x (e ∷ log) (inl is) at = omega (arith, count_here s e log (ap m.stamp (sym is) ∙ at))
  count_in s x (e ∷ log) (inr i) at = go (count_in s x log i at) (cases_eq (m.stamp e) s)
    where
      go : 1 ≤ count_by (has_stamp s) log → (m.stamp e ≡ s) ⊎ (m.stamp e ≢ s) → 1 ≤ count_by (has_stamp s) (e ∷ log)
      go le (inl here) = omega (arith, count_here s e log here)
      go le (inr there) = omega (arith, le, count_there s e log there)

  -- where the stamps don't fall and none comes twice, they rise
  rises_by_count : (log : List E) → IsByStamp m log → ((s : ℕ) → count_by (has_stamp s) log ≤ 1) → Rises m log
  rises_by_count [] b once = tt
  rises_by_count (e ∷ log) b once = (each_from (λ f. m.stamp f < m.stamp e) log below, rises_by_count log b.1 less)
    where
      below : (f : E) → IsIn f log → m.stamp f < m.stamp e
      below f i =
          let le : m.stamp f ≤ m.stamp e = each_in (λ g. m.stamp g ≤ m.stamp e) f log b.0 i in
          ⊎_elim (λ is. absurd (omega (
            arith,
            once (m.stamp e),
            count_here (m.stamp e) e log refl,
            count_in (m.stamp e)
                f log i is,
          ))) (λ apart. omega (arith, le, apart)) (cases_eq (m.stamp f) (m.stamp e))

      less : (s : ℕ) → count_by (has_stamp s) log ≤ 1
      less s = ⊎_elim (λ at. omega (arith, once s, count_here s e log at))
          (λ at. omega (arith, once s, count_there s e log at)) (cases_eq (m.stamp e) s)

  -- two lists whose stamps rise, with the same entries, are the same
  same_rises : (xs ys : List E) → Rises m xs → Rises m ys → ((x : E) → IsIn x xs → IsIn x ys)
      → ((y : E) → IsIn y ys → IsIn y xs) → xs ≡ ys
  same_rises [] [] r r' to from = refl
  same_rises [] (y ∷ ys) r r' to from = absurd (from y (inl refl))
  same_rises (x ∷ xs) [] r r' to from = absurd (to x (inl refl))
  same_rises (x ∷ xs) (y ∷ ys) r r' to from = ap₂ (λ v w. v ∷ w) same
      (same_rises xs ys r.1 r'.1 (λ z i. rest z (each_in (λ f. m.stamp f < m.stamp x) z xs r.0 i) (to z (inr i)))
      (λ z i. rest' z (each_in (λ f. m.stamp f < m.stamp y) z ys r'.0 i) (from z (inr i))))
    where
      head : (x ≡ y) ⊎ IsIn x ys → (y ≡ x) ⊎ IsIn y xs → x ≡ y
      head (inl is) j = is
      head (inr i) (inl is) = sym is
      head (inr i) (inr j) = absurd (omega (
        arith,
        each_in (λ f. m.stamp f < m.stamp y) x ys r'.0 i,
        each_in
            (λ f. m.stamp f < m.stamp x) y xs r.0 j,
      ))

      same : x ≡ y
      same = head (to x (inl refl)) (from y (inl refl))

      rest : (z : E) → m.stamp z < m.stamp x → (z ≡ y) ⊎ IsIn z ys → IsIn z ys
      rest z lt (inl is) = absurd (omega (arith, lt, ap m.stamp is, ap m.stamp same))
      rest z lt (inr i) = i

      rest' : (z : E) → m.stamp z < m.stamp y → (z ≡ x) ⊎ IsIn z xs → IsIn z xs
      rest' z lt (inl is) = absurd (omega (arith, lt, ap m.stamp is, ap m.stamp same))
      rest' z lt (inr i) = i

  -- the steps of a log are the events of its host
  in_log : (x : E) (es : List E) (h : ℕ) → m.host x ≡ h → IsIn x es → IsIn x (log_of m es h)
  in_log x [] h at i = i
  in_log x (e ∷ es) h at i = go (λ j. in_log x es h at j) i (cases_eq (m.host e) h)
    where
      go : (IsIn x es → IsIn x (log_of m es h)) → (x ≡ e) ⊎ IsIn x es → (m.host e ≡ h) ⊎ (m.host e ≢ h)
          → IsIn x (log_of m (e ∷ es) h)
      go below (inl is) (inl own) = subst (IsIn x) (sym (log_of-own m e es h own)) (inl is)
      go below (inl is) (inr other) = absurd (other (ap m.host (sym is) ∙ at))
      go below (inr j) (inl own) = subst (IsIn x) (sym (log_of-own m e es h own)) (inr (below j))
      go below (inr j) (inr other) = subst (IsIn x) (sym (log_of-other m e es h other)) (below j)

  pub record IsOf (h : ℕ) (es : List E) (x : E) : Type 0 where
    pub at : m.host x ≡ h
    pub inside : IsIn x es

  of_log : (es : List E) (h : ℕ) → Each (IsOf h es) (log_of m es h)
  of_log [] h = tt
  of_log (e ∷ es) h = go (each_map (IsOf h es) (IsOf h (e ∷ es)) (log_of m es h)
      (λ x o. record { at = o.at; inside = inr o.inside }) (of_log es h)) (cases_eq (m.host e) h)
    where
      go : Each (IsOf h (e ∷ es)) (log_of m es h) → (m.host e ≡ h) ⊎ (m.host e ≢ h)
          → Each (IsOf h (e ∷ es)) (log_of m (e ∷ es) h)
      go below (inl own) = subst (Each (IsOf h (e ∷ es))) (sym (log_of-own m e es h own))
          (record { at = own; inside = inl refl }, below)
      go below (inr other) = subst (Each (IsOf h (e ∷ es))) (sym (log_of-other m e es h other)) below

  -- the same events in another order have the same steps of a host
  in_log_again : (all es : List E) (h : ℕ) → IsPermutation all es → (x : E) → IsIn x (log_of m all h)
      → IsIn x (log_of m es h)
  in_log_again all es h p x i =
      let o = each_in (IsOf h all) x (log_of m all h) (of_log all h) i in
      in_log x es h o.at (in_permutation x all es p o.inside)

  by_stamp_log : (es : List E) (h : ℕ) → IsByStamp m es → IsByStamp m (log_of m es h)
  by_stamp_log [] h b = tt
  by_stamp_log (e ∷ es) h b = go (by_stamp_log es h b.1) (cases_eq (m.host e) h)
    where
      go : IsByStamp m (log_of m es h) → (m.host e ≡ h) ⊎ (m.host e ≢ h) → IsByStamp m (log_of m (e ∷ es) h)
      go rest (inl own) =
          subst (IsByStamp m) (sym (log_of-own m e es h own)) (each_log m (λ f. m.stamp f ≤ m.stamp e) es h b.0, rest)
      go rest (inr other) = subst (IsByStamp m) (sym (log_of-other m e es h other)) rest

  -- how often a host has a stamp, told by its log or by all events
  count_log : (es : List E) (h s : ℕ) → count_by (has_stamp s) (log_of m es h) ≡ count_by (is_at h s) es
  count_log [] h s = refl
  count_log (e ∷ es) h s =
      go (m.host e == h) refl (count_log es h s) ∙ sym (sum_by-cons (λ f. cond (is_at h s f) 1 0) e es)
    where
      go : (b : Bool) → (m.host e == h) ≡ b → count_by (has_stamp s) (log_of m es h) ≡ count_by (is_at h s) es
          → count_by (has_stamp s) (cond b (e ∷ log_of m es h) (log_of m es h))
          ≡ cond (b && has_stamp s e) 1 0 + count_by (is_at h s) es
      go true at rest =
          sum_by-cons (λ f. cond (has_stamp s f) 1 0) e (log_of m es h) ∙ ap (λ n. cond (has_stamp s e) 1 0 + n) rest
      go false at rest = omega (arith, rest)

  -- all events in an order by stamp have the same logs
  pub has_logs_sorted : (logs : ℕ → List E) (all es : List E) → AreLogs m logs → HasLogs m all logs
      → IsPermutation all es → IsByStamp m es → HasLogs m es logs
  has_logs_sorted logs all es a has p b h = same_rises (log_of m es h) (log_of m all h) rises' rises
      (in_log_again es all h (IsPermutation-sym all es p)) (in_log_again all es h p) ∙ has h
    where
      rises : Rises m (log_of m all h)
      rises = subst (Rises m) (sym (has h)) ((of_hosts m logs a).rises h)

      once : (s : ℕ) → count_by (has_stamp s) (log_of m es h) ≤ 1
      once s =
          let same = sum_by-IsPermutation (λ f. cond (is_at h s f) 1 0) all es p in
          omega (arith, count_log es h s, same, count_log all h s, count_rises s (log_of m all h) rises)

      rises' : Rises m (log_of m es h)
      rises' = rises_by_count (log_of m es h) (by_stamp_log es h b) once

  pub run_sorted : IsStamped m → (logs : ℕ → List E) (all es : List E) → AreLogs m logs → HasLogs m all logs
      → IsPermutation all es → IsByStamp m es → Run m es
  run_sorted stamped logs all es a has p b = run_by_stamp m stamped es logs (has_logs_sorted logs all es a has p b) b a

  -- the logs one after another have those logs
  log_of-joined_above : (n : ℕ) (logs : ℕ → List E) (h : ℕ) → AreOfHosts m logs → n ≤ h
      → log_of m (joined n logs) h ≡ []
  log_of-joined_above zero logs h a le = refl
  log_of-joined_above (suc n) logs h a le =
      log_of-append m (logs n) (joined n logs) h
      ∙ ap₂ (λ v w. v ++ w) (log_of-no_host m n (logs n) h (λ is. omega arith) (a.at n))
      (log_of-joined_above n logs h a (omega arith))

  log_of-joined_below : (n : ℕ) (logs : ℕ → List E) (h : ℕ) → AreOfHosts m logs → h < n
      → log_of m (joined n logs) h ≡ logs h
  log_of-joined_below zero logs h a lt = absurd (omega arith)
  log_of-joined_below (suc n) logs h a lt =
      log_of-append m (logs n) (joined n logs) h ∙ go (log_of-joined_below n logs h a) (cases_eq n h)
    where
      go : (h < n → log_of m (joined n logs) h ≡ logs h) → (n ≡ h) ⊎ (n ≢ h)
          → log_of m (logs n) h ++ log_of m (joined n logs) h ≡ logs h
      go rest (inl is) =
          ap₂ (λ v w. v ++ w) (ap (log_of m (logs n)) (sym is) ∙ (log_of-host m n (logs n) (a.at n) ∙ ap logs is))
          (log_of-joined_above n logs h a (omega arith)) ∙ append-nil (logs h)
      go rest (inr apart) = ap₂ (λ v w. v ++ w) (log_of-no_host m n (logs n) h apart (a.at n)) (rest (omega arith))

  pub has_logs_joined : (n : ℕ) (logs : ℕ → List E) → AreLogs m logs → IsWithin n logs → HasLogs m (joined n logs) logs
  has_logs_joined n logs a within h = ⊎_elim (λ lt. log_of-joined_below n logs h (of_hosts m logs a) lt)
      (λ le. log_of-joined_above n logs h (of_hosts m logs a) le ∙ sym (within h le)) (cases_lt h n)
