-- A cut of right logs is closed exactly where it is right logs itself.
use Rattle.std.proofs.Common.{◌≡◌, ◌⊎◌, ◌≤◌, ℕ, Bool, true, false, List, [], ◌∷◌, ◌++◌, if◌then◌else◌, sym, ap, subst}
use Rattle.std.proofs.Common.{inl, inr, arith}
use Rattle.run_theory.specs.Lists.{IsPast}
use Rattle.run_theory.specs.Machine.{Machine, IsStamped}
use Rattle.run_theory.specs.Links.{is_from, taken, IsGiven}
use Rattle.run_theory.specs.Logs.{last, IsLog, IsMade, IsThere}
use Rattle.run_theory.specs.Runs.{AreLogs}
use Rattle.run_theory.specs.Cuts.{IsCut, IsClosed}
use Rattle.run_theory.proofs.Pasts.{past_self, past_more, past_trans, past_cases, entry_past}
use Rattle.run_theory.proofs.Links.{step_above, log_past, last_after, given_after, given_less, given_below}

module _ {E X : Type 0} (m : Machine E X) where
  maybe_taken : (b : Bool) (x : X) (xs : List X) → IsPast xs (if b then x ∷ xs else xs)
  maybe_taken true x xs = past_more x (past_self xs)
  maybe_taken false x xs = past_self xs

  taken_after : (i : ℕ) (newer log : List E) → IsPast (taken m i log) (taken m i (newer ++ log))
  taken_after i [] log = past_self (taken m i log)
  taken_after i (e ∷ newer) log =
      past_trans (taken_after i newer log) (maybe_taken (is_from m i e) (m.signal e) (taken m i (newer ++ log)))

  -- what was taken by an older part of a log is an older part of what was taken
  pub taken_past : (i : ℕ) {log all : List E} → IsPast log all → IsPast (taken m i log) (taken m i all)
  taken_past i {log} p = subst (λ w. IsPast (taken m i log) (taken m i w)) (sym p.is) (taken_after i p.newer log)

  -- a step whose stamp isn't above the last one of an older part lies in that part
  step_inside : (newer log before : List E) (step : E) → IsLog m 0 (newer ++ log) → m.stamp step ≤ last m 0 log
      → IsPast (step ∷ before) (newer ++ log) → IsPast (step ∷ before) log
  step_inside [] log before step l below p = p
  step_inside (e ∷ newer) log before step l below p =
      go (λ q. step_inside newer log before step l.1 below q) (past_cases e p)
    where
      go : (IsPast (step ∷ before) (newer ++ log) → IsPast (step ∷ before) log)
          → (e ∷ (newer ++ log) ≡ step ∷ before) ⊎ IsPast (step ∷ before) (newer ++ log) → IsPast (step ∷ before) log
      go rest (inl is) =
          let same : e ≡ step = cc in
          absurd (omega (arith, ap m.stamp same, last_after m 0 newer log l.1, step_above m 0 (newer ++ log) e l.0))
      go rest (inr q) = rest q

  pub made_inside : (h : ℕ) {log all : List E} → IsPast log all → IsLog m 0 all → m.made h ≤ last m 0 log
      → IsMade m h all → IsMade m h log
  made_inside h {log} p l below d = record {
    step = d.step;
    before = d.before;
    past = step_inside p.newer log d.before d.step (subst (IsLog m 0) p.is l) (omega (arith, d.at))
        (subst (IsPast (d.step ∷ d.before)) p.is d.past);
    at = d.at;
    makes = d.makes;
  }

  there_inside : (h : ℕ) {log all : List E} → IsPast log all → IsLog m 0 all → m.made h ≤ last m 0 log → IsThere m h all
      → IsThere m h log
  there_inside h p l below (inl z) = inl z
  there_inside h p l below (inr d) = inr (made_inside h p l below d)

  made_below : (h : ℕ) (log : List E) → IsLog m 0 log → IsThere m h log → m.made h ≤ last m 0 log
  made_below h log l (inl z) = omega (arith, z)
  made_below h log l (inr d) =
      subst (λ w. m.made h ≤ last m 0 w) (sym d.past.is)
      (omega (arith, d.at, last_after m 0 d.past.newer (d.step ∷ d.before) (subst (IsLog m 0) d.past.is l)))

  module _ (stamped : IsStamped m) where
    linked_inside : (inside logs : ℕ → List E) (i j : ℕ) → AreLogs m logs → IsCut inside logs → IsClosed m inside
        → IsGiven m i j (inside i) (taken m i (inside j))
    linked_inside inside logs i j a cut closed =
        let past = cut i in
        given_after m stamped i j past.newer (inside i) (taken m i (inside j)) (subst (IsLog m i) past.is (a.local i))
        (closed.signals i j)
        (subst (λ w. IsGiven m i j w (taken m i (inside j))) past.is
        (given_less m i j (logs i) (taken_past i (cut j)) (a.linked i j)))

    -- a closed cut of right logs is right logs
    pub logs_of_closed : (inside logs : ℕ → List E) → AreLogs m logs → IsCut inside logs → IsClosed m inside
        → AreLogs m inside
    logs_of_closed inside logs a cut closed = record {
      local = λ h. log_past m h (cut h) (a.local h);
      there = λ h has. there_inside h (cut 0) (a.local 0) (closed.hosts h has) (a.there h (entry_past (cut h) has));
      linked = λ i j. linked_inside inside logs i j a cut closed;
    }

    -- right logs are closed by their stamps
    pub closed_of_logs : (logs : ℕ → List E) → AreLogs m logs → IsClosed m logs
    closed_of_logs logs a = record {
      signals = λ i j. given_below m stamped i j (logs i) (taken m i (logs j)) (a.local i) (a.linked i j);
      hosts = λ h has. made_below h (logs 0) (a.local 0) (a.there h has);
    }
