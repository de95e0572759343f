-- Merging logs by (stamp, host) keeps each log, and orders the events by stamp.
use Rattle.std.proofs.Common.{◌≡◌, ◌≢◌, ◌⊎◌, ◌==◌, ◌<◌, ◌≤◌, ◌&&◌, ◌||◌, ℕ, zero, suc, Bool, true, false, List, [], ◌∷◌}
use Rattle.std.proofs.Common.{◌++◌, if◌then◌else◌, nat_lt, refl, sym, ap, ◌∙◌, ap₂, append-nil, inl, inr, arith}
use Rattle.std.proofs.lemmas.Bool.{cases_eq, cases_lt}
use Rattle.std.proofs.Math.Path.{fun_ext}
use Rattle.std.proofs.lemmas.Bool.Decides.{nat_tests}
use Rattle.run_theory.specs.Lists.{Each}
use Rattle.run_theory.specs.Machine.{Machine, IsStamped}
use Rattle.run_theory.specs.Logs.{last, IsLog}
use Rattle.run_theory.specs.Runs.{log_of, AreLogs, IsWithin}
use Rattle.run_theory.specs.Orders.{HasLogs, IsByStamp, is_after, insert, insert_all, merged, LogsRun}
use Rattle.run_theory.proofs.Pasts.{each_map}
use Rattle.run_theory.proofs.Links.{step_above, stamps_below}
use Rattle.run_theory.proofs.Runs.{log_of-own, log_of-other}
use Rattle.run_theory.proofs.Orders.{run_by_stamp}

-- what (stamp, host) tells, over plain numbers
after_stamp : (s t h k : ℕ) → (nat_lt s t || ((s == t) && nat_lt h k)) ≡ true → s ≤ t
after_stamp s t h k e = grind (arith, nat_tests)

not_after_stamp : (s t h k : ℕ) → (nat_lt s t || ((s == t) && nat_lt h k)) ≡ false → t ≤ s
not_after_stamp s t h k e = grind (arith, nat_tests)

module _ {E X : Type 0} (m : Machine E X) where
  pub each_insert : (P : E → Type 0) (e : E) (es : List E) → P e → Each P es → Each P (insert m e es)
  each_insert P e [] p all = (p, tt)
  each_insert P e (f ∷ es) p all = go (is_after m f e) (each_insert P e es p all.1)
    where
      go : (b : Bool) → Each P (insert m e es) → Each P (if b then f ∷ insert m e es else e ∷ f ∷ es)
      go true rest = (all.0, rest)
      go false rest = (p, all)

  pub each_insert_all : (P : E → Type 0) (log es : List E) → Each P log → Each P es → Each P (insert_all m log es)
  each_insert_all P [] es new all = all
  each_insert_all P (e ∷ log) es new all =
      each_insert P e (insert_all m log es) new.0 (each_insert_all P log es new.1 all)

  by_stamp_insert : (e : E) (es : List E) → IsByStamp m es → IsByStamp m (insert m e es)
  by_stamp_insert e [] b = (tt, tt)
  by_stamp_insert e (f ∷ es) b = go (is_after m f e) refl (by_stamp_insert e es b.1)
    where
      go : (t : Bool) → is_after m f e ≡ t → IsByStamp m (insert m e es)
          → IsByStamp m (if t then f ∷ insert m e es else e ∷ f ∷ es)
      go true is rest =
          let above : m.stamp e ≤ m.stamp f = after_stamp (m.stamp e) (m.stamp f) (m.host e) (m.host f) is in
          (each_insert (λ g. m.stamp g ≤ m.stamp f) e es above b.0, rest)
      go false is rest =
          let above : m.stamp f ≤ m.stamp e = not_after_stamp (m.stamp e) (m.stamp f) (m.host e) (m.host f) is in (
            (
              above,
              each_map (λ g. m.stamp g ≤ m.stamp f) (λ g. m.stamp g ≤ m.stamp e) es
                  (λ g le. omega (arith, above, le)) b.0,
            ),
            b,
          )

  by_stamp_insert_all : (log es : List E) → IsByStamp m es → IsByStamp m (insert_all m log es)
  by_stamp_insert_all [] es b = b
  by_stamp_insert_all (e ∷ log) es b = by_stamp_insert e (insert_all m log es) (by_stamp_insert_all log es b)

  pub by_stamp_merged : (n : ℕ) (logs : ℕ → List E) → IsByStamp m (merged m n logs)
  by_stamp_merged zero logs = tt
  by_stamp_merged (suc n) logs = by_stamp_insert_all (logs n) (merged m n logs) (by_stamp_merged n logs)

  log_of-front : (g : E) (xs ys : List E) (h : ℕ) → log_of m xs h ≡ log_of m ys h
      → log_of m (g ∷ xs) h ≡ log_of m (g ∷ ys) h
  log_of-front g xs ys h is = ap (λ w. if m.host g == h then g ∷ w else w) is

  -- two events of different hosts may change places
  log_of-swap : (e f : E) (es : List E) (h : ℕ) → (m.host f ≡ m.host e → ⊥)
      → log_of m (f ∷ e ∷ es) h ≡ log_of m (e ∷ f ∷ es) h
  log_of-swap e f es h apart = go (cases_eq (m.host e) h) (cases_eq (m.host f) h)
    where
      go : (m.host e ≡ h) ⊎ (m.host e ≢ h) → (m.host f ≡ h) ⊎ (m.host f ≢ h)
          → log_of m (f ∷ e ∷ es) h ≡ log_of m (e ∷ f ∷ es) h
      go (inl at) (inl at') = absurd (apart (at' ∙ sym at))
      go (inl at) (inr other) =
          log_of-other m f (e ∷ es) h other
          ∙ (log_of-own m e es h at ∙ (ap (λ w. e ∷ w) (sym (log_of-other m f es h other)) ∙ sym
          (log_of-own m e (f ∷ es) h at)))
      go (inr other) at =
          log_of-front f (e ∷ es) es h (log_of-other m e es h other) ∙ sym (log_of-other m e (f ∷ es) h other)

  -- an event that is above all of its host goes in front, for every log
  log_of-insert : (e : E) (es : List E) (h : ℕ) → Each (λ f. m.host f ≡ m.host e → m.stamp f < m.stamp e) es
      → log_of m (insert m e es) h ≡ log_of m (e ∷ es) h
  log_of-insert e [] h below = refl
  log_of-insert e (f ∷ es) h below = go (is_after m f e) refl (log_of-insert e es h below.1)
    where
      go : (t : Bool) → is_after m f e ≡ t → log_of m (insert m e es) h ≡ log_of m (e ∷ es) h
          → log_of m (if t then f ∷ insert m e es else e ∷ f ∷ es) h ≡ log_of m (e ∷ f ∷ es) h
      go false is rest = refl
      go true is rest =
          let above : m.stamp e ≤ m.stamp f = after_stamp (m.stamp e) (m.stamp f) (m.host e) (m.host f) is in
          let apart : m.host f ≡ m.host e → ⊥ = λ same. omega (arith, below.0 same, above) in
          log_of-front f (insert m e es) (e ∷ es) h rest ∙ log_of-swap e f es h apart

  -- each step has a greater stamp than those before it
  abbrev pub Rises : List E → Type 0
  Rises [] = Unit {0}
  Rises (e ∷ log) = Each (λ f. m.stamp f < m.stamp e) log × Rises log

  -- each list is of steps of its host, whose stamps rise
  pub record AreOfHosts (logs : ℕ → List E) : Type 0 where
    pub at : (h : ℕ) → Each (λ e. m.host e ≡ h) (logs h)
    pub rises : (h : ℕ) → Rises (logs h)

  log_of-insert_all : (n : ℕ) (log es : List E) (h : ℕ) → Each (λ e. m.host e ≡ n) log → Rises log
      → Each (λ e. m.host e < n) es → log_of m (insert_all m log es) h ≡ log_of m (log ++ es) h
  log_of-insert_all n [] es h at rises below = refl
  log_of-insert_all n (e ∷ log) es h at rises below =
      let P : E → Type 0 = λ f. m.host f ≡ m.host e → m.stamp f < m.stamp e in
      let new : Each P log = each_map (λ f. m.stamp f < m.stamp e) P log (λ f lt _. lt) rises.0 in
      let old : Each P es =
      each_map (λ f. m.host f < n) P es (λ f lt same. absurd (omega (arith, lt, same, at.0))) below in
      log_of-insert e (insert_all m log es) h (each_insert_all P log es new old)
      ∙ log_of-front e (insert_all m log es) (log ++ es) h (log_of-insert_all n log es h at.1 rises.1 below)

  pub log_of-append : (xs ys : List E) (h : ℕ) → log_of m (xs ++ ys) h ≡ log_of m xs h ++ log_of m ys h
  log_of-append [] ys h = refl
  log_of-append (e ∷ xs) ys h = go (log_of-append xs ys h) (cases_eq (m.host e) h)
    where
      go : log_of m (xs ++ ys) h ≡ log_of m xs h ++ log_of m ys h → (m.host e ≡ h) ⊎ (m.host e ≢ h)
          → log_of m (e ∷ (xs ++ ys)) h ≡ log_of m (e ∷ xs) h ++ log_of m ys h
      go rest (inl at) = log_of-own m e (xs ++ ys) h at
          ∙ (ap (λ w. e ∷ w) rest ∙ ap (λ w. w ++ log_of m ys h) (sym (log_of-own m e xs h at)))
      go rest (inr at) =
          log_of-other m e (xs ++ ys) h at ∙ (rest ∙ ap (λ w. w ++ log_of m ys h) (sym (log_of-other m e xs h at)))

  -- the steps of one host have its log alone
  pub log_of-host : (n : ℕ) (log : List E) → Each (λ e. m.host e ≡ n) log → log_of m log n ≡ log
  log_of-host n [] at = refl
  log_of-host n (e ∷ log) at = log_of-own m e log n at.0 ∙ ap (λ w. e ∷ w) (log_of-host n log at.1)

  pub log_of-no_host : (n : ℕ) (log : List E) (h : ℕ) → (n ≡ h → ⊥) → Each (λ e. m.host e ≡ n) log → log_of m log h ≡ []
  log_of-no_host n [] h apart at = refl
  log_of-no_host n (e ∷ log) h apart at =
      log_of-other m e log h (λ is. apart (sym at.0 ∙ is)) ∙ log_of-no_host n log h apart at.1

  hosts_merged : (n : ℕ) (logs : ℕ → List E) → AreOfHosts logs → Each (λ e. m.host e < n) (merged m n logs)
  hosts_merged zero logs a = tt
  hosts_merged (suc n) logs a =
      each_insert_all (λ e. m.host e < suc n) (logs n) (merged m n logs)
      (each_map (λ e. m.host e ≡ n) (λ e. m.host e < suc n) (logs n) (λ e is. omega (arith, is)) (a.at n))
      (each_map (λ e. m.host e < n) (λ e. m.host e < suc n) (merged m n logs) (λ e lt. omega (arith, lt))
      (hosts_merged n logs a))

  log_of-merged_parts : (n : ℕ) (logs : ℕ → List E) (h : ℕ) → AreOfHosts logs
      → log_of m (merged m (suc n) logs) h ≡ log_of m (logs n) h ++ log_of m (merged m n logs) h
  log_of-merged_parts n logs h a = log_of-insert_all n (logs n) (merged m n logs) h (a.at n) (a.rises n)
      (hosts_merged n logs a) ∙ log_of-append (logs n) (merged m n logs) h

  log_of-merged_above : (n : ℕ) (logs : ℕ → List E) (h : ℕ) → AreOfHosts logs → n ≤ h
      → log_of m (merged m n logs) h ≡ []
  log_of-merged_above zero logs h a le = refl
  log_of-merged_above (suc n) logs h a le =
      log_of-merged_parts n logs h a ∙ ap₂ (λ v w. v ++ w) (log_of-no_host n (logs n) h (λ is. omega arith) (a.at n))
      (log_of-merged_above n logs h a (omega arith))

  log_of-merged_below : (n : ℕ) (logs : ℕ → List E) (h : ℕ) → AreOfHosts logs → h < n
      → log_of m (merged m n logs) h ≡ logs h
  log_of-merged_below zero logs h a lt = absurd (omega arith)
  log_of-merged_below (suc n) logs h a lt =
      log_of-merged_parts n logs h a ∙ go (log_of-merged_below n logs h a) (cases_eq n h)
    where
      go : (h < n → log_of m (merged m n logs) h ≡ logs h) → (n ≡ h) ⊎ (n ≢ h)
          → log_of m (logs n) h ++ log_of m (merged m n logs) h ≡ logs h
      go rest (inl is) =
          ap₂ (λ v w. v ++ w) (ap (log_of m (logs n)) (sym is) ∙ (log_of-host n (logs n) (a.at n) ∙ ap logs is))
          (log_of-merged_above n logs h a (omega arith)) ∙ append-nil (logs h)
      go rest (inr apart) = ap₂ (λ v w. v ++ w) (log_of-no_host n (logs n) h apart (a.at n)) (rest (omega arith))

  -- the merged list has the logs that were merged
  pub has_logs_merged : (n : ℕ) (logs : ℕ → List E) → AreOfHosts logs → IsWithin n logs
      → HasLogs m (merged m n logs) logs
  has_logs_merged n logs a within h = go (cases_lt h n)
    where
      go : (h < n) ⊎ (n ≤ h) → log_of m (merged m n logs) h ≡ logs h
      go (inl lt) = log_of-merged_below n logs h a lt
      go (inr le) = log_of-merged_above n logs h a le ∙ sym (within h le)

  pub log_at : (h : ℕ) (log : List E) → IsLog m h log → Each (λ e. m.host e ≡ h) log
  log_at h [] l = tt
  log_at h (e ∷ log) l = (l.0.at, log_at h log l.1)

  pub log_rises : (h : ℕ) (log : List E) → IsLog m h log → Rises log
  log_rises h [] l = tt
  log_rises h (e ∷ log) l = (
    each_map (λ f. m.stamp f ≤ last m h log) (λ f. m.stamp f < m.stamp e) log
        (λ f le. omega (arith, le, step_above m h log e l.0)) (stamps_below m h log l.1),
    log_rises h log l.1,
  )

  pub of_hosts : (logs : ℕ → List E) → AreLogs m logs → AreOfHosts logs
  of_hosts logs a = record { at = λ h. log_at h (logs h) (a.local h); rises = λ h. log_rises h (logs h) (a.local h) }

  -- right logs, merged, are a run
  pub merged_run : IsStamped m → (n : ℕ) (logs : ℕ → List E) → IsWithin n logs → AreLogs m logs → LogsRun m n logs
  merged_run stamped n logs within a = run_by_stamp m stamped (merged m n logs) logs
      (has_logs_merged n logs (of_hosts logs a) within) (by_stamp_merged n logs) a

  -- and its logs are those logs again
  pub logs_merged : (n : ℕ) (logs : ℕ → List E) → IsWithin n logs → AreLogs m logs → log_of m (merged m n logs) ≡ logs
  logs_merged n logs within a = fun_ext (has_logs_merged n logs (of_hosts logs a) within)
