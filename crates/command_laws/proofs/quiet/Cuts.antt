-- Of two quiet moments of the same logs, the one that comes first in host 0's log is a cut of the other.
use Rattle.std.proofs.Common.{◌≡◌, ◌≢◌, ◌⊎◌, ◌<◌, ◌≤◌, ℕ, Bool, true, false, List, [], ◌∷◌, ◌++◌, length, refl, sym, ap}
use Rattle.std.proofs.Common.{◌∙◌, subst, inl, inr, arith}
use Rattle.std.proofs.lemmas.Bool.{cases_lt, false≢true}
use Rattle.run_theory.proofs.EventCases.{event_each}
use Rattle.run_theory.specs.Cuts.{IsCut}
use Rattle.run_theory.specs.Links.{IsGiven, sent, taken}
use Rattle.run_theory.specs.Lists.{IsPast}
use Rattle.run_theory.specs.Machine.{IsStamped, Machine}
use Rattle.run_theory.specs.Orders.{merged}
use Rattle.run_theory.specs.Runs.{AreLogs, Happens, IsWithin, Run, log_of}
use Rattle.run_theory.proofs.Along.{along_run, within_cut}
use Rattle.run_theory.proofs.Cuts.{taken_past}
use Rattle.run_theory.proofs.Links.{sent_more}
use Rattle.run_theory.proofs.Merging.{logs_merged, merged_run}
use Rattle.run_theory.proofs.Pasts.{past_cases, past_nil, past_self, past_short, past_trans, past_whole}
use Rattle.run_theory.proofs.Runs.{log_of-own, log_of-past}
use Rattle.world_core.specs.Quiet.{IsQuiet}

-- of two older parts of one list, one is an older part of the other
past_either : {A : Type 0} (zs : List A) {xs ys : List A} → IsPast xs zs → IsPast ys zs → IsPast xs ys ⊎ IsPast ys xs
past_either [] {xs} {ys} p q = inl (subst (λ w. IsPast w ys) (sym (past_whole xs [] p (omega arith))) (past_nil ys))
past_either {A} (z ∷ zs) {xs} {ys} p q = by (past_cases z p) (past_cases z q) (λ a b. past_either zs a b)
  where
    by : (z ∷ zs ≡ xs) ⊎ IsPast xs zs → (z ∷ zs ≡ ys) ⊎ IsPast ys zs
        → (IsPast xs zs → IsPast ys zs → IsPast xs ys ⊎ IsPast ys xs) → IsPast xs ys ⊎ IsPast ys xs
    by (inl is) q' rest = inr (subst (IsPast ys) is q)
    by (inr p') (inl is) rest = inl (subst (IsPast xs) is p)
    by (inr p') (inr q') rest = rest p' q'

module _ {E X : Type 0} (m : Machine E X) where
  -- what was sent before is an older part of what was sent
  sent_front : (i j : ℕ) (newer log : List E) → IsPast (sent m i j log) (sent m i j (newer ++ log))
  sent_front i j [] log = past_self (sent m i j log)
  sent_front i j (e ∷ newer) log = past_trans (sent_front i j newer log) (sent_more m i j (newer ++ log) e)

  sent_past : (i j : ℕ) {log all : List E} → IsPast log all → IsPast (sent m i j log) (sent m i j all)
  sent_past i j {log} p = subst (λ w. IsPast (sent m i j log) (sent m i j w)) (sym p.is) (sent_front i j p.newer log)

  -- No host stops, and only host 0 is asked for anything.
  pub record IsAskedAtFirst : Type 0 where
    pub never : (e : E) → m.stops e ≡ false
    pub first : (h : ℕ) (log : List E) (e : E) → m.Fits h log e → m.asked e ≡ true → h ≡ 0

  -- what a link gave was sent
  given_sent : IsAskedAtFirst → (i j : ℕ) (log : List E) (xs : List X) → IsGiven m i j log xs
      → IsPast xs (sent m i j log)
  given_sent only i j log xs (inl past) = past
  given_sent only i j [] xs (inr closing) = absurd closing
  given_sent only i j (e ∷ log) xs (inr closing) = absurd (false≢true (sym (only.never e) ∙ closing.stops))

  -- Two moments of the same logs: at the later one each host below n has taken all that was sent to it. Nothing is said
  -- of the others but that they make no steps.
  pub record AreOfLogs (n : ℕ) (was now logs : ℕ → List E) : Type 0 where
    pub was_cut : IsCut was logs
    pub now_cut : IsCut now logs
    pub right : AreLogs m was
    pub within : IsWithin n logs
    pub quiet : IsQuiet m n now
    pub first : IsPast (was 0) (now 0)

  module _ (stamped : IsStamped m) (only : IsAskedAtFirst) (n : ℕ) (was now logs : ℕ → List E)
      (of : AreOfLogs n was now logs) where
    -- a host whose log isn't empty is below n
    low : (inside : ℕ → List E) (h : ℕ) → IsCut inside logs → 1 ≤ length (inside h) → h < n
    low inside h cut some = by (cases_lt h n)
      where
        by : (h < n) ⊎ (n ≤ h) → h < n
        by (inl under) = under
        by (inr high) = absurd (omega (arith, some, past_short (cut h), ap length (of.within h high)))

    -- where the later moment has no more of a host than this, no link gives that host one more
    none_gives : (es : List E) (i j : ℕ) (x : X) → j < n → IsCut (log_of m es) now → IsPast (now j) (log_of m es j)
        → IsGiven m i j (log_of m es i) (x ∷ taken m i (log_of m es j)) → ⊥
    none_gives es i j x under inside short gives = by (cases_lt i n)
      where
        more : length (x ∷ taken m i (log_of m es j)) ≤ length (sent m i j (log_of m es i))
        more = past_short (given_sent only i j (log_of m es i) (x ∷ taken m i (log_of m es j)) gives)

        most : length (sent m i j (log_of m es i)) ≤ length (sent m i j (now i))
        most = past_short (sent_past i j (inside i))

        by : (i < n) ⊎ (n ≤ i) → ⊥
        by (inl below) =
            omega (arith, more, most, ap length (of.quiet i j below under), past_short (taken_past m i short))
        by (inr high) = omega (
          arith,
          more,
          most,
          ap (λ log. length (sent m i j log))
              (within_cut m stamped n now logs of.within of.now_cut i high),
        )

    -- each event of a run to the earlier moment has come at the later one
    own_next : (es : List E) (e : E) → Happens m es e → IsCut (log_of m es) now
        → IsPast (e ∷ log_of m es (m.host e)) (was (m.host e)) → IsPast (e ∷ log_of m es (m.host e)) (now (m.host e))
    own_next es e happens inside here = by (past_either (logs j) (past_trans here (of.was_cut j)) (of.now_cut j))
      where
        j : ℕ
        j = m.host e

        past : IsPast (now j) (log_of m es j) → (b : Bool) → m.asked e ≡ b → IsPast (e ∷ log_of m es j) (now j)
        past short true asked = past_trans here
            (subst (λ k. IsPast (was k) (now k)) (sym (only.first j (log_of m es j) e happens.step.fits asked))
            of.first)
        past short false plain =
            absurd (none_gives es (m.from (m.signal e)) j (m.signal e)
            (low was j of.was_cut (omega (arith, past_short here))) inside short (happens.takes plain))

        by : IsPast (e ∷ log_of m es j) (now j) ⊎ IsPast (now j) (e ∷ log_of m es j)
            → IsPast (e ∷ log_of m es j) (now j)
        by (inl has) = has
        by (inr short) = again (past_cases e short)
          where
            again : (e ∷ log_of m es j ≡ now j) ⊎ IsPast (now j) (log_of m es j) → IsPast (e ∷ log_of m es j) (now j)
            again (inl is) = subst (IsPast (e ∷ log_of m es j)) is (past_self (e ∷ log_of m es j))
            again (inr shorter) = past shorter (m.asked e) refl

    next : (es : List E) (e : E) → Run m es → Happens m es e → (IsCut (log_of m es) was → IsCut (log_of m es) now)
        → IsCut (log_of m (e ∷ es)) was → IsCut (log_of m (e ∷ es)) now
    next es e run happens before inside =
        let old : IsCut (log_of m es) now = before (λ k. past_trans (log_of-past m e es k) (inside k)) in
        event_each m e es (λ h log. IsPast log (now h))
        (own_next es e happens old
        (subst (λ w. IsPast w (was (m.host e))) (log_of-own m e es (m.host e) refl) (inside (m.host e))))
        (λ h off. old h)

    -- the earlier moment is a cut of the later one
    pub quiet_cut : IsCut was now
    quiet_cut = subst (λ w. IsCut w now) same (all (subst (λ w. IsCut w was) (sym same) (λ h. past_self (was h))))
      where
        es : List E
        es = merged m n was

        inside : IsWithin n was
        inside = within_cut m stamped n was logs of.within of.was_cut

        same : log_of m es ≡ was
        same = logs_merged m n was inside of.right

        all : IsCut (log_of m es) was → IsCut (log_of m es) now
        all = along_run m (λ fs. IsCut (log_of m fs) was → IsCut (log_of m fs) now) (λ cut h. past_nil (now h)) next es
            (merged_run m stamped n was inside of.right)
