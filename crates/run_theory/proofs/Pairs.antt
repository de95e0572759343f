-- What hosts keep, each by itself, and what each two of them know together, are right logs; lengths tell quiet.
use Rattle.std.proofs.Common.{◌≡◌, ◌≢◌, ◌⊎◌, ◌<◌, ◌≤◌, ℕ, List, [], ◌∷◌, length, reverse, sym, ap, ◌∙◌, subst, inl, inr}
use Rattle.std.proofs.Common.{arith}
use Rattle.std.proofs.lemmas.Bool.{cases_eq, cases_lt}
use Rattle.std.proofs.lemmas.List.{length-reverse}
use mathlib.Core.List.{IsPrefix}
use Rattle.run_theory.specs.Lists.{HasEntry, IsPast}
use Rattle.run_theory.specs.Machine.{Machine}
use Rattle.run_theory.specs.Links.{sent, taken, IsGiven}
use Rattle.run_theory.specs.Logs.{IsRunning, IsLog, IsThere}
use Rattle.run_theory.specs.Runs.{AreLogs}
use Rattle.run_theory.specs.Pairs.{Flows, KeepsLog, AreKeptByPairs}
use Rattle.run_theory.proofs.Pasts.{past_nil, past_trans, past_whole}
use Rattle.run_theory.proofs.Links.{given_less}
use Rattle.run_theory.proofs.HostFacts.{past_of_front}

module _ {E X : Type 0} (m : Machine E X) where
  -- what a host took of what it got is what the other host's link gave
  pub flows_of_ends : (i j : ℕ) (here to : List E) (put got : List X) → IsGiven m i j here (reverse put)
      → IsPast (taken m i to) (reverse got) → IsPrefix got put
      → Flows m i j here to
  flows_of_ends i j here to put got sends took front =
      given_less m i j here (past_trans took (past_of_front got put front)) sends

  pub flows_of_pair : (n i j : ℕ) (here to : List E) (put got put' got' : ℕ → List X) → i < n → j < n → i ≢ j
      → KeepsLog m n i here put got → KeepsLog m n j to put' got' → IsPrefix (got' i) (put j)
      → Flows m i j here to
  flows_of_pair n i j here to put got put' got' i_in j_in apart k k' front =
      flows_of_ends i j here to (put j) (got' i) (k.sends j j_in (λ same. apart (sym same))) (k'.took i i_in apart)
      front

  -- a host without steps took nothing
  flows_to_none : (i j : ℕ) (here to : List E) → taken m i to ≡ [] → Flows m i j here to
  flows_to_none i j here to is = inl (subst (λ w. IsPast w (sent m i j here)) (sym is) (past_nil (sent m i j here)))

  pub logs_of_pairs : (n : ℕ) (logs : ℕ → List E) (puts gets : ℕ → ℕ → List X) → AreKeptByPairs m n logs puts gets
      → AreLogs m logs
  logs_of_pairs n logs puts gets kept = record {
    local = λ h. local h (cases_lt h n);
    there = λ h has. there h has (cases_lt h n);
    linked = λ i j. linked i j (cases_lt i n) (cases_lt j n) (cases_eq i j);
  }
    where
      local : (h : ℕ) → (h < n) ⊎ (n ≤ h) → IsLog m h (logs h)
      local h (inl h_in) = (kept.hosts h h_in).local
      local h (inr out) = subst (IsLog m h) (sym (kept.within h out)) tt

      there : (h : ℕ) → HasEntry (logs h) → (h < n) ⊎ (n ≤ h) → IsThere m h (logs 0)
      there h has (inl h_in) = kept.there h h_in has
      there h has (inr out) = absurd (subst HasEntry (kept.within h out) has)

      linked : (i j : ℕ) → (i < n) ⊎ (n ≤ i) → (j < n) ⊎ (n ≤ j) → (i ≡ j) ⊎ (i ≢ j) → Flows m i j (logs i) (logs j)
      linked i j from (inr out) same = flows_to_none i j (logs i) (logs j) (ap (taken m i) (kept.within j out))
      linked i j (inr out) (inl j_in) same = flows_to_none i j (logs i) (logs j) ((kept.hosts j j_in).none i out)
      linked i j (inl i_in) (inl j_in) (inl same) =
          subst (λ k. Flows m i k (logs i) (logs k)) same (kept.hosts i i_in).own
      linked i j (inl i_in) (inl j_in) (inr apart) =
          flows_of_pair n i j (logs i) (logs j) (puts i) (λ k. gets k i) (puts j) (λ k. gets k j) i_in j_in apart
          (kept.hosts i i_in) (kept.hosts j j_in) (kept.gives i j i_in j_in apart)

  -- as many as a running host sent are those that it sent
  pub given_whole : (i j : ℕ) (log : List E) (xs : List X) → IsRunning m log → IsGiven m i j log xs
      → length xs ≡ length (sent m i j log) → xs ≡ sent m i j log
  given_whole i j log xs runs (inl p) same = past_whole xs (sent m i j log) p (omega (arith, same))
  given_whole i j [] xs runs (inr c) same = absurd c
  given_whole i j (e ∷ log) xs runs (inr c) same = absurd (cc (runs, c.stops))

  pub quiet_by_lengths : (logs : ℕ → List E) → AreLogs m logs → (i j : ℕ) → IsRunning m (logs i)
      → length (taken m i (logs j)) ≡ length (sent m i j (logs i))
      → taken m i (logs j) ≡ sent m i j (logs i)
  quiet_by_lengths logs a i j runs same = given_whole i j (logs i) (taken m i (logs j)) runs (a.linked i j) same

  pub quiet_by_links : (n : ℕ) (logs : ℕ → List E) (puts gets : ℕ → ℕ → List X) → AreKeptByPairs m n logs puts gets
      → (i j : ℕ) → i < n → j < n → i ≢ j
      → IsRunning m (logs i) → length (gets i j) ≡ length (sent m i j (logs i))
      → taken m i (logs j) ≡ reverse (gets i j) → taken m i (logs j) ≡ sent m i j (logs i)
  quiet_by_links n logs puts gets kept i j i_in j_in apart runs same all =
      let length' : length (taken m i (logs j)) ≡ length (gets i j) = ap length all ∙ length-reverse (gets i j) in
      quiet_by_lengths logs (logs_of_pairs n logs puts gets kept) i j runs (length' ∙ same)

  pub quiet_by_ends : (i j : ℕ) (here to : List E) (put got : List X) → sent m i j here ≡ reverse put
      → taken m i to ≡ reverse got → IsPrefix got put → length got ≡ length put
      → taken m i to ≡ sent m i j here
  quiet_by_ends i j here to put got all all' front same =
      let whole : reverse got ≡ reverse put = past_whole (reverse got) (reverse put) (past_of_front got put front)
      (omega (arith, same, length-reverse got, length-reverse put)) in
      all' ∙ (whole ∙ sym all)
