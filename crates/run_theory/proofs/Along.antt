-- Induction along a run.
use Rattle.std.proofs.Common.{◌≡◌, ◌≢◌, ◌⊎◌, ℕ, true, List, [], ◌∷◌, ◌++◌, refl, sym, ap, ◌∙◌, subst, inl, inr}
use Rattle.std.proofs.lemmas.Bool.{cases_eq}
use Rattle.run_theory.specs.Lists.{Each}
use Rattle.run_theory.specs.Machine.{Machine, IsStamped}
use Rattle.run_theory.specs.Links.{sent_by, sent, taken, IsGiven}
use Rattle.run_theory.specs.Runs.{log_of, Happens, Run, AreLogs, IsWithin}
use Rattle.run_theory.specs.Orders.{merged}
use Rattle.run_theory.specs.Cuts.{IsCut, IsClosed}
use Rattle.run_theory.specs.Along.{Comes, IsKept, AllHold}
use Rattle.run_theory.proofs.Pasts.{each_map, each_past}
use Rattle.run_theory.proofs.Links.{put_each, sent_by_each}
use Rattle.run_theory.proofs.Runs.{log_of-own, log_of-other}
use Rattle.run_theory.proofs.Cuts.{logs_of_closed}
use Rattle.run_theory.proofs.Merging.{merged_run, logs_merged}

module _ {E X : Type 0} (m : Machine E X) where
  -- what holds at the start and is kept by each event holds after every run
  pub along_run : (P : List E → Type 0) → P [] → ((es : List E) (e : E) → Run m es → Happens m es e → P es → P (e ∷ es))
      → (es : List E) → Run m es → P es
  along_run P start step [] r = start
  along_run P start step (e ∷ es) r = step es e r.0 r.1 (along_run P start step es r.0)

  -- what holds of a link's signals holds of what the link gives
  given_head : (P : X → Type 0) (i j : ℕ) (log : List E) (x : X) (xs : List X) → Each P (sent m i j log)
      → ((e : E) (older : List E) → log ≡ e ∷ older → m.stops e ≡ true → P (m.closing i older e j))
      → IsGiven m i j log (x ∷ xs) → P x
  given_head P i j log x xs all closing (inl p) = let h : Each P (x ∷ xs) = each_past P p all in h.0
  given_head P i j [] x xs all closing (inr c) = absurd c
  given_head P i j (e ∷ log) x xs all closing (inr c) =
      let same : m.closing i log e j ≡ x = cc (c.is) in
      subst P same (closing e log refl c.stops)

  module _ (K : X → (ℕ → List E) → Type 0) (Q : (ℕ → List E) → Type 0) (kept : IsKept m K Q) where
    comes : (es : List E) (e : E) → Run m es → Happens m es e → AllHold m K Q (log_of m es) → Comes m K Q es e
    comes es e run happens all =
        let i = m.from (m.signal e) in
        let j = m.host e in
        record {
          run = run;
          happens = happens;
          all = all;
          told = λ asked. given_head (λ x. K x (log_of m es)) i j (log_of m es i) (m.signal e)
              (taken m i (log_of m es j)) (all.sent_hold i j) (all.closing_hold i j) (happens.takes asked);
        }

    sent_next : (es : List E) (e : E) (i j : ℕ) → Comes m K Q es e
        → Each (λ x. K x (log_of m es)) (sent m i j (log_of m es i))
        → Each (λ x. K x (log_of m (e ∷ es))) (sent m i j (log_of m (e ∷ es) i))
    sent_next es e i j come all = go (each_map (λ x. K x (log_of m es)) P (sent m i j (log_of m es i))
        (λ x k. kept.stays es e x come k) all) (cases_eq (m.host e) i)
      where
        P : X → Type 0
        P = λ x. K x (log_of m (e ∷ es))

        own : (k : ℕ) → m.host e ≡ k → Each P (sent_by m k (log_of m es k) e)
        own k at = subst (λ h. Each P (sent_by m h (log_of m es h) e)) at
            (sent_by_each m P (m.host e) (log_of m es (m.host e)) e (kept.sends es e come))

        go : Each P (sent m i j (log_of m es i)) → (m.host e ≡ i) ⊎ (m.host e ≢ i)
            → Each P (sent m i j (log_of m (e ∷ es) i))
        go old (inl at) = subst (λ w. Each P (sent m i j w)) (sym (log_of-own m e es i at))
            (put_each m P j (sent_by m i (log_of m es i) e) (sent m i j (log_of m es i)) (own i at) old)
        go old (inr at) = subst (λ w. Each P (sent m i j w)) (sym (log_of-other m e es i at)) old

    closing_next : (es : List E) (e : E) (i j : ℕ) (f : E) (log : List E) → Comes m K Q es e
        → (log_of m es i ≡ f ∷ log → m.stops f ≡ true → K (m.closing i log f j) (log_of m es))
        → log_of m (e ∷ es) i ≡ f ∷ log → m.stops f ≡ true → K (m.closing i log f j) (log_of m (e ∷ es))
    closing_next es e i j f log come old is stop = go (cases_eq (m.host e) i)
      where
        go : (m.host e ≡ i) ⊎ (m.host e ≢ i) → K (m.closing i log f j) (log_of m (e ∷ es))
        go (inl at) =
            let both : e ∷ log_of m es i ≡ f ∷ log = sym (log_of-own m e es i at) ∙ is in
            let same : e ≡ f = cc (both) in
            let rest : log_of m es i ≡ log = cc (both) in
            let own = subst (λ h. K (m.closing h (log_of m es h) e j) (log_of m (e ∷ es))) at
            (kept.closing es e come (ap m.stops same ∙ stop) j) in
            subst (λ w. K (m.closing i w f j) (log_of m (e ∷ es))) rest
            (subst (λ g. K (m.closing i (log_of m es i) g j) (log_of m (e ∷ es))) same own)
        go (inr at) = kept.stays es e (m.closing i log f j) come (old (sym (log_of-other m e es i at) ∙ is) stop)

    all_next : (es : List E) (e : E) → Run m es → Happens m es e → AllHold m K Q (log_of m es)
        → AllHold m K Q (log_of m (e ∷ es))
    all_next es e run happens all =
        let come = comes es e run happens all in
        record {
          law = kept.step es e come;
          sent_hold = λ i j. sent_next es e i j come (all.sent_hold i j);
          closing_hold = λ i j f log. closing_next es e i j f log come (all.closing_hold i j f log);
        }

    all_start : AllHold m K Q (log_of m [])
    all_start = record { law = kept.start; sent_hold = λ i j. tt; closing_hold = λ i j e log is stop. absurd cc }

    -- an invariant holds after every run, together with what each signal tells
    pub along_signals : (es : List E) → Run m es → AllHold m K Q (log_of m es)
    along_signals es run = along_run (λ es. AllHold m K Q (log_of m es)) all_start (λ es e. all_next es e) es run

  module _ (stamped : IsStamped m) where
    -- what holds of the logs of every run holds of all right logs
    pub of_runs : (Q : (ℕ → List E) → Type 0) → ((es : List E) → Run m es → Q (log_of m es))
        → (n : ℕ) (logs : ℕ → List E) → IsWithin n logs → AreLogs m logs → Q logs
    of_runs Q all n logs within a =
        subst Q (logs_merged m n logs within a) (all (merged m n logs) (merged_run m stamped n logs within a))

    pub within_cut : (n : ℕ) (inside logs : ℕ → List E) → IsWithin n logs → IsCut inside logs → IsWithin n inside
    within_cut n inside logs within cut h le = go (cut h).newer (inside h) (sym (within h le) ∙ (cut h).is)
      where
        go : (newer log : List E) → [] ≡ newer ++ log → log ≡ []
        go [] log is = sym is
        go (e ∷ newer) log is = absurd cc

    -- and so of every closed cut of right logs
    pub of_runs_at_cuts : (Q : (ℕ → List E) → Type 0) → ((es : List E) → Run m es → Q (log_of m es))
        → (n : ℕ) (inside logs : ℕ → List E) → IsWithin n logs → AreLogs m logs → IsCut inside logs → IsClosed m inside
        → Q inside
    of_runs_at_cuts Q all n inside logs within a cut closed = of_runs Q all n inside
        (within_cut n inside logs within cut) (logs_of_closed m stamped inside logs a cut closed)

    -- an invariant holds of all right logs
    pub along_signals_of_logs : (K : X → (ℕ → List E) → Type 0) (Q : (ℕ → List E) → Type 0) → IsKept m K Q
        → (n : ℕ) (logs : ℕ → List E) → IsWithin n logs → AreLogs m logs → AllHold m K Q logs
    along_signals_of_logs K Q kept n logs within a = of_runs (AllHold m K Q) (along_signals K Q kept) n logs within a

    pub along_signals_of_cuts : (K : X → (ℕ → List E) → Type 0) (Q : (ℕ → List E) → Type 0) → IsKept m K Q
        → (n : ℕ) (inside logs : ℕ → List E) → IsWithin n logs → AreLogs m logs → IsCut inside logs → IsClosed m inside
        → AllHold m K Q inside
    along_signals_of_cuts K Q kept n inside logs within a cut closed =
        of_runs_at_cuts (AllHold m K Q) (along_signals K Q kept) n inside logs within a cut closed
