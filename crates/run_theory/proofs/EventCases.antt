-- What the logs of hosts are after one more event: that of its host is longer by it, and each other is what it was.
use Rattle.std.proofs.Common.{◌≡◌, ◌≢◌, ◌⊎◌, ℕ, List, ◌∷◌, refl, sym, subst, inl, inr}
use Rattle.std.proofs.lemmas.Bool.{cases_eq}
use Rattle.run_theory.specs.Machine.{Machine}
use Rattle.run_theory.specs.Runs.{log_of}
use Rattle.run_theory.proofs.Runs.{log_of-other, log_of-own}

module _ {E X : Type 0} (m : Machine E X) (e : E) (es : List E) where
  -- of one host: P holds of its log if it does where the event is its own, and where it is another's
  pub event_cases : (h : ℕ) (P : List E → Type 0) → (m.host e ≡ h → P (e ∷ log_of m es h))
      → (m.host e ≢ h → P (log_of m es h)) → P (log_of m (e ∷ es) h)
  event_cases h P own other = by (cases_eq (m.host e) h)
    where
      by : (m.host e ≡ h) ⊎ (m.host e ≢ h) → P (log_of m (e ∷ es) h)
      by (inl at) = subst P (sym (log_of-own m e es h at)) (own at)
      by (inr off) = subst P (sym (log_of-other m e es h off)) (other off)

  -- of each host: P holds if it does at the host of the event, and of the others' logs as they were
  pub event_each : (P : ℕ → List E → Type 0) → P (m.host e) (e ∷ log_of m es (m.host e))
      → ((h : ℕ) → m.host e ≢ h → P h (log_of m es h)) → (h : ℕ) → P h (log_of m (e ∷ es) h)
  event_each P own others h =
      event_cases h (P h) (λ at. subst (λ k. P k (e ∷ log_of m es k)) at own) (others h)

  -- R relates the log before to that behind, at the host of the event and wherever the log stays
  pub event_moves : (R : ℕ → List E → List E → Type 0)
      → R (m.host e) (log_of m es (m.host e)) (e ∷ log_of m es (m.host e)) → ((h : ℕ) (log : List E) → R h log log)
      → (h : ℕ) → R h (log_of m es h) (log_of m (e ∷ es) h)
  event_moves R own stays = event_each (λ h log. R h (log_of m es h) log) own (λ h off. stays h (log_of m es h))

  -- P holds still, if the event keeps it at its host
  pub event_keeps : (P : ℕ → List E → Type 0)
      → (P (m.host e) (log_of m es (m.host e)) → P (m.host e) (e ∷ log_of m es (m.host e)))
      → (h : ℕ) → P h (log_of m es h) → P h (log_of m (e ∷ es) h)
  event_keeps P own = event_moves (λ h old log. P h old → P h log) own (λ h log was. was)

  -- what is read off each log is the same, if it is at the host of the event
  pub event_leaves : {A : Type 0} (f : ℕ → List E → A)
      → f (m.host e) (e ∷ log_of m es (m.host e)) ≡ f (m.host e) (log_of m es (m.host e))
      → (h : ℕ) → f h (log_of m (e ∷ es) h) ≡ f h (log_of m es h)
  event_leaves f own = event_moves (λ h old log. f h log ≡ f h old) own (λ h log. refl)

  -- a law of the host of the event, whose log is longer by it
  pub event_own : (P : ℕ → List E → Type 0) (h : ℕ) → m.host e ≡ h → P (m.host e) (e ∷ log_of m es (m.host e))
      → P h (log_of m (e ∷ es) h)
  event_own P h at own = subst (λ k. P k (log_of m (e ∷ es) k)) at
      (subst (P (m.host e)) (sym (log_of-own m e es (m.host e) refl)) own)
