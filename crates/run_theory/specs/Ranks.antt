-- The order of steps by a rank that falls neither along a log nor along a signal.
use Rattle.std.specs.Prelude.{◌≡◌, ◌≤◌, ℕ, false, List, [], ◌∷◌, map, if◌then◌else◌, nat_lt}
use Rattle.run_theory.specs.Lists.{Each}
use Rattle.run_theory.specs.Machine.{Machine}
use Rattle.run_theory.specs.Logs.{IsMade}
use Rattle.run_theory.specs.Runs.{log_of, Happens, Run}
use Rattle.run_theory.specs.Orders.{is_after, merged}
use Rattle.run_theory.specs.LinkLaws.{IsSentBy}

-- the step with its rank, behind all that have a greater one
abbrev pub place : {E : Type 0} → ℕ → E → List (ℕ × E) → List (ℕ × E)
place k e [] = (k, e) ∷ []
place k e (p ∷ ps) = if nat_lt k p.0 then p ∷ place k e ps else (k, e) ∷ p ∷ ps

-- the steps without their ranks
abbrev pub in_order : {E : Type 0} → List (ℕ × E) → List E
in_order ps = map (λ p. p.1) ps

module _ {E X : Type 0} (m : Machine E X) (rank : ℕ → List E → ℕ) where
  -- The rank of a host with its log, of the empty log too, falls along no log and no signal, nor from the step that
  -- made a host to that host.
  pub record IsCausalRank : Type 0 where
    pub along : (es : List E) (e : E) → Run m es → Happens m es e
        → rank (m.host e) (log_of m es (m.host e)) ≤ rank (m.host e) (e ∷ log_of m es (m.host e))
    pub signals : (es : List E) (e : E) → Run m es → Happens m es e → m.asked e ≡ false
        → (s : IsSentBy m (m.from (m.signal e)) (m.host e) (log_of m es (m.from (m.signal e))) (m.signal e))
        → rank (m.from (m.signal e)) (s.step ∷ s.before) ≤ rank (m.host e) (e ∷ log_of m es (m.host e))
    pub hosts : (es : List E) (h : ℕ) → Run m es → (d : IsMade m h (log_of m es 0))
        → rank 0 (d.step ∷ d.before) ≤ rank h []

  -- each event with the rank of its host's log then, at its place among those before it
  abbrev pub by_rank : List E → List (ℕ × E)
  by_rank [] = []
  by_rank (e ∷ es) = place (rank (m.host e) (e ∷ log_of m es (m.host e))) e (by_rank es)

  -- all steps of the hosts below n in order of (rank, stamp, host), the newest first
  abbrev pub ranked : ℕ → (ℕ → List E) → List (ℕ × E)
  ranked n logs = by_rank (merged m n logs)

  -- The step p stands right behind these: it has the rank of its host's log there, none before it has a greater
  -- rank, and of those with the same rank none comes after it by (stamp, host).
  pub record IsPlaced (p : ℕ × E) (older : List (ℕ × E)) : Type 0 where
    pub is : p.0 ≡ rank (m.host p.1) (p.1 ∷ log_of m (in_order older) (m.host p.1))
    pub rises : Each (λ q. q.0 ≤ p.0) older
    pub stamps : Each (λ q. q.0 ≡ p.0 → is_after m q.1 p.1 ≡ false) older

  -- each step stands where its rank, stamp and host tell
  abbrev pub IsByRank : List (ℕ × E) → Type 0
  IsByRank [] = Unit {0}
  IsByRank (p ∷ older) = IsPlaced p older × IsByRank older
