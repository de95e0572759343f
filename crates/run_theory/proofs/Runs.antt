-- Runs leave right logs.
use Rattle.std.proofs.Common.{◌≡◌, ◌≢◌, ◌⊎◌, ◌==◌, ◌&&◌, not, ℕ, Bool, true, false, List, [], ◌∷◌, if◌then◌else◌, refl}
use Rattle.std.proofs.Common.{subst, subst₂, inl, inr, eq-eqb, ne_eqb}
use Rattle.std.proofs.lemmas.Bool.{cases_eq, cases_Bool}
use Rattle.run_theory.specs.Lists.{HasEntry, IsPast}
use Rattle.run_theory.specs.Machine.{Machine}
use Rattle.run_theory.specs.Links.{taken, IsGiven}
use Rattle.run_theory.specs.Logs.{IsRunning, IsStep, IsLog, IsMade, IsThere}
use Rattle.run_theory.specs.Runs.{log_of, Happens, Run, AreLogs}
use Rattle.run_theory.proofs.Pasts.{past_self, past_more, past_trans}
use Rattle.run_theory.proofs.Links.{given_more}

-- a choice by a test that is known
pub if_true : {A : Type 0} {b : Bool} (x y : A) → b ≡ true → (if b then x else y) ≡ x
if_true x y e = rw e refl

pub if_false : {A : Type 0} {b : Bool} (x y : A) → b ≡ false → (if b then x else y) ≡ y
if_false x y e = rw e refl

module _ {E X : Type 0} (m : Machine E X) where
  -- the log of the host that makes a step, and of another one
  pub log_of-own : (e : E) (es : List E) (h : ℕ) → m.host e ≡ h → log_of m (e ∷ es) h ≡ e ∷ log_of m es h
  log_of-own e es h at = if_true (e ∷ log_of m es h) (log_of m es h) (eq-eqb (m.host e) h at)

  pub log_of-other : (e : E) (es : List E) (h : ℕ) → m.host e ≢ h → log_of m (e ∷ es) h ≡ log_of m es h
  log_of-other e es h at = if_false (e ∷ log_of m es h) (log_of m es h) (ne_eqb (m.host e) h at)

  -- the log of each host only grows
  pub log_of-past : (e : E) (es : List E) (h : ℕ) → IsPast (log_of m es h) (log_of m (e ∷ es) h)
  log_of-past e es h = go (cases_eq (m.host e) h)
    where
      go : (m.host e ≡ h) ⊎ (m.host e ≢ h) → IsPast (log_of m es h) (log_of m (e ∷ es) h)
      go (inl at) = rw (log_of-own e es h at) (past_more e (past_self (log_of m es h)))
      go (inr at) = rw (log_of-other e es h at) (past_self (log_of m es h))

  -- what a step adds to what was taken from a link
  pub taken-step : (i : ℕ) (e : E) (log : List E) → m.asked e ≡ false → m.from (m.signal e) ≡ i
      → taken m i (e ∷ log) ≡ m.signal e ∷ taken m i log
  taken-step i e log a f =
      if_true (m.signal e ∷ taken m i log) (taken m i log) (rw a (eq-eqb (m.from (m.signal e)) i f))

  pub taken-asked : (i : ℕ) (e : E) (log : List E) → m.asked e ≡ true → taken m i (e ∷ log) ≡ taken m i log
  taken-asked i e log a = if_false (m.signal e ∷ taken m i log) (taken m i log) (rw a refl)

  pub taken-other : (i : ℕ) (e : E) (log : List E) → m.from (m.signal e) ≢ i → taken m i (e ∷ log) ≡ taken m i log
  taken-other i e log f = if_false (m.signal e ∷ taken m i log) (taken m i log) (go (m.asked e))
    where
      go : (b : Bool) → (not b && (m.from (m.signal e) == i)) ≡ false
      go true = refl
      go false = ne_eqb (m.from (m.signal e)) i f

  -- what a host took from a link, one step later
  pub data TakenCases (i : ℕ) (e : E) (log : List E) : Type 0 where
    took : m.asked e ≡ false → m.from (m.signal e) ≡ i → taken m i (e ∷ log) ≡ m.signal e ∷ taken m i log
        → TakenCases i e log
    same : taken m i (e ∷ log) ≡ taken m i log → TakenCases i e log

  pub taken_cases : (i : ℕ) (e : E) (log : List E) → TakenCases i e log
  taken_cases i e log = go (cases_Bool (m.asked e)) (cases_eq (m.from (m.signal e)) i)
    where
      go : (m.asked e ≡ true) ⊎ (m.asked e ≡ false) → (m.from (m.signal e) ≡ i) ⊎ (m.from (m.signal e) ≢ i)
          → TakenCases i e log
      go (inl a) f = same (taken-asked i e log a)
      go (inr a) (inl f) = took a f (taken-step i e log a f)
      go (inr a) (inr f) = same (taken-other i e log f)

  pub made_past : (h : ℕ) {log all : List E} → IsPast log all → IsMade m h log → IsMade m h all
  made_past h p d = record { step = d.step; before = d.before; past = past_trans d.past p; at = d.at; makes = d.makes }

  pub there_past : (h : ℕ) {log all : List E} → IsPast log all → IsThere m h log → IsThere m h all
  there_past h p (inl z) = inl z
  there_past h p (inr d) = inr (made_past h p d)

  -- after an event a host's log is a log of it, if it was one
  local_more : (es : List E) (e : E) (h : ℕ) → Happens m es e → IsLog m h (log_of m es h)
      → IsLog m h (log_of m (e ∷ es) h)
  local_more es e h happens l = go (cases_eq (m.host e) h)
    where
      go : (m.host e ≡ h) ⊎ (m.host e ≢ h) → IsLog m h (log_of m (e ∷ es) h)
      go (inl at) = rw (log_of-own e es h at) (subst (λ k. IsStep m k (log_of m es k) e) at happens.step, l)
      go (inr at) = rw (log_of-other e es h at) l

  there_more : (es : List E) (e : E) (h : ℕ) → Happens m es e → (HasEntry (log_of m es h) → IsThere m h (log_of m es 0))
      → HasEntry (log_of m (e ∷ es) h) → IsThere m h (log_of m (e ∷ es) 0)
  there_more es e h happens t has = there_past h (log_of-past e es 0) (go (cases_eq (m.host e) h))
    where
      go : (m.host e ≡ h) ⊎ (m.host e ≢ h) → IsThere m h (log_of m es 0)
      go (inl at) = subst (λ k. IsThere m k (log_of m es 0)) at happens.there
      go (inr at) = t (subst HasEntry (log_of-other e es h at) has)

  -- what a link gave is what it gives after an event at its sender
  given_next : (es : List E) (e : E) (i j : ℕ) (xs : List X) → Happens m es e → IsGiven m i j (log_of m es i) xs
      → IsGiven m i j (log_of m (e ∷ es) i) xs
  given_next es e i j xs happens g = go (cases_eq (m.host e) i)
    where
      go : (m.host e ≡ i) ⊎ (m.host e ≢ i) → IsGiven m i j (log_of m (e ∷ es) i) xs
      go (inl at) = rw (log_of-own e es i at)
          (given_more m i j (log_of m es i) e xs (subst (λ k. IsRunning m (log_of m es k)) at happens.step.runs) g)
      go (inr at) = rw (log_of-other e es i at) g

  -- what a host took from a link, after an event, the link gave before it
  pub given_taken : (es : List E) (e : E) (i j : ℕ) → Happens m es e
      → IsGiven m i j (log_of m es i) (taken m i (log_of m es j))
      → IsGiven m i j (log_of m es i) (taken m i (log_of m (e ∷ es) j))
  given_taken es e i j happens g = go (cases_eq (m.host e) j)
    where
      at_own : m.host e ≡ j → TakenCases i e (log_of m es j)
          → IsGiven m i j (log_of m es i) (taken m i (e ∷ log_of m es j))
      at_own at (took a f is) = rw is (subst₂ (λ k l. IsGiven m k l (log_of m es k)
          (m.signal e ∷ taken m k (log_of m es l))) f at (happens.takes a))
      at_own at (same is) = rw is g

      go : (m.host e ≡ j) ⊎ (m.host e ≢ j) → IsGiven m i j (log_of m es i) (taken m i (log_of m (e ∷ es) j))
      go (inl at) = rw (log_of-own e es j at) (at_own at (taken_cases i e (log_of m es j)))
      go (inr at) = rw (log_of-other e es j at) g

  linked_more : (es : List E) (e : E) (i j : ℕ) → Happens m es e
      → IsGiven m i j (log_of m es i) (taken m i (log_of m es j))
      → IsGiven m i j (log_of m (e ∷ es) i) (taken m i (log_of m (e ∷ es) j))
  linked_more es e i j happens g =
      given_next es e i j (taken m i (log_of m (e ∷ es) j)) happens (given_taken es e i j happens g)

  pub no_logs : AreLogs m (log_of m [])
  no_logs = record { local = λ h. tt; there = λ h has. absurd has; linked = λ i j. inl (past_self []) }

  pub logs_more : (es : List E) (e : E) → Happens m es e → AreLogs m (log_of m es) → AreLogs m (log_of m (e ∷ es))
  logs_more es e happens a = record {
    local = λ h. local_more es e h happens (a.local h);
    there = λ h. there_more es e h happens (a.there h);
    linked = λ i j. linked_more es e i j happens (a.linked i j);
  }

  -- a run leaves right logs
  pub logs_of_run : (es : List E) → Run m es → AreLogs m (log_of m es)
  logs_of_run [] r = no_logs
  logs_of_run (e ∷ es) r = logs_more es e r.1 (logs_of_run es r.0)
