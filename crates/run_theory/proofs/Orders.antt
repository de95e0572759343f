-- Right logs are a run, in any order that keeps to causes.
use Rattle.std.proofs.Common.{◌≡◌, ◌≢◌, ◌⊎◌, ◌<◌, ◌≤◌, ℕ, false, List, [], ◌∷◌, refl, sym, ap, ◌∙◌, subst, inl, inr}
use Rattle.std.proofs.Common.{arith}
use Rattle.std.proofs.lemmas.Bool.{cases_eq}
use Rattle.std.proofs.Math.Path.{fun_ext}
use Rattle.run_theory.specs.Lists.{Each, HasEntry, IsPast}
use Rattle.run_theory.specs.Machine.{Machine, IsStamped}
use Rattle.run_theory.specs.Links.{taken, IsGiven}
use Rattle.run_theory.specs.Logs.{last, IsLog, IsMade, IsThere}
use Rattle.run_theory.specs.Runs.{log_of, Happens, Run, AreLogs}
use Rattle.run_theory.specs.Orders.{HasLogs, IsByStamp, MayFollow, IsCausal}
use Rattle.run_theory.proofs.Pasts.{past_cases, entry_past, each_map, each_past}
use Rattle.run_theory.proofs.Links.{step_above, signal_below, given_before, given_less, HeadBelow, log_past}
use Rattle.run_theory.proofs.Runs.{log_of-own, log_of-other, log_of-past, taken-step, TakenCases, taken_cases, took}
use Rattle.run_theory.proofs.Runs.{same}
use Rattle.run_theory.proofs.Cuts.{taken_past}

module _ {E X : Type 0} (m : Machine E X) where
  -- the event is of the log of its host
  own_log : (e : E) (es : List E) → AreLogs m (log_of m (e ∷ es)) → IsLog m (m.host e) (e ∷ log_of m es (m.host e))
  own_log e es a = rw (log_of-own m e es (m.host e) refl) at (a.local (m.host e))

  -- what holds of each event holds of each step of a log, and back
  pub each_log : (P : E → Type 0) (es : List E) (h : ℕ) → Each P es → Each P (log_of m es h)
  each_log P [] h all = tt
  each_log P (e ∷ es) h all = go (each_log P es h all.1) (cases_eq (m.host e) h)
    where
      go : Each P (log_of m es h) → (m.host e ≡ h) ⊎ (m.host e ≢ h) → Each P (log_of m (e ∷ es) h)
      go below (inl at) = rw (log_of-own m e es h at) (all.0, below)
      go below (inr at) = rw (log_of-other m e es h at) below

  -- what held of each step of a log holds after an event of which it holds too
  pub each_next : (P : E → Type 0) (es : List E) (e : E) (h : ℕ) → P e → Each P (log_of m es h)
      → Each P (log_of m (e ∷ es) h)
  each_next P es e h new old = go (cases_eq (m.host e) h)
    where
      go : (m.host e ≡ h) ⊎ (m.host e ≢ h) → Each P (log_of m (e ∷ es) h)
      go (inl at) = rw (log_of-own m e es h at) (new, old)
      go (inr at) = rw (log_of-other m e es h at) old

  pub each_event : (P : E → Type 0) (es : List E) → ((h : ℕ) → Each P (log_of m es h)) → Each P es
  each_event P [] all = tt
  each_event P (e ∷ es) all =
      let own : Each P (e ∷ log_of m es (m.host e)) = rw (log_of-own m e es (m.host e) refl) at (all (m.host e)) in
      (own.0, each_event P es (λ h. each_past P (log_of-past m e es h) (all h)))

  -- what holds of the signal of each step that took it from a link holds of all that was taken
  pub each_taken : (P : X → Type 0) (i : ℕ) (log : List E)
      → Each (λ e. m.asked e ≡ false → m.from (m.signal e) ≡ i → P (m.signal e)) log → Each P (taken m i log)
  each_taken P i [] all = tt
  each_taken P i (e ∷ log) all = go (each_taken P i log all.1) (taken_cases m i e log)
    where
      go : Each P (taken m i log) → TakenCases m i e log → Each P (taken m i (e ∷ log))
      go below (took a f is) = rw is (all.0 a f, below)
      go below (same is) = rw is below

  head_below : (s : ℕ) (xs : List X) → Each (λ x. m.sent_at x < s) xs → HeadBelow m s xs
  head_below s [] all = tt
  head_below s (x ∷ xs) all = all.0

  -- none of these events took what e sent
  head_took : (e : E) (es : List E) (j : ℕ) → Each (λ before. MayFollow m before e) es
      → HeadBelow m (m.stamp e) (taken m (m.host e) (log_of m es j))
  head_took e es j follows =
      let Q : E → Type 0 =
      λ f. m.asked f ≡ false → m.from (m.signal f) ≡ m.host e → m.sent_at (m.signal f) < m.stamp e in
      head_below (m.stamp e) (taken m (m.host e) (log_of m es j))
      (each_taken (λ x. m.sent_at x < m.stamp e) (m.host e) (log_of m es j)
      (each_log Q es j (each_map (λ before. MayFollow m before e) Q es (λ before f. f.took) follows)))

  -- none of these events is of a host that e made
  not_made : (e : E) (es : List E) (h : ℕ) → Each (λ before. MayFollow m before e) es → IsLog m h (log_of m es h)
      → HasEntry (log_of m es h) → m.host e ≡ 0 → m.made h < m.stamp e
  not_made e es h follows l has zero = go (log_of m es h) (each_log (λ before. MayFollow m before e) es h follows) l has
    where
      go : (log : List E) → Each (λ before. MayFollow m before e) log → IsLog m h log → HasEntry log
          → m.made h < m.stamp e
      go [] f l has = absurd has
      go (g ∷ log) f l has = subst (λ k. m.made k < m.stamp e) l.0.at (f.0.made zero)

  pub made_last : (h : ℕ) (log : List E) → IsLog m h log → m.made h ≤ last m h log
  made_last h [] l = omega arith
  made_last h (e ∷ log) l = omega (arith, made_last h log l.1, step_above m h log e l.0)

  -- a host that the newest event didn't make was there before it
  there_before : (e : E) (es : List E) (h : ℕ) → (m.host e ≡ 0 → m.made h < m.stamp e)
      → IsThere m h (log_of m (e ∷ es) 0) → IsThere m h (log_of m es 0)
  there_before e es h apart (inl z) = inl z
  there_before e es h apart (inr d) = inr (go (cases_eq (m.host e) 0))
    where
      below : m.made h < m.stamp e
          → (e ∷ log_of m es 0 ≡ d.step ∷ d.before) ⊎ IsPast (d.step ∷ d.before) (log_of m es 0)
          → IsMade m h (log_of m es 0)
      below lt (inl is) =
          let same : e ≡ d.step = cc in
          absurd (omega (arith, lt, d.at, ap m.stamp same))
      below lt (inr p) = record { step = d.step; before = d.before; past = p; at = d.at; makes = d.makes }

      go : (m.host e ≡ 0) ⊎ (m.host e ≢ 0) → IsMade m h (log_of m es 0)
      go (inl at) = below (apart at) (past_cases e (subst (IsPast (d.step ∷ d.before)) (log_of-own m e es 0 at) d.past))
      go (inr at) = subst (IsMade m h) (log_of-other m e es 0 at) d

  module _ (stamped : IsStamped m) where
    -- what a link gave before the newest event
    linked_before : (e : E) (es : List E) (i j : ℕ) (xs : List X) → (m.host e ≡ i → HeadBelow m (m.stamp e) xs)
        → IsGiven m i j (log_of m (e ∷ es) i) xs → IsGiven m i j (log_of m es i) xs
    linked_before e es i j xs below g = go (cases_eq (m.host e) i)
      where
        go : (m.host e ≡ i) ⊎ (m.host e ≢ i) → IsGiven m i j (log_of m es i) xs
        go (inl at) = given_before m stamped i j e (log_of m es i) xs (below at)
            (subst (λ w. IsGiven m i j w xs) (log_of-own m e es i at) g)
        go (inr at) = subst (λ w. IsGiven m i j w xs) (log_of-other m e es i at) g

    -- right logs without the newest event are right logs
    logs_before : (e : E) (es : List E) → Each (λ before. MayFollow m before e) es → AreLogs m (log_of m (e ∷ es))
        → AreLogs m (log_of m es)
    logs_before e es follows a = record {
      local = λ h. log_past m h (log_of-past m e es h) (a.local h);
      there = λ h has. there_before e es h
          (not_made e es h follows (log_past m h (log_of-past m e es h) (a.local h)) has)
          (a.there h (entry_past (log_of-past m e es h) has));
      linked = λ i j.
          linked_before e es i j (taken m i (log_of m es j))
          (λ at. subst (λ k. HeadBelow m (m.stamp e) (taken m k (log_of m es j))) at (head_took e es j follows))
          (given_less m i j (log_of m (e ∷ es) i) (taken_past m i (log_of-past m e es j)) (a.linked i j));
    }

    -- and the newest event happens after the others
    happens_last : (e : E) (es : List E) → AreLogs m (log_of m (e ∷ es)) → Happens m es e
    happens_last e es a =
        let own = own_log e es a in
        let i = m.from (m.signal e) in
        let j = m.host e in
        record {
          step = own.0;
          there = there_before e es j (λ _. omega (
            arith,
            made_last j (log_of m es j) own.1,
            step_above m j
                (log_of m es j) e own.0,
          )) (a.there j (rw (log_of-own m e es j refl) tt));
          takes = λ asked.
              linked_before e es i j (m.signal e ∷ taken m i (log_of m es j))
              (λ _. signal_below m j (log_of m es j) e own.0)
              (subst (IsGiven m i j (log_of m (e ∷ es) i))
              (ap (taken m i) (log_of-own m e es j refl) ∙ taken-step m i e (log_of m es j) asked refl)
              (a.linked i j));
        }

    -- right logs in a causal order are a run
    pub run_in_order : (es : List E) → IsCausal m es → AreLogs m (log_of m es) → Run m es
    run_in_order [] c a = tt
    run_in_order (e ∷ es) c a = (run_in_order es c.1 (logs_before e es c.0 a), happens_last e es a)

    pub run_of_logs : (es : List E) (logs : ℕ → List E) → HasLogs m es logs → IsCausal m es → AreLogs m logs → Run m es
    run_of_logs es logs has c a = run_in_order es c (subst (AreLogs m) (sym (fun_ext has)) a)

  -- the signal of a step and the making of its host come before it
  pub record IsLater (e : E) : Type 0 where
    pub signal : m.sent_at (m.signal e) < m.stamp e
    pub host : m.made (m.host e) < m.stamp e

  pub later_in_log : (h : ℕ) (log : List E) → IsLog m h log → Each IsLater log
  later_in_log h [] l = tt
  later_in_log h (e ∷ log) l =
      let made : m.made h < m.stamp e = omega (arith, made_last h log l.1, step_above m h log e l.0) in (
        record { signal = signal_below m h log e l.0; host = subst (λ k. m.made k < m.stamp e) (sym l.0.at) made },
        later_in_log h log l.1,
      )

  pub causal_by_stamp : (es : List E) → Each IsLater es → IsByStamp m es → IsCausal m es
  causal_by_stamp [] later b = tt
  causal_by_stamp (e ∷ es) later b = (follow es later.1 b.0, causal_by_stamp es later.1 b.1)
    where
      follow : (fs : List E) → Each IsLater fs → Each (λ before. m.stamp before ≤ m.stamp e) fs
          → Each (λ before. MayFollow m before e) fs
      follow [] later b = tt
      follow (f ∷ fs) later b = (
        record {
          took = λ _ _. omega (arith, later.0.signal, b.0);
          made = λ _. omega
              (arith, later.0.host, b.0);
        },
        follow fs later.1 b.1,
      )

  -- an order by stamp keeps to causes
  pub causal_of_stamps : (es : List E) → AreLogs m (log_of m es) → IsByStamp m es → IsCausal m es
  causal_of_stamps es a b =
      causal_by_stamp es (each_event IsLater es (λ h. later_in_log h (log_of m es h) (a.local h))) b

  -- right logs in an order by stamp are a run
  pub run_by_stamp : IsStamped m → (es : List E) (logs : ℕ → List E) → HasLogs m es logs → IsByStamp m es
      → AreLogs m logs → Run m es
  run_by_stamp stamped es logs has b a =
      let own = subst (AreLogs m) (sym (fun_ext has)) a in
      run_in_order stamped es (causal_of_stamps es own b) own
