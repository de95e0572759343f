-- Right logs are right logs of the machine in which malformed signals are neither sent nor taken from a link.
use Rattle.std.proofs.Common.{◌≡◌, ◌==◌, ◌||◌, ◌&&◌, ℕ, Bool, true, false, cond, List, [], ◌∷◌, filter, refl, sym, ap}
use Rattle.std.proofs.Common.{subst, ◌∙◌, inl, inr}
use Rattle.std.proofs.lemmas.List.Elements.{filter-append}
use Rattle.std.specs.Prelude.{if◌then◌else◌, not, max, ◌<◌}
use Rattle.run_theory.proofs.Pasts.{each_filter}
use Rattle.run_theory.specs.Links.{Closes, IsGiven, put, sent, sent_by, taken}
use Rattle.run_theory.specs.Lists.{IsIn, IsPast}
use Rattle.run_theory.specs.Logs.{IsLog, IsRunning, IsStep, last}
use Rattle.run_theory.specs.Machine.{IsStamped, Machine}
use Rattle.run_theory.specs.Runs.{AreLogs}
use Rattle.world_core.proofs.MadeFirst.{made_at_first}
use Rattle.world_core.specs.Start.{NobodyStarts, Start}
use Rattle.world_core.specs.Steps.{Addressed, HostStep}
use Rattle.world_views.proofs.SentFacts.{is_stamped}
use Rattle.world_views.specs.Machine.{machine}
use Rattle.view_laws.specs.Order.{is_sound, sound_machine}

-- what passes a test was there
pub in_filter : {A : Type 0} (p : A → Bool) (y : A) (xs : List A) → IsIn y (filter p xs) → IsIn y xs
in_filter p y [] there = there
in_filter {A} p y (x ∷ xs) there = go (p x) (in_filter p y xs) there
  where
    go : (b : Bool) → (IsIn y (filter p xs) → IsIn y xs) → IsIn y (cond b (x ∷ filter p xs) (filter p xs))
        → IsIn y (x ∷ xs)
    go true rest (inl same) = inl same
    go true rest (inr behind) = inr (rest behind)
    go false rest behind = inr (rest behind)

past_filter : {A : Type 0} (p : A → Bool) {xs ys : List A} → IsPast xs ys → IsPast (filter p xs) (filter p ys)
past_filter p {xs} past =
    record { newer = filter p past.newer; is = ap (filter p) past.is ∙ filter-append p past.newer xs }

module _ (start : Start) where
  abbrev m : Machine HostStep Addressed
  m = machine start

  abbrev n : Machine HostStep Addressed
  n = sound_machine start

  abbrev p : Addressed → Bool
  p x = is_sound start x

  -- the log of a host
  last_same : (h : ℕ) (log : List HostStep) → last n h log ≡ last m h log
  last_same h [] = refl
  last_same h (e ∷ log) = refl

  still_runs : (log : List HostStep) → IsRunning m log → IsRunning n log
  still_runs [] runs = tt
  still_runs (e ∷ log) runs = runs

  sound_step : (h : ℕ) (log : List HostStep) (e : HostStep) → IsStep m h log e → IsStep n h log e
  sound_step h log e one = record {
    at = one.at;
    stamped = subst (λ k. max k (m.sent_at (m.signal e)) < m.stamp e) (sym (last_same h log)) one.stamped;
    runs = still_runs log one.runs;
    fits = one.fits;
  }

  sound_log : (h : ℕ) (log : List HostStep) → IsLog m h log → IsLog n h log
  sound_log h [] local = tt
  sound_log h (e ∷ log) local = (sound_step h log e local.0, sound_log h log local.1)

  -- what it took
  taken_more : (asked sound from : Bool) (x : Addressed) (xs ys : List Addressed) → p x ≡ sound → xs ≡ filter p ys
      → (if not (asked || not sound) && from then x ∷ xs else xs) ≡ filter p (if not asked && from then x ∷ ys else ys)
  taken_more true sound from x xs ys e same = same
  taken_more false true true x xs ys e same =
      ap (λ zs. x ∷ zs) same ∙ ap (λ b. cond b (x ∷ filter p ys) (filter p ys)) (sym e)
  taken_more false true false x xs ys e same = same
  taken_more false false true x xs ys e same = same ∙ ap (λ b. cond b (x ∷ filter p ys) (filter p ys)) (sym e)
  taken_more false false false x xs ys e same = same

  taken_same : (i : ℕ) (log : List HostStep) → taken n i log ≡ filter p (taken m i log)
  taken_same i [] = refl
  taken_same i (e ∷ log) =
      taken_more (m.asked e) (p (m.signal e)) (m.from (m.signal e) == i) (m.signal e) (taken n i log) (taken m i log)
      refl (taken_same i log)

  -- what it sent
  put_one : (sound to : Bool) (x : Addressed) (xs ys : List Addressed) → p x ≡ sound → xs ≡ filter p ys
      → (if sound && to then x ∷ xs else xs) ≡ filter p (if to then x ∷ ys else ys)
  put_one true true x xs ys e same =
      ap (λ zs. x ∷ zs) same ∙ ap (λ b. cond b (x ∷ filter p ys) (filter p ys)) (sym e)
  put_one true false x xs ys e same = same
  put_one false true x xs ys e same = same ∙ ap (λ b. cond b (x ∷ filter p ys) (filter p ys)) (sym e)
  put_one false false x xs ys e same = same

  put_same : (j : ℕ) (xs before was : List Addressed) → before ≡ filter p was
      → put n j (filter p xs) before ≡ filter p (put m j xs was)
  put_same j [] before was same = same
  put_same j (x ∷ xs) before was same = go (p x) refl (λ next is. put_same j xs next more is)
    where
      more : List Addressed
      more = if x.to == j then x ∷ was else was

      go : (sound : Bool) → p x ≡ sound
          → ((next : List Addressed) → next ≡ filter p more → put n j (filter p xs) next ≡ filter p (put m j xs more))
          → put n j (cond sound (x ∷ filter p xs) (filter p xs)) before ≡ filter p (put m j xs more)
      go true e rest = rest (if x.to == j then x ∷ before else before) (put_one true (x.to == j) x before was e same)
      go false e rest = rest before (put_one false (x.to == j) x before was e same)

  sends_same : (stops : Bool) (xs : List Addressed)
      → (if stops then [] else filter p xs) ≡ filter p (if stops then [] else xs)
  sends_same true xs = refl
  sends_same false xs = refl

  sent_same : (i j : ℕ) (log : List HostStep) → sent n i j log ≡ filter p (sent m i j log)
  sent_same i j [] = refl
  sent_same i j (e ∷ log) =
      ap (λ xs. put n j xs (sent n i j log)) (sends_same (m.stops e) (m.sends i log e))
      ∙ put_same j (sent_by m i log e) (sent n i j log) (sent m i j log) (sent_same i j log)

  -- what a link gave
  past_given : (i j : ℕ) (log xs : _) → IsPast xs (sent m i j log) → IsPast (filter p xs) (sent n i j log)
  past_given i j log xs past = subst (IsPast (filter p xs)) (sym (sent_same i j log)) (past_filter p past)

  closed_given : (i j : ℕ) (log : List HostStep) (e : HostStep) (xs : List Addressed)
      → Closes m i log e j (sent m i j (e ∷ log)) xs → IsGiven n i j (e ∷ log) (filter p xs)
  closed_given i j log e xs c =
      subst (λ ys. IsGiven n i j (e ∷ log) (filter p ys)) (sym c.is) (go (p (m.closing i log e j)))
    where
      rest : IsPast (filter p c.rest) (sent n i j (e ∷ log))
      rest = past_given i j (e ∷ log) c.rest c.past

      go : (sound : Bool)
          → IsGiven n i j (e ∷ log) (cond sound (m.closing i log e j ∷ filter p c.rest) (filter p c.rest))
      go true = inr (record { stops = c.stops; rest = filter p c.rest; is = refl; past = rest })
      go false = inl rest

  sound_given : (i j : ℕ) (log : List HostStep) (xs : List Addressed) → IsGiven m i j log xs
      → IsGiven n i j log (filter p xs)
  sound_given i j log xs (inl past) = inl (past_given i j log xs past)
  sound_given i j [] xs (inr c) = absurd c
  sound_given i j (e ∷ log) xs (inr c) = closed_given i j log e xs c

  pub sound_logs : NobodyStarts start → (logs : ℕ → List HostStep) → AreLogs m logs → AreLogs n logs
  sound_logs nobody logs are = record {
    local = λ h. sound_log h (logs h) (are.local h);
    there = λ h some. inl (made_at_first start nobody h);
    linked = λ i j.
        subst (IsGiven n i j (logs i)) (sym (taken_same i (logs j)))
        (sound_given i j (logs i) (taken m i (logs j)) (are.linked i j));
  }

  pub sound_stamped : IsStamped n
  sound_stamped = record {
    sends = λ h log e.
        each_filter (λ x. m.sent_at x ≡ m.stamp e) p (m.sends h log e) ((is_stamped start).sends h log e);
    closing = λ h log e j. (is_stamped start).closing h log e j;
  }
