-- What a host takes of a kind from a link its sender has sent there; so where one host alone sends it, no more is taken
-- than that has sent.
use Rattle.std.proofs.Common.{◌≡◌, ◌≢◌, ◌≤◌, ◌+◌, ◌⊎◌, ◌∙◌, ◌&&◌, ◌==◌, ℕ, Bool, true, false, List, [], ◌∷◌, ap, arith}
use Rattle.std.proofs.Common.{inl, inr, refl, sym, subst}
use Rattle.std.proofs.lemmas.Bool.{cases_eq, true≢false}
use Rattle.run_theory.specs.Links.{IsGiven, sent, taken}
use Rattle.run_theory.specs.Lists.{IsPast}
use Rattle.run_theory.specs.Runs.{AreLogs}
use Rattle.run_theory.proofs.Runs.{TakenCases, same, taken-step, taken_cases, took}
use Rattle.sig_core.specs.declared.signal.Body.{Body}
use Rattle.sig_core.specs.declared.signal.Signal.{Signal}
use Rattle.tc_block.specs.Complete.{one_if}
use Rattle.world_core.specs.Start.{Start}
use Rattle.world_core.specs.Steps.{Addressed, HostStep}
use Rattle.world_views.specs.Machine.{machine}
use Rattle.world_views.specs.Sending.{is_asked, is_own_work}
use Rattle.outcome_laws.specs.Once.{takes_in}
use Rattle.outcome_laws.proofs.once.AlongLogs.{count_on}
use Rattle.outcome_laws.proofs.coordinators.Lists.{count_both, count_more}

-- signals that no host asks of itself, nor closes links with
abbrev pub AreSentOnly : (Body → Bool) → Type 0
AreSentOnly p = (body : Body) → is_own_work body ≡ true → p body ≡ false

module _ (p : Body → Bool) where
  past_count : (xs ys : List Addressed) → IsPast xs ys → count_on p xs ≤ count_on p ys
  past_count xs ys past =
      omega (arith, ap (count_on p) past.is, count_both (λ (x : Addressed). p x.signal.body) past.newer xs)

  module _ (only : AreSentOnly p) (start : Start) where
    -- of a link
    pub given_count : (i j : ℕ) (log : List HostStep) (xs : List Addressed) → IsGiven (machine start) i j log xs
        → count_on p xs ≤ count_on p (sent (machine start) i j log)
    given_count i j log xs (inl past) = past_count xs (sent (machine start) i j log) past
    given_count i j [] xs (inr closing) = absurd closing
    given_count i j (e ∷ log) xs (inr closing) =
        let closed = (machine start).closing i log e j in
        omega (
          arith,
          ap (count_on p) closing.is,
          count_more (λ (x : Addressed). p x.signal.body) closed closing.rest,
          ap one_if (only closed.signal.body refl),
          past_count closing.rest (sent (machine start) i j (e ∷ log)) closing.past,
        )

    -- what is taken from a link along a log
    taken_grows : (i : ℕ) (e : HostStep) (log : List HostStep)
        → count_on p (taken (machine start) i log) ≤ count_on p (taken (machine start) i (e ∷ log))
    taken_grows i e log = by (taken_cases (machine start) i e log)
      where
        by : TakenCases (machine start) i e log
            → count_on p (taken (machine start) i log) ≤ count_on p (taken (machine start) i (e ∷ log))
        by (took asked from is) =
            omega (
              arith,
              ap (count_on p) is,
              count_more (λ (x : Addressed). p x.signal.body) ((machine start).signal e) (taken (machine start) i log),
            )
        by (same is) = omega (arith, ap (count_on p) is)

    sent_not_asked : (h : ℕ) (x : Signal) → p x.body ≡ true → is_asked h x ≡ false
    sent_not_asked h x is = by (x.from.0 == h) (is_own_work x.body) refl
      where
        by : (own work : Bool) → is_own_work x.body ≡ work → (own && work) ≡ false
        by false work e = refl
        by true false e = refl
        by true true e = absurd (true≢false (sym is ∙ only x.body e))

    taken_more : (e : HostStep) (log : List HostStep) → p e.step.taken.body ≡ true
        → count_on p (taken (machine start) e.step.taken.from.0 (e ∷ log))
        ≡ 1 + count_on p (taken (machine start) e.step.taken.from.0 log)
    taken_more e log is =
        let from = e.step.taken.from.0 in
        omega (
          arith,
          ap (count_on p) (taken-step (machine start) from e log (sent_not_asked e.host e.step.taken is) refl),
          count_more (λ (x : Addressed). p x.signal.body) ((machine start).signal e) (taken (machine start) from log),
          ap one_if is,
        )

    module _ (c : ℕ) where
      abbrev NoneElse : List HostStep → Type 0
      NoneElse log = (i : ℕ) → i ≢ c → count_on p (taken (machine start) i log) ≡ 0

      none_before : (e : HostStep) (log : List HostStep) → NoneElse (e ∷ log) → NoneElse log
      none_before e log none i other = omega (arith, none i other, taken_grows i e log)

      takes_from : (log : List HostStep) → NoneElse log → takes_in p log ≤ count_on p (taken (machine start) c log)
      takes_from [] none = omega arith
      takes_from (e ∷ log) none =
          by (p e.step.taken.body) refl (cases_eq e.step.taken.from.0 c) (takes_from log (none_before e log none))
        where
          from : ℕ
          from = e.step.taken.from.0

          by : (b : Bool) → p e.step.taken.body ≡ b → (e.step.taken.from.0 ≡ c) ⊎ (e.step.taken.from.0 ≢ c)
              → takes_in p log ≤ count_on p (taken (machine start) c log)
              → one_if b + takes_in p log ≤ count_on p (taken (machine start) c (e ∷ log))
          by false is at few = omega (arith, few, taken_grows c e log)
          by true is (inl at) few =
              let more : count_on p (taken (machine start) c (e ∷ log)) ≡ 1 + count_on p (taken (machine start) c log) =
              subst (λ (i : ℕ). count_on p (taken (machine start) i (e ∷ log))
              ≡ 1 + count_on p (taken (machine start) i log)) at (taken_more e log is) in
              omega (arith, few, more)
          by true is (inr other) few =
              absurd (omega (arith, none e.step.taken.from.0 other, taken_more e log is))

      -- where one host alone sends it to this one
      pub takes_few : (logs : ℕ → List HostStep) → AreLogs (machine start) logs → (j : ℕ)
          → ((i : ℕ) → i ≢ c → count_on p (sent (machine start) i j (logs i)) ≡ 0)
          → takes_in p (logs j) ≤ count_on p (sent (machine start) c j (logs c))
      takes_few logs right j none =
          omega (
            arith,
            takes_from (logs j) others,
            given_count c j (logs c) (taken (machine start) c (logs j)) (right.linked c j),
          )
        where
          others : (i : ℕ) → i ≢ c → count_on p (taken (machine start) i (logs j)) ≡ 0
          others i other =
              omega (
                arith,
                none i other,
                given_count i j (logs i) (taken (machine start) i (logs j)) (right.linked i j),
              )
