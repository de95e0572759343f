-- What was taken since a quiet moment was sent since.
use Rattle.std.proofs.Common.{◌≡◌, ◌⊎◌, ◌<◌, ◌≤◌, ◌+◌, ℕ, Bool, true, false, List, [], ◌∷◌, ◌++◌, refl, sym, ap, ◌∙◌}
use Rattle.std.proofs.Common.{inl, inr, arith}
use Rattle.std.proofs.lemmas.Bool.{cases_lt}
use Rattle.std.proofs.lemmas.Bool.Decides.{nat_tests}
use Rattle.std.specs.Prelude.{◌==◌, ◌&&◌, not}
use Rattle.run_theory.proofs.Pasts.{each_from, each_in}
use Rattle.run_theory.specs.Cuts.{IsCut}
use Rattle.run_theory.specs.Links.{is_from, sent, taken}
use Rattle.run_theory.specs.Lists.{Each, IsIn}
use Rattle.sig_core.specs.declared.place.Place.{Place}
use Rattle.sig_core.specs.declared.signal.Body.{Body}
use Rattle.node_core.specs.Requests.{is_request}
use Rattle.world_core.proofs.HostNumbers.{given_past}
use Rattle.world_core.specs.Hosts.{first_hosts}
use Rattle.world_core.specs.Machine.{machine, step_after}
use Rattle.world_core.specs.Start.{Start}
use Rattle.world_core.specs.Steps.{Addressed, HostStep}
use Rattle.host_laws.proofs.hosts.LinkCounts.{sent_signals, signals, taken_signals, to_host, few_sends, steps}
use Rattle.host_laws.proofs.hosts.LinkCounts.{taken_steps}
use Rattle.run_theory.proofs.Tally.{tally_past}
use Rattle.host_laws.proofs.api.Wishes.{sends_of}
use Rattle.run_theory.specs.Counts.{tally}
use Rattle.run_laws.proofs.transit.Weighing.{none_passes}
use Rattle.answer_laws.specs.Answered.{AreQuiet}

module _ (start : Start) (test : Place → Body → Bool) where
  -- how many signals that pass the test the newer steps of host h sent, behind its log
  abbrev pub sent_since : ℕ → List HostStep → List HostStep → ℕ
  sent_since h [] log = 0
  sent_since h (e ∷ newer) log =
      sends_of test (step_after start h (newer ++ log) e).effects.sends + sent_since h newer log

  -- those of them that are for host j
  abbrev pub sent_since_to : ℕ → ℕ → List HostStep → List HostStep → ℕ
  sent_since_to h j [] log = 0
  sent_since_to h j (e ∷ newer) log =
      sends_of (to_host start j test) (step_after start h (newer ++ log) e).effects.sends + sent_since_to h j newer log

  -- and how many they took from host i
  abbrev pub taken_since : ℕ → List HostStep → ℕ
  taken_since i newer =
      tally (λ (e : HostStep). is_from (machine start) i e && test e.step.taken.to e.step.taken.body) newer

  pub link_sent : (h j : ℕ) (newer log : List HostStep)
      → signals test (sent (machine start) h j (newer ++ log))
      ≤ sent_since h newer log + signals test (sent (machine start) h j log)
  link_sent h j [] log = omega arith
  link_sent h j (e ∷ newer) log =
      omega (
        arith,
        link_sent h j newer log,
        sent_signals start test h j e (newer ++ log),
        few_sends start j test
            (step_after start h (newer ++ log) e).effects.sends,
      )

  pub link_sent_to : (h j : ℕ) (newer log : List HostStep)
      → signals test (sent (machine start) h j (newer ++ log))
      ≡ sent_since_to h j newer log + signals test (sent (machine start) h j log)
  link_sent_to h j [] log = omega arith
  link_sent_to h j (e ∷ newer) log =
      omega (arith, link_sent_to h j newer log, sent_signals start test h j e (newer ++ log))

  pub link_taken : (i : ℕ) (newer log : List HostStep)
      → signals test (taken (machine start) i (newer ++ log))
      ≡ taken_since i newer + signals test (taken (machine start) i log)
  link_taken i [] log = omega arith
  link_taken i (e ∷ newer) log = omega (arith, link_taken i newer log, taken_signals start test i e (newer ++ log))

  -- that is what the links gave, and no more than was taken
  pub taken_is : (i : ℕ) (newer : List HostStep) → taken_since i newer ≡ signals test (taken (machine start) i newer)
  taken_is i [] = refl
  taken_is i (e ∷ newer) = omega (arith, taken_is i newer, taken_signals start test i e newer)

  pub taken_few : (i : ℕ) (newer : List HostStep) → taken_since i newer ≤ steps test newer
  taken_few i newer = omega (arith, taken_is i newer, taken_steps start test i newer)

pub front_nil : (newer log : List HostStep) → [] ≡ newer ++ log → newer ≡ []
front_nil [] log is = refl
front_nil (e ∷ newer) log is = absurd cc

module _ (start : Start) (was now : ℕ → List HostStep) (before : AreQuiet start was) (since : AreQuiet start now)
    (cut : IsCut was now) where
  -- the steps of a host since then, the newest first
  abbrev pub newer_at : ℕ → List HostStep
  newer_at h = (cut h).newer

  module _ (test : Place → Body → Bool) where
    -- all that was sent before was taken
    pub all_taken : (i j : ℕ) → j < first_hosts start
        → signals test (sent (machine start) i j (was i)) ≤ signals test (taken (machine start) i (was j))
    all_taken i j low = by (cases_lt i (first_hosts start))
      where
        by : (i < first_hosts start) ⊎ (first_hosts start ≤ i)
            → signals test (sent (machine start) i j (was i)) ≤ signals test (taken (machine start) i (was j))
        by (inl under) = omega (arith, ap (signals test) (before.quiet i j under low))
        by (inr high) = omega (arith, ap (λ log. signals test (sent (machine start) i j log)) (before.within i high))

    -- of the signals that pass a test no more were taken from a link than were sent
    pub few_taken : (i j : ℕ) → taken_since start test i (newer_at j) ≤ sent_since start test i (newer_at i) (was i)
    few_taken i j = by (cases_lt j (first_hosts start))
      where
        by : (j < first_hosts start) ⊎ (first_hosts start ≤ j)
            → taken_since start test i (newer_at j) ≤ sent_since start test i (newer_at i) (was i)
        by (inl low) =
            omega (
              arith,
              tally_past (λ (x : Addressed). test x.signal.to x.signal.body)
                  (given_past start i j (now i) (taken (machine start) i (now j)) (since.right.linked i j)),
              ap (λ log. signals test (sent (machine start) i j log)) (cut i).is,
              ap (λ log. signals test (taken (machine start) i log)) (cut j).is,
              link_sent start test i j (newer_at i) (was i),
              link_taken start test i (newer_at j) (was j),
              all_taken i j low,
            )
        by (inr high) =
            let none : newer_at j ≡ [] = front_nil (newer_at j) (was j) (sym (since.within j high) ∙ (cut j).is) in
            omega (arith, ap (taken_since start test i) none)

    -- a signal that was taken from a link
    from_link : (i : ℕ) (e : HostStep) → is_request e.step.taken.body ≡ false → e.step.taken.from.0 ≡ i
        → is_from (machine start) i e ≡ true
    from_link i e plain at =
        go (is_request e.step.taken.body) (e.step.taken.from.0 == i) plain (grind (arith, nat_tests, at))
      where
        go : (a b : Bool) → a ≡ false → b ≡ true → (not a && b) ≡ true
        go false true p q = refl
        go false false p q = cc
        go true b p q = cc

    -- a host that isn't there sends nothing
    pub none_sent : ((i : ℕ) → i < first_hosts start → sent_since start test i (newer_at i) (was i) ≡ 0) → (i : ℕ)
        → sent_since start test i (newer_at i) (was i) ≡ 0
    none_sent none i = by (cases_lt i (first_hosts start))
      where
        by : (i < first_hosts start) ⊎ (first_hosts start ≤ i) → sent_since start test i (newer_at i) (was i) ≡ 0
        by (inl low) = none i low
        by (inr high) = ap (λ newer. sent_since start test i newer (was i))
            (front_nil (newer_at i) (was i) (sym (since.within i high) ∙ (cut i).is))

    -- what no host has sent since then none has taken
    pub none_taken : ((i : ℕ) → i < first_hosts start → sent_since start test i (newer_at i) (was i) ≡ 0) → (j : ℕ)
        → Each (λ (e : HostStep). is_request e.step.taken.body ≡ false → test e.step.taken.to e.step.taken.body ≡ false)
        (newer_at j)
    none_taken none j = each_from _ (newer_at j) one
      where
        one : (e : HostStep) → IsIn e (newer_at j) → is_request e.step.taken.body ≡ false
            → test e.step.taken.to e.step.taken.body ≡ false
        one e inside plain =
            let i = e.step.taken.from.0 in
            let zero : taken_since start test i (newer_at j) ≡ 0 = omega (arith, few_taken i j, none_sent none i) in
            let off = each_in (λ (f : HostStep). (is_from (machine start) i f && test f.step.taken.to f.step.taken.body)
            ≡ false) e (newer_at j) (none_passes _ (newer_at j) zero) inside in
            ap (λ b. b && test e.step.taken.to e.step.taken.body) (sym (from_link i e plain refl)) ∙ off

    -- all that was sent to a host since then was taken there
    pub all_arrive : (i j : ℕ) → i < first_hosts start → j < first_hosts start
        → sent_since_to start test i j (newer_at i) (was i) ≤ taken_since start test i (newer_at j)
    all_arrive i j under low =
        omega (
          arith,
          ap (signals test) (since.quiet i j under low),
          ap (signals test) (before.quiet i j under low),
          ap (λ log. signals test (sent (machine start) i j log)) (cut i).is,
          ap (λ log. signals test (taken (machine start) i log)) (cut j).is,
          link_sent_to start test i j (newer_at i) (was i),
          link_taken start test i (newer_at j) (was j),
        )

    -- so what was sent to a host since then came to it
    pub arrives : (i j : ℕ) → i < first_hosts start → j < first_hosts start
        → 1 ≤ sent_since_to start test i j (newer_at i) (was i)
        → 1 ≤ steps test (newer_at j)
    arrives i j under low some = omega (arith, some, all_arrive i j under low, taken_few start test i (newer_at j))
