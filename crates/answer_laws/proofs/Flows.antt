-- What is on its way between the hosts, step by step.
use Rattle.std.proofs.Common.{◌≡◌, ◌≢◌, ◌⊎◌, ℕ, ◌+◌, ◌≤◌, ◌<◌, List, ◌∷◌, Bool, true, false, refl, ap, sym, ◌∙◌, subst}
use Rattle.std.proofs.Common.{arith, inl, inr}
use Rattle.std.specs.Prelude.{◌==◌, ◌&&◌, not}
use Rattle.std.proofs.lemmas.Bool.{cases_eq, cases_lt, eqb-true}
use Rattle.std.proofs.lemmas.Bool.Decides.{nat_tests}
use Rattle.node_core.specs.Requests.{is_request}
use Rattle.run_theory.specs.Links.{is_from, sent, taken}
use Rattle.run_theory.specs.Runs.{AreLogs}
use Rattle.world_core.specs.Steps.{Addressed, HostStep}
use Rattle.sig_core.specs.declared.place.Place.{Place}
use Rattle.sig_core.specs.declared.signal.Body.{Body}
use Rattle.world_core.proofs.HostNumbers.{given_past}
use Rattle.world_core.specs.Hosts.{first_hosts}
use Rattle.world_core.specs.Machine.{machine, step_after}
use Rattle.world_core.specs.Start.{Start}
use Rattle.run_laws.proofs.hosts.AlongSteps.{Goes, few_taken}
use Rattle.host_laws.proofs.hosts.LinkCounts.{all_three, signals, taken_signals}
use Rattle.host_laws.proofs.rows.Operations.{right_of, true_and}
use Rattle.run_theory.proofs.Tally.{tally_past}
use Rattle.run_theory.specs.Counts.{one_if}
use Rattle.answer_laws.proofs.Totals.{Grown, sent_all, sent_few, taken_all, taken_exact}
use Rattle.host_laws.proofs.hosts.Sums.{total_at, total_le, total_less}
use Rattle.host_laws.proofs.api.Wishes.{sends_of}

module _ (start : Start) (test : Place → Body → Bool) (logs now : ℕ → List HostStep) (h : ℕ) (e : HostStep)
    (g : Goes start logs now h e) where
  grown : Grown start (first_hosts start) test logs now h e
  grown = record { own = g.own; others = g.others }

  pub flow_sent : sent_all start (first_hosts start) test now
      ≤ sent_all start (first_hosts start) test logs + sends_of test (step_after start h (logs h) e).effects.sends
  flow_sent = sent_few start (first_hosts start) test logs now h e g.low grown

  pub flow_taken : taken_all start (first_hosts start) test logs ≤ taken_all start (first_hosts start) test now
  flow_taken = omega (arith, taken_exact start (first_hosts start) test logs now h e g.low grown)

  module _ (plain : is_request e.step.taken.body ≡ false) (passes : test e.step.taken.to e.step.taken.body ≡ true) where
    -- the link that it was taken from had it
    coming : signals test (taken (machine start) e.step.taken.from.0 (logs h)) + 1
        ≤ signals test (sent (machine start) e.step.taken.from.0 h (logs e.step.taken.from.0))
    coming =
        omega (
          arith,
          ap one_if passes,
          tally_past (λ (x : Addressed). test x.signal.to x.signal.body)
              (given_past start e.step.taken.from.0 h (logs e.step.taken.from.0)
              (record { to = e.host; signal = e.step.taken } ∷ taken (machine start) e.step.taken.from.0 (logs h))
              (g.takes plain)),
        )

    from_low : e.step.taken.from.0 < first_hosts start
    from_low = by (cases_lt e.step.taken.from.0 (first_hosts start)) (cases_eq e.step.taken.from.0 h)
      where
        by : (e.step.taken.from.0 < first_hosts start) ⊎ (first_hosts start ≤ e.step.taken.from.0)
            → (e.step.taken.from.0 ≡ h) ⊎ (e.step.taken.from.0 ≢ h) → e.step.taken.from.0 < first_hosts start
        by (inl low) where_from = low
        by (inr high) (inl same) = omega (arith, same, g.low)
        by (inr high) (inr differs) =
            absurd (omega (
              arith,
              coming,
              ap (λ log. signals test (sent (machine start) e.step.taken.from.0 h log))
                  (sym (g.others e.step.taken.from.0 differs) ∙ g.within e.step.taken.from.0 high),
            ))

    -- one more was taken
    pub flow_took : taken_all start (first_hosts start) test logs + 1 ≤ taken_all start (first_hosts start) test now
    flow_took =
        omega (
          arith,
          taken_exact start (first_hosts start) test logs now h e g.low grown,
          total_at (first_hosts start) (λ i. one_if (is_from (machine start) i e && test e.step.taken.to
              e.step.taken.body))
              e.step.taken.from.0 from_low,
          ap one_if (all_three (is_request e.step.taken.body) (e.step.taken.from.0 == e.step.taken.from.0)
              (test e.step.taken.to e.step.taken.body) plain (grind (arith, nat_tests)) passes),
        )

    -- which was on its way
    pub flow_came : taken_all start (first_hosts start) test logs + 1 ≤ sent_all start (first_hosts start) test logs
    flow_came =
        total_less (first_hosts start) _ _ e.step.taken.from.0 from_low
        (λ i low. total_le (first_hosts start) _ _ (λ j under. few_taken start logs g.before test i j))
        (total_less (first_hosts start) _ _ h g.low
        (λ j under. few_taken start logs g.before test e.step.taken.from.0 j)
        coming)

-- no more is taken than sent
pub flow_few : (start : Start) (test : Place → Body → Bool) (logs : ℕ → List HostStep) → AreLogs (machine start) logs
    → taken_all start (first_hosts start) test logs ≤ sent_all start (first_hosts start) test logs
flow_few start test logs right =
    total_le (first_hosts start) _ _ (λ i low. total_le (first_hosts start) _ _
    (λ j under. few_taken start logs right test i j))

-- with one that is taken from a host's own link no more is taken than had been sent before
pub flow_grows : (start : Start) (test : Place → Body → Bool) (logs now : ℕ → List HostStep) (h : ℕ) (e : HostStep)
    → Goes start logs now h e → is_request e.step.taken.body ≡ false → test e.step.taken.to e.step.taken.body ≡ true
    → is_from (machine start) h e ≡ true
    → signals test (taken (machine start) h (now h)) ≤ signals test (sent (machine start) h h (logs h))
flow_grows start test logs now h e g plain passes from =
    omega (
      arith,
      ap (λ log. signals test (taken (machine start) h log)) g.own,
      taken_signals start test h e (logs h),
      ap one_if (true_and (is_from (machine start) h e) (test e.step.taken.to e.step.taken.body) from passes),
      subst (λ j. signals test (taken (machine start) j (logs h)) + 1 ≤ signals test
          (sent (machine start) j h (logs j))) same (coming start test logs now h e g plain passes),
    )
  where
    same : e.step.taken.from.0 ≡ h
    same = by (e.step.taken.from.0 == h) refl
        (right_of (not (is_request e.step.taken.body)) (e.step.taken.from.0 == h) from)
      where
        by : (b : Bool) → (e.step.taken.from.0 == h) ≡ b → (e.step.taken.from.0 == h) ≡ true → e.step.taken.from.0 ≡ h
        by b q on = eqb-true e.step.taken.from.0 h on
