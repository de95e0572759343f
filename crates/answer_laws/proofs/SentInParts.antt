-- What a coordinator awaits was sent, or comes as its list goes on, eight signals at a time.
use Rattle.std.proofs.Common.{◌≡◌, ◌≢◌, ◌⊎◌, ℕ, ◌+◌, ◌≤◌, ◌<◌, List, Bool, true, false, ap, arith, inl, inr}
use Rattle.std.proofs.lemmas.Bool.{cases_eq}
use Rattle.run_theory.specs.Links.{is_from, sent, taken}
use Rattle.run_theory.specs.Runs.{AreLogs}
use Rattle.sig_core.specs.declared.portion.TheConstants.{PORTION}
use Rattle.sig_core.specs.declared.member.TxId.{TxId}
use Rattle.sig_core.specs.declared.outs.Outgoing.{Outgoing}
use Rattle.sig_core.specs.declared.place.Place.{Place}
use Rattle.sig_core.specs.declared.signal.Body.{Body}
use Rattle.world_core.specs.Hosts.{home, host_for, first_hosts}
use Rattle.world_core.specs.Machine.{machine, step_after}
use Rattle.world_core.specs.Start.{Start}
use Rattle.world_core.specs.Steps.{HostStep}
use Rattle.run_theory.specs.Counts.{one_if}
use Rattle.host_laws.proofs.hosts.LinkCounts.{sent_signals, signals, taken_signals}
use Rattle.host_laws.proofs.hosts.PartCounts.{IsPart, is_cont}
use Rattle.host_laws.proofs.hosts.Sums.{total_le, total_same}
use Rattle.run_theory.proofs.Tally.{and_few}
use Rattle.host_laws.proofs.api.Wishes.{sends_of}
use Rattle.run_laws.proofs.hosts.AlongSteps.{Goes, few_taken}
use Rattle.answer_laws.proofs.AbortCounts.{conts_few}
use Rattle.answer_laws.proofs.Totals.{Grown, sent_all, sent_more, taken_all, taken_more}
use Rattle.answer_laws.specs.Answered.{AreQuiet}
use Rattle.tc_block.specs.declared.sends.TheConstants.{SENDS}

-- of the signals that pass the test
module _ (start : Start) (tx : TxId) (test : Place → Body → Bool) where
  abbrev pub sent_so_far : (ℕ → List HostStep) → ℕ
  sent_so_far logs = sent_all start (first_hosts start) test logs

  abbrev pub taken_so_far : (ℕ → List HostStep) → ℕ
  taken_so_far logs = taken_all start (first_hosts start) test logs

  -- the signals by which the coordinator goes on at a place
  abbrev pub conts_sent : ℕ → (ℕ → List HostStep) → ℕ
  conts_sent place logs =
      signals (is_cont tx place) (sent (machine start) (home start tx) (home start tx) (logs (home start tx)))

  abbrev pub conts_taken : ℕ → (ℕ → List HostStep) → ℕ
  conts_taken place logs = signals (is_cont tx place) (taken (machine start) (home start tx) (logs (home start tx)))

  -- the rest of the list, of this length, is sent when the coordinator goes on
  pub record IsLeft (logs : ℕ → List HostStep) (length more awaited : ℕ) : Type 0 where
    pub place : ℕ
    pub low : place < SENDS
    pub coming : conts_taken place logs + 1 ≤ conts_sent place logs
    pub owed : taken_so_far logs + awaited + place ≤ sent_so_far logs + length + more

  -- as many are awaited, of which so many aren't in the list
  abbrev pub IsOwed : (ℕ → List HostStep) → (length more awaited : ℕ) → Type 0
  IsOwed logs length more awaited =
      (taken_so_far logs + awaited ≤ sent_so_far logs + more) ⊎ IsLeft logs length more awaited

  pub few_came : (logs : ℕ → List HostStep) → AreLogs (machine start) logs → taken_so_far logs ≤ sent_so_far logs
  few_came logs right =
      total_le (first_hosts start) _ _ (λ i low. total_le (first_hosts start) _ _
      (λ j under. few_taken start logs right test i j))

  -- where nothing goes on, what was owed stays owed
  pub stays_owed : (logs now : ℕ → List HostStep) (l a k : ℕ)
      → taken_so_far now + sent_so_far logs ≤ taken_so_far logs + sent_so_far now
      → ((b : ℕ) → b < SENDS → conts_taken b now + conts_sent b logs ≤ conts_taken b logs + conts_sent b now)
      → IsOwed logs l a k → IsOwed now l a k
  stays_owed logs now l a k more conts (inl enough) = inl (omega (arith, enough, more))
  stays_owed logs now l a k more conts (inr left) = inr (record {
    place = left.place;
    low = left.low;
    coming = omega (arith, left.coming, conts left.place left.low);
    owed = omega (arith, left.owed, more);
  })

  -- at quiet all came
  pub none_owed : (logs : ℕ → List HostStep) (l k : ℕ) → AreQuiet start logs → home start tx < first_hosts start → 1 ≤ k
      → IsOwed logs l 0 k → ⊥
  none_owed logs l k quiet low some = by
    where
      all_taken : taken_so_far logs ≡ sent_so_far logs
      all_taken =
          total_same (first_hosts start) _ _
          (λ i under. total_same (first_hosts start) _ _ (λ j below. ap (signals test) (quiet.quiet i j under below)))

      by : IsOwed logs l 0 k → ⊥
      by (inl enough) = omega (arith, enough, some, all_taken)
      by (inr left) =
          omega (
            arith,
            left.coming,
            ap (signals (is_cont tx left.place)) (quiet.quiet (home start tx) (home start tx) low low),
          )

  module _ (low_of : (to : Place) (body : Body) → test to body ≡ true → host_for start to < first_hosts start)
      (logs now : ℕ → List HostStep) (h : ℕ) (e : HostStep) (g : Goes start logs now h e) where
    grown : Grown start (first_hosts start) test logs now h e
    grown = record { own = g.own; others = g.others }

    pub s_more : sent_so_far now ≡ sent_so_far logs + sends_of test (step_after start h (logs h) e).effects.sends
    s_more = sent_more start (first_hosts start) test low_of logs now h e g.low grown

    pub t_more : taken_so_far now ≤ taken_so_far logs + one_if (test e.step.taken.to e.step.taken.body)
    t_more = taken_more start (first_hosts start) test logs now h e g.low grown

  -- a step at the home of the transaction: what it takes and sends
  pub record HomeStep (logs now : ℕ → List HostStep) (sends : List Outgoing) (to : Place) (body : Body) : Type 0 where
    pub s_more : sent_so_far now ≡ sent_so_far logs + sends_of test sends
    pub t_more : taken_so_far now ≤ taken_so_far logs + one_if (test to body)
    pub t_few : taken_so_far logs ≤ sent_so_far logs
    pub c_sent : (b : ℕ) → conts_sent b logs + sends_of (is_cont tx b) sends ≤ conts_sent b now
    pub c_taken : (b : ℕ) → conts_taken b now ≤ conts_taken b logs + one_if (is_cont tx b to body)
    pub c_few : (b : ℕ) → conts_taken b logs ≤ conts_sent b logs

  pub home_step : ((to : Place) (body : Body) → test to body ≡ true → host_for start to < first_hosts start)
      → (logs now : ℕ → List HostStep) (e : HostStep)
      → Goes start logs now (home start tx) e
      → HomeStep logs now (step_after start (home start tx)
      (logs (home start tx)) e).effects.sends e.step.taken.to e.step.taken.body
  home_step low_of logs now e g =
      let at = home start tx in
      record {
        s_more = s_more low_of logs now at e g;
        t_more = t_more low_of logs now at e g;
        t_few = few_came logs g.before;
        c_sent = λ b. omega (
          arith,
          ap (λ log. signals (is_cont tx b) (sent (machine start) at at log)) g.own,
          sent_signals start (is_cont tx b) at at e (logs at),
          conts_few start tx b (step_after start at (logs at) e).effects.sends,
        );
        c_taken = λ b. omega (
          arith,
          ap (λ log. signals (is_cont tx b) (taken (machine start) at log)) g.own,
          taken_signals start (is_cont tx b) at e (logs at),
          and_few (is_from (machine start) at e) (is_cont tx b e.step.taken.to e.step.taken.body),
        );
        c_few = λ b. few_taken start logs g.before (is_cont tx b) at at;
      }

  module _ (logs now : ℕ → List HostStep) (sends : List Outgoing) (to : Place) (body : Body)
      (f : HomeStep logs now sends to body) where
    -- the list is begun
    pub begun_owed : (l a k : ℕ) → one_if (test to body) ≡ 0 → is_cont tx PORTION to body ≡ false → k ≡ l + a
        → IsPart test tx l 0 sends → IsOwed now l a k
    begun_owed l a k none off k_is (inl p) = inr (record {
      place = PORTION;
      low = omega arith;
      coming = omega (arith, p.2, f.c_sent PORTION, f.c_taken PORTION, f.c_few PORTION, ap one_if off);
      owed = omega (arith, p.1, k_is, f.s_more, f.t_more, f.t_few, none);
    })
    begun_owed l a k none off k_is (inr p) = inl (omega (arith, p, k_is, f.s_more, f.t_more, f.t_few, none))

    -- the list doesn't go on: no fewer are awaited than came, but for what is sent now
    pub waits_owed : (l a m b k : ℕ) → k + one_if (test to body) + a ≤ m + b + sends_of test sends
        → ((place : ℕ) → place < SENDS → is_cont tx place to body ≡ false)
        → IsOwed logs l a m → IsOwed now l b k
    waits_owed l a m b k le off (inl enough) = inl (omega (arith, enough, le, f.s_more, f.t_more))
    waits_owed l a m b k le off (inr left) = inr (record {
      place = left.place;
      low = left.low;
      coming = omega (
        arith,
        left.coming,
        f.c_sent left.place,
        f.c_taken left.place,
        ap one_if (off left.place left.low),
      );
      owed = omega (arith, left.owed, le, f.s_more, f.t_more);
    })

    -- the list goes on at a place
    pub continued_owed : (l a k place : ℕ) → l ≤ SENDS → one_if (test to body) ≡ 0
        → ((b : ℕ) → b ≢ place → is_cont tx b to body ≡ false)
        → (SENDS ≤ place) ⊎ IsPart test tx l place sends → IsOwed logs l a k → IsOwed now l a k
    continued_owed l a k place few none off part (inl enough) = inl (omega (arith, enough, f.s_more, f.t_more, none))
    continued_owed l a k place few none off part (inr left) = by (cases_eq left.place place)
      where
        here : left.place ≡ place → (SENDS ≤ place) ⊎ IsPart test tx l place sends → IsOwed now l a k
        here is (inl far) = absurd (omega (arith, far, left.low, is))
        here is (inr (inl p)) = inr (record {
          place = place + PORTION;
          low = omega (arith, p.0, few);
          coming = omega (
            arith,
            p.2,
            f.c_sent (place + PORTION),
            f.c_taken (place + PORTION),
            f.c_few (place + PORTION),
            ap one_if (off (place + PORTION) (λ same. absurd (omega (arith, same)))),
          );
          owed = omega (arith, left.owed, p.1, is, f.s_more, f.t_more, none);
        })
        here is (inr (inr p)) = inl (omega (arith, left.owed, p, is, f.s_more, f.t_more, none))

        by : (left.place ≡ place) ⊎ (left.place ≢ place) → IsOwed now l a k
        by (inl is) = here is part
        by (inr differs) = inr (record {
          place = left.place;
          low = left.low;
          coming = omega (
            arith,
            left.coming,
            f.c_sent left.place,
            f.c_taken left.place,
            ap one_if (off left.place differs),
          );
          owed = omega (arith, left.owed, f.s_more, f.t_more, none);
        })
