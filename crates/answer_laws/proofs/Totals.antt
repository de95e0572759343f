-- How many signals of a kind all hosts together have sent and taken.
use Rattle.std.proofs.Common.{◌≡◌, ◌≢◌, ℕ, zero, suc, ◌+◌, ◌<◌, ◌≤◌, List, [], ◌∷◌, Bool, true, false, refl, ap, sym}
use Rattle.std.proofs.Common.{◌∙◌, subst, arith}
use Rattle.std.specs.Prelude.{◌==◌, ◌&&◌, not}
use Rattle.run_theory.specs.Links.{is_from, sent, taken}
use Rattle.world_core.specs.Steps.{HostStep}
use Rattle.sig_core.specs.declared.outs.Outgoing.{Outgoing}
use Rattle.sig_core.specs.declared.place.Place.{Place}
use Rattle.sig_core.specs.declared.signal.Body.{Body}
use Rattle.world_core.specs.Hosts.{host_for}
use Rattle.world_core.specs.Machine.{machine, step_after}
use Rattle.world_core.specs.Start.{Start}
use Rattle.host_laws.proofs.hosts.LinkCounts.{sent_signals, signals, taken_signals, to_host}
use Rattle.run_theory.specs.Counts.{one_if}
use Rattle.host_laws.proofs.api.Wishes.{sends_of}
use Rattle.run_theory.specs.Counts.{total}
use Rattle.host_laws.proofs.hosts.Sums.{total_add, total_le, total_one, total_same, unit_below, unit_few}

-- signals for the hosts below n are no more than all
pub spread_few : (start : Start) (n : ℕ) (test : Place → Body → Bool) (xs : List Outgoing)
    → total n (λ j. sends_of (to_host start j test) xs) ≤ sends_of test xs
spread_few start n test [] = zeros n
  where
    zeros : (m : ℕ) → total m (λ j. 0) ≤ 0
    zeros zero = omega arith
    zeros (suc m) = omega (arith, zeros m)
spread_few start n test (x ∷ xs) =
    omega (
      arith,
      total_add n (λ j. one_if ((host_for start x.to == j) && test x.to x.body))
          (λ j. sends_of (to_host start j test) xs),
      spread_few start n test xs,
      unit_few n (host_for start x.to) (test x.to x.body),
    )

-- signals for the hosts below n, host by host
spread : (start : Start) (n : ℕ) (test : Place → Body → Bool)
    → ((to : Place) (body : Body) → test to body ≡ true → host_for start to < n) → (xs : List Outgoing)
    → total n (λ j. sends_of (to_host start j test) xs) ≡ sends_of test xs
spread start n test low [] = zeros n
  where
    zeros : (m : ℕ) → total m (λ j. 0) ≡ 0
    zeros zero = refl
    zeros (suc m) = omega (arith, zeros m)
spread start n test low (x ∷ xs) =
    omega (
      arith,
      total_add n (λ j. one_if ((host_for start x.to == j) && test x.to x.body))
          (λ j. sends_of (to_host start j test) xs),
      spread start n test low xs,
      here (test x.to x.body) refl,
    )
  where
    none : (m : ℕ) (at : ℕ) → total m (λ j. one_if ((at == j) && false)) ≡ 0
    none m at = let few = unit_few m at false in omega (arith, few)

    here : (b : Bool) → test x.to x.body ≡ b
        → total n (λ j. one_if ((host_for start x.to == j) && test x.to x.body)) ≡ one_if (test x.to x.body)
    here true e = unit_below n (host_for start x.to) (test x.to x.body) (low x.to x.body e)
    here false e = subst (λ c. total n (λ j. one_if ((host_for start x.to == j) && c)) ≡ one_if c) (sym e)
        (none n (host_for start x.to))

module _ (start : Start) (n : ℕ) (test : Place → Body → Bool) where
  -- all that the hosts below n have sent to each other, and taken from each other
  abbrev pub sent_all : (ℕ → List HostStep) → ℕ
  sent_all logs = total n (λ i. total n (λ j. signals test (sent (machine start) i j (logs i))))

  abbrev pub taken_all : (ℕ → List HostStep) → ℕ
  taken_all logs = total n (λ i. total n (λ j. signals test (taken (machine start) i (logs j))))

  -- host h makes a step
  pub record Grown (logs now : ℕ → List HostStep) (h : ℕ) (e : HostStep) : Type 0 where
    pub own : now h ≡ e ∷ logs h
    pub others : (k : ℕ) → k ≢ h → now k ≡ logs k

  pub sent_more : ((to : Place) (body : Body) → test to body ≡ true → host_for start to < n)
      → (logs now : ℕ → List HostStep) (h : ℕ) (e : HostStep) → h < n → Grown logs now h e
      → sent_all now ≡ sent_all logs + sends_of test (step_after start h (logs h) e).effects.sends
  sent_more low logs now h e under grown =
      omega (
        arith,
        total_one n old new h under (λ k differs. ap
            (λ log. total n (λ j. signals test (sent (machine start) k j log))) (grown.others k differs)),
        here,
      )
    where
      old : ℕ → ℕ
      old i = total n (λ j. signals test (sent (machine start) i j (logs i)))

      new : ℕ → ℕ
      new i = total n (λ j. signals test (sent (machine start) i j (now i)))

      here : new h ≡ sends_of test (step_after start h (logs h) e).effects.sends + old h
      here =
          ap (λ log. total n (λ j. signals test (sent (machine start) h j log))) grown.own
          ∙ total_same n (λ j. signals test (sent (machine start) h j (e ∷ logs h)))
          (λ j. sends_of (to_host start j test) (step_after start h (logs h) e).effects.sends
          + signals test (sent (machine start) h j (logs h)))
          (λ j under. sent_signals start test h j e (logs h))
          ∙ total_add n (λ j. sends_of (to_host start j test) (step_after start h (logs h) e).effects.sends)
          (λ j. signals test (sent (machine start) h j (logs h)))
          ∙ ap (λ m. m + old h) (spread start n test low (step_after start h (logs h) e).effects.sends)

  -- no more was sent than before and with this step
  pub sent_few : (logs now : ℕ → List HostStep) (h : ℕ) (e : HostStep) → h < n → Grown logs now h e
      → sent_all now ≤ sent_all logs + sends_of test (step_after start h (logs h) e).effects.sends
  sent_few logs now h e under grown =
      omega (
        arith,
        total_one n old new h under (λ k differs. ap
            (λ log. total n (λ j. signals test (sent (machine start) k j log))) (grown.others k differs)),
        here,
        spread_few start n test (step_after start h (logs h) e).effects.sends,
      )
    where
      old : ℕ → ℕ
      old i = total n (λ j. signals test (sent (machine start) i j (logs i)))

      new : ℕ → ℕ
      new i = total n (λ j. signals test (sent (machine start) i j (now i)))

      here : new h ≡ total n (λ j. sends_of (to_host start j test) (step_after start h (logs h) e).effects.sends)
          + old h
      here =
          ap (λ log. total n (λ j. signals test (sent (machine start) h j log))) grown.own
          ∙ total_same n (λ j. signals test (sent (machine start) h j (e ∷ logs h)))
          (λ j. sends_of (to_host start j test) (step_after start h (logs h) e).effects.sends
          + signals test (sent (machine start) h j (logs h)))
          (λ j under. sent_signals start test h j e (logs h))
          ∙ total_add n (λ j. sends_of (to_host start j test) (step_after start h (logs h) e).effects.sends)
          (λ j. signals test (sent (machine start) h j (logs h)))

  -- nor less than before
  pub sent_least : (logs now : ℕ → List HostStep) (h : ℕ) (e : HostStep) → h < n → Grown logs now h e
      → sent_all logs ≤ sent_all now
  sent_least logs now h e under grown =
      omega (
        arith,
        total_one n (λ i. total n (λ j. signals test (sent (machine start) i j (logs i))))
            (λ i. total n (λ j. signals test (sent (machine start) i j (now i)))) h under
            (λ k differs. ap (λ log. total n (λ j. signals test (sent (machine start) k j log)))
            (grown.others k differs)),
        ap (λ log. total n (λ j. signals test (sent (machine start) h j log))) grown.own,
        total_le n (λ j. signals test (sent (machine start) h j (logs h)))
            (λ j. signals test (sent (machine start) h j (e ∷ logs h)))
            (λ j low. omega (arith, sent_signals start test h j e (logs h))),
      )

  -- what was taken before, and what this step took
  pub taken_exact : (logs now : ℕ → List HostStep) (h : ℕ) (e : HostStep) → h < n → Grown logs now h e
      → taken_all now ≡ taken_all logs + total n
      (λ i. one_if (is_from (machine start) i e && test e.step.taken.to e.step.taken.body))
  taken_exact logs now h e under grown =
      omega (
        arith,
        total_same n (λ i. total n (λ j. signals test (taken (machine start) i (now j))))
            (λ i. total n (λ j. signals test (taken (machine start) i (logs j)))
            + one_if (is_from (machine start) i e && test e.step.taken.to e.step.taken.body)) (λ i low. row i),
        total_add n (λ i. total n (λ j. signals test (taken (machine start) i (logs j))))
            (λ i. one_if (is_from (machine start) i e && test e.step.taken.to e.step.taken.body)),
      )
    where
      row : (i : ℕ)
          → total n (λ j. signals test (taken (machine start) i (now j)))
          ≡ total n (λ j. signals test (taken (machine start) i (logs j)))
          + one_if (is_from (machine start) i e && test e.step.taken.to e.step.taken.body)
      row i =
          omega (
            arith,
            total_one n (λ j. signals test (taken (machine start) i (logs j)))
                (λ j. signals test (taken (machine start) i (now j))) h under
                (λ k differs. ap (λ log. signals test (taken (machine start) i log)) (grown.others k differs)),
            ap (λ log. signals test (taken (machine start) i log)) grown.own,
            taken_signals start test i e (logs h),
          )

  pub taken_more : (logs now : ℕ → List HostStep) (h : ℕ) (e : HostStep) → h < n → Grown logs now h e
      → taken_all now ≤ taken_all logs + one_if (test e.step.taken.to e.step.taken.body)
  taken_more logs now h e under grown = omega (arith, taken_exact logs now h e under grown, few)
    where
      few : total n (λ i. one_if (is_from (machine start) i e && test e.step.taken.to e.step.taken.body))
          ≤ one_if (test e.step.taken.to e.step.taken.body)
      few = go (not ((machine start).asked e)) refl
        where
          go : (b : Bool) → not ((machine start).asked e) ≡ b
              → total n (λ i. one_if ((not ((machine start).asked e) && (e.step.taken.from.0 == i)) && test
              e.step.taken.to e.step.taken.body)) ≤ one_if (test e.step.taken.to e.step.taken.body)
          go true is = subst (λ b. total n (λ i. one_if ((b && (e.step.taken.from.0 == i)) && test e.step.taken.to
              e.step.taken.body)) ≤ one_if (test e.step.taken.to e.step.taken.body)) (sym is)
              (unit_few n e.step.taken.from.0 (test e.step.taken.to e.step.taken.body))
          go false is = subst (λ b. total n (λ i. one_if ((b && (e.step.taken.from.0 == i)) && test e.step.taken.to
              e.step.taken.body)) ≤ one_if (test e.step.taken.to e.step.taken.body)) (sym is) (zeros n)
            where
              zeros : (m : ℕ) → total m (λ i. 0) ≤ one_if (test e.step.taken.to e.step.taken.body)
              zeros zero = omega arith
              zeros (suc m) = omega (arith, zeros m)
