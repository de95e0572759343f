-- Each transaction that the API holds as begun is one of its coordinator.
use Rattle.std.proofs.Common.{◌≡◌, ◌≢◌, ◌⊎◌, ℕ, ◌<◌, ◌≤◌, List, [], ◌∷◌, Bool, true, false, refl, ap, ◌∙◌, subst, arith}
use Rattle.std.proofs.Common.{inl, inr}
use Rattle.std.specs.Prelude.{◌==◌, ◌&&◌, Some, if◌then◌else◌}
use Rattle.std.proofs.lemmas.Bool.{cases_eq, cases_lt}
use Rattle.std.proofs.lemmas.Bool.Decides.{nat_tests}
use Rattle.run_theory.specs.Links.{is_from, sent, taken}
use Rattle.run_theory.specs.Lists.{IsIn}
use Rattle.sig_core.specs.declared.member.TxId.{TxId}
use Rattle.sig_core.specs.declared.place.Place.{Place}
use Rattle.sig_core.specs.declared.signal.Body.{Body}
use Rattle.api_block.specs.declared.opened.OpenTransaction.{OpenTransaction}
use Rattle.api_block.specs.Opened.{has_tx, is_tx}
use Rattle.node_core.specs.Blocks.{tc_of}
use Rattle.node_core.specs.Requests.{is_request}
use Rattle.tc_block.specs.declared.transaction.Transaction.{Transaction}
use Rattle.world_core.specs.Hosts.{home, first_hosts}
use Rattle.world_core.specs.Machine.{after, machine}
use Rattle.world_core.specs.Start.{Start}
use Rattle.world_core.specs.Steps.{HostStep}
use Rattle.sig_core.proofs.Keys.{same_tx-self}
use Rattle.host_laws.proofs.rows.Operations.{right_of, left_of}
use Rattle.run_laws.proofs.hosts.AlongSteps.{few_taken, link, none_else}
use Rattle.host_laws.proofs.api.Holds.{AreHeld, IsOrdered, log_holds}
use Rattle.host_laws.proofs.hosts.BlocksAlong.{first_live}
use Rattle.host_laws.proofs.hosts.LinkCounts.{all_three, signals, steps, steps_from, taken_signals, taken_steps}
use Rattle.run_theory.proofs.Tally.{Counted, counted, tally_in}
use Rattle.run_theory.specs.Counts.{one_if, tally}
use Rattle.host_laws.proofs.coordinator.Lives.{is_over, is_keyed, is_start, start_of}
use Rattle.host_laws.proofs.coordinator.Moves.{end_of, is_end, same_tx-is}
use Rattle.host_laws.proofs.api.Wishes.{is_api}
use Rattle.answer_laws.specs.Answered.{AreQuiet, EachHasCoordinator, IsLiveAs, IsLiveAt}
use Rattle.host_laws.specs.OpenedAfter.{opened_after, opened_in}
use Rattle.tc_block.specs.Phases.{is_completing}
use Rattle.run_laws.proofs.causes.Begun.{AreOrdered, HostKeeps, keeps, ordered_past, plain_end, plain_start, silent_end}
use Rattle.run_laws.proofs.causes.Begun.{silent_start}

module _ (start : Start) (tx : TxId) where
  -- a log of the shell's host that has taken signals in order
  log_ordered : (log : List HostStep)
      → ((k : ℕ) → k ≢ home start tx → signals (is_end tx) (taken (machine start) k log) ≡ 0)
      → AreOrdered tx (taken (machine start) (home start tx) log) → IsOrdered tx log
  log_ordered [] none ordered = tt
  log_ordered (e ∷ log) none ordered = (
    λ is. due is (cases_eq e.step.taken.from.0 (home start tx)),
    log_ordered log (λ k differs. omega (arith, none k differs, taken_signals start (is_end tx) k e log))
        (rest (is_from (machine start) (home start tx) e) ordered),
  )
    where
      from : (k : ℕ) → e.step.taken.from.0 ≡ k → is_end tx e.step.taken.to e.step.taken.body ≡ true
          → is_from (machine start) k e ≡ true
      from k at is =
          left_of (is_from (machine start) k e) (is_end tx e.step.taken.to e.step.taken.body)
          (all_three (is_request e.step.taken.body) (e.step.taken.from.0 == k)
          (is_end tx e.step.taken.to e.step.taken.body)
          (plain_end tx e.step.taken.body (right_of (is_api e.step.taken.to.block) (end_of tx e.step.taken.body) is))
          (grind (arith, nat_tests, at)) is)

      rest : (b : Bool)
          → AreOrdered tx (if b then record { to = e.host; signal = e.step.taken } ∷ taken (machine start)
          (home start tx) log else taken (machine start) (home start tx) log)
          → AreOrdered tx (taken (machine start) (home start tx) log)
      rest true o = o.1
      rest false o = o

      due : is_end tx e.step.taken.to e.step.taken.body ≡ true
          → (e.step.taken.from.0 ≡ home start tx) ⊎ (e.step.taken.from.0 ≢ home start tx) → 1 ≤ steps (is_start tx) log
      due is (inl same) =
          let here : AreOrdered tx (record { to = e.host; signal = e.step.taken } ∷ taken (machine start)
          (home start tx) log) =
          subst (λ b. AreOrdered tx (if b then record { to = e.host; signal = e.step.taken } ∷ taken (machine start)
          (home start tx) log else taken (machine start) (home start tx) log)) (from (home start tx) same is)
          ordered in
          omega (arith, here.0 is, taken_steps start (is_start tx) (home start tx) log)
      due is (inr differs) =
          absurd (omega (
            arith,
            none e.step.taken.from.0 differs,
            taken_signals start (is_end tx) e.step.taken.from.0 e log,
            ap one_if (ap (λ b. b && is_end tx e.step.taken.to e.step.taken.body) (from e.step.taken.from.0 refl is) ∙
                is),
          ))

  -- at quiet
  module _ (logs : ℕ → List HostStep) (quiet : AreQuiet start logs) where
    starts_there : steps (is_start tx) (logs 0) ≤ signals (is_start tx) (taken (machine start) (home start tx) (logs 0))
    starts_there =
        steps_from start (is_start tx) (home start tx)
        (λ to body e. plain_start tx body (right_of (is_api to.block) (start_of tx body) e)) (logs 0)
        (none_else start logs quiet.right quiet.within (is_start tx) (home start tx) (silent_start start tx))

    -- what is live at the coordinator
    live_at : (h : ℕ) → 1 ≤ signals (is_start tx) (sent (machine start) h 0 (logs h))
        → signals (is_end tx) (sent (machine start) h 0 (logs h)) ≡ 0 → IsLiveAt tx (after start h (logs h))
    live_at h some none = record {
      transaction = c.item.1;
      live = subst (λ t. IsIn (t, c.item.1) (tc_of (after start h (logs h))).live) (same_tx-is c.item.0 tx c.passes)
          c.inside;
      unreported = unfinished (is_completing c.item.1.phase) refl;
    }
      where
        k : HostKeeps start tx h (logs h)
        k = keeps start tx h (logs h)

        c : Counted (is_keyed tx) (tc_of (after start h (logs h))).live
        c = counted (is_keyed tx) (tc_of (after start h (logs h))).live (omega (arith, k.keeps.kept some, none))

        unfinished : (b : Bool) → is_completing c.item.1.phase ≡ b → is_completing c.item.1.phase ≡ false
        unfinished false e = e
        unfinished true e =
            let done : is_over tx c.item ≡ true = ap (λ b. b && is_completing c.item.1.phase) c.passes ∙ e in
            absurd (omega (
              arith,
              k.keeps.told (tally_in (is_over tx) c.item (tc_of (after start h (logs h))).live
                  c.inside done),
              none,
            ))

    -- it was told once to have begun, and what the API holds isn't told to have ended
    pub once_started : steps (is_start tx) (logs 0) ≤ 1
    once_started = omega (
      arith,
      starts_there,
      few_taken start logs quiet.right (is_start tx) (home start tx) 0,
      (keeps start tx (home start tx) (logs (home start tx))).keeps.once,
    )

    pub holds_at : AreHeld tx (tally (has_tx tx) (opened_in (after start 0 (logs 0)))) (logs 0)
    holds_at =
        log_holds start tx (logs 0) once_started
        (log_ordered (logs 0) (none_else start logs quiet.right quiet.within (is_end tx) (home start tx)
        (silent_end start tx))
        (ordered_past tx (taken (machine start) (home start tx) (logs 0))
        (sent (machine start) (home start tx) 0 (logs (home start tx)))
        (link start logs quiet.right (home start tx) 0)
        (keeps start tx (home start tx) (logs (home start tx))).ordered))

    held_live : (t : OpenTransaction) → IsIn t (opened_after start logs) → t.tx ≡ Some tx
        → IsLiveAt tx (after start (home start tx) (logs (home start tx)))
    held_live t inside is = at_low (cases_lt (home start tx) (first_hosts start))
      where
        at_home : (Place → Body → Bool) → ℕ
        at_home test = signals test (sent (machine start) (home start tx) 0 (logs (home start tx)))

        held : 1 ≤ tally (has_tx tx) (opened_in (after start 0 (logs 0)))
        held = tally_in (has_tx tx) t (opened_in (after start 0 (logs 0))) inside (ap (is_tx tx) is ∙ same_tx-self tx)

        some : 1 ≤ at_home (is_start tx)
        some = omega (
          arith,
          held,
          holds_at.few,
          starts_there,
          few_taken start logs quiet.right (is_start tx)
              (home start tx) 0,
        )

        none : home start tx < first_hosts start → (0 < at_home (is_end tx)) ⊎ (at_home (is_end tx) ≤ 0)
            → at_home (is_end tx) ≡ 0
        none low (inr few) = omega (arith, few)
        none low (inl ended) =
            let told : 1 ≤ steps (is_end tx) (logs 0) =
            omega (
              arith,
              ended,
              ap (signals (is_end tx)) (quiet.quiet (home start tx) 0 low (omega arith)),
              taken_steps
                  start (is_end tx) (home start tx) (logs 0),
            ) in
            absurd (omega (arith, held, holds_at.none told))

        at_low : (home start tx < first_hosts start) ⊎ (first_hosts start ≤ home start tx)
            → IsLiveAt tx (after start (home start tx) (logs (home start tx)))
        at_low (inl low) = live_at (home start tx) some (none low (cases_lt 0 (at_home (is_end tx))))
        at_low (inr high) = absurd (omega (
          arith,
          some,
          ap (λ log. signals (is_start tx)
              (sent (machine start) (home start tx) 0 log)) (quiet.within (home start tx) high),
        ))

-- a host that has a transaction at quiet is there
pub live_low : (start : Start) (logs : ℕ → List HostStep) (tx : TxId) (t : Transaction) → AreQuiet start logs → (h : ℕ)
    → IsLiveAs tx t (after start h (logs h)) → h < first_hosts start
live_low start logs tx t quiet h live = go (cases_lt h (first_hosts start))
  where
    go : (h < first_hosts start) ⊎ (first_hosts start ≤ h) → h < first_hosts start
    go (inl low) = low
    go (inr high) = absurd (subst (IsIn (tx, t)) (ap (λ log. (tc_of (after start h log)).live) (quiet.within h high) ∙
        first_live start h) live)

-- at quiet each transaction that has begun is one of its coordinator
pub each_lives : EachHasCoordinator
each_lives start logs t quiet inside tx is = held_live start tx logs quiet t inside is
