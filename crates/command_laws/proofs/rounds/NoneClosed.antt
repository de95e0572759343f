-- At quiet no wait is closed: each that stood eight rounds was taken out.
use Rattle.std.proofs.Common.{◌≡◌, ◌≢◌, ◌⊎◌, ℕ, ◌+◌, ◌≤◌, ◌<◌, List, [], ◌∷◌}
use Rattle.std.proofs.Common.{Bool, true, false, refl, ap, sym, ◌∙◌, arith, inl, inr}
use Rattle.std.specs.Prelude.{◌==◌, ◌&&◌}
use Rattle.std.proofs.lemmas.Bool.{eq-eqb, eqb-true, false≢true}
use Rattle.std.specs.FinMap as finite
use Rattle.run_theory.specs.Links.{is_from, sent, taken}
use Rattle.run_theory.specs.Runs.{log_of}
use Rattle.sig_core.specs.declared.outs.Outgoing.{Outgoing}
use Rattle.sig_core.specs.declared.place.Place.{Place}
use Rattle.sig_core.specs.declared.signal.Body.{Body}
use Rattle.sig_core.specs.declared.signal.Body.TheVariants as body
use Rattle.sig_core.specs.declared.signal.host.HostSignal.TheVariants.{Continue}
use Rattle.sig_core.specs.declared.signal.host.Work.TheVariants as work
use Rattle.sig_core.specs.Place.{rows_of}
use Rattle.row_locks.proofs.LocksLemmas.{key_cmp}
use Rattle.row_locks.specs.Tables.{or_unlocked}
use Rattle.lqh_block.specs.Lqh.{lqh_table}
use Rattle.lqh_block.specs.State.{LqhState}
use Rattle.node_core.proofs.HostCases.{IsRowsStep}
use Rattle.node_core.specs.Blocks.{lqh_of}
use Rattle.node_core.specs.Fresh.{fresh_part}
use Rattle.node_core.specs.Requests.{is_request}
use Rattle.world_core.proofs.HostNumbers.{host_below, rows_run, rows_started}
use Rattle.world_core.specs.Hosts.{host_for, first_hosts, rows_host}
use Rattle.world_core.specs.Machine.{after, machine, step_after}
use Rattle.world_core.specs.Start.{Start}
use Rattle.world_core.specs.Steps.{HostStep}
use Rattle.host_laws.proofs.coordinator.HostTurns.{rows_turn}
use Rattle.host_laws.proofs.hosts.LinkCounts.{sent_signals, signals, taken_signals, to_host}
use Rattle.host_laws.proofs.rows.Operations.{is_lqh, left_of, right_of, true_and}
use Rattle.host_laws.proofs.api.Wishes.{sends_of}
use Rattle.run_theory.specs.Counts.{one_if}
use Rattle.run_laws.proofs.hosts.AlongSteps.{Goes, along, few_taken, rows_place, goes_cases}
use Rattle.answer_laws.proofs.Flows.{flow_grows}
use Rattle.answer_laws.proofs.Queued.{rows_know}
use Rattle.answer_laws.specs.Answered.{AreQuiet}
use Rattle.command_laws.proofs.rounds.ClosedWaits.{goes_over, is_closed, is_over, is_timer, rows_go_over, some_closed}

module _ (start : Start) (key : List ℕ) (node : ℕ) (some_node : 1 ≤ node) (few_nodes : node ≤ start.shape.nodes) where
  over_timer : (to : Place) (body : Body) → is_over key node to body ≡ true → is_timer key body ≡ true
  over_timer to (body.Host (Continue work.Expired at)) e = refl
  over_timer to _ e = cc

  over_lqh : (to : Place) (body : Body) → is_lqh to.block ≡ false → is_over key node to body ≡ false
  over_lqh to (body.Host (Continue work.Expired at)) e = ap (λ b. b && (to.node == node)) e
  over_lqh to _ e = refl

  plain_over : (to : Place) (body : Body) → is_over key node to body ≡ true → is_request body ≡ false
  plain_over to (body.Host (Continue work.Expired at)) e = refl
  plain_over to _ e = cc

  -- what goes on goes on at its own node
  over_own : (xs : List Outgoing) → goes_over key node xs
      ≤ sends_of (to_host start (rows_host start node) (is_over key node)) xs
  over_own [] = omega arith
  over_own (o ∷ xs) = omega (arith, over_own xs, one o.to o.body (is_over key node o.to o.body) refl)
    where
      at_self : (to : Place) (b : Body) → is_over key node to b ≡ true
          → (host_for start to == rows_host start node) ≡ true
      at_self to (body.Host (Continue work.Expired at)) e =
          eq-eqb _ _ (ap (host_for start) (rows_place to (left_of (is_lqh to.block) (to.node == node) e))
          ∙ ap (rows_host start) (eqb-true to.node node (right_of (is_lqh to.block) (to.node == node) e)))
      at_self to _ e = cc

      one : (to : Place) (body : Body) (b : Bool) → is_over key node to body ≡ b
          → one_if (is_over key node to body)
          ≤ one_if ((host_for start to == rows_host start node) && is_over key node to body)
      one to body false e = omega (arith, ap one_if e)
      one to body true e =
          omega (
            arith,
            ap one_if e,
            ap one_if (true_and (host_for start to == rows_host start node)
                (is_over key node to body) (at_self to body e) e),
          )

  -- the host of the node's rows, and the signals by which they go on
  abbrev at : ℕ
  at = rows_host start node

  abbrev over_sent : List HostStep → ℕ
  over_sent log = signals (is_over key node) (sent (machine start) at at log)

  abbrev over_taken : List HostStep → ℕ
  over_taken log = signals (is_over key node) (taken (machine start) at log)

  abbrev closed : List HostStep → Bool
  closed log = is_closed key (lqh_of (after start at log)).locks

  low : at < first_hosts start
  low = host_below start (rows_of node) some_node few_nodes

  -- while a wait is closed the rows go on
  abbrev GoesOnClosed : (ℕ → List HostStep) → Type 0
  GoesOnClosed logs = closed (logs at) ≡ true → over_taken (logs at) + 1 ≤ over_sent (logs at)

  own_closed : (logs now : ℕ → List HostStep) (e : HostStep) → Goes start logs now at e → GoesOnClosed logs
      → is_closed key (lqh_of (step_after start at (logs at) e).state).locks ≡ true
      → over_taken (now at) + 1 ≤ over_sent (now at)
  own_closed logs now e g k is =
      finish (rows_turn (after start at (logs at)) e.step.taken (rows_run start node (logs at) some_node few_nodes))
    where
      s : LqhState
      s = lqh_of (after start at (logs at))

      sent_now : over_sent (logs at) + goes_over key node (step_after start at (logs at) e).effects.sends
          ≤ over_sent (now at)
      sent_now = omega (
        arith,
        ap over_sent g.own,
        sent_signals start (is_over key node) at at e (logs at),
        over_own (step_after start at (logs at) e).effects.sends,
      )

      taken_now : over_taken (now at)
          ≡ one_if (is_from (machine start) at e && is_over key node e.step.taken.to e.step.taken.body)
          + over_taken (logs at)
      taken_now = ap over_taken g.own ∙ taken_signals start (is_over key node) at e (logs at)

      off_taken : (a : Bool) {b : Bool} → b ≡ false → one_if (a && b) ≡ 0
      off_taken true q = ap one_if q
      off_taken false q = refl

      -- no more was taken than had been sent
      taken_few : over_taken (now at) ≤ over_sent (logs at)
      taken_few = by (is_from (machine start) at e) refl
        where
          by : (b : Bool) → is_from (machine start) at e ≡ b → over_taken (now at) ≤ over_sent (logs at)
          by false f =
              omega (
                arith,
                taken_now,
                ap (λ b. one_if (b && is_over key node e.step.taken.to e.step.taken.body)) f,
                few_taken start logs g.before (is_over key node) at at,
              )
          by true f = which (is_over key node e.step.taken.to e.step.taken.body) refl
            where
              which : (c : Bool) → is_over key node e.step.taken.to e.step.taken.body ≡ c
                  → over_taken (now at) ≤ over_sent (logs at)
              which false m =
                  omega (
                    arith,
                    taken_now,
                    off_taken (is_from (machine start) at e) m,
                    few_taken start logs g.before (is_over key node) at at,
                  )
              which true m = flow_grows start (is_over key node) logs now at e g
                  (plain_over e.step.taken.to e.step.taken.body m) m f

      finish : IsRowsStep (after start at (logs at)) e.step.taken (step_after start at (logs at) e)
          ⊎ ((lqh_of (step_after start at (logs at) e).state ≡ s) × (is_lqh e.step.taken.to.block ≡ false))
          → over_taken (now at) + 1 ≤ over_sent (now at)
      finish (inr other) =
          omega (
            arith,
            sent_now,
            taken_now,
            off_taken (is_from (machine start) at e) (over_lqh e.step.taken.to e.step.taken.body other.1),
            k (ap (λ (u : LqhState). is_closed key u.locks) (sym other.0) ∙ is),
          )
      finish (inl step) =
          by ((rows_go_over key s e.step.taken.body).closes
          (ap (λ (u : LqhState). is_closed key u.locks) (sym step.state) ∙ is))
        where
          by : ((is_closed key s.locks ≡ true) × (is_timer key e.step.taken.body ≡ false))
              ⊎ (1 ≤ goes_over key s.node (lqh_table s e.step.taken.body).effects.sends)
              → over_taken (now at) + 1 ≤ over_sent (now at)
          by (inl p) =
              omega (
                arith,
                sent_now,
                taken_now,
                off_taken (is_from (machine start) at e)
                    (still (is_over key node e.step.taken.to e.step.taken.body) refl),
                k p.0,
              )
            where
              still : (b : Bool) → is_over key node e.step.taken.to e.step.taken.body ≡ b
                  → is_over key node e.step.taken.to e.step.taken.body ≡ false
              still false q = q
              still true q = absurd (false≢true (sym p.1 ∙ over_timer e.step.taken.to e.step.taken.body q))
          by (inr more) =
              omega (
                arith,
                sent_now,
                taken_few,
                more,
                ap (λ n. goes_over key n (lqh_table s e.step.taken.body).effects.sends)
                    (rows_know start node some_node few_nodes (logs at)),
                ap (λ f. goes_over key node f.sends) step.effects,
              )

  step : (logs now : ℕ → List HostStep) (j : ℕ) (e : HostStep) → Goes start logs now j e → GoesOnClosed logs
      → GoesOnClosed now
  step logs now j e g k is =
      goes_cases start logs now j e g at (λ own. own_closed logs now e own k (ap closed (sym own.own) ∙ is))
      (λ differs log_is. omega (arith, k (ap closed (sym log_is) ∙ is), ap over_taken log_is, ap over_sent log_is))

  first_closed : closed [] ≡ false
  unfolding fresh_part
  first_closed = ap (λ h. is_closed key (lqh_of h).locks) (rows_started start node some_node few_nodes)
      ∙ ap (λ o. some_closed (or_unlocked o).queue) (finite.get-empty key_cmp key)

  first : GoesOnClosed (log_of (machine start) [])
  first is = absurd (false≢true (sym first_closed ∙ is))

  pub none_closed : (logs : ℕ → List HostStep) → AreQuiet start logs → closed (logs at) ≡ false
  none_closed logs quiet = by (closed (logs at)) refl
    where
      by : (b : Bool) → closed (logs at) ≡ b → closed (logs at) ≡ false
      by false is = is
      by true is =
          absurd (omega (
            arith,
            along start GoesOnClosed first step logs quiet.within quiet.right is,
            ap (signals (is_over key node)) (quiet.quiet at at low low),
          ))
