-- Of a transaction that isn't decided no row is committed or completed.
use Rattle.std.proofs.Common.{◌≡◌, ◌≢◌, ◌⊎◌, ℕ, ◌≤◌, List, [], Bool, true, false, refl, ap, sym, ◌∙◌, arith, inl, inr}
use Rattle.std.specs.Prelude.{not, if◌then◌else◌, None, Some}
use Rattle.std.proofs.lemmas.Bool.{false≢true}
use Rattle.lqh_block.specs.Lqh.{lqh_table}
use Rattle.node_core.proofs.HostCases.{IsRowsStep}
use Rattle.node_core.specs.Blocks.{lqh_of, tc_of}
use Rattle.node_core.specs.Requests.{is_request}
use Rattle.run_theory.specs.Runs.{AreLogs, IsWithin, log_of}
use Rattle.sig_core.specs.declared.member.TxId.{TxId}
use Rattle.sig_core.specs.declared.outs.Outgoing.{Outgoing}
use Rattle.sig_core.specs.declared.place.Place.{Place}
use Rattle.sig_core.specs.declared.signal.Body.{Body}
use Rattle.sig_core.specs.declared.signal.Body.TheVariants.{Chain}
use Rattle.sig_core.specs.declared.signal.chain.ChainSignal.TheVariants.{Commit, Complete}
use Rattle.sig_core.specs.Same.{same_tx}
use Rattle.tc_block.specs.declared.transaction.Transaction.{Transaction}
use Rattle.tc_block.specs.Phases.{is_decided}
use Rattle.world_core.specs.Hosts.{home, first_hosts}
use Rattle.world_core.specs.Machine.{after, machine, step_after}
use Rattle.world_core.specs.Start.{Start}
use Rattle.world_core.specs.Steps.{HostStep}
use Rattle.host_laws.proofs.hosts.Sums.{total_zero}
use Rattle.run_laws.proofs.hosts.AlongSteps.{Goes, along, at_tc, no_transaction, other_turn, the_transaction, turn_at}
use Rattle.run_laws.proofs.hosts.AlongSteps.{tx_at, goes_cases}
use Rattle.answer_laws.proofs.Flows.{flow_came, flow_sent}
use Rattle.host_laws.proofs.coordinator.HostTurns.{HostTurn, IsAside, aside, in_rows, is_aside, starting, turning}
use Rattle.answer_laws.proofs.LqhForth.{is_back, lqh_back}
use Rattle.host_laws.proofs.rows.Waits.{is_forth}
use Rattle.host_laws.proofs.hosts.SendKinds.{are_of, none_of, of_kind}
use Rattle.answer_laws.proofs.TcForth.{BackTurn, back_turn}
use Rattle.host_laws.specs.Live.{of_live}
use Rattle.host_laws.proofs.coordinator.Steps.{live_early}
use Rattle.answer_laws.proofs.Totals.{sent_all}
use Rattle.host_laws.proofs.api.Wishes.{sends_of}

abbrev pub forth_at : TxId → Place → Body → Bool
forth_at tx to body = is_forth tx body

back_none : (tx : TxId) (sends : List Outgoing) → are_of (is_back tx) sends ≡ true → sends_of (forth_at tx) sends ≡ 0
back_none tx sends kind = none_of (is_back tx) (forth_at tx) fails sends kind
  where
    off : (b : Bool) → not b ≡ true → b ≡ false
    off true e = absurd (false≢true e)
    off false e = refl

    fails : (to : Place) (b : Body) → is_back tx b ≡ true → is_forth tx b ≡ false
    fails to (Chain (Commit other key epoch chain at)) e = off (same_tx other tx) e
    fails to (Chain (Complete other key chain at)) e = off (same_tx other tx) e
    fails to _ e = refl

aside_back : (tx : TxId) (b : Body) → is_aside tx b ≡ true → is_back tx b ≡ true
aside_back tx (Chain (Commit other key epoch chain at)) e = e
aside_back tx (Chain (Complete other key chain at)) e = e
aside_back tx _ e = refl

plain_forth : (tx : TxId) (body : Body) → is_forth tx body ≡ true → is_request body ≡ false
plain_forth tx (Chain (Commit other key epoch chain at)) e = refl
plain_forth tx (Chain (Complete other key chain at)) e = refl
plain_forth tx _ e = cc

module _ (start : Start) (tx : TxId) where
  abbrev pub F : (ℕ → List HostStep) → ℕ
  F logs = sent_all start (first_hosts start) (forth_at tx) logs

  -- none was sent while the transaction isn't decided
  pub record IsBack (logs : ℕ → List HostStep) : Type 0 where
    pub undecided : (t : Transaction) → tx_at tx (after start (home start tx) (logs (home start tx))) ≡ Some t
        → is_decided t.phase ≡ false → F logs ≡ 0
    pub unborn : (tc_of (after start (home start tx) (logs (home start tx)))).next_seq ≤ tx.seq → F logs ≡ 0

  module _ (logs now : ℕ → List HostStep) (h : ℕ) (e : HostStep) (g : Goes start logs now h e) where
    -- where none was sent none comes
    pub none_came : F logs ≡ 0 → is_forth tx e.step.taken.body ≡ false
    none_came none = by (is_forth tx e.step.taken.body) refl
      where
        by : (b : Bool) → is_forth tx e.step.taken.body ≡ b → is_forth tx e.step.taken.body ≡ false
        by false is = is
        by true is = absurd (omega (
          arith,
          none,
          flow_came start (forth_at tx) logs now h e g
              (plain_forth tx e.step.taken.body is) is,
        ))

    sent_now : F logs ≡ 0 → sends_of (forth_at tx) (step_after start h (logs h) e).effects.sends ≡ 0 → F now ≡ 0
    sent_now none quiet = omega (arith, none, quiet, flow_sent start (forth_at tx) logs now h e g)

    -- nor are any sent, by rows and where nothing is said of the transaction
    rows_none : IsRowsStep (after start h (logs h)) e.step.taken (step_after start h (logs h) e) → F logs ≡ 0
        → F now ≡ 0
    rows_none step none =
        let s = lqh_of (after start h (logs h)) in
        sent_now none
        (ap (λ f. sends_of (forth_at tx) f.sends) step.effects
        ∙ back_none tx (lqh_table s e.step.taken.body).effects.sends
        (lqh_back tx s e.step.taken.body (none_came none)))

    aside_none : IsAside tx (after start h (logs h)) e.step.taken (step_after start h (logs h) e) → F logs ≡ 0
        → F now ≡ 0
    aside_none step none =
        sent_now none (back_none tx (step_after start h (logs h) e).effects.sends
        (of_kind (is_aside tx) (is_back tx) (aside_back tx) (step_after start h (logs h) e).effects.sends
        step.kind))

  own_back : (logs now : ℕ → List HostStep) (e : HostStep) → Goes start logs now (home start tx) e → IsBack logs
      → IsBack now
  own_back logs now e g k = by (turn_at start tx (home start tx) (logs (home start tx)) e)
    where
      now_is : after start (home start tx) (now (home start tx))
          ≡ (step_after start (home start tx) (logs (home start tx)) e).state
      now_is = ap (after start (home start tx)) g.own

      grows : (tc_of (after start (home start tx) (logs (home start tx)))).next_seq
          ≤ (tc_of (step_after start (home start tx) (logs (home start tx)) e).state).next_seq
          → (tc_of (after start (home start tx) (now (home start tx)))).next_seq ≤ tx.seq
          → (tc_of (after start (home start tx) (logs (home start tx)))).next_seq ≤ tx.seq
      grows more early = omega (arith, more, early, ap (λ s. (tc_of s).next_seq) now_is)

      by : HostTurn tx (after start (home start tx) (logs (home start tx))) e.step.taken
          (step_after start (home start tx) (logs (home start tx)) e) → IsBack now
      by (in_rows step) = record {
        undecided = λ t at off. rows_none logs now (home start tx) e g step
            (k.undecided t (ap (λ s. of_live tx s.live) (sym step.tc) ∙ ap (tx_at tx) (sym now_is) ∙ at) off);
        unborn = λ early. rows_none logs now (home start tx) e g step
            (k.unborn (grows (omega (arith, ap (λ s. s.next_seq) step.tc)) early));
      }
      by (aside step) = record {
        undecided = λ t at off. aside_none logs now (home start tx) e g step
            (k.undecided t (sym step.same ∙ ap (tx_at tx) (sym now_is) ∙ at) off);
        unborn = λ early. aside_none logs now (home start tx) e g step (k.unborn (grows step.grows early));
      }
      by (starting step) =
          let none = sent_now logs now (home start tx) e g (k.unborn (omega (arith, ap (λ (v : TxId). v.seq) step.one)))
          (ap (sends_of (forth_at tx)) step.told) in
          record { undecided = λ t at off. none; unborn = λ early. none }
      by (turning step) = record {
        undecided = λ u at off. which u (ap (tx_at tx) (sym now_is) ∙ at) off step.turn.over refl;
        unborn = λ early. absurd (omega (
          arith,
          grows step.grows early,
          live_early tx (tc_of (after start (home start tx) (logs (home start tx)))) step.was step.there
              (at_tc start tx (home start tx) (logs (home start tx))).own,
        ));
      }
        where
          turns : BackTurn (tc_of (after start (home start tx) (logs (home start tx)))) tx [] step.was e.step.taken.body
              step.turn
          turns = back_turn (tc_of (after start (home start tx) (logs (home start tx)))) tx [] step.was
              e.step.taken.body step.turn step.move

          which : (u : Transaction)
              → tx_at tx (step_after start (home start tx) (logs (home start tx)) e).state ≡ Some u
              → is_decided u.phase ≡ false → (b : Bool) → step.turn.over ≡ b → F now ≡ 0
          which u at off true over =
              no_transaction u (sym (step.left ∙ ap (λ b. if b then None else Some step.turn.step.state) over) ∙ at)
          which u at off false over =
              let same = the_transaction step.turn.step.state u
              (sym (step.left ∙ ap (λ b. if b then None else Some step.turn.step.state) over) ∙ at) in
              let o = turns.undecided over (ap (λ (v : Transaction). is_decided v.phase) same ∙ off) in
              sent_now logs now (home start tx) e g (k.undecided step.was step.there o.0)
              (ap (sends_of (forth_at tx)) step.told ∙ back_none tx step.turn.step.effects.sends o.1)

  step : (logs now : ℕ → List HostStep) (h : ℕ) (e : HostStep) → Goes start logs now h e → IsBack logs → IsBack now
  step logs now h e g k =
      goes_cases start logs now h e g (home start tx) (λ own. own_back logs now e own k) away
    where
      away : h ≢ home start tx → now (home start tx) ≡ logs (home start tx) → IsBack now
      away differs log_is = record {
        undecided = λ t at off. none (k.undecided t (ap (λ log. tx_at tx (after start (home start tx) log))
            (sym log_is) ∙ at) off);
        unborn = λ early. none
            (k.unborn (omega (arith, early, ap (λ log. (tc_of (after start (home start tx) log)).next_seq) log_is)));
      }
        where
          none : F logs ≡ 0 → F now ≡ 0
          none was = go (other_turn start tx h (logs h) e g.low differs)
            where
              go : IsRowsStep (after start h (logs h)) e.step.taken (step_after start h (logs h) e)
                  ⊎ IsAside tx (after start h (logs h)) e.step.taken (step_after start h (logs h) e) → F now ≡ 0
              go (inl rows) = rows_none logs now h e g rows was
              go (inr other) = aside_none logs now h e g other was

  first : IsBack (log_of (machine start) [])
  first =
      let none : F (log_of (machine start) []) ≡ 0 =
      total_zero (first_hosts start) _ (λ i. total_zero (first_hosts start) _ (λ j. refl)) in
      record { undecided = λ t at off. none; unborn = λ early. none }

  pub is_undecided : (logs : ℕ → List HostStep) → IsWithin (first_hosts start) logs → AreLogs (machine start) logs
      → IsBack logs
  is_undecided logs within right = along start IsBack first step logs within right
