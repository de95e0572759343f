-- A coordinator that takes one operation of a transaction answers it, or reports an abort, and not both.
use Rattle.std.proofs.Common.{◌≡◌, ◌⊎◌, ◌<◌, ◌≤◌, ◌+◌, ℕ, zero, suc, Bool, true, false, List, [], ◌∷◌, refl, sym, ap}
use Rattle.std.proofs.Common.{◌∙◌, subst, inl, inr, arith}
use Rattle.std.specs.Prelude.{◌==◌, ◌&&◌, Option, None, Some, if◌then◌else◌}
use Rattle.sig_core.proofs.Keys.{same_tx-self}
use Rattle.sig_core.specs.declared.member.TxId.{TxId}
use Rattle.sig_core.specs.declared.outs.Outgoing.{Outgoing}
use Rattle.sig_core.specs.declared.place.Place.{Place}
use Rattle.sig_core.specs.declared.signal.Body.{Body}
use Rattle.sig_core.specs.declared.signal.Body.TheVariants.{Client}
use Rattle.sig_core.specs.declared.signal.client.ClientSignal.TheVariants.{TcKeyConf, TcKeyReq, TcRollbackRep}
use Rattle.sig_core.specs.declared.signal.client.ClientSignal.TheVariants.{TcRollbackReq}
use Rattle.sig_core.specs.declared.signal.Signal.{Signal}
use Rattle.sig_core.specs.Same.{same_tx}
use Rattle.sig_core.specs.Step.{Step}
use Rattle.node_core.specs.Blocks.{tc_of}
use Rattle.node_core.specs.declared.host.Host.{Host}
use Rattle.node_core.specs.Row.{row}
use Rattle.tc_block.specs.declared.transaction.Transaction.{Transaction}
use Rattle.tc_block.specs.State.{TcState}
use Rattle.tc_block.specs.Tc.{tc_row, tc_table}
use Rattle.tc_block.specs.Turn.{Turn}
use Rattle.run_theory.specs.Counts.{one_if, tally}
use Rattle.host_laws.proofs.hosts.SendKinds.{none_of}
use Rattle.host_laws.proofs.coordinator.Keys.{answer_of, is_asked, key_of_tx, tc_fair, is_key}
use Rattle.host_laws.proofs.api.Wishes.{is_api, is_tc, sends_of}
use Rattle.host_laws.specs.Live.{of_live}
use Rattle.command_laws.proofs.ends.Firm.{firm_turn, is_firm, is_no_abort}
use Rattle.command_laws.proofs.ends.FirmHosts.{is_back, no_back_firm, not_push, push_of}
use Rattle.command_laws.proofs.hosts.BlockSteps.{tc_host}
use Rattle.command_laws.proofs.hosts.TcPath.{IsSound, TcGoes, aside, begins, is_told, takes, tc_goes, told_of, told_tc}
use Rattle.host_laws.proofs.coordinator.Steps.{left_of_turn, live_early}
use Rattle.tc_block.proofs.TurnRows.{tx_in, turn_row}
use Rattle.command_laws.proofs.operations.TurnTells.{TurnTells, is_reply, turn_tells}

-- where one test implies another, fewer signals pass it
pub sends_less : (p q : Place → Body → Bool) → ((to : Place) (body : Body) → p to body ≡ true → q to body ≡ true)
    → (xs : List Outgoing) → sends_of p xs ≤ sends_of q xs
sends_less p q implies [] = omega arith
sends_less p q implies (x ∷ xs) = omega (arith, sends_less p q implies xs, by (p x.to x.body) refl)
  where
    by : (b : Bool) → p x.to x.body ≡ b → one_if b ≤ one_if (q x.to x.body)
    by true is = omega (arith, ap one_if (implies x.to x.body is))
    by false is = omega arith

-- the wish for an abort of the transaction
abbrev pub wish_back_of : TxId → Body → Bool
wish_back_of tx (Client (TcRollbackReq other)) = same_tx other tx
wish_back_of tx _ = false

abbrev pub is_wish_back_to : TxId → Place → Body → Bool
is_wish_back_to tx to body = is_tc to.block && wish_back_of tx body

module _ (tx : TxId) where
  reply_told : (to : Place) (body : Body) → is_reply tx to body ≡ true → is_told tx to body ≡ true
  reply_told to body is = told body (last_two (to.node == 0) (is_api to.block) is)
    where
      last_two : (a b : Bool) {c : Bool} → (a && (b && c)) ≡ true → c ≡ true
      last_two true true e = e
      last_two true false e = cc
      last_two false b e = cc

      told : (b : Body) → answer_of tx b ≡ true → told_of tx b ≡ true
      told (Client (TcKeyConf other answer)) e = e
      told _ e = cc

  back_told : (to : Place) (body : Body) → is_back tx to body ≡ true → is_told tx to body ≡ true
  back_told to (Client (TcRollbackRep other cause)) is = is
  back_told to _ is = cc

  -- where nothing is told of it, it isn't answered, nor is its abort reported
  pub none_told : (xs : List Outgoing) → sends_of (is_told tx) xs ≡ 0
      → (sends_of (is_reply tx) xs ≡ 0) × (sends_of (is_back tx) xs ≡ 0)
  none_told xs none = (
    omega (arith, none, sends_less (is_reply tx) (is_told tx) reply_told xs),
    omega (arith, none, sends_less (is_back tx) (is_told tx) back_told xs),
  )

  push_none : (body : Body) → wish_back_of tx body ≡ false → key_of_tx tx body ≡ false → push_of tx body ≡ false
  push_none (Client (TcKeyReq other op)) wish key = key
  push_none (Client (TcRollbackReq other)) wish key = wish
  push_none _ wish key = refl

  abbrev pub IsFirmNow : Option Transaction → Type 0
  IsFirmNow None = Unit {0}
  IsFirmNow (Some t) = is_firm t.phase t.asked ≡ true

  -- Of so many answers and reports of an abort: there is neither; or an answer, and it is firm; or a report, and it is
  -- gone.
  abbrev pub IsOneOfThree : ℕ → ℕ → TcState → Type 0
  IsOneOfThree a r s =
      ((a ≡ 0) × (r ≡ 0)) ⊎ (((1 ≤ a) × (r ≡ 0)) × (IsFirmNow (of_live tx s.live) × (tx.seq < s.next_seq)))
      ⊎ ((a ≡ 0) × ((of_live tx s.live ≡ None) × (tx.seq < s.next_seq)))

  -- what is unanswered and was answered came, or was unanswered before
  pub record HasTold (asked keys a r : ℕ) (s : TcState) : Type 0 where
    pub fair : tally (is_asked tx) s.live + a ≤ asked + keys
    pub three : IsOneOfThree a r s

  module _ (s : TcState) (body : Body) (sound : IsSound tx s) (wish : wish_back_of tx body ≡ false)
      (asked keys a r : ℕ) (once : asked + (keys + one_if (key_of_tx tx body)) ≤ 1)
      (has : HasTold asked keys a r s) where
    AfterStep : Step TcState → Type 0
    AfterStep step = IsOneOfThree (sends_of (is_reply tx) step.effects.sends + a)
        (sends_of (is_back tx) step.effects.sends + r) step.state

    aside_next : (step : Step TcState) → of_live tx step.state.live ≡ of_live tx s.live
        → sends_of (is_told tx) step.effects.sends ≡ 0 → s.next_seq ≤ step.state.next_seq → IsOneOfThree a r s
        → AfterStep step
    unfolding AfterStep
    aside_next step same none more was = by (none_told step.effects.sends none) was
      where
        by : (sends_of (is_reply tx) step.effects.sends ≡ 0) × (sends_of (is_back tx) step.effects.sends ≡ 0)
            → IsOneOfThree a r s → AfterStep step
        by n (inl q) = inl (omega (arith, n.0, q.0), omega (arith, n.1, q.1))
        by n (inr (inl q)) =
            inr (inl (
              (omega (arith, n.0, q.0.0), omega (arith, n.1, q.0.1)),
              (subst IsFirmNow (sym same) q.1.0, omega (arith, q.1.1, more)),
            ))
        by n (inr (inr q)) = inr (inr (omega (arith, n.0, q.0), (same ∙ q.1.0, omega (arith, q.1.1, more))))

    begins_next : (step : Step TcState) → tx.seq ≡ s.next_seq → sends_of (is_told tx) step.effects.sends ≡ 0
        → IsOneOfThree a r s → AfterStep step
    unfolding AfterStep
    begins_next step number none was = by (none_told step.effects.sends none) was
      where
        by : (sends_of (is_reply tx) step.effects.sends ≡ 0) × (sends_of (is_back tx) step.effects.sends ≡ 0)
            → IsOneOfThree a r s → AfterStep step
        by n (inl q) = inl (omega (arith, n.0, q.0), omega (arith, n.1, q.1))
        by n (inr (inl q)) = absurd (omega (arith, q.1.1, number))
        by n (inr (inr q)) = absurd (omega (arith, q.1.1, number))

    module _ (step : Step TcState) (t : Transaction) (same : tx_in body ≡ tx) (was : of_live tx s.live ≡ Some t)
        (sends : step.effects.sends ≡ (turn_row s body t).step.effects.sends)
        (left : of_live tx step.state.live ≡ left_of_turn (turn_row s body t))
        (more : s.next_seq ≤ step.state.next_seq) where
      early : tx.seq < step.state.next_seq
      early = omega (arith, live_early tx s t was sound.own, more)

      left_firm : (turn : Turn) → (turn.over ≡ false → is_firm turn.step.state.phase turn.step.state.asked ≡ true)
          → IsFirmNow (left_of_turn turn)
      left_firm turn firm = by turn.over refl
        where
          by : (b : Bool) → turn.over ≡ b → IsFirmNow (if b then None else Some turn.step.state)
          by true over = tt
          by false over = firm over

      -- its first answer, or the report of its abort
      first_next : (a ≡ 0) × (r ≡ 0) → TurnTells tx (turn_row s body t) → AfterStep step
      unfolding AfterStep
      first_next none (inl n) =
          inl (
            omega (arith, none.0, ap (sends_of (is_reply tx)) sends, n.0),
            omega (arith, none.1, ap (sends_of (is_back tx)) sends, n.1),
          )
      first_next none (inr (inl q)) = by (sends_of (is_reply tx) step.effects.sends) refl
        where
          quiet : sends_of (is_back tx) step.effects.sends + r ≡ 0
          quiet = omega (arith, none.1, ap (sends_of (is_back tx)) sends, q.0)

          by : (n : ℕ) → sends_of (is_reply tx) step.effects.sends ≡ n → AfterStep step
          by zero is = inl (omega (arith, none.0, is), quiet)
          by (suc n) is = inr (inl (
            (omega (arith, is), quiet),
            (subst IsFirmNow (sym left) (left_firm (turn_row s body t) (λ over. q.1.firm)), early),
          ))
      first_next none (inr (inr q)) = inr (inr (
        omega (arith, none.0, ap (sends_of (is_reply tx)) sends, q.0),
        (left ∙ ap (λ b. if b then None else Some (turn_row s body t).step.state) q.1, early),
      ))

      -- once it was answered
      firm_next : (1 ≤ a) × (r ≡ 0) → IsFirmNow (of_live tx s.live) → AfterStep step
      unfolding AfterStep
      firm_next some firm = by (key_of_tx tx body) refl
        where
          by : (b : Bool) → key_of_tx tx body ≡ b → AfterStep step
          by true key = absurd (omega (arith, some.0, has.fair, once, ap one_if key))
          by false key =
              let stays = firm_turn s tx body t same
              (not_push tx body (push_none body wish key) (ap (λ v. same_tx v tx) same ∙ same_tx-self tx))
              (subst IsFirmNow was firm) in
              let quiet = none_of is_no_abort (is_back tx) (no_back_firm tx)
              (turn_row s body t).step.effects.sends stays.sends in
              inr (inl (
                (omega (arith, some.0), omega (arith, some.1, ap (sends_of (is_back tx)) sends, quiet)),
                (subst IsFirmNow (sym left) (left_firm (turn_row s body t) (λ over. stays.firm)), early),
              ))

      takes_next : IsOneOfThree a r s → AfterStep step
      takes_next (inl none) = first_next none (turn_tells s tx body t same)
      takes_next (inr (inl q)) = firm_next q.0 q.1.0
      takes_next (inr (inr q)) = absurd (let both : Some t ≡ None = sym was ∙ q.1.0 in cc)

    goes_next : (step : Step TcState) → TcGoes tx s body step → AfterStep step
    goes_next step (aside same none more absent) = aside_next step same none more has.three
    goes_next step (begins number now none more) = begins_next step number none has.three
    goes_next step (takes t same was sends left more) = takes_next step t same was sends left more has.three

    tc_next : HasTold asked (keys + one_if (key_of_tx tx body))
        (sends_of (is_reply tx) (tc_table s body).effects.sends + a)
        (sends_of (is_back tx) (tc_table s body).effects.sends + r) (tc_table s body).state
    unfolding AfterStep
    tc_next = record {
      fair = omega (arith, has.fair, tc_fair tx s body);
      three =
          goes_next (tc_table s body) (tc_goes tx s body sound);
    }

  more_keys : (asked keys k a r a_more r_more : ℕ) (s : TcState) → a_more ≡ 0 → r_more ≡ 0 → HasTold asked keys a r s
      → HasTold asked (keys + k) (a_more + a) (r_more + r) s
  more_keys asked keys k a r a_more r_more s p q has =
      let m : a_more + a ≡ a = omega (arith, p) in
      let n : r_more + r ≡ r = omega (arith, q) in
      record {
        fair = omega (arith, has.fair, p);
        three = subst (λ i. IsOneOfThree i (r_more + r) s) (sym m) (subst (λ i. IsOneOfThree a i s) (sym n) has.three);
      }

  pub host_tells : (g : Host) (x : Signal) → IsSound tx (tc_of g) → is_wish_back_to tx x.to x.body ≡ false
      → (asked keys a r : ℕ) → asked + (keys + one_if (is_key tx x.to x.body)) ≤ 1
      → HasTold asked keys a r (tc_of g)
      → HasTold asked (keys + one_if (is_key tx x.to x.body)) (sends_of (is_reply tx) (row g x).effects.sends + a)
      (sends_of (is_back tx) (row g x).effects.sends + r) (tc_of (row g x).state)
  host_tells g x sound wish asked keys a r once has =
      tc_host (λ (step : Step TcState). HasTold asked (keys + one_if (is_key tx x.to x.body))
      (sends_of (is_reply tx) step.effects.sends + a) (sends_of (is_back tx) step.effects.sends + r) step.state) g x
      (λ runs at. subst (λ of. HasTold asked (keys + one_if (is_tc of && key_of_tx tx x.body))
      (sends_of (is_reply tx) (tc_row (tc_of g) x).effects.sends + a)
      (sends_of (is_back tx) (tc_row (tc_of g) x).effects.sends + r) (tc_row (tc_of g) x).state) (sym at)
      (tc_next (tc_of g) x.body sound (ap (λ of. is_tc of && wish_back_of tx x.body) (sym at) ∙ wish) asked keys a r
      (subst (λ of. asked + (keys + one_if (is_tc of && key_of_tx tx x.body)) ≤ 1) at once) has))
      (λ effects none off. at_rest effects.sends (none_told effects.sends (none (is_told tx) (told_tc tx))))
    where
      at_rest : (sends : List Outgoing) → (sends_of (is_reply tx) sends ≡ 0) × (sends_of (is_back tx) sends ≡ 0)
          → HasTold asked (keys + one_if (is_key tx x.to x.body)) (sends_of (is_reply tx) sends + a)
          (sends_of (is_back tx) sends + r) (tc_of g)
      at_rest sends none = more_keys asked keys (one_if (is_key tx x.to x.body)) a r _ _ (tc_of g) none.0 none.1 has
