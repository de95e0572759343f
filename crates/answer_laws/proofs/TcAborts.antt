-- Turn by turn, what a transaction that aborts waits for.
use Rattle.std.proofs.Common.{◌≡◌, ℕ, ◌+◌, ◌-◌, ◌≤◌, ◌<◌, List, [], ◌∷◌, length, Bool, true, false, refl, ap, sym}
use Rattle.std.proofs.Common.{◌∙◌, subst, arith}
use Rattle.std.proofs.lemmas.List.{length-append}
use Rattle.std.specs.Prelude.{◌==◌, ◌&&◌}
use Rattle.std.specs.List.{flat_map}
use Rattle.std.proofs.lemmas.Bool.{eqb-true, false≢true}
use Rattle.run_theory.proofs.Pasts.{each_append}
use Rattle.run_theory.specs.Lists.{Each}
use Rattle.sig_core.specs.declared.member.Member.{Member}
use Rattle.sig_core.specs.declared.member.TxId.{TxId}
use Rattle.sig_core.specs.declared.outcome.AbortCause.{AbortCause}
use Rattle.sig_core.specs.declared.outs.Outgoing.{Outgoing}
use Rattle.sig_core.specs.declared.place.Place.{Place}
use Rattle.sig_core.specs.declared.signal.Body.{Body}
use Rattle.sig_core.specs.declared.signal.Body.TheVariants.{Host, Chain}
use Rattle.sig_core.specs.declared.signal.chain.ChainSignal.TheVariants.{Abort, Aborted}
use Rattle.sig_core.specs.declared.signal.host.HostSignal.TheVariants.{Continue}
use Rattle.sig_core.specs.declared.signal.host.Work.TheVariants as work
use Rattle.frag_map.specs.Layout.{Layout, chain_of}
use Rattle.sig_core.specs.Op.{key_of}
use Rattle.sig_core.specs.Same.{same_tx}
use Rattle.tc_block.specs.declared.sends.TheConstants.{SENDS}
use Rattle.tc_block.specs.declared.phase.Asked.{Asked}
use Rattle.tc_block.specs.declared.phase.Phase.{Phase}
use Rattle.tc_block.specs.declared.phase.Phase.TheVariants.{Open, Verifying, Committing, Completing, Aborting}
use Rattle.tc_block.specs.declared.touched.Touched.{Touched}
use Rattle.tc_block.specs.declared.transaction.Transaction.{Transaction}
use Rattle.tc_block.specs.Abort as abort
use Rattle.tc_block.specs.Part.{part_effects}
use Rattle.tc_block.specs.Sends.{aborts_of, entering, front_sends, key_sends, phase_sends}
use Rattle.tc_block.specs.State.{TcState}
use Rattle.tc_block.specs.Turn.{Turn}
use Rattle.row_records.proofs.KeyLemmas.{same as same_key-is}
use Rattle.sig_core.proofs.Keys.{same_tx-self}
use Rattle.host_laws.proofs.hosts.Sums.{one_most}
use Rattle.host_laws.proofs.rows.Operations.{is_good, is_lqh, is_node, left_of, right_of, true_and}
use Rattle.run_theory.specs.Counts.{one_if}
use Rattle.host_laws.proofs.hosts.PartCounts.{IsPart, all_counted, is_cont, part_is}
use Rattle.tc_block.proofs.EachTurn.{IsAnswered, IsMissed}
use Rattle.host_laws.proofs.coordinator.Turns.{abort_ends, aborted, aborts, all_completed, answers, asked_to, asks}
use Rattle.host_laws.proofs.coordinator.Turns.{commits}
use Rattle.host_laws.proofs.coordinator.Turns.{committed, completed, completes, decides, ends, entered_phase, gives_up}
use Rattle.host_laws.proofs.coordinator.Turns.{GivesUp}
use Rattle.host_laws.proofs.coordinator.Turns.{goes_on, is_row_answer, keeps, late, over_not, refused, TurnMove}
use Rattle.host_laws.proofs.api.Wishes.{is_tc, sends_of}
use Rattle.tc_block.specs.Phases.{is_aborting}

-- an abort of the transaction on its way to a replica, or its answer
abbrev pub is_abort : ℕ → TxId → Place → Body → Bool
is_abort n tx to (Chain (Abort other key)) = (is_lqh to.block && is_node n to.node) && same_tx other tx
is_abort n tx to (Chain (Aborted other key)) = (is_tc to.block && (to.node == tx.tc)) && same_tx other tx
is_abort n tx to _ = false

abbrev pub aborted_body : TxId → Body → Bool
aborted_body tx (Chain (Aborted other key)) = same_tx other tx
aborted_body tx _ = false

module _ (n : ℕ) (tx : TxId) (layout : Layout) (good : (key : List ℕ) → is_good n (chain_of layout key) ≡ true) where
  -- to each replica an abort goes
  replicas_pass : (key : List ℕ) (chain : List Member) → is_good n chain ≡ true
      → (Each (λ (x : Outgoing). is_abort n tx x.to x.body ≡ true) (aborts_of tx key chain))
      × (length (aborts_of tx key chain) ≡ length chain)
  replicas_pass key [] ok = (tt, refl)
  replicas_pass key (m ∷ chain) ok =
      let rest = replicas_pass key chain (right_of (is_node n m.node) (is_good n chain) ok) in (
        (
          true_and (is_node n m.node) (same_tx tx tx) (left_of (is_node n m.node) (is_good n chain) ok)
              (same_tx-self tx),
          rest.0,
        ),
        omega (arith, rest.1),
      )

  all_aborts : (why : AbortCause) (v : Bool) (k : ℕ) (touched : List Touched)
      → (Each (λ (x : Outgoing). is_abort n tx x.to x.body ≡ true)
      (flat_map (key_sends layout tx (Aborting why v k)) touched))
      × (length (flat_map (key_sends layout tx (Aborting why v k)) touched) ≡ abort.replica_count layout touched)
  unfolding key_sends
  all_aborts why v k [] = (tt, refl)
  all_aborts why v k (t ∷ touched) =
      let here = replicas_pass t.key (chain_of layout t.key) (good t.key) in
      let rest = all_aborts why v k touched in (
        each_append (λ (x : Outgoing). is_abort n tx x.to x.body ≡ true) (aborts_of tx t.key (chain_of layout t.key))
            (flat_map (key_sends layout tx (Aborting why v k)) touched) here.0 rest.0,
        omega (
          arith,
          here.1,
          rest.1,
          length-append (aborts_of tx t.key (chain_of layout t.key))
              (flat_map (key_sends layout tx (Aborting why v k)) touched),
        ),
      )

  aborts_part : (node at : ℕ) (why : AbortCause) (v : Bool) (k : ℕ) (touched : List Touched) → node ≡ tx.tc
      → IsPart (is_abort n tx) tx (abort.replica_count layout touched) at
      (part_effects node tx (phase_sends layout tx (Aborting why v k) touched) at).sends
  unfolding phase_sends front_sends
  aborts_part node at why v k touched home =
      let all = all_aborts why v k touched in
      subst (λ l. IsPart (is_abort n tx) tx l at
      (part_effects node tx (flat_map (key_sends layout tx (Aborting why v k)) touched) at).sends) all.1
      (part_is (is_abort n tx) node tx (flat_map (key_sends layout tx (Aborting why v k)) touched) at home all.0)

  late_count : (key : List ℕ)
      → sends_of (is_abort n tx) (aborts_of tx key (chain_of layout key)) ≡ length (chain_of layout key)
  late_count key =
      let all = replicas_pass key (chain_of layout key) (good key) in
      all_counted (λ (x : Outgoing). is_abort n tx x.to x.body) (aborts_of tx key (chain_of layout key)) all.0 ∙ all.1

  asked_full : (t : Transaction) (key : List ℕ) (a : Asked) → IsAnswered t key a
      → abort.asked_count layout t.asked ≡ length (chain_of layout key)
  asked_full t key a q =
      ap (abort.asked_count layout) q.is ∙ ap (λ k. length (chain_of layout k)) (same_key-is (key_of a.op) key q.on)

  -- what a turn to or in an abort makes of what it waits for
  pub data AbortMove (t : Transaction) (body : Body) (u : Transaction) (sends : List Outgoing) (k : ℕ) : Type 0 where
    begins : aborted_body tx body ≡ false → ((at : ℕ) → (to : Place) → is_cont tx at to body ≡ false) → 1 ≤ k
        → k ≡ abort.replica_count layout u.touched + abort.asked_count layout u.asked
        → IsPart (is_abort n tx) tx (abort.replica_count layout u.touched) 0 sends → AbortMove t body u sends k
    waits : (why : AbortCause) (v : Bool) (before : ℕ) → t.phase ≡ Aborting why v before → (1 ≤ before → 1 ≤ k)
        → ((at : ℕ) (to : Place) → at < SENDS → is_cont tx at to body ≡ false) → u.touched ≡ t.touched
        → k + one_if (aborted_body tx body) + abort.asked_count layout t.asked
        ≤ before + abort.asked_count layout u.asked + sends_of (is_abort n tx) sends
        → AbortMove t body u sends k
    continues : (why : AbortCause) (v : Bool) (at : ℕ) → t.phase ≡ Aborting why v k
        → body ≡ Host (Continue (work.Transaction tx) at) → at < SENDS → u ≡ t
        → IsPart (is_abort n tx) tx (abort.replica_count layout t.touched) at sends → AbortMove t body u sends k

  module _ (s : TcState) (home : s.node ≡ tx.tc) (view_is : s.layout ≡ layout) (t : Transaction) (body : Body)
      (turn : Turn) where
    other_phase : {A : Type 0} (other : Turn) (phase : Phase) (why : AbortCause) (v : Bool) (k : ℕ) → turn ≡ other
        → other.step.state.phase ≡ phase → is_aborting phase ≡ false → turn.step.state.phase ≡ Aborting why v k → A
    other_phase other phase why v k is p off e =
        absurd (false≢true (sym off
        ∙ (ap is_aborting (sym p) ∙ (ap (λ (x : Turn). is_aborting x.step.state.phase) (sym is) ∙ ap is_aborting e))))

    missed_cont : (b : Body) → IsMissed t b → (at : ℕ) (to : Place) → at < SENDS → is_cont tx at to b ≡ false
    missed_cont (Host (Continue (work.Transaction other) a)) missed at to low =
        by (a == at) refl (is_tc to.block && (to.node == tx.tc)) (same_tx other tx)
      where
        by : (x : Bool) → (a == at) ≡ x → (y z : Bool) → (y && (z && x)) ≡ false
        by true e y z = absurd (omega (arith, missed, low, eqb-true a at e))
        by false e true true = refl
        by false e true false = refl
        by false e false z = refl
    missed_cont _ missed at to low = refl

    missed_abort : (b : Body) → IsMissed t b → is_aborting t.phase ≡ true → aborted_body tx b ≡ false
    missed_abort (Chain (Aborted other key)) missed e = absurd (false≢true (sym missed ∙ e))
    missed_abort _ missed e = refl

    answer_cont : (b : Body) → is_row_answer b ≡ true → (at : ℕ) (to : Place) → is_cont tx at to b ≡ false
    answer_cont (Host (Continue (work.Transaction other) a)) e at to = absurd (false≢true e)
    answer_cont _ e at to = refl

    answer_abort : (b : Body) → is_row_answer b ≡ true → aborted_body tx b ≡ false
    answer_abort (Chain (Aborted other key)) e = absurd (false≢true e)
    answer_abort _ e = refl

    given_body : (w : Transaction) (b : Body) → b ≡ body → GivesUp t body w
        → (aborted_body tx b ≡ false) × ((at : ℕ) → (to : Place) → is_cont tx at to b ≡ false)
    given_body w b same (asked_to p other about is) =
        (ap (aborted_body tx) (same ∙ about), λ at to. ap (is_cont tx at to) (same ∙ about))
    given_body w b same (refused other key why asked p about on is) =
        (ap (aborted_body tx) (same ∙ about), λ at to. ap (is_cont tx at to) (same ∙ about))

    the_k : (why other : AbortCause) (v w : Bool) (a b : ℕ) → Aborting why v a ≡ Aborting other w b → a ≡ b
    the_k why other v w a b e = cc

    entered : (w : Transaction) (why : AbortCause) (v : Bool) (k m : ℕ) (u : Transaction) (sends : List Outgoing)
        → GivesUp t body w → 1 ≤ m → m ≡ abort.aborts_awaited layout w → k ≡ m
        → u ≡ (entering s.node layout tx w (Aborting why v m)).state
        → sends ≡ (entering s.node layout tx w (Aborting why v m)).effects.sends → AbortMove t body u sends k
    unfolding entering
    entered w why v k m u sends gives some m_is k_is u_is sends_is =
        let g = given_body w body refl gives in
        begins g.0 g.1 (omega (arith, some, k_is))
        (k_is ∙ (m_is
        ∙ ap (λ (x : Transaction). abort.replica_count layout x.touched + abort.asked_count layout x.asked) (sym u_is)))
        (subst (λ (x : Transaction). IsPart (is_abort n tx) tx (abort.replica_count layout x.touched) 0 sends)
        (sym u_is)
        (subst (IsPart (is_abort n tx) tx (abort.replica_count layout w.touched) 0) (sym sends_is)
        (aborts_part s.node 0 why v m w.touched home)))

    pub abort_move : TurnMove s tx t body turn → turn.over ≡ false → (why : AbortCause) (v : Bool) (k : ℕ)
        → turn.step.state.phase ≡ Aborting why v k
        → AbortMove t body turn.step.state turn.step.effects.sends k
    abort_move move over why v k is_k = go move
      where
        phase_of : (other : Turn) → turn ≡ other → other.step.state.phase ≡ Aborting why v k
        phase_of other is = sym (ap (λ (x : Turn). x.step.state.phase) is) ∙ is_k

        go : TurnMove s tx t body turn → AbortMove t body turn.step.state turn.step.effects.sends k
        go (keeps sends is kind missed) =
            subst (λ (x : Turn). AbortMove t body x.step.state x.step.effects.sends k) (sym is)
            (waits why v k (phase_of _ is) (λ some. some) (missed_cont body missed) refl
            (omega (arith, ap one_if (missed_abort body missed (ap is_aborting (phase_of _ is))))))
        go (goes_on at about low is) =
            subst (λ (x : Turn). AbortMove t body x.step.state x.step.effects.sends k) (sym is)
            (continues why v at (phase_of _ is) about low refl
            (subst (λ p. IsPart (is_abort n tx) tx (abort.replica_count layout t.touched) at
            (part_effects s.node tx (phase_sends s.layout tx p t.touched) at).sends) (sym (phase_of _ is))
            (subst (λ w. IsPart (is_abort n tx) tx (abort.replica_count layout t.touched) at
            (part_effects s.node tx (phase_sends w tx (Aborting why v k) t.touched) at).sends) (sym view_is)
            (aborts_part s.node at why v k t.touched home))))
        go (asks op about p q fit is) = other_phase _ Open why v k is p refl is_k
        go (answers key answer asked about p q is) = other_phase _ Open why v k is p refl is_k
        go (late key asked about p q is) =
            subst (λ (x : Turn). AbortMove t body x.step.state x.step.effects.sends k) (sym is)
            (waits why v k (phase_of _ is) (λ some. some) (λ at to low. answer_cont body about at to) refl
            (omega (
              arith,
              ap one_if (answer_abort body about),
              asked_full t key asked q,
              late_count key,
              ap (λ x. sends_of (is_abort n tx) (aborts_of tx key (chain_of x key))) view_is,
            )))
        go (decides about p q is) = other_phase _ Verifying why v k is refl refl is_k
        go (aborts w because gives some is) =
            entered w because (abort.is_verifying w.phase) k (abort.aborts_awaited layout w) turn.step.state
            turn.step.effects.sends gives (subst (λ x. 1 ≤ abort.aborts_awaited x w) view_is some) refl
            (sym (the_k because why (abort.is_verifying w.phase) v _ k
            (sym (entered_phase s.node s.layout tx w _) ∙ phase_of _ is)) ∙ ap (λ x. abort.aborts_awaited x w) view_is)
            (ap (λ (x : Turn). x.step.state) is
            ∙ ap (λ x. (entering s.node x tx w
            (Aborting because (abort.is_verifying w.phase) (abort.aborts_awaited x w))).state) view_is)
            (ap (λ (x : Turn). x.step.effects.sends) is
            ∙ ap (λ x. (entering s.node x tx w
            (Aborting because (abort.is_verifying w.phase) (abort.aborts_awaited x w))).effects.sends) view_is)
        go (gives_up w because gives is none) = over_not turn _ is refl over
        go (aborted key because w before about p low is) =
            subst (λ (x : Turn). AbortMove t body x.step.state x.step.effects.sends k) (sym is)
            (waits because w before p (λ some. omega (arith, low, one_less))
            (λ at to lower. ap (is_cont tx at to) about) refl
            (omega (arith, one_less, low, one_most (aborted_body tx body))))
          where
            one_less : before - 1 ≡ k
            one_less = the_k because why w v (before - 1) k (phase_of _ is)
        go (abort_ends key because w before about p low is) = over_not turn _ is refl over
        go (commits epoch about p is) =
            other_phase _ (Committing epoch (length t.touched)) why v k is (entered_phase s.node s.layout tx t _) refl
            is_k
        go (committed epoch m p is) = other_phase _ (Committing epoch (m - 1)) why v k is refl refl is_k
        go (completes epoch p is) = other_phase _ _ why v k is (entered_phase s.node s.layout tx t _) refl is_k
        go (ends epoch p is) = over_not turn _ is refl over
        go (completed epoch m p is) = other_phase _ (Completing epoch (m - 1)) why v k is refl refl is_k
        go (all_completed epoch m p is) = over_not turn _ is refl over
