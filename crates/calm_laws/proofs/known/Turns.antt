-- A coordinator of a member that began the life sends only signals about known transactions, if what it took is known.
use Rattle.std.proofs.Common.{◌≡◌, ◌≤◌, ℕ, List, take, drop, length, Bool, true, false, refl, sym, ap, ◌∙◌, subst}
use Rattle.std.specs.Prelude.{◌+◌, nat_lt}
use Rattle.std.specs.List.{flat_map}
use Rattle.std.proofs.lemmas.Bool.{false≢true}
use Rattle.run_theory.proofs.EachSent.{each_drop, each_flat, each_mapped, each_take}
use Rattle.run_theory.proofs.Pasts.{each_append}
use Rattle.sig_core.specs.declared.portion.TheConstants.{PORTION}
use Rattle.sig_core.specs.declared.member.TxId.{TxId}
use Rattle.sig_core.specs.declared.outcome.AbortCause.{AbortCause}
use Rattle.sig_core.specs.declared.outs.Outgoing.{Outgoing}
use Rattle.sig_core.specs.declared.signal.Body.{Body}
use Rattle.sig_core.specs.declared.signal.Body.TheVariants.{Host, Client, Chain, Epoch}
use Rattle.sig_core.specs.declared.signal.chain.ChainSignal.TheVariants.{LqhKeyConf, LqhKeyRef, Committed}
use Rattle.sig_core.specs.declared.signal.chain.ChainSignal.TheVariants.{Completed, Aborted}
use Rattle.sig_core.specs.declared.signal.client.ClientSignal.TheVariants.{TcKeyReq, TcCommitReq, TcRollbackReq}
use Rattle.sig_core.specs.declared.signal.client.ClientSignal.TheVariants.{TcWaitReq}
use Rattle.sig_core.specs.declared.signal.epoch.EpochSignal.TheVariants.{DiVerifyConf}
use Rattle.sig_core.specs.declared.signal.host.HostSignal.TheVariants.{Continue}
use Rattle.sig_core.specs.declared.signal.host.Work.TheVariants as work
use Rattle.sig_core.specs.Op.{key_of}
use Rattle.sig_core.specs.Step.{Step}
use Rattle.frag_map.specs.Layout.{Layout, chain_of}
use Rattle.tc_block.specs.Abort.{abort_end, is_verifying}
use Rattle.tc_block.specs.declared.phase.Phase.{Phase}
use Rattle.tc_block.specs.declared.phase.Phase.TheVariants.{Open, Verifying, Committing, Completing, Aborting}
use Rattle.tc_block.specs.declared.touched.Touched.{Touched}
use Rattle.tc_block.specs.declared.transaction.Transaction.{Transaction}
use Rattle.tc_block.specs.Live.{turned_if}
use Rattle.tc_block.specs.Part.{part_effects, rest_if}
use Rattle.tc_block.specs.Sends.{abort_of, aborts_of, complete_if, entering, front_sends, key_sends, phase_sends}
use Rattle.tc_block.specs.Sends.{wait_of}
use Rattle.tc_block.specs.State.{TcState}
use Rattle.tc_block.specs.Tc.{tc_table}
use Rattle.tc_block.specs.Turn.{Turn}
use Rattle.tc_block.proofs.EachTurn.{AbortForms, CommittedForms, TurnForms, rows_of}
use Rattle.tc_block.proofs.TurnRows.{PlacedStep, goes, idles, is_turn, lacks, lost, opens, placed_step, tells}
use Rattle.tc_block.proofs.TurnRows.{turn_by, turn_row, tx_in}
use Rattle.world_core.specs.Start.{Start}
use Rattle.calm_laws.specs.Known.{IsOfFirst}
use Rattle.calm_laws.proofs.known.Signals.{AreKnown, IsKnown}

-- a coordinator is of a member that began the life
pub record IsFirst (start : Start) (s : TcState) : Type 0 where
  pub some : 1 ≤ s.node
  pub low : s.node ≤ start.shape.nodes
  pub first : s.start ≡ 0

module _ (start : Start) where
  -- a turn that sends only such signals
  abbrev IsTurnKnown : Turn → Type 0
  IsTurnKnown turn = AreKnown start turn.step.effects.sends

  module _ (node : ℕ) (layout : Layout) (tx : TxId) (own : IsOfFirst start tx) where
    rest_known : (at : ℕ) (b : Bool) → AreKnown start (rest_if node tx at b)
    rest_known at true = (record { txs = (own, tt); plain = refl }, tt)
    rest_known at false = tt

    part_known : (sends : List Outgoing) (at : ℕ) → AreKnown start sends
        → AreKnown start (part_effects node tx sends at).sends
    unfolding part_effects
    part_known sends at all =
        let P : Outgoing → Type 0 = λ o. IsKnown start o.body in
        each_append P (take PORTION (drop at sends)) (rest_if node tx at (nat_lt (at + PORTION) (length sends)))
        (each_take P PORTION (drop at sends) (each_drop P at sends all))
        (rest_known at (nat_lt (at + PORTION) (length sends)))

    front_known : (phase : Phase) → AreKnown start (front_sends tx phase)
    unfolding front_sends
    front_known Open = tt
    front_known Verifying = tt
    front_known (Committing epoch awaited) = tt
    front_known (Completing epoch awaited) = (record { txs = (own, tt); plain = refl }, tt)
    front_known (Aborting why verifying awaited) = tt

    complete_known : (t : Touched) (b : Bool) → AreKnown start (complete_if tx t b)
    complete_known t true = (record { txs = (own, tt); plain = refl }, tt)
    complete_known t false = tt

    aborts_known : (key : List ℕ) → AreKnown start (aborts_of tx key (chain_of layout key))
    aborts_known key =
        each_mapped (λ (o : Outgoing). IsKnown start o.body) (abort_of tx key) (chain_of layout key)
        (λ r. record { txs = (own, tt); plain = refl })

    key_known : (phase : Phase) (t : Touched) → AreKnown start (key_sends layout tx phase t)
    unfolding key_sends
    key_known Open t = tt
    key_known Verifying t = tt
    key_known (Committing epoch awaited) t = (record { txs = (own, tt); plain = refl }, tt)
    key_known (Completing epoch awaited) t = complete_known t t.written
    key_known (Aborting why verifying awaited) t = aborts_known t.key

    phase_known : (phase : Phase) (touched : List Touched) → AreKnown start (phase_sends layout tx phase touched)
    unfolding phase_sends
    phase_known phase touched =
        let P : Outgoing → Type 0 = λ o. IsKnown start o.body in
        each_append P (front_sends tx phase) (flat_map (key_sends layout tx phase) touched) (front_known phase)
        (each_flat P (key_sends layout tx phase) touched (key_known phase))

    enters : (t : Transaction) (phase : Phase) → AreKnown start (entering node layout tx t phase).effects.sends
    unfolding entering
    enters t phase = part_known (phase_sends layout tx phase t.touched) 0 (phase_known phase t.touched)

    committed_known : (t : Transaction) (epoch : ℕ) → CommittedForms node layout tx t epoch IsTurnKnown
    committed_known t epoch = record {
      enters = λ some. enters t _;
      ends = λ none. (
        record { txs = (own, tt); plain = refl },
        (record { txs = (own, tt); plain = refl }, tt),
      );
    }

    abort_end_known : (why : AbortCause) (b : Bool) → AreKnown start (abort_end node tx why b)
    abort_end_known why true = (
      record { txs = (own, tt); plain = refl },
      (record { txs = (own, tt); plain = refl }, tt),
    )
    abort_end_known why false = (record { txs = (own, tt); plain = refl }, tt)

    abort_known : (t : Transaction) (why : AbortCause) → AbortForms node layout tx t why IsTurnKnown
    abort_known t why = record {
      enters = λ some. enters t _;
      ends = λ none. abort_end_known why (is_verifying t.phase);
    }

    turn_known : (t : Transaction) (body : Body) → TurnForms node layout tx t body IsTurnKnown
    turn_known t body = record {
      stays = tt;
      goes_on = λ at. part_known (phase_sends layout tx t.phase t.touched) at (phase_known t.phase t.touched);
      operates = λ op is can. (record { txs = (own, tt); plain = refl }, tt);
      answers = λ key answer asked is on at. (record { txs = (own, tt); plain = refl }, tt);
      late = λ key asked why verifying awaited on at. aborts_known key;
      waits = λ asked on. each_mapped (λ (o : Outgoing). IsKnown start o.body) (wait_of tx (key_of asked.op))
          asked.chain (λ r. record { txs = (own, tt); plain = refl });
      decides = λ is ready. (record { txs = (own, tt); plain = refl }, tt);
      commits = λ epoch is at some. enters t _;
      commits_none = λ epoch is at. committed_known t epoch;
      committed = λ epoch awaited at more. tt;
      committed_all = λ epoch awaited at. committed_known t epoch;
      completed = λ epoch awaited at more. tt;
      completed_all = λ epoch awaited at last. (record { txs = (own, tt); plain = refl }, tt);
      rolls_back = λ is undecided unaborted. abort_known t _;
      refuses = λ key why asked is on at. abort_known _ why;
      aborted = λ why verifying awaited at more. tt;
      aborted_all = λ why verifying awaited at last. abort_end_known why verifying;
    }

  -- the transaction that takes a turn is that of the signal
  turn_tx : (body : Body) → is_turn body ≡ true → IsKnown start body → IsOfFirst start (tx_in body)
  turn_tx (Host (Continue (work.Transaction tx) at)) turns own = own.txs.0
  turn_tx (Client (TcKeyReq tx op)) turns own = own.txs.0
  turn_tx (Client (TcCommitReq tx)) turns own = own.txs.0
  turn_tx (Client (TcRollbackReq tx)) turns own = own.txs.0
  turn_tx (Client (TcWaitReq tx)) turns own = own.txs.0
  turn_tx (Chain (LqhKeyConf tx key answer)) turns own = own.txs.0
  turn_tx (Chain (LqhKeyRef tx key why)) turns own = own.txs.0
  turn_tx (Chain (Committed tx key)) turns own = own.txs.0
  turn_tx (Chain (Completed tx key)) turns own = own.txs.0
  turn_tx (Chain (Aborted tx key)) turns own = own.txs.0
  turn_tx (Epoch (DiVerifyConf tx epoch)) turns own = own.txs.0
  turn_tx _ turns own = absurd (false≢true turns)

  -- whatever the coordinator takes
  pub tc_known : (s : TcState) (body : Body) → IsFirst start s → IsKnown start body
      → AreKnown start (tc_table s body).effects.sends
  tc_known s body home own = by (tc_table s body) (placed_step s body)
    where
      over : (at : ℕ) (turn : Turn) → IsTurnKnown turn → (b : Bool)
          → AreKnown start (turned_if s at turn b).effects.sends
      over at turn known true = known
      over at turn known false = known

      by : (step : Step TcState) → PlacedStep s body step → AreKnown start step.effects.sends
      by step (idles off is) = subst (λ (t : Step TcState). AreKnown start t.effects.sends) (sym is) tt
      by step (lacks name about is) =
          subst (λ (t : Step TcState). AreKnown start t.effects.sends) (sym is)
          (record { txs = tt; plain = refl }, tt)
      by step (opens name about room is) =
          subst (λ (t : Step TcState). AreKnown start t.effects.sends) (sym is)
          (record { txs = (record { some = home.some; low = home.low; first = home.first }, tt); plain = refl }, tt)
      by step (tells tx ahead about is) =
          subst (λ (t : Step TcState). AreKnown start t.effects.sends) (sym is)
          (record { txs = (subst (IsKnown start) about own).txs; plain = refl }, tt)
      by step (lost turns none is) = subst (λ (t : Step TcState). AreKnown start t.effects.sends) (sym is) tt
      by step (goes turns t at split is) =
          let known = turn_tx body turns own in
          subst (λ (t : Step TcState). AreKnown start t.effects.sends) (sym is)
          (over at (turn_row s body t)
          (turn_by s t IsTurnKnown body
          (rows_of s.node s.layout (tx_in body) t body IsTurnKnown
          (turn_known s.node s.layout (tx_in body) known t body))
          (λ off. absurd (false≢true (sym off ∙ turns))))
          (turn_row s body t).over)

-- a coordinator stays that of its member
pub tc_start : (s : TcState) (body : Body) → (tc_table s body).state.start ≡ s.start
tc_start s body = by (tc_table s body) (placed_step s body)
  where
    over : (at : ℕ) (turn : Turn) (b : Bool) → (turned_if s at turn b).state.start ≡ s.start
    over at turn true = refl
    over at turn false = refl

    by : (step : Step TcState) → PlacedStep s body step → step.state.start ≡ s.start
    by step (idles off is) = ap (λ (t : Step TcState). t.state.start) is
    by step (lacks name about is) = ap (λ (t : Step TcState). t.state.start) is
    by step (opens name about room is) = ap (λ (t : Step TcState). t.state.start) is
    by step (tells tx ahead about is) = ap (λ (t : Step TcState). t.state.start) is
    by step (lost turns none is) = ap (λ (t : Step TcState). t.state.start) is
    by step (goes turns t at split is) =
        ap (λ (t : Step TcState). t.state.start) is ∙ over at (turn_row s body t) (turn_row s body t).over
