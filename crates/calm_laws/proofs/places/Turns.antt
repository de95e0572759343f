-- What a coordinator sends is set where the replicas of keys are on nodes.
use Rattle.std.proofs.Common.{◌≡◌, ◌≤◌, ℕ, List, ◌∷◌, take, drop, length, Bool, true, false, refl, sym, ◌∙◌, subst}
use Rattle.std.specs.Prelude.{◌+◌, nat_lt, Some}
use Rattle.std.specs.List.{flat_map}
use Rattle.std.proofs.lemmas.Bool.{false≢true}
use Rattle.run_theory.specs.Lists.{Each}
use Rattle.run_theory.proofs.EachSent.{each_drop, each_flat, each_take}
use Rattle.run_theory.proofs.Pasts.{each_after, each_append}
use Rattle.sig_core.specs.declared.portion.TheConstants.{PORTION}
use Rattle.sig_core.specs.declared.member.TxId.{TxId}
use Rattle.sig_core.specs.declared.outcome.AbortCause.{AbortCause}
use Rattle.sig_core.specs.declared.outs.Outgoing.{Outgoing}
use Rattle.sig_core.specs.declared.signal.Body.{Body}
use Rattle.sig_core.specs.Op.{key_of}
use Rattle.sig_core.specs.Step.{Step}
use Rattle.frag_map.specs.Layout.{Layout, chain_of, first_layout}
use Rattle.frag_map.specs.Shape.{IsShape}
use Rattle.tc_block.specs.Abort.{abort_end, is_verifying}
use Rattle.tc_block.specs.declared.phase.Asked.{Asked}
use Rattle.tc_block.specs.declared.phase.Phase.{Phase}
use Rattle.tc_block.specs.declared.phase.Phase.TheVariants.{Open, Verifying, Committing, Completing, Aborting}
use Rattle.tc_block.specs.declared.touched.Touched.{Touched}
use Rattle.tc_block.specs.declared.transaction.Transaction.{Transaction}
use Rattle.tc_block.specs.Live.{turned_if}
use Rattle.tc_block.specs.Part.{part_effects, rest_if}
use Rattle.tc_block.specs.Sends.{abort_of, aborts_of, complete_if, entering, front_sends, key_sends, phase_sends}
use Rattle.tc_block.specs.Sends.{wait_of, waits_of}
use Rattle.tc_block.specs.State.{TcState}
use Rattle.tc_block.specs.Tc.{tc_table}
use Rattle.tc_block.specs.Turn.{Turn}
use Rattle.tc_block.proofs.EachTurn.{AbortForms, CommittedForms, TurnForms, rows_of}
use Rattle.tc_block.proofs.LiveKeeps.{AllAre}
use Rattle.tc_block.proofs.LiveSplit.{Split}
use Rattle.tc_block.proofs.TurnRows.{PlacedStep, goes, idles, lacks, lost, opens, placed_step, tells}
use Rattle.tc_block.proofs.TurnRows.{turn_by, turn_row, tx_in}
use Rattle.world_core.specs.Start.{Start}
use Rattle.run_laws.specs.Routes.{IsAskedRouted, IsTransactionRouted, replicas}
use Rattle.calm_laws.proofs.places.Sent.{AreSet, IsOfNode, IsSet, client_set, coordinator_set, each_made, epochs_set}
use Rattle.calm_laws.proofs.places.Sent.{goes_along, replicas_of_nodes, rows_set}

-- a turn that sends only such signals
abbrev IsTurnSet : Turn → Type 0
IsTurnSet turn = AreSet turn.step.effects.sends

abbrev IsOneSet : Outgoing → Type 0
IsOneSet o = IsSet o.to o.body

module _ (node : ℕ) (some : 1 ≤ node) (layout : Layout) (nodes : (key : List ℕ) → Each IsOfNode (chain_of layout key))
    (tx : TxId) where
  rest_set : (at : ℕ) (b : Bool) → AreSet (rest_if node tx at b)
  rest_set at true = (coordinator_set node _ some refl, tt)
  rest_set at false = tt

  part_set : (sends : List Outgoing) (at : ℕ) → AreSet sends → AreSet (part_effects node tx sends at).sends
  unfolding part_effects
  part_set sends at all =
      each_append IsOneSet (take PORTION (drop at sends)) (rest_if node tx at (nat_lt (at + PORTION) (length sends)))
      (each_take IsOneSet PORTION (drop at sends) (each_drop IsOneSet at sends all))
      (rest_set at (nat_lt (at + PORTION) (length sends)))

  front_set : (phase : Phase) → AreSet (front_sends tx phase)
  unfolding front_sends
  front_set Open = tt
  front_set Verifying = tt
  front_set (Committing epoch awaited) = tt
  front_set (Completing epoch awaited) = (client_set _ refl, tt)
  front_set (Aborting why verifying awaited) = tt

  complete_set : (t : Touched) (b : Bool) → AreSet (complete_if tx t b)
  complete_set t true = (goes_along refl, tt)
  complete_set t false = tt

  aborts_set : (key : List ℕ) → AreSet (aborts_of tx key (chain_of layout key))
  aborts_set key =
      each_made IsOfNode IsOneSet (abort_of tx key) (chain_of layout key)
      (λ r of. rows_set r.node (abort_of tx key r).body of refl) (nodes key)

  key_set : (phase : Phase) (t : Touched) → AreSet (key_sends layout tx phase t)
  unfolding key_sends
  key_set Open t = tt
  key_set Verifying t = tt
  key_set (Committing epoch awaited) t = (goes_along refl, tt)
  key_set (Completing epoch awaited) t = complete_set t t.written
  key_set (Aborting why verifying awaited) t = aborts_set t.key

  phase_set : (phase : Phase) (touched : List Touched) → AreSet (phase_sends layout tx phase touched)
  unfolding phase_sends
  phase_set phase touched =
      each_append IsOneSet (front_sends tx phase) (flat_map (key_sends layout tx phase) touched) (front_set phase)
      (each_flat IsOneSet (key_sends layout tx phase) touched (key_set phase))

  enters : (t : Transaction) (phase : Phase) → AreSet (entering node layout tx t phase).effects.sends
  unfolding entering
  enters t phase = part_set (phase_sends layout tx phase t.touched) 0 (phase_set phase t.touched)

  committed_set : (t : Transaction) (epoch : ℕ) → CommittedForms node layout tx t epoch IsTurnSet
  committed_set t epoch = record {
    enters = λ some. enters t _;
    ends = λ none. (client_set _ refl, (epochs_set node _ some refl, tt));
  }

  abort_end_set : (why : AbortCause) (b : Bool) → AreSet (abort_end node tx why b)
  abort_end_set why true = (epochs_set node _ some refl, (client_set _ refl, tt))
  abort_end_set why false = (client_set _ refl, tt)

  abort_set : (t : Transaction) (why : AbortCause) → AbortForms node layout tx t why IsTurnSet
  abort_set t why = record {
    enters = λ some. enters t _;
    ends = λ none. abort_end_set why (is_verifying t.phase);
  }

  -- the replicas that an operation went to are asked what it waits for
  waits_set : (asked : Asked) → Each IsOfNode asked.chain → AreSet (waits_of tx (key_of asked.op) asked.chain)
  waits_set asked all =
      each_made IsOfNode IsOneSet (wait_of tx (key_of asked.op)) asked.chain
      (λ r of. rows_set r.node (wait_of tx (key_of asked.op) r).body of refl) all

  turn_set : (t : Transaction) (body : Body)
      → ((asked : Asked) → t.asked ≡ Some asked → Each IsOfNode asked.chain) → TurnForms node layout tx t body IsTurnSet
  turn_set t body asks = record {
    stays = tt;
    goes_on = λ at. part_set (phase_sends layout tx t.phase t.touched) at (phase_set t.phase t.touched);
    operates = λ op is can. (goes_along refl, tt);
    answers = λ key answer asked is on at. (client_set _ refl, tt);
    late = λ key asked why verifying awaited on at. aborts_set key;
    waits = λ asked on. waits_set asked (asks asked on);
    decides = λ is ready. (epochs_set node _ some refl, tt);
    commits = λ epoch is at some. enters t _;
    commits_none = λ epoch is at. committed_set t epoch;
    committed = λ epoch awaited at more. tt;
    committed_all = λ epoch awaited at. committed_set t epoch;
    completed = λ epoch awaited at more. tt;
    completed_all = λ epoch awaited at last. (epochs_set node _ some refl, tt);
    rolls_back = λ is undecided unaborted. abort_set t _;
    refuses = λ key why asked is on at. abort_set _ why;
    aborted = λ why verifying awaited at more. tt;
    aborted_all = λ why verifying awaited at last. abort_end_set why verifying;
  }

module _ (start : Start) (shape : IsShape start.shape) (s : TcState) (some : 1 ≤ s.node)
    (layout : s.layout ≡ first_layout start.shape) (live : AllAre (λ t. IsTransactionRouted start t) s.live) where
  nodes : (key : List ℕ) → Each IsOfNode (chain_of s.layout key)
  nodes key = subst (λ v. Each IsOfNode (chain_of v key)) (sym layout) (replicas_of_nodes start shape key)

  -- the transaction whose turn it is has sent its operation along the replicas
  asked_nodes : (tx : TxId) (t : Transaction) (at : ℕ) → Split tx t s.live at → (asked : Asked)
      → t.asked ≡ Some asked → Each IsOfNode asked.chain
  asked_nodes tx t at split asked on =
      let all = subst (AllAre (λ t. IsTransactionRouted start t)) split.is live in
      let own : IsTransactionRouted start t =
      (each_after (λ (e : TxId × Transaction). IsTransactionRouted start e.1) split.front ((tx, t) ∷ split.back)
      all).0 in
      let along : asked.chain ≡ replicas start (key_of asked.op) = subst (IsAskedRouted start) on own.asked in
      subst (Each IsOfNode) (sym along) (replicas_of_nodes start shape (key_of asked.op))

  -- whatever the coordinator takes
  pub tc_sets : (body : Body) → AreSet (tc_table s body).effects.sends
  tc_sets body = by (tc_table s body) (placed_step s body)
    where
      over : (at : ℕ) (turn : Turn) → IsTurnSet turn → (b : Bool) → AreSet (turned_if s at turn b).effects.sends
      over at turn set true = set
      over at turn set false = set

      by : (step : Step TcState) → PlacedStep s body step → AreSet step.effects.sends
      by step (idles off is) = subst (λ (t : Step TcState). AreSet t.effects.sends) (sym is) tt
      by step (lacks name about is) =
          subst (λ (t : Step TcState). AreSet t.effects.sends) (sym is) (client_set _ refl, tt)
      by step (opens name about room is) =
          subst (λ (t : Step TcState). AreSet t.effects.sends) (sym is) (client_set _ refl, tt)
      by step (tells tx ahead about is) =
          subst (λ (t : Step TcState). AreSet t.effects.sends) (sym is) (client_set _ refl, tt)
      by step (lost turns none is) = subst (λ (t : Step TcState). AreSet t.effects.sends) (sym is) tt
      by step (goes turns t at split is) =
          subst (λ (t : Step TcState). AreSet t.effects.sends) (sym is)
          (over at (turn_row s body t)
          (turn_by s t IsTurnSet body
          (rows_of s.node s.layout (tx_in body) t body IsTurnSet
          (turn_set s.node some s.layout nodes (tx_in body) t body (asked_nodes (tx_in body) t at split)))
          (λ off. absurd (false≢true (sym off ∙ turns))))
          (turn_row s body t).over)
