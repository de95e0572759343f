-- What a signal makes of a coordinator's transaction, case by case.
use Rattle.std.proofs.Common.{◌≡◌, ◌⊎◌, ℕ, ◌-◌, ◌≤◌, ◌<◌, List, [], ◌∷◌, length, Bool, true, false, refl, ap, subst}
use Rattle.std.proofs.Common.{sym, ◌∙◌, arith, inl, inr}
use Rattle.std.specs.Prelude.{None}
use Rattle.std.proofs.lemmas.Bool.{and_parts, false≢true}
use Rattle.std.proofs.lemmas.Bool.Decides.{nat_tests}
use Rattle.sig_core.specs.declared.member.TxId.{TxId}
use Rattle.sig_core.specs.declared.op.Answer.{Answer}
use Rattle.sig_core.specs.declared.op.Op.{Op}
use Rattle.sig_core.specs.declared.outcome.AbortCause.{AbortCause}
use Rattle.sig_core.specs.declared.outs.Outgoing.{Outgoing}
use Rattle.sig_core.specs.declared.signal.Body.{Body}
use Rattle.sig_core.specs.declared.signal.Body.TheVariants.{Host, Client, Chain, Epoch}
use Rattle.sig_core.specs.declared.signal.chain.ChainSignal.TheVariants.{LqhKeyConf, LqhKeyRef, Committed, Aborted}
use Rattle.sig_core.specs.declared.signal.client.ClientSignal.TheVariants.{TcKeyReq, TcKeyConf, TcCommitReq}
use Rattle.sig_core.specs.declared.signal.client.ClientSignal.TheVariants.{TcRollbackReq, LqhWaitReq}
use Rattle.sig_core.specs.declared.signal.epoch.EpochSignal.TheVariants.{DiVerifyReq, DiVerifyConf}
use Rattle.sig_core.specs.declared.signal.host.HostSignal.TheVariants.{Continue}
use Rattle.sig_core.specs.declared.signal.host.Work.TheVariants as work
use Rattle.frag_map.specs.Layout.{Layout}
use Rattle.sig_core.specs.Op.{key_of}
use Rattle.sig_core.specs.Place.{client, epochs}
use Rattle.sig_core.specs.Step.{sending, stay, sends_only}
use Rattle.tc_block.specs.declared.phase.Asked.{Asked}
use Rattle.tc_block.specs.declared.phase.Phase.{Phase}
use Rattle.tc_block.specs.declared.phase.Phase.TheVariants.{Open, Verifying, Committing, Completing, Aborting}
use Rattle.tc_block.specs.declared.transaction.Transaction.{Transaction}
use Rattle.tc_block.specs.Abort as abort
use Rattle.frag_map.specs.Layout.{chain_of}
use Rattle.tc_block.specs.Complete as complete
use Rattle.tc_block.specs.Operate as operate
use Rattle.tc_block.specs.Part.{part_effects}
use Rattle.tc_block.specs.Sends.{entering, phase_sends, reported, verify_end, waits_of}
use Rattle.tc_block.specs.State.{TcState}
use Rattle.tc_block.specs.Touched.{fits}
use Rattle.tc_block.specs.Turn.{Turn, asking, at_phase, ending, going}
use Rattle.host_laws.proofs.hosts.SendKinds.{are_of, of_map}
use Rattle.tc_block.specs.Phases.{is_aborting, is_committing, is_decided}
use Rattle.tc_block.proofs.EachTurn.{AbortForms, CommittedForms, IsAnswered, IsMissed, IsRowAnswer, TurnForms}
use Rattle.tc_block.proofs.EachTurn.{TurnFormsAt, by_conf, by_ref, ready_is, rows_at, rows_of}
use Rattle.tc_block.proofs.TurnRows.{is_turn, turn_by, turn_row, tx_in}
use Rattle.tc_block.specs.declared.sends.TheConstants.{SENDS}

-- what holds of each form of turn that the transaction may take at the signal holds of the turn
pub turn_at : (s : TcState) (tx : TxId) (body : Body) (t : Transaction) (R : Turn → Type 0) → tx_in body ≡ tx
    → TurnForms s.node s.layout tx t body R
    → R (turn_row s body t)
turn_at s tx body t R same forms =
    turn_by s t R body (rows_of s.node s.layout (tx_in body) t body R own) (λ off. own.stays)
  where
    own : TurnForms s.node s.layout (tx_in body) t body R
    own = subst (λ x. TurnForms s.node s.layout x t body R) (sym same) forms

-- what is asked about a wait
abbrev pub is_wait_kind : Body → Bool
is_wait_kind (Client (LqhWaitReq tx key)) = true
is_wait_kind _ = false

-- replicas answer an operation
abbrev pub is_row_answer : Body → Bool
is_row_answer (Chain (LqhKeyConf tx key answer)) = true
is_row_answer (Chain (LqhKeyRef tx key why)) = true
is_row_answer _ = false

-- a transaction that is open, or verifying, is given up: w is what it is then, but for its phase
pub data GivesUp (t : Transaction) (body : Body) (w : Transaction) : Type 0 where
  asked_to : (t.phase ≡ Open) ⊎ (t.phase ≡ Verifying) → (tx : TxId) → body ≡ Client (TcRollbackReq tx) → w ≡ t
      → GivesUp t body w
  refused : (tx : TxId) (key : List ℕ) (why : AbortCause) (asked : Asked) → t.phase ≡ Open
      → body ≡ Chain (LqhKeyRef tx key why) → IsAnswered t key asked → w ≡ asking t None → GivesUp t body w

-- all its keys are committed
pub data IsCommitted (t : Transaction) (body : Body) : Type 0 where
  at_once : (tx : TxId) (epoch : ℕ) → t.phase ≡ Verifying → body ≡ Epoch (DiVerifyConf tx epoch) → IsCommitted t body
  at_last : (tx : TxId) (key : List ℕ) → is_committing t.phase ≡ true → body ≡ Chain (Committed tx key)
      → IsCommitted t body

-- What the signal makes of the transaction, and what is sent then: it stays as it is, and why; it goes on with a list;
-- it asks for an operation, is answered, or is answered late; it asks for its epoch; it begins to abort, or ends at
-- once; an abort goes on, or ends; its keys are committed, and completed, or that goes on or ends.
pub data TurnMove (s : TcState) (tx : TxId) (t : Transaction) (body : Body) (turn : Turn) : Type 0 where
  keeps : (sends : List Outgoing) → turn ≡ going (record { state = t; effects = sends_only sends })
      → are_of is_wait_kind sends ≡ true → IsMissed t body → TurnMove s tx t body turn
  goes_on : (at : ℕ) → body ≡ Host (Continue (work.Transaction tx) at) → at < SENDS
      → turn ≡ going (record {
        state = t;
        effects = part_effects s.node tx (phase_sends s.layout tx t.phase t.touched) at;
      })
      → TurnMove s tx t body turn
  asks : (op : Op) → body ≡ Client (TcKeyReq tx op) → t.phase ≡ Open → t.asked ≡ None
      → fits t.touched (key_of op) ≡ true → turn ≡ going (operate.operating tx t op (chain_of s.layout (key_of op)))
      → TurnMove s tx t body turn
  answers : (key : List ℕ) (answer : Answer) (asked : Asked) → body ≡ Chain (LqhKeyConf tx key answer) → t.phase ≡ Open
      → IsAnswered t key asked
      → turn ≡ going (sending (operate.answered t asked answer) client (Client (TcKeyConf tx answer)))
      → TurnMove s tx t body turn
  late : (key : List ℕ) (asked : Asked) → is_row_answer body ≡ true → is_aborting t.phase ≡ true
      → IsAnswered t key asked → turn ≡ going (operate.late_answer s.layout tx t key) → TurnMove s tx t body turn
  decides : body ≡ Client (TcCommitReq tx) → t.phase ≡ Open → t.asked ≡ None
      → turn ≡ going (sending (at_phase t Verifying) (epochs s.node) (Epoch (DiVerifyReq tx t.ops)))
      → TurnMove s tx t body turn
  aborts : (w : Transaction) (why : AbortCause) → GivesUp t body w → 1 ≤ abort.aborts_awaited s.layout w
      → turn ≡ abort.abort_if s.node s.layout tx w why false → TurnMove s tx t body turn
  gives_up : (w : Transaction) (why : AbortCause) → GivesUp t body w
      → turn ≡ abort.abort_if s.node s.layout tx w why true → abort.aborts_awaited s.layout w ≡ 0
      → TurnMove s tx t body turn
  aborted : (key : List ℕ) (why : AbortCause) (v : Bool) (k : ℕ) → body ≡ Chain (Aborted tx key)
      → t.phase ≡ Aborting why v k → 1 < k
      → turn ≡ going (stay (at_phase t (Aborting why v (k - 1)))) → TurnMove s tx t body turn
  abort_ends : (key : List ℕ) (why : AbortCause) (v : Bool) (k : ℕ) → body ≡ Chain (Aborted tx key)
      → t.phase ≡ Aborting why v k → k ≤ 1
      → turn ≡ ending t (sends_only (abort.abort_end s.node tx why v)) → TurnMove s tx t body turn
  commits : (epoch : ℕ) → body ≡ Epoch (DiVerifyConf tx epoch) → t.phase ≡ Verifying
      → turn ≡ going (entering s.node s.layout tx t (Committing epoch (length t.touched))) → TurnMove s tx t body turn
  committed : (epoch k : ℕ) → t.phase ≡ Committing epoch k → turn ≡ going (stay (at_phase t (Committing epoch (k - 1))))
      → TurnMove s tx t body turn
  completes : (epoch : ℕ) → IsCommitted t body
      → turn ≡ going (entering s.node s.layout tx t (Completing epoch (complete.written_count t.touched)))
      → TurnMove s tx t body turn
  ends : (epoch : ℕ) → IsCommitted t body → turn ≡ ending t (sends_only (reported tx epoch ∷ verify_end s.node tx ∷ []))
      → TurnMove s tx t body turn
  completed : (epoch k : ℕ) → t.phase ≡ Completing epoch k → turn ≡ going (stay (at_phase t (Completing epoch (k - 1))))
      → TurnMove s tx t body turn
  all_completed : (epoch k : ℕ) → t.phase ≡ Completing epoch k
      → turn ≡ ending t (sends_only (verify_end s.node tx ∷ [])) → TurnMove s tx t body turn

-- a turn that is over isn't one that isn't
pub over_not : {A : Type 0} (turn other : Turn) → turn ≡ other → other.over ≡ true → turn.over ≡ false → A
over_not turn other is o e = absurd (false≢true (sym e ∙ (ap (λ (x : Turn). x.over) is ∙ o)))

-- a transaction that comes to a phase is in it
pub entered_phase : (node : ℕ) (layout : Layout) (tx : TxId) (w : Transaction) (phase : Phase)
    → (entering node layout tx w phase).state.phase ≡ phase
unfolding entering
entered_phase node layout tx w phase = refl

-- before it is decided or aborted a transaction is open, or asks for its epoch
early_is : (phase : Phase) → is_decided phase ≡ false → is_aborting phase ≡ false → (phase ≡ Open) ⊎ (phase ≡ Verifying)
early_is Open undecided unaborted = inl refl
early_is Verifying undecided unaborted = inr refl
early_is (Committing epoch awaited) undecided unaborted = cc
early_is (Completing epoch awaited) undecided unaborted = cc
early_is (Aborting why verifying awaited) undecided unaborted = cc

answers_row : (tx : TxId) (key : List ℕ) (body : Body) → IsRowAnswer tx key body → is_row_answer body ≡ true
answers_row tx key body (by_conf answer is) = ap is_row_answer is
answers_row tx key body (by_ref why is) = ap is_row_answer is

module _ (s : TcState) (tx : TxId) (t : Transaction) (body : Body) where
  abbrev Moves : Turn → Type 0
  Moves turn = TurnMove s tx t body turn

  abort_moves : (w : Transaction) (why : AbortCause) → GivesUp t body w → AbortForms s.node s.layout tx w why Moves
  abort_moves w why gives = record {
    enters = λ some. aborts w why gives (grind (arith, nat_tests, some)) refl;
    ends = λ none. gives_up w why gives refl (grind (arith, nat_tests, none));
  }

  commit_moves : (epoch : ℕ) → IsCommitted t body → CommittedForms s.node s.layout tx t epoch Moves
  commit_moves epoch is = record { enters = λ some. completes epoch is refl; ends = λ none. ends epoch is refl }

  each_moves : TurnFormsAt s.node s.layout tx t body Moves
  each_moves = record {
    stays = λ other missed. keeps [] refl refl missed;
    stops = λ at is high. keeps [] refl refl (subst (IsMissed t) (sym is) high);
    goes_on = λ at is low. goes_on at is (grind (arith, nat_tests, low)) refl;
    operates = λ op is can.
        let both = and_parts (operate.is_ready t.phase t.asked) (fits t.touched (key_of op)) can in
        let ready = ready_is t.phase t.asked both.0 in
        asks op is ready.0 ready.1 both.1 refl;
    answers = λ key answer asked is own at. answers key answer asked is at own refl;
    late = λ key asked why verifying awaited is own at.
        late key asked (answers_row tx key body is) (ap is_aborting at) own refl;
    waits = λ asked is on.
        keeps (waits_of tx (key_of asked.op) asked.chain) refl (of_map is_wait_kind _ asked.chain (λ m. refl))
        (subst (IsMissed t) (sym is) tt);
    decides = λ is can. let ready = ready_is t.phase t.asked can in decides is ready.0 ready.1 refl;
    commits = λ epoch is at some. commits epoch is at refl;
    commits_none = λ epoch is at none. commit_moves epoch (at_once tx epoch at is);
    committed = λ key epoch awaited is at more. committed epoch awaited at refl;
    committed_all = λ key epoch awaited is at last. commit_moves epoch (at_last tx key (ap is_committing at) is);
    completed = λ key epoch awaited is at more. completed epoch awaited at refl;
    completed_all = λ key epoch awaited is at last. all_completed epoch awaited at refl;
    rolls_back = λ is undecided unaborted. abort_moves t _ (asked_to (early_is t.phase undecided unaborted) tx is refl);
    refuses = λ key why asked is own at. abort_moves (asking t None) why (refused tx key why asked at is own refl);
    aborted = λ key why verifying awaited is at more.
        aborted key why verifying awaited is at (grind (arith, nat_tests, more)) refl;
    aborted_all = λ key why verifying awaited is at last.
        abort_ends key why verifying awaited is at (grind (arith, nat_tests, last)) refl;
  }

-- every turn is such a move
pub turn_moves : (s : TcState) (body : Body) (t : Transaction) → is_turn body ≡ true
    → TurnMove s (tx_in body) t body (turn_row s body t)
turn_moves s body t is =
    turn_by s t (Moves s (tx_in body) t body) body
    (rows_at s.node s.layout (tx_in body) t body (Moves s (tx_in body) t body) (each_moves s (tx_in body) t body))
    (λ off. absurd (false≢true (sym off ∙ is)))
