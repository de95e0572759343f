-- What a row of a coordinator does to a transaction that is open, or waits for its epoch, then.
use Rattle.std.proofs.Common.{◌≡◌, ◌⊎◌, ◌++◌, ℕ, List, [], ◌∷◌, Bool, true, false, refl, sym, ap, ◌∙◌, subst, inl, inr}
use Rattle.std.proofs.lemmas.Bool.{and_parts}
use Rattle.std.specs.Prelude.{if◌then◌else◌, None, Some}
use Rattle.sig_core.specs.declared.member.Member.{Member}
use Rattle.sig_core.specs.declared.member.TxId.{TxId}
use Rattle.sig_core.specs.declared.op.Answer.{Answer}
use Rattle.sig_core.specs.declared.op.Op.{Op}
use Rattle.sig_core.specs.declared.outcome.AbortCause.{AbortCause}
use Rattle.sig_core.specs.declared.outs.Outgoing.{Outgoing}
use Rattle.sig_core.specs.declared.signal.Body.{Body}
use Rattle.sig_core.specs.declared.signal.Body.TheVariants.{Client, Chain}
use Rattle.sig_core.specs.declared.signal.chain.ChainSignal.TheVariants.{LqhKeyReq, LqhKeyConf, LqhKeyRef}
use Rattle.sig_core.specs.declared.signal.chain.RowWork.TheVariants.{Operate}
use Rattle.sig_core.specs.declared.signal.client.ClientSignal.TheVariants.{TcCommitReq}
use Rattle.frag_map.specs.Layout.{Layout, chain_of}
use Rattle.sig_core.specs.Chain.{node_at}
use Rattle.sig_core.specs.Op.{key_of}
use Rattle.sig_core.specs.Place.{rows_of}
use Rattle.tc_block.specs.declared.phase.Asked.{Asked}
use Rattle.tc_block.specs.declared.phase.Phase.{Phase}
use Rattle.tc_block.specs.declared.phase.Phase.TheVariants.{Open, Verifying, Committing, Completing, Aborting}
use Rattle.tc_block.specs.declared.transaction.Transaction.{Transaction}
use Rattle.tc_block.specs.Commit as commit
use Rattle.tc_block.specs.Operate as operate
use Rattle.tc_block.specs.Operate.{asked_on}
use Rattle.tc_block.specs.Sends.{entering}
use Rattle.tc_block.specs.Touched.{fits}
use Rattle.run_laws.proofs.tokens.Still.{AreStill, IsStill, turns_still}
use Rattle.tc_block.proofs.TurnRows.{turn_for}
use Rattle.host_laws.proofs.coordinator.Steps.{left_of_turn}
use Rattle.run_laws.proofs.hosts.TxTurns.{is_for, turn_each}
use Rattle.sig_core.specs.Step.{stay, to_place}
use Rattle.tc_block.specs.Turn.{Turn, asking, going}
use Rattle.tc_block.proofs.EachTurn.{AbortForms, CommittedForms, IsMissed, TurnForms, TurnFormsAt, may_ask, ready_is}
use Rattle.tc_block.proofs.EachTurn.{rows_at}

-- it is open, or waits for its epoch
abbrev pub is_early : Phase → Bool
is_early Open = true
is_early Verifying = true
is_early phase = false

-- a signal answers no operation of the transaction
abbrev pub IsDeaf : Transaction → Body → Type 0
IsDeaf t (Chain (LqhKeyConf v own answer)) = (asked_on t.asked own ≡ None) ⊎ (t.phase ≡ Verifying)
IsDeaf t (Chain (LqhKeyRef v own why)) = (asked_on t.asked own ≡ None) ⊎ (t.phase ≡ Verifying)
IsDeaf t body = Unit {0}

-- It rests, sends an operation to the primary, notes the answer of its operation, or asks for an epoch.
pub data Going (tx : TxId) (body : Body) (t u : Transaction) (sends : List Outgoing) : Type 0 where
  rests : u ≡ t → AreStill tx sends → IsDeaf t body → Going tx body t u sends
  operates : (op : Op) (chain : List Member) → t.asked ≡ None → t.phase ≡ Open → u.ops ≡ t.ops
      → u.asked ≡ Some (record { op = op; chain = chain }) → u.phase ≡ Open
      → sends ≡ to_place (rows_of (node_at chain 0)) (Chain (LqhKeyReq tx (Operate op) chain 0)) ∷ []
      → Going tx body t u sends
  notes : (asked : Asked) (answer : Answer) (own : List ℕ) → body ≡ Chain (LqhKeyConf tx own answer)
      → asked_on t.asked own ≡ Some asked → t.phase ≡ Open
      → u.ops ≡ t.ops ++ (asked.op, answer) ∷ [] → u.asked ≡ None → u.phase ≡ Open → AreStill tx sends
      → Going tx body t u sends
  verifies : t.asked ≡ None → t.phase ≡ Open → u.ops ≡ t.ops → u.asked ≡ None → u.phase ≡ Verifying → AreStill tx sends
      → Going tx body t u sends

-- so it is, if the transaction is open or waits for its epoch after the turn
pub record GoesOn (tx : TxId) (body : Body) (t : Transaction) (turn : Turn) : Type 0 where
  pub goes : (u : Transaction) → left_of_turn turn ≡ Some u → is_early u.phase ≡ true
      → Going tx body t u turn.step.effects.sends

module _ (tx : TxId) (t : Transaction) where
  -- it is as before
  rest_goes : (body : Body) (turn : Turn) → left_of_turn turn ≡ Some t → AreStill tx turn.step.effects.sends
      → IsDeaf t body → GoesOn tx body t turn
  rest_goes body turn same none deaf = record {
    goes = λ u is early. let both : Some t ≡ Some u = sym same ∙ is in let now : t ≡ u =
        cc in rests (sym now) none deaf;
  }

  -- it is open no more
  closed_goes : (body : Body) (turn : Turn) → is_early turn.step.state.phase ≡ false → GoesOn tx body t turn
  closed_goes body turn closed = record { goes = λ u is early. by u early turn.over is }
    where
      by : (u : Transaction) → is_early u.phase ≡ true → (b : Bool)
          → (if b then None else Some turn.step.state) ≡ Some u
          → Going tx body t u turn.step.effects.sends
      by u early true is = absurd cc
      by u early false is =
          let same : turn.step.state ≡ u = cc in
          absurd (let both : true ≡ false = sym early
          ∙ (ap (λ (w : Transaction). is_early w.phase) (sym same) ∙ closed) in cc)

  -- or over
  over_goes : (body : Body) (turn : Turn) → turn.over ≡ true → GoesOn tx body t turn
  over_goes body turn over = record {
    goes = λ u is early. absurd (let none : None ≡ Some u =
        sym (ap (λ b. if b then None else Some turn.step.state) over) ∙ is in cc);
  }

  -- it had none unanswered, or may have none now
  shut_goes : (body : Body) (key : List ℕ) → (asked_on t.asked key ≡ None) ⊎ (may_ask t.phase ≡ false)
      → GoesOn tx body t (going (stay t)) ⊎ ((asked_on t.asked key ≡ None) ⊎ (t.phase ≡ Verifying))
  shut_goes body key (inl none) = inr (inl none)
  shut_goes body key (inr shut) = by t.phase refl shut
    where
      by : (phase : Phase) → t.phase ≡ phase → may_ask phase ≡ false
          → GoesOn tx body t (going (stay t)) ⊎ ((asked_on t.asked key ≡ None) ⊎ (t.phase ≡ Verifying))
      by Open at off = absurd cc
      by Verifying at off = inr (inr at)
      by (Committing epoch awaited) at off = inl (closed_goes body _ (ap is_early at))
      by (Completing epoch awaited) at off = inl (closed_goes body _ (ap is_early at))
      by (Aborting why verifying awaited) at off = absurd cc

  module _ (node : ℕ) (layout : Layout) where
    committed_forms : (body : Body) (epoch : ℕ) → CommittedForms node layout tx t epoch (GoesOn tx body t)
    unfolding entering
    committed_forms body epoch = record {
      enters = λ some. closed_goes body _ refl;
      ends =
          λ none. over_goes body _ refl;
    }

    abort_forms : (body : Body) (u : Transaction) (why : AbortCause)
        → AbortForms node layout tx u why (GoesOn tx body t)
    unfolding entering
    abort_forms body u why = record { enters = λ some. closed_goes body _ refl; ends = λ none. over_goes body _ refl }

    still : TurnForms node layout tx t (Client (TcCommitReq tx)) (IsStill tx)
    still = turns_still tx tx node layout t (Client (TcCommitReq tx)) (λ op is. cc)

    -- a signal that is missed answers no operation, unless it is open no more
    missed_goes : (body own : Body) → IsMissed t body → GoesOn tx own t (going (stay t)) ⊎ IsDeaf t body
    missed_goes (Chain (LqhKeyConf v key answer)) own missed = shut_goes own key missed
    missed_goes (Chain (LqhKeyRef v key why)) own missed = shut_goes own key missed
    missed_goes _ own missed = inr tt

    -- so it is at each turn
    going_forms : (body : Body) → TurnFormsAt node layout tx t body (GoesOn tx body t)
    unfolding entering
    going_forms body = record {
      stays = λ other missed. rests_or (missed_goes body body missed);
      stops = λ at is high. rest_goes body _ refl tt (deaf is tt);
      goes_on = λ at is low. rest_goes body _ refl (still.goes_on at).sends (deaf is tt);
      operates = λ op is can. record {
        goes = λ u left early.
            let ready = ready_is t.phase t.asked (and_parts (operate.is_ready t.phase t.asked)
            (fits t.touched (key_of op)) can).0 in
            let same : (operate.operating tx t op (chain_of layout (key_of op))).state ≡ u = cc in
            operates op (chain_of layout (key_of op)) ready.1 ready.0 (ap (λ (w : Transaction). w.ops) (sym same))
            (ap (λ (w : Transaction). w.asked) (sym same))
            (ap (λ (w : Transaction). w.phase) (sym same) ∙ ready.0) refl;
      };
      answers = λ key answer asked is own at. record {
        goes = λ u left early.
            let same : operate.answered t asked answer ≡ u = cc in
            notes asked answer key is own.found at (ap (λ (w : Transaction). w.ops) (sym same))
            (ap (λ (w : Transaction). w.asked) (sym same))
            (ap (λ (w : Transaction). w.phase) (sym same) ∙ at) (refl, tt);
      };
      late = λ key asked why verifying awaited is own at. closed_goes body _ (ap is_early at);
      waits = λ asked is on. rest_goes body _ refl (still.waits asked on).sends (deaf is tt);
      decides = λ is can. record {
        goes = λ u left early.
            let ready = ready_is t.phase t.asked can in
            let same : (commit.verify_if node tx t true).state ≡ u = cc in
            verifies ready.1 ready.0 (ap (λ (w : Transaction). w.ops) (sym same))
            (ap (λ (w : Transaction). w.asked) (sym same) ∙ ready.1)
            (ap (λ (w : Transaction). w.phase) (sym same)) (refl, tt);
      };
      commits = λ epoch is at some. closed_goes body _ refl;
      commits_none = λ epoch is at none. committed_forms body epoch;
      committed = λ key epoch awaited is at more. closed_goes body _ refl;
      committed_all = λ key epoch awaited is at last. committed_forms body epoch;
      completed = λ key epoch awaited is at more. closed_goes body _ refl;
      completed_all = λ key epoch awaited is at last. over_goes body _ refl;
      rolls_back = λ is undecided unaborted. abort_forms body t _;
      refuses = λ key why asked is own at. abort_forms body (asking t None) why;
      aborted = λ key why verifying awaited is at more. closed_goes body _ refl;
      aborted_all = λ key why verifying awaited is at last. over_goes body _ refl;
    }
      where
        deaf : {b : Body} → body ≡ b → IsDeaf t b → IsDeaf t body
        deaf is none = subst (IsDeaf t) (sym is) none

        rests_or : GoesOn tx body t (going (stay t)) ⊎ IsDeaf t body → GoesOn tx body t (going (stay t))
        rests_or (inl goes) = goes
        rests_or (inr none) = rest_goes body _ refl tt none

    pub turn_going : (body : Body) → is_for tx body ≡ true → GoesOn tx body t (turn_for node layout tx body t)
    turn_going body is =
        turn_each node layout tx body t (GoesOn tx body t)
        (rows_at node layout tx t body (GoesOn tx body t) (going_forms body)) is
