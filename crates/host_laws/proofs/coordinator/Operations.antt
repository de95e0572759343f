-- An operation that a coordinator's transaction has unanswered was sent to a replica.
use Rattle.std.proofs.Common.{◌≡◌, ◌⊎◌, ℕ, ◌+◌, ◌≤◌, List, Bool, true, false, refl, ap, sym, ◌∙◌, subst, arith, inl}
use Rattle.std.proofs.Common.{inr}
use Rattle.std.specs.Prelude.{◌&&◌, Option, None, Some}
use Rattle.std.proofs.lemmas.Bool.{false≢true}
use Rattle.row_records.proofs.KeyLemmas.{same as same_key-is}
use Rattle.sig_core.specs.declared.member.TxId.{TxId}
use Rattle.sig_core.specs.declared.signal.Body.{Body}
use Rattle.sig_core.specs.declared.signal.Body.TheVariants.{Chain}
use Rattle.sig_core.specs.declared.signal.chain.ChainSignal.TheVariants.{LqhKeyConf, LqhKeyRef}
use Rattle.frag_map.specs.Layout.{Layout, chain_of}
use Rattle.sig_core.specs.Chain.{node_at}
use Rattle.sig_core.specs.Op.{key_of}
use Rattle.sig_core.specs.Same.{same_key, same_tx}
use Rattle.sig_core.specs.Step.{stay}
use Rattle.tc_block.specs.declared.phase.Asked.{Asked}
use Rattle.tc_block.specs.declared.phase.Phase.{Phase}
use Rattle.tc_block.specs.declared.phase.Phase.TheVariants.{Verifying, Committing, Completing}
use Rattle.tc_block.specs.declared.transaction.Transaction.{Transaction}
use Rattle.tc_block.specs.Operate as operate
use Rattle.tc_block.specs.Sends.{entering}
use Rattle.tc_block.specs.Turn.{Turn, going}
use Rattle.sig_core.proofs.Keys.{same_tx-self}
use Rattle.tc_block.proofs.EachTurn.{CommittedForms, IsMissed, TurnFormsAt, may_ask, ready_is}
use Rattle.host_laws.proofs.rows.Operations.{is_good, is_node, left_of, ops, true_and}
use Rattle.run_theory.specs.Counts.{one_if}

-- the unanswered operation is on the key
abbrev pub asks_key : List ℕ → Option Asked → Bool
asks_key key None = false
asks_key key (Some asked) = same_key (key_of asked.op) key

abbrev pub is_right : Option Asked → Phase → Bool
is_right None phase = true
is_right (Some asked) phase = may_ask phase

-- a layout in which each key has replicas, all on nodes
pub record IsGoodLayout (n : ℕ) (layout : Layout) : Type 0 where
  pub good : (key : List ℕ) → is_good n (chain_of layout key) ≡ true
  pub first : (key : List ℕ) → is_node n (node_at (chain_of layout key) 0) ≡ true

right_asking : (asked : Option Asked) (phase : Phase) → may_ask phase ≡ true → is_right asked phase ≡ true
right_asking None phase e = refl
right_asking (Some asked) phase e = e

right_as : (asked : Option Asked) (phase other : Phase) → may_ask phase ≡ may_ask other → is_right asked phase ≡ true
    → is_right asked other ≡ true
right_as None phase other same e = refl
right_as (Some asked) phase other same e = sym same ∙ e

-- so many answers for it, on the key, came to a coordinator
abbrev pub answers_of : TxId → List ℕ → Body → ℕ
answers_of tx key (Chain (LqhKeyConf one at answer)) = one_if (same_tx one tx && same_key at key)
answers_of tx key (Chain (LqhKeyRef one at why)) = one_if (same_tx one tx && same_key at key)
answers_of tx key _ = 0

module _ (n : ℕ) (tx : TxId) (key : List ℕ) where
  -- a turn of the transaction, at which an answer came or none: what it has unanswered then it had before, and it
  -- wasn't answered, or it was sent
  pub record TurnAsks (t : Transaction) (turn : Turn) (came : ℕ) : Type 0 where
    pub right : is_right turn.step.state.asked turn.step.state.phase ≡ true
    pub asks : asks_key key turn.step.state.asked ≡ true
        → ((asks_key key t.asked ≡ true) × (came ≡ 0)) ⊎ (came + 1 ≤ ops n tx key turn.step.effects.sends)

  module _ (t : Transaction) (right : is_right t.asked t.phase ≡ true) (body : Body) where
    abbrev pub Asks : Turn → Type 0
    Asks turn = TurnAsks t turn (answers_of tx key body)

    -- nothing came, and it has unanswered what it had
    kept : (turn : Turn) → turn.step.state.asked ≡ t.asked → is_right turn.step.state.asked turn.step.state.phase ≡ true
        → answers_of tx key body ≡ 0
        → Asks turn
    kept turn same now none = record { right = now; asks = λ e. inl (ap (asks_key key) (sym same) ∙ e, none) }

    -- it has nothing unanswered then
    without : (turn : Turn) → turn.step.state.asked ≡ None → Asks turn
    without turn none = record {
      right = ap (λ o. is_right o turn.step.state.phase) none;
      asks = λ e. absurd (false≢true (ap (asks_key key) (sym none) ∙ e));
    }

    -- in a phase like that it was in
    right_in : (phase other : Phase) → t.phase ≡ phase → may_ask phase ≡ may_ask other → is_right t.asked other ≡ true
    right_in phase other at same = right_as t.asked phase other same (subst (λ q. is_right t.asked q ≡ true) at right)

    -- an answer that is for no unanswered operation is for none on this key
    late_none : (at : List ℕ) (asked : Option Asked) → operate.asked_on asked at ≡ None → asks_key key asked ≡ true
        → same_key at key ≡ false
    late_none at None none e = cc
    late_none at (Some a) none e = go (same_key at key) refl
      where
        go : (b : Bool) → same_key at key ≡ b → b ≡ false
        go false f = refl
        go true f =
            let one : at ≡ key = same_key-is at key f in
            let here : operate.asked_if a (same_key (key_of a.op) at) ≡ Some a =
            ap (operate.asked_if a) (subst (λ k. same_key (key_of a.op) k ≡ true) (sym one) e) in
            absurd (some_none (sym here ∙ none))
          where
            some_none : Some a ≡ None → ⊥
            some_none q = cc

    -- where it is decided it has none unanswered
    shut_none : (asked : Option Asked) → is_right asked t.phase ≡ true → may_ask t.phase ≡ false
        → asks_key key asked ≡ true → ⊥
    shut_none None own shut e = cc
    shut_none (Some a) own shut e = false≢true (sym shut ∙ own)

    -- so a late answer changes nothing
    late_asks : (one : TxId) (at : List ℕ) → (operate.asked_on t.asked at ≡ None) ⊎ (may_ask t.phase ≡ false)
        → TurnAsks t (going (stay t)) (one_if (same_tx one tx && same_key at key))
    late_asks one at (inl none) = record {
      right = right;
      asks = λ e. inl (
        e,
        ap (λ b. one_if (same_tx one tx && b)) (late_none at t.asked none e)
            ∙ fails (same_tx one tx),
      );
    }
      where
        fails : (b : Bool) → one_if (b && false) ≡ 0
        fails true = refl
        fails false = refl
    late_asks one at (inr shut) = record { right = right; asks = λ e. absurd (shut_none t.asked right shut e) }

    missed_asks : (b : Body) → IsMissed t b → TurnAsks t (going (stay t)) (answers_of tx key b)
    missed_asks (Chain (LqhKeyConf one at answer)) missed = late_asks one at missed
    missed_asks (Chain (LqhKeyRef one at why)) missed = late_asks one at missed
    missed_asks _ missed = record { right = right; asks = λ e. inl (e, refl) }

    commit_asks : (node : ℕ) (layout : Layout) (epoch : ℕ) (phase : Phase) → t.phase ≡ phase → may_ask phase ≡ false
        → answers_of tx key body ≡ 0
        → CommittedForms node layout tx t epoch Asks
    unfolding entering
    commit_asks node layout epoch phase at shut none = record {
      enters = λ some. kept _ refl (right_in phase (Completing epoch _) at shut) none;
      ends = λ zero. kept _ refl right none;
    }

    -- so it is at each turn
    pub asks_forms : (node : ℕ) (layout : Layout) → IsGoodLayout n layout → TurnFormsAt node layout tx t body Asks
    unfolding entering
    asks_forms node layout good = record {
      stays = λ other missed. missed_asks body missed;
      stops = λ at is high. kept _ refl right (none is refl);
      goes_on = λ at is low. kept _ refl right (none is refl);
      operates = λ op is can.
          let ready = ready_is t.phase t.asked (left_of (operate.is_ready t.phase t.asked) _ can) in
          record {
            right = ap may_ask ready.0;
            asks = λ asked. inr (
                let chain = chain_of layout (key_of op) in
                let one = true_and (is_node n (node_at chain 0)) _ (good.first (key_of op))
                (true_and (same_tx tx tx) _ (same_tx-self tx)
                (true_and (same_key (key_of op) key) (is_good n chain) asked (good.good (key_of op)))) in
                omega (arith, ap one_if one, none is refl)
                );
          };
      answers = λ at answer asked is own phase. without _ refl;
      late = λ at asked why verifying awaited is own phase. without _ refl;
      waits = λ asked is on. kept _ refl right (none is refl);
      decides = λ is can. kept _ refl (ap (λ a. is_right a Verifying) (ready_is t.phase t.asked can).1) (none is refl);
      commits = λ epoch is at some. kept _ refl (right_in Verifying (Committing epoch _) at refl) (none is refl);
      commits_none = λ epoch is at zero. commit_asks node layout epoch Verifying at refl (none is refl);
      committed = λ own epoch awaited is at more.
          kept _ refl (right_in (Committing epoch awaited) (Committing epoch _) at refl) (none is refl);
      committed_all = λ own epoch awaited is at last.
          commit_asks node layout epoch (Committing epoch awaited) at refl (none is refl);
      completed = λ own epoch awaited is at more.
          kept _ refl (right_in (Completing epoch awaited) (Completing epoch _) at refl) (none is refl);
      completed_all = λ own epoch awaited is at last. kept _ refl right (none is refl);
      rolls_back = λ is undecided unaborted. record {
        enters = λ some. kept _ refl (right_asking t.asked _ refl) (none is refl);
        ends = λ zero. kept _ refl right (none is refl);
      };
      refuses = λ at why asked is own phase. record { enters = λ some. without _ refl; ends = λ zero. without _ refl };
      aborted = λ own why verifying awaited is at more. kept _ refl (right_asking t.asked _ refl) (none is refl);
      aborted_all = λ own why verifying awaited is at last. kept _ refl right (none is refl);
    }
      where
        none : {b : Body} → body ≡ b → answers_of tx key b ≡ 0 → answers_of tx key body ≡ 0
        none is zero = ap (answers_of tx key) is ∙ zero
