-- What a step of a coordinator does to an operation of a transaction: it is kept at the replicas, or was answered.
use Rattle.std.proofs.Common.{◌≡◌, ◌⊎◌, ℕ, ◌+◌, ◌≤◌, ◌<◌, List, [], ◌∷◌, ◌++◌, Bool, true, false, refl, ap, sym, ◌∙◌}
use Rattle.std.proofs.Common.{subst, arith, inl, inr}
use Rattle.std.specs.Prelude.{◌&&◌}
use Rattle.indexmap.specs.IndexMap.{insert_entry}
use Rattle.run_theory.proofs.Pasts.{each_append, each_map}
use Rattle.run_theory.specs.Lists.{Each}
use Rattle.sig_core.specs.declared.member.TxId.{TxId}
use Rattle.sig_core.specs.declared.outs.Outgoing.{Outgoing}
use Rattle.sig_core.specs.declared.signal.Body.{Body}
use Rattle.sig_core.specs.declared.signal.Body.TheVariants.{Chain}
use Rattle.sig_core.specs.declared.signal.chain.ChainSignal.TheVariants.{LqhKeyConf, LqhKeyRef}
use Rattle.sig_core.specs.Same.{same_key, same_tx}
use Rattle.sig_core.specs.Step.{Step}
use Rattle.tc_block.specs.declared.transaction.Transaction.{Transaction}
use Rattle.tc_block.specs.Operate.{fresh}
use Rattle.tc_block.specs.State.{TcState}
use Rattle.tc_block.specs.Tc.{next_tx, tc_table}
use Rattle.tc_block.specs.Turn.{Turn}
use Rattle.tc_block.proofs.EachTurn.{rows_at}
use Rattle.tc_block.proofs.LiveSplit.{AreOthers}
use Rattle.tc_block.proofs.TurnRows.{TcStep, begins, is_turn, misses, passes, refuses, rests, takes, tc_step, turn_by}
use Rattle.tc_block.proofs.TurnRows.{turn_row, tx_in, left_if}
use Rattle.host_laws.proofs.api.Begins.{each_at, each_changed, each_less}
use Rattle.host_laws.proofs.hosts.Sums.{first_few}
use Rattle.host_laws.proofs.rows.Operations.{ops}
use Rattle.run_theory.proofs.Tally.{tally_append, tally_between, tally_none}
use Rattle.run_theory.specs.Counts.{one_if, tally}
use Rattle.host_laws.proofs.coordinator.Lives.{IsOwn, insert_new, is_keyed}
use Rattle.host_laws.proofs.coordinator.Moves.{same_tx-is}
use Rattle.host_laws.proofs.coordinator.Operations.{Asks, IsGoodLayout, TurnAsks, answers_of, asks_forms, asks_key}
use Rattle.host_laws.proofs.coordinator.Operations.{is_right}

-- each of a coordinator's transactions that has an operation unanswered may have one
abbrev pub AreRight : List (TxId × Transaction) → Type 0
AreRight live = Each (λ (e : TxId × Transaction). is_right e.1.asked e.1.phase ≡ true) live

module _ (n : ℕ) (tx : TxId) (key : List ℕ) where
  -- the transaction has an operation on the key unanswered
  abbrev pub is_asking : TxId × Transaction → Bool
  is_asking e = same_tx e.0 tx && asks_key key e.1.asked

  few_asking : (live : List (TxId × Transaction)) → tally is_asking live ≤ tally (is_keyed tx) live
  few_asking [] = omega arith
  few_asking (e ∷ live) = omega (arith, few_asking live, first_few (same_tx e.0 tx) (asks_key key e.1.asked))

  pub record StepAsks (s after : TcState) (sends : List Outgoing) (came : ℕ) : Type 0 where
    pub right : AreRight after.live
    pub asks : 1 ≤ tally is_asking after.live
        → ((1 ≤ tally is_asking s.live) × (came ≡ 0)) ⊎ (came + 1 ≤ ops n tx key sends)

  -- an answer came only at a turn, of the transaction
  turned_came : (body : Body) → is_turn body ≡ false → answers_of tx key body ≡ 0
  turned_came (Chain (LqhKeyConf one at answer)) off = cc
  turned_came (Chain (LqhKeyRef one at why)) off = cc
  turned_came _ off = refl

  others_came : (body : Body) → same_tx (tx_in body) tx ≡ false → answers_of tx key body ≡ 0
  others_came (Chain (LqhKeyConf one at answer)) differs = ap (λ b. one_if (b && same_key at key)) differs
  others_came (Chain (LqhKeyRef one at why)) differs = ap (λ b. one_if (b && same_key at key)) differs
  others_came _ differs = refl

  module _ (s : TcState) (body : Body) (right : AreRight s.live) (once : tally (is_keyed tx) s.live ≤ 1)
      (own : Each (λ (e : TxId × Transaction). IsOwn s.node s.next_seq e.0) s.live)
      (good : IsGoodLayout n s.layout) where
    abbrev Steps : Step TcState → Type 0
    Steps step = StepAsks s step.state step.effects.sends (answers_of tx key body)

    abbrev Told : List Outgoing → Type 0
    Told sends = ((1 ≤ tally is_asking s.live) × (answers_of tx key body ≡ 0))
        ⊎ (answers_of tx key body + 1 ≤ ops n tx key sends)

    idle : (step other : Step TcState) → step ≡ other → other.state ≡ s → answers_of tx key body ≡ 0 → Steps step
    idle step other is same none = record {
      right = subst AreRight (sym (live_is step other is same)) right;
      asks = λ some. inl (subst (λ live. 1 ≤ tally is_asking live) (live_is step other is same) some, none);
    }
      where
        live_is : (step other : Step TcState) → step ≡ other → other.state ≡ s → step.state.live ≡ s.live
        live_is step other is same = ap (λ (x : Step TcState). x.state.live) is ∙ ap (λ (x : TcState). x.live) same

    by : (step : Step TcState) → TcStep s body step → Steps step
    by step (rests off is) = idle step _ is refl (turned_came body off)
    by step (refuses name about is) = idle step _ is refl (ap (answers_of tx key) about)
    by step (passes one ahead about is) = idle step _ is refl (ap (answers_of tx key) about)
    by step (misses turns others is) =
        subst Steps (sym is) (record { right = right; asks = λ some. which some (same_tx one tx) refl })
      where
        one : TxId
        one = tx_in body

        which : 1 ≤ tally is_asking s.live → (m : Bool) → same_tx one tx ≡ m → Told []
        which some false differs = inl (some, others_came body differs)
        which some true same =
            let none = subst (λ x. AreOthers x s.live) (same_tx-is one tx same) others in
            absurd (omega (arith, some, few_asking s.live, tally_none (is_keyed tx) s.live none))
    by step (begins name about room is) =
        subst Steps (sym is)
        (record {
          right = subst AreRight (sym last)
              (each_append (λ (e : TxId × Transaction). is_right e.1.asked e.1.phase ≡ true) s.live
              ((next_tx s, fresh) ∷ []) right (refl, tt));
          asks = λ some. inl (
            omega (
              arith,
              some,
              ap (tally is_asking) last,
              tally_append is_asking s.live ((next_tx s, fresh) ∷ []),
              none (same_tx (next_tx s) tx),
            ),
            ap (answers_of tx key) about,
          );
        })
      where
        last : insert_entry same_tx s.live (next_tx s) fresh ≡ s.live ++ (next_tx s, fresh) ∷ []
        last = insert_new s.live (next_tx s) fresh
            (each_map (λ (x : TxId × Transaction). IsOwn s.node s.next_seq x.0)
            (λ (x : TxId × Transaction). x.0.seq < s.next_seq) s.live (λ x o. o.early) own)

        none : (b : Bool) → one_if (b && false) ≡ 0
        none true = refl
        none false = refl
    by step (takes turns t front back was is) = subst Steps (sym is) (over turn.over refl)
      where
        one : TxId
        one = tx_in body

        turn : Turn
        turn = turn_row s body t

        right_was : is_right t.asked t.phase ≡ true
        right_was = each_at (λ (e : TxId × Transaction). is_right e.1.asked e.1.phase ≡ true) front
            (one, t) back s.live was right

        turned : TurnAsks n one key t turn (answers_of one key body)
        turned =
            turn_by s t (Asks n one key t right_was body) body
            (rows_at s.node s.layout one t body (Asks n one key t right_was body)
            (asks_forms n one key t right_was body s.node s.layout good))
            (λ off. record { right = right_was; asks = λ e. inl (e, turned_none body off) })
          where
            turned_none : (b : Body) → is_turn b ≡ false → answers_of one key b ≡ 0
            turned_none (Chain (LqhKeyConf v at answer)) off = cc
            turned_none (Chain (LqhKeyRef v at why)) off = cc
            turned_none _ off = refl

        had : tally is_asking s.live ≡ tally is_asking (front ++ back) + one_if (same_tx one tx && asks_key key t.asked)
        had = tally_between is_asking front (one, t) back s.live was

        keyed : tally (is_keyed tx) s.live ≡ tally (is_keyed tx) (front ++ back) + one_if (same_tx one tx)
        keyed = tally_between (is_keyed tx) front (one, t) back s.live was

        -- those that took no turn
        rest : (m : Bool) → same_tx one tx ≡ m → 1 ≤ tally is_asking (front ++ back) → Told turn.step.effects.sends
        rest true same some = absurd (omega (arith, some, few_asking (front ++ back), once, keyed, ap one_if same))
        rest false differs some = inl (omega (arith, some, had), others_came body differs)

        left : (m : Bool) → same_tx one tx ≡ m → (a : Bool) → asks_key key turn.step.state.asked ≡ a
            → 1 ≤ tally is_asking (front ++ back) + one_if (m && a) → Told turn.step.effects.sends
        left false differs a e some = rest false differs (omega (arith, some))
        left true same false e some = rest true same (omega (arith, some))
        left true same true e some = which (mine.asks e)
          where
            one_tx : one ≡ tx
            one_tx = same_tx-is one tx same

            mine : TurnAsks n tx key t turn (answers_of tx key body)
            mine = subst (λ x. TurnAsks n x key t turn (answers_of x key body)) one_tx turned

            which : ((asks_key key t.asked ≡ true) × (answers_of tx key body ≡ 0))
                ⊎ (answers_of tx key body + 1 ≤ ops n tx key turn.step.effects.sends)
                → Told turn.step.effects.sends
            which (inl asked) = inl
                (omega (arith, had, ap (λ b. one_if (b && asks_key key t.asked)) same, ap one_if asked.0), asked.1)
            which (inr sent) = inr sent

        over : (b : Bool) → turn.over ≡ b → Steps (left_if s one front back turn b)
        over true e = record {
          right = each_less (λ (x : TxId × Transaction). is_right x.1.asked x.1.phase ≡ true) front
              (one, t) back s.live was right;
          asks = rest (same_tx one tx) refl;
        }
        over false e = record {
          right = each_changed (λ (x : TxId × Transaction). is_right x.1.asked x.1.phase ≡ true) front (one, t)
              (one, turn.step.state) back s.live was right (λ r. turned.right);
          asks = λ some. left (same_tx one tx) refl (asks_key key turn.step.state.asked) refl
              (omega (
                arith,
                some,
                tally_between is_asking front (one, turn.step.state) back
                    (front ++ (one, turn.step.state) ∷ back) refl,
              ));
        }

    pub tc_steps : StepAsks s (tc_table s body).state (tc_table s body).effects.sends (answers_of tx key body)
    tc_steps = by (tc_table s body) (tc_step s body)
