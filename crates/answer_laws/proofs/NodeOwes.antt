-- What a step of a coordinator makes of what a transaction that commits waits for.
use Rattle.std.proofs.Common.{◌≡◌, ◌⊎◌, ℕ, ◌≤◌, ◌<◌, List, [], ◌∷◌, ◌++◌, Bool, true, false, refl, ap, sym, ◌∙◌, subst}
use Rattle.std.proofs.Common.{arith, inl, inr}
use Rattle.std.specs.Prelude.{Option, None, Some}
use Rattle.std.proofs.lemmas.Bool.{false≢true}
use Rattle.indexmap.specs.IndexMap.{insert_entry}
use Rattle.run_theory.proofs.Pasts.{each_append, each_map}
use Rattle.run_theory.specs.Lists.{Each, IsIn}
use Rattle.sig_core.specs.declared.member.TxId.{TxId}
use Rattle.sig_core.specs.declared.outs.Outgoing.{Outgoing}
use Rattle.sig_core.specs.declared.signal.Body.{Body}
use Rattle.sig_core.specs.declared.signal.Body.TheVariants.{Host, Chain}
use Rattle.sig_core.specs.declared.signal.chain.ChainSignal.TheVariants.{Committed}
use Rattle.sig_core.specs.declared.signal.host.HostSignal.TheVariants.{Continue}
use Rattle.sig_core.specs.declared.signal.host.Work.TheVariants as work
use Rattle.frag_map.specs.Layout.{chain_of}
use Rattle.sig_core.specs.Same.{same_tx}
use Rattle.sig_core.specs.Step.{Step}
use Rattle.tc_block.specs.declared.phase.Asked.{Asked}
use Rattle.tc_block.specs.declared.phase.Phase.TheVariants.{Open, Committing}
use Rattle.tc_block.specs.declared.transaction.Transaction.{Transaction}
use Rattle.tc_block.specs.Operate.{fresh}
use Rattle.tc_block.specs.State.{TcState}
use Rattle.tc_block.specs.Tc.{begin_if, next_tx, tc_table}
use Rattle.tc_block.specs.Turn.{Turn}
use Rattle.sig_core.proofs.Keys.{same_tx-self}
use Rattle.sig_core.proofs.TxLemmas.{same_tx-is}
use Rattle.tc_block.proofs.EachTurn.{rows_at}
use Rattle.tc_block.proofs.LiveSplit.{AreOthers}
use Rattle.tc_block.proofs.TurnRows.{TcStep, begins, is_turn, misses, passes, refuses, rests, takes, tc_step, turn_by}
use Rattle.tc_block.proofs.TurnRows.{turn_row, tx_in, left_if}
use Rattle.host_laws.proofs.api.Begins.{each_at, each_changed, each_less, in_middle}
use Rattle.run_theory.proofs.Tally.{tally_between, tally_in, tally_none}
use Rattle.run_theory.specs.Counts.{one_if, tally}
use Rattle.host_laws.proofs.coordinator.Commits.{is_chain}
use Rattle.host_laws.proofs.coordinator.Lives.{IsOwn, insert_new, is_keyed}
use Rattle.host_laws.proofs.coordinator.Owes.{IsKnown, Owes, Owing, TurnOwes, at_if, came_in, cont_in, owes_forms}
use Rattle.host_laws.proofs.coordinator.Owes.{waits}

in_split : {A : Type 0} (x y : A) (front back : List A) → IsIn x (front ++ y ∷ back) → IsIn x (front ++ back) ⊎ (x ≡ y)
in_split x y [] back (inl e) = inr e
in_split x y [] back (inr i) = inl i
in_split x y (z ∷ front) back (inl e) = inl (inl e)
in_split x y (z ∷ front) back (inr i) = go (in_split x y front back i)
  where
    go : IsIn x (front ++ back) ⊎ (x ≡ y) → IsIn x (z ∷ front ++ back) ⊎ (x ≡ y)
    go (inl j) = inl (inr j)
    go (inr e) = inr e

in_more : {A : Type 0} (x y : A) (front back : List A) → IsIn x (front ++ back) → IsIn x (front ++ y ∷ back)
in_more x y [] back i = inr i
in_more x y (z ∷ front) back (inl e) = inl e
in_more x y (z ∷ front) back (inr i) = inr (in_more x y front back i)

in_behind : {A : Type 0} (x y : A) (xs : List A) → IsIn x (xs ++ y ∷ []) → IsIn x xs ⊎ (x ≡ y)
in_behind x y [] (inl e) = inr e
in_behind x y [] (inr i) = absurd i
in_behind x y (z ∷ xs) (inl e) = inl (inl e)
in_behind x y (z ∷ xs) (inr i) = go (in_behind x y xs i)
  where
    go : IsIn x xs ⊎ (x ≡ y) → IsIn x (z ∷ xs) ⊎ (x ≡ y)
    go (inl j) = inl (inr j)
    go (inr e) = inr e

module _ (n : ℕ) (tx : TxId) where
  -- the transaction before the step, and what it waited for
  pub record OwesOf (s : TcState) (u : Transaction) (sends : List Outgoing) (k came : ℕ) (at : Option ℕ) : Type 0 where
    pub before : Transaction
    pub inside : IsIn (tx, before) s.live
    pub owes : Owes n tx before u sends k came at

  pub record StepOwes (s after : TcState) (sends : List Outgoing) (came : ℕ) (at : Option ℕ) : Type 0 where
    pub known : Each (λ (e : TxId × Transaction). IsKnown n e.1) after.live
    pub owes : (u : Transaction) (epoch k : ℕ) → IsIn (tx, u) after.live → u.phase ≡ Committing epoch k
        → OwesOf s u sends k came at

  -- nothing came for it at no turn, or one of another transaction
  no_turn : (body : Body) → is_turn body ≡ false → (came_in tx body ≡ 0) × (cont_in tx body ≡ None)
  no_turn (Host (Continue (work.Transaction one) a)) off = cc
  no_turn (Chain (Committed one key)) off = cc
  no_turn _ off = (refl, refl)

  other_turn : (body : Body) → same_tx (tx_in body) tx ≡ false → (came_in tx body ≡ 0) × (cont_in tx body ≡ None)
  other_turn (Host (Continue (work.Transaction one) a)) differs = (refl, ap (λ b. at_if b a) differs)
  other_turn (Chain (Committed one key)) differs = (ap one_if differs, refl)
  other_turn _ differs = (refl, refl)

  module _ (s : TcState) (body : Body) (known : Each (λ (e : TxId × Transaction). IsKnown n e.1) s.live)
      (once : tally (is_keyed tx) s.live ≤ 1)
      (own : Each (λ (e : TxId × Transaction). IsOwn s.node s.next_seq e.0) s.live)
      (good : (key : List ℕ) → is_chain n (chain_of s.layout key) ≡ true) where
    abbrev Steps : Step TcState → Type 0
    Steps step = StepOwes s step.state step.effects.sends (came_in tx body) (cont_in tx body)

    abbrev IsStill : Type 0
    IsStill = (came_in tx body ≡ 0) × (cont_in tx body ≡ None)

    -- one that took no turn
    others : (sends : List Outgoing) (u : Transaction) (epoch k : ℕ) → IsStill → IsIn (tx, u) s.live
        → u.phase ≡ Committing epoch k
        → OwesOf s u sends k (came_in tx body) (cont_in tx body)
    others sends u epoch k none i is =
        record { before = u; inside = i; owes = waits epoch k is none.1 (omega (arith, none.0)) refl }

    idle : (step other : Step TcState) → step ≡ other → other.state ≡ s → IsStill → Steps step
    idle step other is same none =
        let live_is : step.state.live ≡ s.live = ap (λ (x : Step TcState). x.state.live) is
        ∙ ap (λ (x : TcState). x.live) same in
        record {
          known = subst (Each (λ (e : TxId × Transaction). IsKnown n e.1)) (sym live_is) known;
          owes = λ u epoch k i on. others step.effects.sends u epoch k none (subst (IsIn (tx, u)) live_is i) on;
        }

    by : (step : Step TcState) → TcStep s body step → Steps step
    by step (rests off is) = idle step _ is refl (no_turn body off)
    by step (refuses name about is) = idle step _ is refl (no_turn body (ap is_turn about))
    by step (passes one ahead about is) = idle step _ is refl (no_turn body (ap is_turn about))
    by step (misses turns none is) =
        subst Steps (sym is)
        (record { known = known; owes = λ u epoch k i on. which (same_tx (tx_in body) tx) refl u epoch k i on })
      where
        which : (m : Bool) → same_tx (tx_in body) tx ≡ m → (u : Transaction) (epoch k : ℕ) → IsIn (tx, u) s.live
            → u.phase ≡ Committing epoch k
            → OwesOf s u [] k (came_in tx body) (cont_in tx body)
        which false differs u epoch k i on = others [] u epoch k (other_turn body differs) i on
        which true same u epoch k i on =
            let away = tally_none (is_keyed tx) s.live
            (subst (λ x. AreOthers x s.live) (same_tx-is (tx_in body) tx same) none) in
            absurd (omega (arith, tally_in (is_keyed tx) (tx, u) s.live i (same_tx-self tx), away))
    by step (begins name about room is) =
        subst Steps (sym is)
        (record {
          known = subst (Each (λ (z : TxId × Transaction). IsKnown n z.1)) (sym last)
              (each_append (λ (z : TxId × Transaction). IsKnown n z.1) s.live ((next_tx s, fresh) ∷ []) known
              (fresh_known, tt));
          owes = λ u epoch k i on. which u epoch k on
              (in_behind (tx, u) (next_tx s, fresh) s.live (subst (IsIn (tx, u)) last i));
        })
      where
        last : insert_entry same_tx s.live (next_tx s) fresh ≡ s.live ++ (next_tx s, fresh) ∷ []
        last = insert_new s.live (next_tx s) fresh
            (each_map (λ (x : TxId × Transaction). IsOwn s.node s.next_seq x.0)
            (λ (x : TxId × Transaction). x.0.seq < s.next_seq) s.live (λ x o. o.early) own)

        open_phase : (epoch k : ℕ) → Open ≡ Committing epoch k → ⊥
        open_phase epoch k is = cc

        fresh_known : IsKnown n fresh
        fresh_known = record {
          chains = tt;
          few = omega arith;
          asked = λ a e. absurd (no_some a e);
          some =
              λ epoch k is. absurd (open_phase epoch k is);
        }
          where
            no_some : (a : Asked) → None ≡ Some a → ⊥
            no_some a e = cc

        which : (u : Transaction) (epoch k : ℕ) → u.phase ≡ Committing epoch k
            → IsIn (tx, u) s.live ⊎ (◌≡◌ {A = TxId × Transaction} (tx, u) (next_tx s, fresh))
            → OwesOf s u (begin_if s name false).effects.sends k (came_in tx body) (cont_in tx body)
        which u epoch k on (inl i) = others _ u epoch k (no_turn body (ap is_turn about)) i on
        which u epoch k on (inr same) =
            absurd (open_phase epoch k (ap (λ (z : TxId × Transaction). z.1.phase) (sym same) ∙ on))
    by step (takes turns t front back was is) = subst Steps (sym is) (over turn.over refl)
      where
        one : TxId
        one = tx_in body

        turn : Turn
        turn = turn_row s body t

        known_was : IsKnown n t
        known_was = each_at (λ (e : TxId × Transaction). IsKnown n e.1) front (one, t) back s.live was known

        home : s.node ≡ one.tc
        home = sym (each_at (λ (e : TxId × Transaction). IsOwn s.node s.next_seq e.0) front
            (one, t) back s.live was own).home

        owing : TurnOwes n one t turn (came_in one body) (cont_in one body)
        owing =
            turn_by s t (Owing n one t known_was body) body
            (rows_at s.node s.layout one t body (Owing n one t known_was body)
            (owes_forms n one t known_was body s.node s.layout home good))
            (λ off. absurd (false≢true (sym off ∙ turns)))

        -- no two are of one number
        rest : (u : Transaction) (epoch k : ℕ) (m : Bool) → same_tx one tx ≡ m → IsIn (tx, u) (front ++ back)
            → u.phase ≡ Committing epoch k
            → OwesOf s u turn.step.effects.sends k (came_in tx body) (cont_in tx body)
        rest u epoch k true same i on =
            absurd (omega (
              arith,
              once,
              tally_between (is_keyed tx) front (one, t) back s.live was,
              tally_in (is_keyed tx) (tx, u) (front ++ back) i (same_tx-self tx),
              ap one_if same,
            ))
        rest u epoch k false differs i on =
            others _ u epoch k (other_turn body differs)
            (subst (IsIn (tx, u)) (sym was) (in_more (tx, u) (one, t) front back i)) on

        over : (b : Bool) → turn.over ≡ b → Steps (left_if s one front back turn b)
        over true e = record {
          known = each_less (λ (z : TxId × Transaction). IsKnown n z.1) front (one, t) back s.live was known;
          owes = λ u epoch k i on. rest u epoch k (same_tx one tx) refl i on;
        }
        over false e = record {
          known = each_changed (λ (z : TxId × Transaction). IsKnown n z.1) front (one, t)
              (one, turn.step.state) back s.live was known (λ r. owing.known);
          owes = λ u epoch k i on. which u epoch k on (in_split (tx, u) (one, turn.step.state) front back i);
        }
          where
            which : (u : Transaction) (epoch k : ℕ) → u.phase ≡ Committing epoch k
                → IsIn (tx, u) (front ++ back) ⊎ (◌≡◌ {A = TxId × Transaction} (tx, u) (one, turn.step.state))
                → OwesOf s u turn.step.effects.sends k (came_in tx body) (cont_in tx body)
            which u epoch k on (inl i) = rest u epoch k (same_tx one tx) refl i on
            which u epoch k on (inr same) =
                let is_one : tx ≡ one = ap (λ (z : TxId × Transaction). z.0) same in
                let value_is : u ≡ turn.step.state = ap (λ (z : TxId × Transaction). z.1) same in
                let mine : TurnOwes n tx t turn (came_in tx body) (cont_in tx body) =
                subst (λ x. TurnOwes n x t turn (came_in x body) (cont_in x body)) (sym is_one) owing in
                record {
                  before = t;
                  inside = subst (IsIn (tx, t)) (sym was)
                      (subst (λ x. IsIn (tx, t) (front ++ (x, t) ∷ back)) is_one (in_middle front (tx, t) back));
                  owes = subst (λ v. Owes n tx t v turn.step.effects.sends k (came_in tx body) (cont_in tx body))
                      (sym value_is)
                      (mine.owes epoch k e (ap (λ (v : Transaction). v.phase) (sym value_is) ∙ on));
                }

    pub tc_owes : StepOwes s (tc_table s body).state (tc_table s body).effects.sends (came_in tx body) (cont_in tx body)
    tc_owes = by (tc_table s body) (tc_step s body)
