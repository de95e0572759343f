-- What a step of a coordinator does to one transaction: it takes its turn, begins, or is left alone.
use Rattle.std.proofs.Common.{◌≡◌, ℕ, ◌≤◌, ◌<◌, [], ◌∷◌, ◌++◌, Bool, true, false, refl, ap, sym, ◌∙◌, subst, arith}
use Rattle.std.proofs.lemmas.Bool.{and_parts, false≢true}
use Rattle.std.specs.Prelude.{◌&&◌, None, Some, if◌then◌else◌}
use Rattle.indexmap.specs.IndexMap.{insert_entry}
use Rattle.run_theory.specs.Lists.{Each}
use Rattle.run_theory.proofs.Pasts.{each_map}
use Rattle.sig_core.specs.declared.member.TxId.{TxId}
use Rattle.sig_core.specs.declared.outs.Outgoing.{Outgoing}
use Rattle.sig_core.specs.declared.signal.Body.{Body}
use Rattle.sig_core.specs.Same.{same_tx}
use Rattle.sig_core.specs.Step.{Step}
use Rattle.sig_core.proofs.Keys.{same_tx-self}
use Rattle.sig_core.proofs.TxLemmas.{same_tx-is}
use Rattle.frag_map.specs.Layout.{Layout}
use Rattle.tc_block.specs.declared.transaction.Transaction.{Transaction}
use Rattle.tc_block.specs.Operate.{fresh}
use Rattle.tc_block.specs.State.{TcState}
use Rattle.tc_block.specs.Tc.{begin_if, next_tx, tc_table}
use Rattle.tc_block.specs.Turn.{Turn}
use Rattle.tc_block.proofs.EachTurn.{RowsAre}
use Rattle.tc_block.proofs.LiveKeeps.{SendsBeside}
use Rattle.tc_block.proofs.LiveSplit.{AreOthers}
use Rattle.tc_block.proofs.TurnRows.{TcStep, begins as begins_one, is_turn, misses, passes, refuses, rests, takes}
use Rattle.tc_block.proofs.TurnRows.{tc_step, turn_for, turn_row, turn_with, tx_in, left_step}
use Rattle.run_theory.specs.Counts.{one_if, tally}
use Rattle.host_laws.specs.Live.{of_live}
use Rattle.host_laws.proofs.coordinator.OfLive.{of_here, of_other}
use Rattle.run_theory.proofs.Tally.{tally_append, tally_between, tally_none}
use Rattle.host_laws.proofs.coordinator.Lives.{IsOwn, insert_new, is_keyed}
use Rattle.host_laws.proofs.coordinator.Steps.{left_of_turn, live_none}
use Rattle.run_laws.proofs.hosts.LiveAfter.{live_end, unborn_none}

-- the signal is one for the transaction
abbrev pub is_for : TxId → Body → Bool
is_for tx body = is_turn body && same_tx (tx_in body) tx

-- what holds of what the transaction does by each row holds of the turn
pub turn_each : (node : ℕ) (layout : Layout) (tx : TxId) (body : Body) (t : Transaction) (R : Turn → Type 0)
    → RowsAre node layout tx t body R → is_for tx body ≡ true → R (turn_for node layout tx body t)
turn_each node layout tx body t R rows is =
    let both = and_parts (is_turn body) (same_tx (tx_in body) tx) is in
    turn_with node layout tx body t R rows (same_tx-is (tx_in body) tx both.1)
    (λ off. absurd (false≢true (sym off ∙ both.0)))

-- what is sent where transactions other than this one take a turn is so
abbrev pub OthersSend : (P : Outgoing → Type 0) → TxId → TcState → Body → Type 0
OthersSend P tx s body =
    (one : TxId) → same_tx one tx ≡ false → is_for one body ≡ true → (t : Transaction)
    → Each P (turn_for s.node s.layout one body t).step.effects.sends

-- A step of the coordinator leaves the transaction alone, and sends only what is so; or it begins it, or gives it a
-- turn.
pub data TcTurn (P : Outgoing → Type 0) (tx : TxId) (s : TcState) (body : Body) (step : Step TcState) : Type 0 where
  idle : of_live tx step.state.live ≡ of_live tx s.live → Each P step.effects.sends
      → (is_for tx body ≡ true → of_live tx s.live ≡ None)
      → TcTurn P tx s body step
  begins : next_tx s ≡ tx → of_live tx step.state.live ≡ Some fresh → Each P step.effects.sends → is_for tx body ≡ false
      → TcTurn P tx s body step
  turns : (t : Transaction) → of_live tx s.live ≡ Some t → is_for tx body ≡ true
      → step.effects.sends ≡ (turn_for s.node s.layout tx body t).step.effects.sends
      → of_live tx step.state.live ≡ left_of_turn (turn_for s.node s.layout tx body t) → TcTurn P tx s body step

module _ (P : Outgoing → Type 0) (tx : TxId) (s : TcState) (beside : SendsBeside P s)
    (own : Each (λ (e : TxId × Transaction). IsOwn s.node s.next_seq e.0) s.live)
    (once : tally (is_keyed tx) s.live ≤ 1) where
  module _ (body : Body) (others : OthersSend P tx s body) where
    abbrev Goes : Step TcState → Type 0
    Goes step = TcTurn P tx s body step

    -- nothing comes of it
    quiet : (step other : Step TcState) → step ≡ other → other.state ≡ s → Each P other.effects.sends
        → (is_for tx body ≡ true → of_live tx s.live ≡ None)
        → Goes step
    quiet step other is same sent deaf =
        subst Goes (sym is) (idle (ap (λ (x : TcState). of_live tx x.live) same) sent deaf)

    -- the signal is for no transaction
    no_turn : is_turn body ≡ false → is_for tx body ≡ true → of_live tx s.live ≡ None
    no_turn off is = absurd (false≢true (sym off ∙ (and_parts (is_turn body) (same_tx (tx_in body) tx) is).0))

    -- or for another one
    off_turn : same_tx (tx_in body) tx ≡ false → is_for tx body ≡ true → of_live tx s.live ≡ None
    off_turn differs is = absurd (false≢true (sym differs ∙ (and_parts (is_turn body) (same_tx (tx_in body) tx) is).1))

    by : (step : Step TcState) → TcStep s body step → Goes step
    by step (rests off is) = quiet step _ is refl tt (no_turn off)
    by step (refuses name about is) = quiet step _ is refl (beside.full name) (no_turn (ap is_turn about))
    by step (passes one ahead about is) = quiet step _ is refl (beside.passes one ahead) (no_turn (ap is_turn about))
    by step (misses turn none is) =
        quiet step _ is refl tt
        (λ own. live_none tx s.live (tally_none (is_keyed tx) s.live
        (subst (λ x. AreOthers x s.live)
        (same_tx-is (tx_in body) tx (and_parts (is_turn body) (same_tx (tx_in body) tx) own).1) none)))
    by step (begins_one name about room is) = subst Goes (sym is) (which (same_tx (next_tx s) tx) refl)
      where
        last : insert_entry same_tx s.live (next_tx s) fresh ≡ s.live ++ (next_tx s, fresh) ∷ []
        last =
            insert_new s.live (next_tx s) fresh
            (each_map (λ (x : TxId × Transaction). IsOwn s.node s.next_seq x.0)
            (λ (x : TxId × Transaction). x.0.seq < s.next_seq) s.live
            (λ x o. o.early) own)

        which : (m : Bool) → same_tx (next_tx s) tx ≡ m → Goes (begin_if s name false)
        which true m =
            let is : next_tx s ≡ tx = same_tx-is (next_tx s) tx m in
            begins is
            (ap (of_live tx) last
            ∙ of_here tx (next_tx s) fresh s.live []
            (unborn_none tx s.node s.next_seq s.live own (omega (arith, ap (λ (v : TxId). v.seq) is))) m)
            (beside.begins name) (ap (is_for tx) about)
        which false m =
            idle (ap (of_live tx) last ∙ live_end tx (next_tx s) fresh s.live m) (beside.begins name)
            (no_turn (ap is_turn about))
    by step (takes turn t front back was is) = subst Goes (sym is) (which (same_tx one tx) refl)
      where
        one : TxId
        one = tx_in body

        row : Turn
        row = turn_row s body t

        -- what is left of it
        left : (b : Bool) → of_live tx (front ++ back) ≡ None → same_tx one tx ≡ true → tally (is_keyed tx) front ≡ 0
            → of_live tx (if b then front ++ back else front ++ (one, row.step.state) ∷ back)
            ≡ (if b then None else Some row.step.state)
        left true gone own none = gone
        left false gone own none = of_here tx one row.step.state front back none own

        other : (b : Bool) → same_tx one tx ≡ false
            → of_live tx (if b then front ++ back else front ++ (one, row.step.state) ∷ back)
            ≡ of_live tx (front ++ back)
        other true differs = refl
        other false differs = of_other front back one tx row.step.state differs

        which : (m : Bool) → same_tx one tx ≡ m
            → Goes (left_step s one front back row)
        which false differs =
            idle (other row.over differs ∙ sym (ap (of_live tx) was ∙ of_other front back one tx t differs))
            (others one differs (ap (λ b. b && same_tx one one) turn ∙ same_tx-self one) t) (off_turn differs)
        which true own =
            let counted = tally_between (is_keyed tx) front (one, t) back s.live was in
            let rest : tally (is_keyed tx) (front ++ back) ≡ 0 = omega (arith, once, counted, ap one_if own) in
            let none : tally (is_keyed tx) front ≡ 0 = omega (arith, rest, tally_append (is_keyed tx) front back) in
            let is : one ≡ tx = same_tx-is one tx own in
            turns t (ap (of_live tx) was ∙ of_here tx one t front back none own)
            (ap (λ b. b && same_tx one tx) turn ∙ own)
            (ap (λ v. (turn_for s.node s.layout v body t).step.effects.sends) is)
            (left row.over (live_none tx (front ++ back) rest) own none
            ∙ ap (λ v. left_of_turn (turn_for s.node s.layout v body t)) is)

  pub tc_turn : (body : Body) → OthersSend P tx s body → TcTurn P tx s body (tc_table s body)
  tc_turn body others = by body others (tc_table s body) (tc_step s body)
