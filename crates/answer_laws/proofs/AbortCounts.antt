-- Aborts of a transaction and their answers, signal by signal.
use Rattle.std.proofs.Common.{◌≡◌, ◌≢◌, ℕ, ◌+◌, ◌≤◌, ◌<◌, List, [], ◌∷◌, Bool, true, false, refl, ap, sym, ◌∙◌, subst}
use Rattle.std.proofs.Common.{arith}
use Rattle.std.specs.Prelude.{◌==◌, ◌&&◌, nat_lt}
use Rattle.std.proofs.lemmas.Bool.{eq-eqb, eqb-true}
use Rattle.std.proofs.lemmas.Bool.Decides.{nat_tests}
use Rattle.lqh_block.specs.Abort.{abort_row}
use Rattle.lqh_block.proofs.LqhForms.{abort_forms}
use Rattle.lqh_block.specs.Lqh.{lqh_table}
use Rattle.lqh_block.specs.State.{LqhState}
use Rattle.sig_core.specs.declared.member.TxId.{TxId}
use Rattle.sig_core.specs.declared.outs.Outgoing.{Outgoing}
use Rattle.sig_core.specs.declared.place.Place.{Place}
use Rattle.sig_core.specs.declared.signal.Body.{Body}
use Rattle.sig_core.specs.declared.signal.Body.TheVariants.{Host, Chain}
use Rattle.sig_core.specs.declared.signal.chain.ChainSignal.TheVariants.{Abort, Aborted}
use Rattle.sig_core.specs.declared.signal.host.HostSignal.TheVariants.{Continue}
use Rattle.sig_core.specs.declared.signal.host.Work.TheVariants as work
use Rattle.sig_core.specs.Same.{same_tx}
use Rattle.world_core.specs.Hosts.{home, host_for, first_hosts}
use Rattle.world_core.specs.Start.{Start}
use Rattle.run_laws.proofs.hosts.AlongSteps.{home_place}
use Rattle.host_laws.proofs.hosts.BlocksAlong.{reaches}
use Rattle.host_laws.proofs.hosts.LinkCounts.{to_host}
use Rattle.host_laws.proofs.rows.Operations.{is_lqh, is_node, left_of, right_of, true_and}
use Rattle.run_theory.proofs.Tally.{and_few}
use Rattle.run_theory.specs.Counts.{one_if}
use Rattle.answer_laws.proofs.TcAborts.{aborted_body, is_abort}
use Rattle.host_laws.proofs.hosts.PartCounts.{is_cont}
use Rattle.host_laws.proofs.coordinator.Moves.{same_tx-is}
use Rattle.host_laws.proofs.coordinator.Sends.{eqb-self}
use Rattle.tc_block.proofs.TurnRows.{tx_in, is_turn}
use Rattle.host_laws.proofs.api.Wishes.{is_tc, sends_of}

-- what came to the rows of a node
abbrev pub abort_body : TxId → Body → Bool
abort_body tx (Chain (Abort other key)) = same_tx other tx
abort_body tx _ = false

-- a replica answers an abort
pub lqh_aborts : (n : ℕ) (tx : TxId) (s : LqhState) (body : Body)
    → one_if (abort_body tx body) ≤ sends_of (is_abort n tx) (lqh_table s body).effects.sends
lqh_aborts n tx s (Chain (Abort other key)) = by (same_tx other tx) refl
  where
    by : (b : Bool) → same_tx other tx ≡ b
        → one_if (same_tx other tx) ≤ sends_of (is_abort n tx) (abort_row s other key).effects.sends
    by false e = omega (arith, ap one_if e)
    by true e =
        abort_forms (λ step. one_if (same_tx other tx) ≤ sends_of (is_abort n tx) step.effects.sends) s other key
        (record {
          none = λ had st gives none. omega (arith, ap one_if e, ap one_if told);
          some = λ had st gives at r there here. omega (arith, ap one_if e, ap one_if told);
        })
      where
        told : ((other.tc == tx.tc) && same_tx other tx) ≡ true
        told =
            true_and (other.tc == tx.tc) (same_tx other tx)
            (subst (λ (t : TxId). (t.tc == tx.tc) ≡ true) (sym (same_tx-is other tx e)) (eqb-self tx.tc)) e
lqh_aborts n tx s _ = omega arith

pub few_rows : (n : ℕ) (tx : TxId) (to : Place) (body : Body) → is_tc to.block ≡ false
    → one_if (is_abort n tx to body) ≤ one_if (abort_body tx body)
few_rows n tx to (Chain (Abort other key)) e = and_few (is_lqh to.block && is_node n to.node) _
few_rows n tx to (Chain (Aborted other key)) e =
    omega (arith, ap (λ b. one_if ((b && (to.node == tx.tc)) && same_tx other tx)) e)
few_rows n tx to _ e = omega arith

pub few_answers : (n : ℕ) (tx : TxId) (to : Place) (body : Body) → is_lqh to.block ≡ false
    → one_if (is_abort n tx to body) ≤ one_if (aborted_body tx body)
few_answers n tx to (Chain (Abort other key)) e =
    omega (arith, ap (λ b. one_if ((b && is_node n to.node) && same_tx other tx)) e)
few_answers n tx to (Chain (Aborted other key)) e = and_few (is_tc to.block && (to.node == tx.tc)) _
few_answers n tx to _ e = omega arith

-- it is for rows of a node, or for the transaction's coordinator
pub none_at : (n : ℕ) (tx : TxId) (to : Place) (body : Body) → ((is_lqh to.block && is_node n to.node) ≡ true → ⊥)
    → ((is_tc to.block && (to.node == tx.tc)) ≡ true → aborted_body tx body ≡ true → ⊥)
    → is_abort n tx to body ≡ false
none_at n tx to (Chain (Abort other key)) p q = by (is_lqh to.block && is_node n to.node) refl
  where
    by : (b : Bool) → (is_lqh to.block && is_node n to.node) ≡ b
        → ((is_lqh to.block && is_node n to.node) && same_tx other tx) ≡ false
    by true e = absurd (p e)
    by false e = ap (λ b. b && same_tx other tx) e
none_at n tx to (Chain (Aborted other key)) p q = by (is_tc to.block && (to.node == tx.tc)) (same_tx other tx) refl refl
  where
    by : (a b : Bool) → (is_tc to.block && (to.node == tx.tc)) ≡ a → same_tx other tx ≡ b
        → ((is_tc to.block && (to.node == tx.tc)) && same_tx other tx) ≡ false
    by true true e f = absurd (q e f)
    by true false e f = ap (λ a. a && same_tx other tx) e ∙ f
    by false b e f = ap (λ a. a && same_tx other tx) e
none_at n tx to _ p q = refl

pub abort_low : (start : Start) (tx : TxId) → tx.tc ≤ start.shape.nodes → (to : Place) (body : Body)
    → is_abort (start.shape.nodes + 1) tx to body ≡ true → host_for start to < first_hosts start
abort_low start tx low to (Chain (Abort other key)) e =
    let node = right_of (is_lqh to.block) (is_node (start.shape.nodes + 1) to.node)
    (left_of (is_lqh to.block && is_node (start.shape.nodes + 1) to.node) _ e) in
    let under : to.node < start.shape.nodes + 1 =
    grind (arith, nat_tests, right_of (nat_lt 0 to.node) (nat_lt to.node (start.shape.nodes + 1)) node) in
    reaches start to (omega (arith, under))
abort_low start tx low to (Chain (Aborted other key)) e =
    reaches start to (omega (
      arith,
      low,
      eqb-true to.node tx.tc
          (right_of (is_tc to.block) (to.node == tx.tc) (left_of (is_tc to.block && (to.node == tx.tc)) _ e)),
    ))
abort_low start tx low to _ e = cc

-- an answer, or the signal to go on, is a turn of the transaction
pub answer_turn : (tx : TxId) (body : Body) → aborted_body tx body ≡ true → (is_turn body ≡ true) × (tx_in body ≡ tx)
answer_turn tx (Chain (Aborted other key)) e = (refl, same_tx-is other tx e)
answer_turn tx _ e = cc

pub cont_turn : (tx : TxId) (a : ℕ) (to : Place) (body : Body) → is_cont tx a to body ≡ true
    → (is_turn body ≡ true) × (tx_in body ≡ tx)
cont_turn tx a to (Host (Continue (work.Transaction other) at)) e = (
  refl,
  same_tx-is other tx (left_of (same_tx other tx) (at == a)
      (right_of (is_tc to.block && (to.node == tx.tc)) (same_tx other tx && (at == a)) e)),
)
cont_turn tx a to _ e = cc

pub cont_place : (tx : TxId) (a at : ℕ) (to : Place) → a ≢ at
    → is_cont tx a to (Host (Continue (work.Transaction tx) at)) ≡ false
cont_place tx a at to differs = by (at == a) refl (is_tc to.block && (to.node == tx.tc)) (same_tx tx tx)
  where
    by : (x : Bool) → (at == a) ≡ x → (y z : Bool) → (y && (z && x)) ≡ false
    by true e y z = absurd (differs (sym (eqb-true at a e)))
    by false e true true = refl
    by false e true false = refl
    by false e false z = refl

-- what goes on from a coordinator goes to itself
pub conts_few : (start : Start) (tx : TxId) (a : ℕ) (xs : List Outgoing)
    → sends_of (is_cont tx a) xs ≤ sends_of (to_host start (home start tx) (is_cont tx a)) xs
conts_few start tx a [] = omega arith
conts_few start tx a (o ∷ xs) = omega (arith, conts_few start tx a xs, one o.to o.body (is_cont tx a o.to o.body) refl)
  where
    at_self : (to : Place) (body : Body) → is_cont tx a to body ≡ true → (host_for start to == home start tx) ≡ true
    at_self to (Host (Continue (work.Transaction other) at)) e =
        eq-eqb _ _ (home_place start tx to (left_of (is_tc to.block && (to.node == tx.tc))
        (same_tx other tx && (at == a)) e))
    at_self to _ e = cc

    one : (to : Place) (body : Body) (b : Bool) → is_cont tx a to body ≡ b
        → one_if (is_cont tx a to body) ≤ one_if ((host_for start to == home start tx) && is_cont tx a to body)
    one to body false e = omega (arith, ap one_if e)
    one to body true e = omega (
      arith,
      ap one_if
          (true_and (host_for start to == home start tx) (is_cont tx a to body) (at_self to body e) e),
      ap one_if e,
    )
