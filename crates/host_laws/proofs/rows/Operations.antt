-- A request for an operation is answered, passed on or waits, at each replica.
use Rattle.std.proofs.Common.{◌≡◌, ℕ, zero, suc, ◌+◌, ◌≤◌, List, [], ◌∷◌, Bool, true, false, refl, ap, sym, subst}
use Rattle.std.proofs.Common.{arith}
use Rattle.std.specs.Prelude.{◌==◌, ◌&&◌, nat_lt, slice_get, Some}
use Rattle.std.specs.List.{list_all}
use Rattle.std.proofs.lemmas.Bool.{false≢true}
use Rattle.sig_core.specs.declared.member.Member.{Member}
use Rattle.sig_core.specs.declared.member.TxId.{TxId}
use Rattle.sig_core.specs.declared.outcome.AbortCause.{AbortCause}
use Rattle.sig_core.specs.declared.outs.Outgoing.{Outgoing}
use Rattle.sig_core.specs.declared.place.BlockId.{BlockId}
use Rattle.sig_core.specs.declared.place.BlockId.TheVariants as block
use Rattle.sig_core.specs.declared.place.Place.{Place}
use Rattle.sig_core.specs.declared.signal.Body.{Body}
use Rattle.sig_core.specs.declared.signal.Body.TheVariants.{Chain}
use Rattle.sig_core.specs.declared.signal.chain.ChainSignal.TheVariants.{LqhKeyReq, LqhKeyConf, LqhKeyRef}
use Rattle.sig_core.specs.Same.{same_key, same_tx}
use Rattle.sig_core.specs.Work.{work_key}
use Rattle.lqh_block.specs.declared.request.Request.{Request}
use Rattle.lqh_block.specs.Lqh.{lqh_table}
use Rattle.lqh_block.specs.State.{LqhState}
use Rattle.lqh_block.specs.Storage as storage
use Rattle.lqh_block.specs.Storage.{StorageState}
use Rattle.lqh_block.specs.Work.{is_for}
use Rattle.row_records.proofs.KeyLemmas.{same as same_key-is}
use Rattle.lqh_block.proofs.LqhForms.{perform_forms}
use Rattle.host_laws.proofs.rows.RequestCounts.{CountStep, asked_by, count_step, ends, is_work, performs, refuses}
use Rattle.host_laws.proofs.rows.RequestCounts.{rests}
use Rattle.host_laws.proofs.coordinator.Moves.{same_tx-is}
use Rattle.host_laws.proofs.coordinator.Sends.{eqb-self}
use Rattle.host_laws.proofs.api.Wishes.{is_tc, sends_of}
use Rattle.run_theory.specs.Counts.{one_if, tally}

abbrev pub is_lqh : BlockId → Bool
is_lqh block.Lqh = true
is_lqh _ = false

-- a node, of the hosts below n
abbrev pub is_node : ℕ → ℕ → Bool
is_node n node = nat_lt 0 node && nat_lt node n

-- a chain of nodes
abbrev pub is_good : ℕ → List Member → Bool
is_good n chain = list_all (λ m. is_node n m.node) chain

-- the request is the transaction's for the key, along a chain of nodes
abbrev pub is_mine : ℕ → TxId → List ℕ → Request → Bool
is_mine n tx key r = same_tx r.tx tx && (same_key (work_key r.work) key && is_good n r.chain)

-- a request for an operation of the transaction on the key, or its answer
abbrev pub is_op : ℕ → TxId → List ℕ → Place → Body → Bool
is_op n tx key to (Chain (LqhKeyReq other what chain at)) = (is_lqh to.block && is_node n to.node)
    && is_mine n tx key (record { tx = other; work = what; chain = chain; at = at })
is_op n tx key to (Chain (LqhKeyConf other at answer)) = (is_tc to.block && (to.node == tx.tc))
    && (same_tx other tx && same_key at key)
is_op n tx key to (Chain (LqhKeyRef other at cause)) = (is_tc to.block && (to.node == tx.tc))
    && (same_tx other tx && same_key at key)
is_op n tx key to _ = false

pub true_and : (a b : Bool) → a ≡ true → b ≡ true → (a && b) ≡ true
true_and true b p q = q
true_and false b p q = cc

pub left_of : (a b : Bool) → (a && b) ≡ true → a ≡ true
left_of true b e = refl
left_of false b e = e

pub right_of : (a b : Bool) → (a && b) ≡ true → b ≡ true
right_of true b e = e
right_of false b e = cc

all_get : (n : ℕ) (chain : List Member) (at : ℕ) (next : Member) → is_good n chain ≡ true
    → slice_get chain at ≡ Some next → is_node n next.node ≡ true
all_get n [] at next good e = cc
all_get n (m ∷ chain) zero next good e =
    let same : m ≡ next = cc in
    subst (λ (x : Member). is_node n x.node ≡ true) same (left_of (is_node n m.node) (is_good n chain) good)
all_get n (m ∷ chain) (suc at) next good e = all_get n chain
    at next (right_of (is_node n m.node) (is_good n chain) good) e

module _ (n : ℕ) (tx : TxId) (key : List ℕ) where
  -- how many of these signals are such
  abbrev pub ops : List Outgoing → ℕ
  ops sends = sends_of (is_op n tx key) sends

  abbrev pub mine : Request → Bool
  mine r = is_mine n tx key r

  -- an answer counts where the request did
  answered : (other : TxId) (at : List ℕ) → (same_tx other tx && same_key at key) ≡ true
      → ((other.tc == tx.tc) && (same_tx other tx && same_key at key)) ≡ true
  answered other at e =
      true_and (other.tc == tx.tc) (same_tx other tx && same_key at key)
      (subst (λ (t : TxId). (t.tc == tx.tc) ≡ true)
      (sym (same_tx-is other tx (left_of (same_tx other tx) (same_key at key) e))) (eqb-self tx.tc)) e

  without_chain : (a b c : Bool) → (a && (b && c)) ≡ true → (a && b) ≡ true
  without_chain true true c e = refl
  without_chain true false c e = cc
  without_chain false b c e = e

  -- what is performed is answered, refused or passed on
  perform_ops : (s : StorageState) (r : Request) → one_if (mine r) ≤ ops (storage.perform s r).effects.sends
  perform_ops s r = by (mine r) refl
    where
      by : (b : Bool) → mine r ≡ b → one_if b ≤ ops (storage.perform s r).effects.sends
      by false e = omega arith
      by true e =
          perform_forms (λ step. 1 ≤ ops step.effects.sends) s r (record {
            log_full = λ used reserved need. told;
            table_full = λ rows. told;
            answers = λ a. told;
            passes = λ image next is. omega (
              arith,
              ap one_if (true_and (is_node n next.node) (mine r) (all_get n r.chain (r.at + 1) next good is) e),
            );
            ends = λ image is. told;
          })
        where
          told : 1 ≤ one_if ((r.tx.tc == tx.tc) && (same_tx r.tx tx && same_key (work_key r.work) key)) + 0
          told = omega (
            arith,
            ap one_if (answered r.tx (work_key r.work)
                (without_chain (same_tx r.tx tx) (same_key (work_key r.work) key) (is_good n r.chain) e)),
          )

          good : is_good n r.chain ≡ true
          good =
              right_of (same_key (work_key r.work) key) (is_good n r.chain)
              (right_of (same_tx r.tx tx) (same_key (work_key r.work) key && is_good n r.chain) e)

  -- so is what is refused
  refused_ops : (other : TxId) (at_key : List ℕ) (why : AbortCause) (r : Request) → is_for other at_key r ≡ true
      → one_if (mine r) ≤ ops (storage.refusal other at_key why ∷ [])
  refused_ops other at_key why r passes = by (mine r) refl
    where
      one : r.tx ≡ other
      one = same_tx-is r.tx other (left_of (same_tx r.tx other) (same_key (work_key r.work) at_key) passes)

      is_key : work_key r.work ≡ at_key
      is_key = same_key-is (work_key r.work) at_key
          (right_of (same_tx r.tx other) (same_key (work_key r.work) at_key) passes)

      by : (b : Bool) → mine r ≡ b → one_if b ≤ ops (storage.refusal other at_key why ∷ [])
      by false e = omega arith
      by true e =
          let both = without_chain (same_tx r.tx tx) (same_key (work_key r.work) key) (is_good n r.chain) e in
          let here : (same_tx other tx && same_key at_key key) ≡ true =
          subst (λ k. (same_tx other tx && same_key k key) ≡ true) is_key
          (subst (λ t. (same_tx t tx && same_key (work_key r.work) key) ≡ true) one both) in
          omega (arith, ap one_if (answered other at_key here))

  only_work : (to : Place) (body : Body) → is_work body ≡ false → is_op n tx key to body ≡ false
  only_work to (Chain (LqhKeyReq other what chain at)) e = absurd (false≢true (sym e))
  only_work to (Chain (LqhKeyConf other at answer)) e = absurd (false≢true (sym e))
  only_work to (Chain (LqhKeyRef other at why)) e = absurd (false≢true (sym e))
  only_work to _ e = refl

  -- what comes to the rows of a node
  abbrev pub came_of : Body → ℕ
  came_of body = asked_by mine body

  -- what waited and came still waits, or is told
  pub lqh_ops : (s : LqhState) (body : Body)
      → tally mine s.waiting + came_of body
      ≤ tally mine (lqh_table s body).state.waiting + ops (lqh_table s body).effects.sends
  lqh_ops s body = by (count_step mine (λ (o : Outgoing). is_op n tx key o.to o.body)
      (λ o e. only_work o.to o.body e) s body)
    where
      by : CountStep mine (λ (o : Outgoing). is_op n tx key o.to o.body) s (came_of body) (lqh_table s body)
          → tally mine s.waiting + came_of body
          ≤ tally mine (lqh_table s body).state.waiting + ops (lqh_table s body).effects.sends
      by (performs st r waits sends) = omega (arith, waits, sends, perform_ops st r)
      by (refuses other at_key why r passes waits sends) =
          omega (arith, waits, sends, refused_ops other at_key why r passes)
      by (ends other at_key queued none waits sends) = omega (arith, waits)
      by (rests waits sends) = omega (arith, waits)
