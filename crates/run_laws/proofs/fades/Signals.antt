-- The signals by which one transaction is committed and completed.
use Rattle.std.proofs.Common.{◌≡◌, ℕ, ◌-◌, ◌≤◌, ◌<◌, List, Bool, true, false, refl, ap, arith}
use Rattle.std.specs.Prelude.{◌==◌, ◌&&◌, nat_le, if◌then◌else◌}
use Rattle.std.proofs.lemmas.Bool.Decides.{nat_tests}
use Rattle.sig_core.specs.declared.member.Member.{Member}
use Rattle.sig_core.specs.declared.member.TxId.{TxId}
use Rattle.sig_core.specs.declared.place.Place.{Place}
use Rattle.sig_core.specs.declared.signal.Body.{Body}
use Rattle.sig_core.specs.declared.signal.Body.TheVariants.{Host, Client, Chain}
use Rattle.sig_core.specs.declared.signal.chain.ChainSignal.TheVariants.{Commit, Committed, Complete}
use Rattle.sig_core.specs.declared.signal.client.ClientSignal.TheVariants.{TcCommitConf}
use Rattle.sig_core.specs.declared.signal.host.HostSignal.TheVariants.{Continue}
use Rattle.sig_core.specs.declared.signal.host.Work.TheVariants as work
use Rattle.sig_core.specs.Same.{same_key, same_tx}
use Rattle.node_core.specs.Requests.{is_request}
use Rattle.host_laws.proofs.coordinator.Ways.{not_both}
use Rattle.host_laws.proofs.rows.Operations.{is_lqh}
use Rattle.run_theory.specs.Counts.{one_if}
use Rattle.host_laws.proofs.api.Wishes.{is_tc}

-- it commits or completes a row of the transaction, or its coordinator goes on with that
abbrev pub is_part : TxId → Body → Bool
is_part tx (Chain (Commit other key epoch chain at)) = same_tx other tx
is_part tx (Chain (Committed other key)) = same_tx other tx
is_part tx (Chain (Complete other key chain at)) = same_tx other tx
is_part tx (Host (Continue (work.Transaction other) at)) = same_tx other tx
is_part tx _ = false

-- or it tells the client that the transaction is committed
abbrev pub is_sign : TxId → Body → Bool
is_sign tx (Chain (Commit other key epoch chain at)) = same_tx other tx
is_sign tx (Chain (Committed other key)) = same_tx other tx
is_sign tx (Chain (Complete other key chain at)) = same_tx other tx
is_sign tx (Client (TcCommitConf other epoch)) = same_tx other tx
is_sign tx (Host (Continue (work.Transaction other) at)) = same_tx other tx
is_sign tx _ = false

-- the coordinator goes on
abbrev pub is_next : TxId → Body → Bool
is_next tx (Host (Continue (work.Transaction other) at)) = same_tx other tx
is_next tx _ = false

-- a row of the transaction is to be committed
abbrev pub is_commit : TxId → Body → Bool
is_commit tx (Chain (Commit other key epoch chain at)) = same_tx other tx
is_commit tx _ = false

-- how many keys of so many that are to be committed the signal stands for
abbrev pub weight : TxId → ℕ → Place → Body → ℕ
weight tx count to (Chain (Commit other key epoch chain at)) = one_if (same_tx other tx)
weight tx count to (Chain (Committed other key)) = one_if (same_tx other tx)
weight tx count to (Host (Continue (work.Transaction other) at)) = if same_tx other tx then count - at else 0
weight tx count to _ = 0

-- the signal leads to the commit of this key, which is the one at place i of those that the transaction touched
abbrev pub covers : TxId → List ℕ → ℕ → Place → Body → Bool
covers tx key i to (Chain (Commit other own epoch chain at)) = is_lqh to.block && (same_tx other tx && same_key own key)
covers tx key i to (Host (Continue (work.Transaction other) at)) = (is_tc to.block && (to.node == tx.tc))
    && (same_tx other tx && nat_le at i)
covers tx key i to _ = false

abbrev pub cover : TxId → List ℕ → ℕ → Place → Body → ℕ
cover tx key i to body = one_if (covers tx key i to body)

-- What a signal tells of a row: a commit one thing of its key, its chain and its place there, and a completion another
-- of its key.
abbrev pub Tells : TxId → (List ℕ → List Member → ℕ → Type 0) → (List ℕ → Type 0) → Body → Type 0
Tells tx Spread AtAll (Chain (Commit other key epoch chain at)) = same_tx other tx ≡ true → Spread key chain at
Tells tx Spread AtAll (Chain (Complete other key chain at)) = same_tx other tx ≡ true → AtAll key
Tells tx Spread AtAll _ = Unit {0}

pub sign_part : (tx : TxId) (body : Body) → is_sign tx body ≡ false → is_part tx body ≡ false
sign_part tx (Client (TcCommitConf other epoch)) e = refl
sign_part tx (Chain (Commit other key epoch chain at)) e = e
sign_part tx (Chain (Committed other key)) e = e
sign_part tx (Chain (Complete other key chain at)) e = e
sign_part tx (Host (Continue (work.Transaction other) at)) e = e
sign_part tx _ e = refl

pub part_tells : (tx : TxId) (Spread : List ℕ → List Member → ℕ → Type 0) (AtAll : List ℕ → Type 0) (body : Body)
    → is_part tx body ≡ false → Tells tx Spread AtAll body
part_tells tx Spread AtAll (Chain (Commit other key epoch chain at)) e = λ f. not_both (same_tx other tx) f e
part_tells tx Spread AtAll (Chain (Complete other key chain at)) e = λ f. not_both (same_tx other tx) f e
part_tells tx Spread AtAll _ e = tt

pub part_weight : (tx : TxId) (count : ℕ) (to : Place) (body : Body) → is_part tx body ≡ false
    → weight tx count to body ≡ 0
part_weight tx count to (Chain (Commit other key epoch chain at)) e = ap one_if e
part_weight tx count to (Chain (Committed other key)) e = ap one_if e
part_weight tx count to (Host (Continue (work.Transaction other) at)) e = ap (λ b. if b then count - at else 0) e
part_weight tx count to _ e = refl

-- no request of the shell is one of these
pub request_part : (tx : TxId) (body : Body) → is_request body ≡ true → is_part tx body ≡ false
request_part tx (Chain (Commit other key epoch chain at)) e = cc
request_part tx (Chain (Committed other key)) e = cc
request_part tx (Chain (Complete other key chain at)) e = cc
request_part tx (Host (Continue (work.Transaction other) at)) e = cc
request_part tx _ e = refl

-- what leads to the commit of one of the keys stands for one at least
pub cover_weight : (tx : TxId) (key : List ℕ) (i count : ℕ) (to : Place) (body : Body) → i < count
    → cover tx key i to body ≤ weight tx count to body
cover_weight tx key i count to (Chain (Commit other own epoch chain at)) low = by (is_lqh to.block)
    (same_tx other tx) (same_key own key)
  where
    by : (a b c : Bool) → one_if (a && (b && c)) ≤ one_if b
    by true true true = omega arith
    by true true false = omega arith
    by true false c = omega arith
    by false true c = omega arith
    by false false c = omega arith
cover_weight tx key i count to (Host (Continue (work.Transaction other) at)) low =
    by (is_tc to.block && (to.node == tx.tc)) (same_tx other tx) (nat_le at i) refl
  where
    le : nat_le at i ≡ true → at ≤ i
    le e = grind (arith, nat_tests, e)

    by : (a b c : Bool) → nat_le at i ≡ c → one_if (a && (b && c)) ≤ (if b then count - at else 0)
    by true true true e = omega (arith, low, le e)
    by true true false e = omega arith
    by true false c e = omega arith
    by false true c e = omega arith
    by false false c e = omega arith
cover_weight tx key i count to _ low = omega arith

-- of rows only commits do
pub cover_commit : (tx : TxId) (key : List ℕ) (i : ℕ) (to : Place) (body : Body) → is_commit tx body ≡ false
    → is_next tx body ≡ false → cover tx key i to body ≡ 0
cover_commit tx key i to (Chain (Commit other own epoch chain at)) e f = by (is_lqh to.block) (same_tx other tx) e
  where
    by : (a b : Bool) → b ≡ false → one_if (a && (b && same_key own key)) ≡ 0
    by true true e = cc
    by true false e = refl
    by false b e = refl
cover_commit tx key i to (Host (Continue (work.Transaction other) at)) e f =
    by (is_tc to.block && (to.node == tx.tc)) (same_tx other tx) f
  where
    by : (a b : Bool) → b ≡ false → one_if (a && (b && nat_le at i)) ≡ 0
    by true true e = cc
    by true false e = refl
    by false b e = refl
cover_commit tx key i to _ e f = refl

pub part_cover : (tx : TxId) (key : List ℕ) (i : ℕ) (to : Place) (body : Body) → is_part tx body ≡ false
    → cover tx key i to body ≡ 0
part_cover tx key i to (Chain (Commit other own epoch chain at)) e = cover_commit tx key i to
    (Chain (Commit other own epoch chain at)) e refl
part_cover tx key i to (Host (Continue (work.Transaction other) at)) e = cover_commit tx key i to
    (Host (Continue (work.Transaction other) at)) refl e
part_cover tx key i to _ e = refl
