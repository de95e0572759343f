-- What a host of the plain machine sends is set: its place takes it, or does where it is routed and tells of known
-- transactions.
use Rattle.std.proofs.Common.{◌≡◌, ◌⊎◌, ◌<◌, ◌≤◌, ℕ, suc, Bool, true, false, List, [], ◌∷◌, length, refl, sym, ap, ◌∙◌}
use Rattle.std.proofs.Common.{arith, inl, inr, subst}
use Rattle.std.specs.Prelude.{map}
use Rattle.std.proofs.lemmas.Bool.{false≢true}
use Rattle.run_theory.specs.Lists.{Each}
use Rattle.sig_core.specs.declared.member.Member.{Member}
use Rattle.sig_core.specs.declared.member.TxId.{TxId}
use Rattle.sig_core.specs.declared.outs.Outgoing.{Outgoing}
use Rattle.sig_core.specs.declared.place.Place.{Place}
use Rattle.sig_core.specs.declared.signal.Body.{Body}
use Rattle.sig_core.specs.declared.signal.Body.TheVariants.{Chain}
use Rattle.sig_core.specs.declared.signal.chain.ChainSignal.TheVariants.{LqhKeyReq, LqhKeyConf, LqhKeyRef, Commit}
use Rattle.sig_core.specs.declared.signal.chain.ChainSignal.TheVariants.{Committed, Complete, Completed, Abort}
use Rattle.sig_core.specs.declared.signal.chain.ChainSignal.TheVariants.{Aborted}
use Rattle.sig_core.specs.Chain.{node_at, primary_of}
use Rattle.sig_core.specs.Place.{client, coordinator, coordinator_of, epochs, rows_of}
use Rattle.frag_map.specs.Shape.{IsShape}
use Rattle.world_core.specs.Start.{Start}
use Rattle.run_laws.specs.Routes.{IsCommitRouted, IsOnWay, IsSentTo, replicas}
use Rattle.run_laws.proofs.routes.Chain.{primary_first, primary_length, replicas_are_nodes, replicas_some}
use Rattle.calm_laws.specs.Calm.{is_for_client, is_for_coordinator, is_for_epochs, is_for_rows}
use Rattle.calm_laws.specs.Known.{IsOfFirst, txs_in}
use Rattle.calm_laws.proofs.known.Signals.{IsKnown}
use Rattle.calm_laws.proofs.places.Placed.{IsFit, client_fits, coordinator_fits, epochs_fit, rows_fit}

-- it goes along the chain of a key, or back to the coordinator
abbrev pub is_along : Body → Bool
is_along (Chain (Abort tx key)) = false
is_along (Chain signal) = true
is_along body = false

-- it is for the coordinator of the transaction that it tells of
pub record IsHomeward (to : Place) (body : Body) : Type 0 where
  pub tx : TxId
  pub more : List TxId
  pub about : txs_in body ≡ tx ∷ more
  pub at : to ≡ coordinator_of tx
  pub takes : is_for_coordinator body ≡ true

pub data IsSet (to : Place) (body : Body) : Type 0 where
  fits : IsFit to body → IsSet to body
  goes_home : IsHomeward to body → IsSet to body
  goes_along : is_along body ≡ true → IsSet to body

abbrev pub AreSet : List Outgoing → Type 0
AreSet sends = Each (λ (o : Outgoing). IsSet o.to o.body) sends

-- a member is of a node
abbrev pub IsOfNode : Member → Type 0
IsOfNode member = 1 ≤ member.node

-- what is set
pub client_set : (body : Body) → is_for_client body ≡ true → IsSet client body
client_set body takes = fits (client_fits body takes)

pub coordinator_set : (node : ℕ) (body : Body) → 1 ≤ node → is_for_coordinator body ≡ true
    → IsSet (coordinator node) body
coordinator_set node body some takes = fits (coordinator_fits (coordinator node) body refl some takes)

pub epochs_set : (node : ℕ) (body : Body) → 1 ≤ node → is_for_epochs body ≡ true → IsSet (epochs node) body
epochs_set node body some takes = fits (epochs_fit (epochs node) body refl some takes)

pub rows_set : (node : ℕ) (body : Body) → 1 ≤ node → is_for_rows body ≡ true → IsSet (rows_of node) body
rows_set node body some takes = fits (rows_fit (rows_of node) body refl some takes)

pub home_set : (tx : TxId) (body : Body) (more : List TxId) → txs_in body ≡ tx ∷ more → is_for_coordinator body ≡ true
    → IsSet (coordinator_of tx) body
home_set tx body more about takes =
    goes_home (record { tx = tx; more = more; about = about; at = refl; takes = takes })

-- what is made of each item of a list
pub each_made : {A B : Type 0} (R : A → Type 0) (P : B → Type 0) (f : A → B) (xs : List A)
    → ((x : A) → R x → P (f x)) → Each R xs → Each P (map f xs)
each_made R P f [] makes all = tt
each_made R P f (x ∷ xs) makes all = (makes x all.0, each_made R P f xs makes all.1)

module _ (start : Start) (shape : IsShape start.shape) where
  home_fits : (to : Place) (body : Body) (tx : TxId) → to ≡ coordinator_of tx → 1 ≤ tx.tc
      → is_for_coordinator body ≡ true → IsFit to body
  home_fits to body tx at some takes =
      subst (λ p. IsFit p body) (sym at) (coordinator_fits (coordinator_of tx) body refl some takes)

  -- what goes along the replicas of a key is for a node
  chain_node : (node : ℕ) (key : List ℕ) (chain : List Member) (at : ℕ) → chain ≡ replicas start key
      → IsSentTo node chain at → 1 ≤ node
  chain_node node key chain at along sent =
      let inside = subst (λ (c : List Member). at < length c) along sent.inside in
      subst (λ n. 1 ≤ n) (sym (sent.node_is ∙ ap (λ c. node_at c at) along))
      (replicas_are_nodes start key at shape inside).from

  commit_node : (node : ℕ) (key : List ℕ) (chain : List Member) (at : ℕ) → IsCommitRouted start node key chain at
      → 1 ≤ node
  commit_node node key chain at is = by is.along
    where
      by : (chain ≡ replicas start key) ⊎ (chain ≡ primary_of (replicas start key)) → 1 ≤ node
      by (inl along) = chain_node node key chain at along is.sent
      by (inr alone) =
          let some = replicas_some start shape key in
          let first : at ≡ 0 =
          omega (arith, is.sent.inside, ap length alone, primary_length (replicas start key) some) in
          subst (λ n. 1 ≤ n)
          (sym (is.sent.node_is ∙ ap (λ c. node_at c at) alone ∙ ap (node_at (primary_of (replicas start key))) first
          ∙ primary_first (replicas start key)))
          (replicas_are_nodes start key 0 shape some).from

  along_fits : (to : Place) (body : Body) → is_along body ≡ true → IsKnown start body → IsOnWay start to body
      → IsFit to body
  along_fits to (Chain (LqhKeyReq tx work chain at)) is known way =
      rows_fit to _ way.block (chain_node to.node _ chain at way.routed.chain way.routed.sent) refl
  along_fits to (Chain (Commit tx key epoch chain at)) is known way =
      rows_fit to _ way.block (commit_node to.node key chain at way.routed) refl
  along_fits to (Chain (Complete tx key chain at)) is known way =
      rows_fit to _ way.block (chain_node to.node key chain at way.routed.along way.routed.sent) refl
  along_fits to (Chain (LqhKeyConf tx key answer)) is known way = home_fits to _ tx way.block known.txs.0.some refl
  along_fits to (Chain (LqhKeyRef tx key why)) is known way = home_fits to _ tx way.block known.txs.0.some refl
  along_fits to (Chain (Committed tx key)) is known way = home_fits to _ tx way.block known.txs.0.some refl
  along_fits to (Chain (Completed tx key)) is known way = home_fits to _ tx way.block known.txs.0.some refl
  along_fits to (Chain (Aborted tx key)) is known way = home_fits to _ tx way.block known.txs.0.some refl
  along_fits to body is known way = absurd (false≢true is)

  -- its place takes what is set, routed and known
  pub set_fits : (to : Place) (body : Body) → IsKnown start body → IsOnWay start to body → IsSet to body → IsFit to body
  set_fits to body known way (fits is) = is
  set_fits to body known way (goes_home home) =
      home_fits to body home.tx home.at (subst (Each (IsOfFirst start)) home.about known.txs).0.some home.takes
  set_fits to body known way (goes_along is) = along_fits to body is known way

  -- the replicas of a key are of nodes
  each_node : (chain : List Member) → ((at : ℕ) → at < length chain → 1 ≤ node_at chain at) → Each IsOfNode chain
  each_node [] all = tt
  each_node (m ∷ chain) all =
      (all 0 (omega arith), each_node chain (λ at low. all (suc at) (omega (arith, low))))

  pub replicas_of_nodes : (key : List ℕ) → Each IsOfNode (replicas start key)
  replicas_of_nodes key =
      each_node (replicas start key) (λ at low. (replicas_are_nodes start key at shape low).from)
