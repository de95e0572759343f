-- A signal about members that began the life, along chains of their nodes, is sound.
use Rattle.std.proofs.Common.{◌≡◌, ◌⊎◌, ◌<◌, ◌≤◌, ℕ, zero, suc, ◌+◌, true, List, [], ◌∷◌, ◌++◌, length}
use Rattle.std.proofs.Common.{refl, ap, ◌∙◌, arith, inl, inr}
use Rattle.std.specs.Prelude.{◌-◌, ◌^◌, ◌&&◌, nat_le, nat_lt}
use Rattle.std.proofs.lemmas.Bool.{and_from, and_parts, false≢true, le-leb, lt-ltb}
use Rattle.run_theory.specs.Lists.{Each}
use Rattle.sig_core.specs.Chain.{node_at, primary_of}
use Rattle.sig_core.specs.declared.member.Member.{Member}
use Rattle.sig_core.specs.declared.member.TxId.{TxId}
use Rattle.sig_core.specs.declared.signal.Body.{Body}
use Rattle.sig_core.specs.declared.signal.Body.TheVariants.{Host, Client, Chain, Epoch}
use Rattle.sig_core.specs.declared.signal.chain.ChainSignal.TheVariants.{LqhKeyReq, LqhKeyConf, LqhKeyRef, Commit}
use Rattle.sig_core.specs.declared.signal.chain.ChainSignal.TheVariants.{Committed, Complete, Completed, Abort}
use Rattle.sig_core.specs.declared.signal.chain.ChainSignal.TheVariants.{Aborted}
use Rattle.sig_core.specs.declared.signal.client.ClientSignal.TheVariants.{TcBeginConf, TcKeyReq, TcKeyConf}
use Rattle.sig_core.specs.declared.signal.client.ClientSignal.TheVariants.{TcCommitReq, TcCommitConf, TcCommitAck}
use Rattle.sig_core.specs.declared.signal.client.ClientSignal.TheVariants.{TcRollbackReq, TcRollbackRep}
use Rattle.sig_core.specs.declared.signal.client.ClientSignal.TheVariants.{TcKeyFailConf, TcKeyFailRef, TcWaitReq}
use Rattle.sig_core.specs.declared.signal.client.ClientSignal.TheVariants.{TcWaitConf, LqhWaitReq, LqhWaitConf}
use Rattle.sig_core.specs.declared.signal.epoch.EpochSignal.TheVariants.{DiVerifyReq, DiVerifyConf, DiVerifyEnd}
use Rattle.sig_core.specs.declared.signal.host.HostSignal.TheVariants.{Continue, Round}
use Rattle.sig_core.specs.declared.signal.host.Work.TheVariants.{Transaction}
use Rattle.frag_map.specs.Layout.{first_view, members}
use Rattle.frag_map.specs.Replicas.{first_start}
use Rattle.frag_map.specs.Shape.{IsShape}
use Rattle.node_views.specs.WellFormed.{are_nodes, is_ahead, is_body_sound, is_chain, is_member, is_node, is_number}
use Rattle.node_views.specs.WellFormed.{is_tx, is_view}
use Rattle.world_core.specs.Start.{Start}
use Rattle.run_laws.specs.Routes.{IsCommitRouted, IsRouted, replicas}
use Rattle.run_laws.proofs.routes.Chain.{replicas_are_nodes}
use Rattle.calm_laws.specs.Known.{IsOfFirst}
use Rattle.calm_laws.proofs.known.Signals.{IsKnown}

module _ (start : Start) where
  pub node_sound : (node : ℕ) → 1 ≤ node → node ≤ start.shape.nodes → is_node start.shape node ≡ true
  node_sound node some low =
      and_from (nat_le 1 node) (nat_le node start.shape.nodes) (le-leb 1 node some) (le-leb node start.shape.nodes low)

  -- the nodes that begin the life
  nodes_end : (xs : List Member) (m : Member) → are_nodes start.shape xs ≡ true → is_member start.shape m ≡ true
      → are_nodes start.shape (xs ++ m ∷ []) ≡ true
  nodes_end [] m all is = and_from (is_member start.shape m) true is refl
  nodes_end (x ∷ xs) m all is =
      let parts = and_parts (is_member start.shape x) (are_nodes start.shape xs) all in
      and_from (is_member start.shape x) (are_nodes start.shape (xs ++ m ∷ [])) parts.0 (nodes_end xs m parts.1 is)

  members_sound : (n : ℕ) → n ≤ start.shape.nodes → are_nodes start.shape (members n) ≡ true
  members_sound zero low = refl
  members_sound (suc n) low =
      nodes_end (members n) (first_start (n + 1)) (members_sound n (omega (arith, low)))
      (node_sound (n + 1) (omega arith) (omega (arith, low)))

  pub first_view_sound : is_view start.shape (first_view start.shape.nodes) ≡ true
  first_view_sound =
      let full = are_nodes start.shape (members start.shape.nodes) in
      and_from (is_number 1 && full) true
      (and_from (is_number 1) full (lt-ltb 1 (2 ^ 64 - 1) (omega arith))
      (members_sound start.shape.nodes (omega arith))) refl

  -- transactions
  tx_sound : (tx : TxId) → IsOfFirst start tx → is_tx start.shape tx ≡ true
  tx_sound tx of = node_sound tx.tc of.some of.low

  ahead_sound : (tx : TxId) → IsOfFirst start tx → is_ahead start.shape tx ≡ true
  ahead_sound tx of = le-leb tx.tc start.shape.nodes of.low

  both_sound : (tx ahead : TxId) → Each (IsOfFirst start) (tx ∷ ahead ∷ [])
      → (is_tx start.shape tx && is_ahead start.shape ahead) ≡ true
  both_sound tx ahead all =
      and_from (is_tx start.shape tx) (is_ahead start.shape ahead) (tx_sound tx all.0) (ahead_sound ahead all.1.0)

  module _ (shape : IsShape start.shape) where
    -- each place of a chain has a node
    each_node : (chain : List Member)
        → ((at : ℕ) → at < length chain → (1 ≤ node_at chain at) × (node_at chain at ≤ start.shape.nodes))
        → are_nodes start.shape chain ≡ true
    each_node [] all = refl
    each_node (m ∷ chain) all =
        let first = all 0 (omega arith) in
        and_from (is_member start.shape m) (are_nodes start.shape chain) (node_sound m.node first.0 first.1)
        (each_node chain (λ at low. all (suc at) (omega (arith, low))))

    replicas_sound : (key : List ℕ) → are_nodes start.shape (replicas start key) ≡ true
    replicas_sound key =
        each_node (replicas start key) (λ at low.
        let node = replicas_are_nodes start key at shape low in
        (node.from, node.to))

    primary_sound : (chain : List Member) → are_nodes start.shape chain ≡ true
        → are_nodes start.shape (primary_of chain) ≡ true
    primary_sound [] all = refl
    primary_sound (m ∷ chain) all =
        let parts = and_parts (is_member start.shape m) (are_nodes start.shape chain) all in
        and_from (is_member start.shape m) true parts.0 refl

    chain_sound : (chain : List Member) (at : ℕ) → are_nodes start.shape chain ≡ true → at < length chain
        → is_chain start.shape chain at ≡ true
    chain_sound chain at all inside =
        and_from (are_nodes start.shape chain) (nat_lt at (length chain)) all (lt-ltb at (length chain) inside)

    along_sound : (chain : List Member) (key : List ℕ) (at : ℕ) → chain ≡ replicas start key → at < length chain
        → is_chain start.shape chain at ≡ true
    along_sound chain key at along inside =
        chain_sound chain at (ap (are_nodes start.shape) along ∙ replicas_sound key) inside

    commit_sound : (node : ℕ) (key : List ℕ) (chain : List Member) (at : ℕ) → IsCommitRouted start node key chain at
        → is_chain start.shape chain at ≡ true
    commit_sound node key chain at is = by is.along
      where
        by : (chain ≡ replicas start key) ⊎ (chain ≡ primary_of (replicas start key))
            → is_chain start.shape chain at ≡ true
        by (inl along) = along_sound chain key at along is.sent.inside
        by (inr alone) =
            chain_sound chain at
            (ap (are_nodes start.shape) alone ∙ primary_sound (replicas start key) (replicas_sound key)) is.sent.inside

    -- what a signal for a node tells
    pub body_sound : (node : ℕ) (body : Body) → IsKnown start body → IsRouted start node body
        → is_body_sound start.shape body ≡ true
    body_sound node (Host Round) known routed = refl
    body_sound node (Host (Continue (Transaction tx) at)) known routed = tx_sound tx known.txs.0
    body_sound node (Host (Continue what at)) known routed = refl
    body_sound node (Client (TcBeginConf name tx)) known routed = tx_sound tx known.txs.0
    body_sound node (Client (TcKeyReq tx op)) known routed = tx_sound tx known.txs.0
    body_sound node (Client (TcKeyConf tx answer)) known routed = tx_sound tx known.txs.0
    body_sound node (Client (TcCommitReq tx)) known routed = tx_sound tx known.txs.0
    body_sound node (Client (TcCommitConf tx epoch)) known routed = tx_sound tx known.txs.0
    body_sound node (Client (TcCommitAck tx)) known routed = tx_sound tx known.txs.0
    body_sound node (Client (TcRollbackReq tx)) known routed = tx_sound tx known.txs.0
    body_sound node (Client (TcRollbackRep tx why)) known routed = tx_sound tx known.txs.0
    body_sound node (Client (TcKeyFailConf tx epoch)) known routed = absurd (false≢true known.plain)
    body_sound node (Client (TcKeyFailRef tx)) known routed = absurd (false≢true known.plain)
    body_sound node (Client (TcWaitReq tx)) known routed = tx_sound tx known.txs.0
    body_sound node (Client (LqhWaitReq tx key)) known routed = tx_sound tx known.txs.0
    body_sound node (Client (TcWaitConf tx ahead)) known routed = both_sound tx ahead known.txs
    body_sound node (Client (LqhWaitConf tx ahead)) known routed = both_sound tx ahead known.txs
    body_sound node (Client signal) known routed = refl
    body_sound node (Chain (LqhKeyReq tx work chain at)) known routed =
        and_from (is_tx start.shape tx) (is_chain start.shape chain at) (tx_sound tx known.txs.0)
        (along_sound chain _ at routed.chain routed.sent.inside)
    body_sound node (Chain (Commit tx key epoch chain at)) known routed =
        and_from (is_tx start.shape tx) (is_chain start.shape chain at) (tx_sound tx known.txs.0)
        (commit_sound node key chain at routed)
    body_sound node (Chain (Complete tx key chain at)) known routed =
        and_from (is_tx start.shape tx) (is_chain start.shape chain at) (tx_sound tx known.txs.0)
        (along_sound chain key at routed.along routed.sent.inside)
    body_sound node (Chain (LqhKeyConf tx key answer)) known routed = tx_sound tx known.txs.0
    body_sound node (Chain (LqhKeyRef tx key why)) known routed = tx_sound tx known.txs.0
    body_sound node (Chain (Committed tx key)) known routed = tx_sound tx known.txs.0
    body_sound node (Chain (Completed tx key)) known routed = tx_sound tx known.txs.0
    body_sound node (Chain (Abort tx key)) known routed = tx_sound tx known.txs.0
    body_sound node (Chain (Aborted tx key)) known routed = tx_sound tx known.txs.0
    body_sound node (Epoch (DiVerifyReq tx ops)) known routed = tx_sound tx known.txs.0
    body_sound node (Epoch (DiVerifyConf tx epoch)) known routed = tx_sound tx known.txs.0
    body_sound node (Epoch (DiVerifyEnd tx)) known routed = tx_sound tx known.txs.0
    body_sound node _ known routed = absurd (false≢true known.plain)
