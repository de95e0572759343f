-- Where signals about the rows of transactions go, in the view of their sender.
--
-- Of a view three things are said of transactions: its coordinator asked for an operation of it in this view, it drives
-- it there, so that it has sent commits of it, and it has given it up.
use Rattle.std.specs.Prelude.{◌≡◌, ◌<◌, ◌⊎◌, ℕ, Bool, true, false, List, [], ◌∷◌, length, Option, None, Some}
use Rattle.run_theory.specs.Lists.{Each}
use Rattle.frag_map.specs.Layout.{Layout, chain_of}
use Rattle.sig_core.specs.Chain.{node_at, primary_of}
use Rattle.sig_core.specs.Op.{key_of}
use Rattle.sig_core.specs.Place.{coordinator_of, rows_of, takeover}
use Rattle.sig_core.specs.Work.{work_key}
use Rattle.sig_core.specs.declared.member.Member.{Member}
use Rattle.sig_core.specs.declared.member.TxId.{TxId}
use Rattle.sig_core.specs.declared.outs.Outgoing.{Outgoing}
use Rattle.sig_core.specs.declared.place.BlockId.TheVariants.{Lqh}
use Rattle.sig_core.specs.declared.place.Place.{Place}
use Rattle.sig_core.specs.declared.signal.Body.{Body}
use Rattle.sig_core.specs.declared.signal.Body.TheVariants.{Chain, Host}
use Rattle.sig_core.specs.declared.signal.chain.ChainSignal.TheVariants.{Abort, Aborted, Commit, Committed, Complete}
use Rattle.sig_core.specs.declared.signal.chain.ChainSignal.TheVariants.{Completed, LqhKeyConf, LqhKeyRef, LqhKeyReq}
use Rattle.sig_core.specs.declared.signal.host.HostSignal.TheVariants.{Continue}
use Rattle.sig_core.specs.declared.signal.host.Work.TheVariants.{Transaction as Sends}
use Rattle.run_laws.specs.Routes.{IsWorkAt}
use Rattle.tc_block.specs.declared.phase.Asked.{Asked}
use Rattle.tc_block.specs.declared.phase.Phase.{Phase}
use Rattle.tc_block.specs.declared.phase.Phase.TheVariants.{Aborting, Committing, Completing, Open, Verifying}
use Rattle.tc_block.specs.declared.touched.Touched.{Touched}
use Rattle.tc_block.specs.declared.transaction.Transaction.{Transaction}
use Rattle.tc_block.specs.Doom.{is_among}
use Rattle.tc_views.specs.State.{CoordinatorState}
use Rattle.lqh_block.specs.declared.request.Request.{Request}
use Rattle.lqh_block.specs.Views.{is_coordinated}
use Rattle.lqh_views.specs.State.{ReplicaState}

-- a request goes along the replicas of its key, to the rows of the one at its place: an operation to the first, an
-- image to each behind
pub record IsRequestRouted (layout : Layout) (to : Place) (q : Request) : Type 0 where
  pub chain : q.chain ≡ chain_of layout (work_key q.work)
  pub inside : q.at < length q.chain
  pub place : to ≡ rows_of (node_at q.chain q.at)
  pub work : IsWorkAt q.at q.work

-- a commit goes along the replicas, or to the primary alone
pub record IsCommitRouted (layout : Layout) (to : Place) (key : List ℕ) (chain : List Member) (at : ℕ) : Type 0 where
  pub along : (chain ≡ chain_of layout key) ⊎ (chain ≡ primary_of (chain_of layout key))
  pub inside : at < length chain
  pub place : to ≡ rows_of (node_at chain at)

-- a completion along the replicas
pub record IsCompletionRouted (layout : Layout) (to : Place) (key : List ℕ) (chain : List Member) (at : ℕ) : Type 0
  where
    pub along : chain ≡ chain_of layout key
    pub inside : at < length chain
    pub place : to ≡ rows_of (node_at chain at)

-- what tells of the end of a transaction's part in a row goes to its coordinator where that is a full member, and else
-- to the takeover of the oldest full member
abbrev pub owner_if : List Member → TxId → Bool → Place
owner_if full tx true = coordinator_of tx
owner_if [] tx false = coordinator_of tx
owner_if (oldest ∷ others) tx false = takeover oldest.node

abbrev pub owner_of : List Member → TxId → Place
owner_of full tx = owner_if full tx (is_coordinated full tx)

module _ (layout : Layout) where
  -- a coordinator has the replicas of each key that was written, and the primary of each other one
  abbrev pub touched_chain : Touched → Bool → List Member
  touched_chain t true = chain_of layout t.key
  touched_chain t false = primary_of (chain_of layout t.key)

  abbrev pub IsTouchedRouted : Touched → Type 0
  IsTouchedRouted t = t.chain ≡ touched_chain t t.written

  abbrev pub IsAskedRouted : Option Asked → Type 0
  IsAskedRouted None = Unit {0}
  IsAskedRouted (Some asked) = asked.chain ≡ chain_of layout (key_of asked.op)

  pub record HasRoutes (t : Transaction) : Type 0 where
    pub touched : Each IsTouchedRouted t.touched
    pub asked : IsAskedRouted t.asked

module _ (layout : Layout) (A D : TxId → Type 0) (G : TxId → Type 0) where
  -- A: asked for in this view; D: driven in it by its coordinator, if that is a full member; G: given up
  abbrev pub IsRouted : Place → Body → Type 0
  IsRouted to (Chain (LqhKeyReq tx work chain at)) =
      IsRequestRouted layout to (record { tx = tx; work = work; chain = chain; at = at }) × A tx
  IsRouted to (Chain (LqhKeyConf tx key answer)) = (to ≡ coordinator_of tx) × A tx
  IsRouted to (Chain (LqhKeyRef tx key cause)) = (to ≡ coordinator_of tx) × A tx
  IsRouted to (Chain (Commit tx key epoch chain at)) = IsCommitRouted layout to key chain at × D tx
  IsRouted to (Chain (Complete tx key chain at)) = IsCompletionRouted layout to key chain at × D tx
  IsRouted to (Chain (Committed tx key)) = (to ≡ owner_of layout.view.full tx) × D tx
  IsRouted to (Chain (Completed tx key)) = (to ≡ owner_of layout.view.full tx) × D tx
  IsRouted to (Chain (Abort tx key)) = to.block ≡ Lqh
  IsRouted to (Chain (Aborted tx key)) = to ≡ owner_of layout.view.full tx
  IsRouted to (Host (Continue (Sends tx) at)) = D tx ⊎ G tx
  IsRouted to body = Unit {0}

  abbrev pub IsSentRouted : Outgoing → Type 0
  IsSentRouted sent = IsRouted sent.to sent.body

  -- requests that wait at the rows of a node
  abbrev pub WaitsRouted : ReplicaState → Type 0
  WaitsRouted s = Each (λ (q : Request). IsRequestRouted layout (rows_of s.lqh.node) q × A q.tx) s.lqh.waiting

  -- Of one that isn't doomed they are those of this view where none of its operations is unanswered, or the unanswered
  -- one was asked for in this view; of one that is committed, where it is driven in this view; it isn't given up then.
  abbrev pub HasRoutesIn : CoordinatorState → TxId → Transaction → Phase → Type 0
  HasRoutesIn s tx t Open = (is_among s.doomed tx ≡ false) → ((t.asked ≡ None) ⊎ A tx) → HasRoutes layout t
  HasRoutesIn s tx t Verifying = (is_among s.doomed tx ≡ false) → ((t.asked ≡ None) ⊎ A tx) → HasRoutes layout t
  HasRoutesIn s tx t (Committing epoch awaited) = (D tx → HasRoutes layout t) × (G tx → ⊥)
  HasRoutesIn s tx t (Completing epoch awaited) = (D tx → HasRoutes layout t) × (G tx → ⊥)
  HasRoutesIn s tx t (Aborting why verifying awaited) = G tx

  abbrev pub CoordinatorHasRoutes : CoordinatorState → Type 0
  CoordinatorHasRoutes s = Each (λ (e : TxId × Transaction). HasRoutesIn s e.0 e.1 e.1.phase) s.tc.live
