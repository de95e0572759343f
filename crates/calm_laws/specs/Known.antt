-- The transactions of which signals tell: of members that began the life.
use Rattle.std.specs.Prelude.{◌≡◌, ◌≤◌, true, List, [], ◌∷◌}
use Rattle.node_views.specs.WellFormed.{is_well_formed}
use Rattle.run_laws.specs.Transit.{Comes}
use Rattle.run_theory.specs.Lists.{Each}
use Rattle.sig_core.specs.declared.member.TxId.{TxId}
use Rattle.sig_core.specs.declared.signal.Body.{Body}
use Rattle.sig_core.specs.declared.signal.Body.TheVariants.{Host, Client, Chain, Epoch}
use Rattle.sig_core.specs.declared.signal.chain.ChainSignal.TheVariants.{LqhKeyReq, LqhKeyConf, LqhKeyRef, Commit}
use Rattle.sig_core.specs.declared.signal.chain.ChainSignal.TheVariants.{Committed, Complete, Completed, Abort, Aborted}
use Rattle.sig_core.specs.declared.signal.client.ClientSignal.TheVariants.{TcBeginConf, TcKeyReq, TcKeyConf}
use Rattle.sig_core.specs.declared.signal.client.ClientSignal.TheVariants.{TcCommitReq, TcCommitConf, TcCommitAck}
use Rattle.sig_core.specs.declared.signal.client.ClientSignal.TheVariants.{TcRollbackReq, TcRollbackRep, TcWaitReq}
use Rattle.sig_core.specs.declared.signal.client.ClientSignal.TheVariants.{TcWaitConf, LqhWaitReq, LqhWaitConf}
use Rattle.sig_core.specs.declared.signal.epoch.EpochSignal.TheVariants.{DiVerifyReq, DiVerifyConf, DiVerifyEnd}
use Rattle.sig_core.specs.declared.signal.host.HostSignal.TheVariants.{Continue}
use Rattle.sig_core.specs.declared.signal.host.Work.TheVariants.{Transaction}
use Rattle.world_core.specs.Start.{Start}
use Rattle.world_core.specs.Steps.{HostStep}

-- the transaction is of a member that began the life
pub record IsOfFirst (start : Start) (tx : TxId) : Type 0 where
  pub some : 1 ≤ tx.tc
  pub low : tx.tc ≤ start.shape.nodes
  pub first : tx.start ≡ 0

-- the transactions of which a signal tells
abbrev pub txs_in : Body → List TxId
txs_in (Host (Continue (Transaction tx) at)) = tx ∷ []
txs_in (Client (TcBeginConf name tx)) = tx ∷ []
txs_in (Client (TcKeyReq tx op)) = tx ∷ []
txs_in (Client (TcKeyConf tx answer)) = tx ∷ []
txs_in (Client (TcCommitReq tx)) = tx ∷ []
txs_in (Client (TcCommitConf tx epoch)) = tx ∷ []
txs_in (Client (TcCommitAck tx)) = tx ∷ []
txs_in (Client (TcRollbackReq tx)) = tx ∷ []
txs_in (Client (TcRollbackRep tx cause)) = tx ∷ []
txs_in (Client (TcWaitReq tx)) = tx ∷ []
txs_in (Client (LqhWaitReq tx key)) = tx ∷ []
txs_in (Client (TcWaitConf tx ahead)) = tx ∷ ahead ∷ []
txs_in (Client (LqhWaitConf tx ahead)) = tx ∷ ahead ∷ []
txs_in (Chain (LqhKeyReq tx work chain at)) = tx ∷ []
txs_in (Chain (LqhKeyConf tx key answer)) = tx ∷ []
txs_in (Chain (LqhKeyRef tx key cause)) = tx ∷ []
txs_in (Chain (Commit tx key epoch chain at)) = tx ∷ []
txs_in (Chain (Committed tx key)) = tx ∷ []
txs_in (Chain (Complete tx key chain at)) = tx ∷ []
txs_in (Chain (Completed tx key)) = tx ∷ []
txs_in (Chain (Abort tx key)) = tx ∷ []
txs_in (Chain (Aborted tx key)) = tx ∷ []
txs_in (Epoch (DiVerifyReq tx ops)) = tx ∷ []
txs_in (Epoch (DiVerifyConf tx epoch)) = tx ∷ []
txs_in (Epoch (DiVerifyEnd tx)) = tx ∷ []
txs_in body = []

-- each signal that comes to a host of the plain machine tells of such alone, and is well formed
abbrev pub ComingAreKnown : Type 0
ComingAreKnown =
    (start : Start) (es : List HostStep) (e : HostStep) → Comes start es e
    → Each (IsOfFirst start) (txs_in e.step.taken.body)

abbrev pub ComingAreWellFormed : Type 0
ComingAreWellFormed =
    (start : Start) (es : List HostStep) (e : HostStep) → Comes start es e
    → is_well_formed start.shape e.step.taken ≡ true
