-- The signals by which a transaction comes to be decided, committed and reported.
use Rattle.sig_core.specs.declared.member.TxId.{TxId}
use Rattle.sig_core.specs.declared.signal.Body.{Body}
use Rattle.sig_core.specs.declared.signal.Body.TheVariants.{Client, Chain, Epoch}
use Rattle.sig_core.specs.declared.signal.chain.ChainSignal.TheVariants.{Commit}
use Rattle.sig_core.specs.declared.signal.client.ClientSignal.TheVariants.{TcBeginConf, TcCommitReq, TcCommitConf}
use Rattle.sig_core.specs.declared.signal.epoch.EpochSignal.TheVariants.{DiVerifyReq, DiVerifyConf}

-- A transaction has begun, is to commit, asks for an epoch, is decided, has its rows committed, is committed; or none
-- of
-- these is said.
pub data Kind : Type 0 where
  begun : TxId → Kind
  wanted : TxId → Kind
  verified : TxId → Kind
  decided : TxId → Kind
  committing : TxId → Kind
  ended : TxId → Kind
  other : Kind

abbrev pub kind_of : Body → Kind
kind_of (Client (TcBeginConf name tx)) = begun tx
kind_of (Client (TcCommitReq tx)) = wanted tx
kind_of (Epoch (DiVerifyReq tx ops)) = verified tx
kind_of (Epoch (DiVerifyConf tx epoch)) = decided tx
kind_of (Chain (Commit tx key epoch chain at)) = committing tx
kind_of (Client (TcCommitConf tx epoch)) = ended tx
kind_of _ = other
