-- What signals and marks tell of transactions: that one has begun, and in which epoch one was decided.
use Rattle.std.specs.Prelude.{ℕ}
use Rattle.sig_core.specs.declared.mark.Mark.{Mark}
use Rattle.sig_core.specs.declared.mark.Mark.TheVariants.{Decided, Reported}
use Rattle.sig_core.specs.declared.member.TxId.{TxId}
use Rattle.sig_core.specs.declared.outcome.Outcome.{Outcome}
use Rattle.sig_core.specs.declared.outcome.Outcome.TheVariants as outcome
use Rattle.sig_core.specs.declared.signal.Body.{Body}
use Rattle.sig_core.specs.declared.signal.Body.TheVariants.{Chain, Client, Epoch, Takeover}
use Rattle.sig_core.specs.declared.signal.chain.ChainSignal.TheVariants.{Commit}
use Rattle.sig_core.specs.declared.signal.client.ClientSignal.TheVariants.{TcBeginConf, TcCommitConf, TcCommitReq}
use Rattle.sig_core.specs.declared.signal.client.ClientSignal.TheVariants.{TcKeyFailConf}
use Rattle.sig_core.specs.declared.signal.epoch.EpochSignal.TheVariants.{DiVerifyConf, DiVerifyReq}
use Rattle.sig_core.specs.declared.signal.takeover.RecordState.{RecordState}
use Rattle.sig_core.specs.declared.signal.takeover.RecordState.TheVariants as state
use Rattle.sig_core.specs.declared.signal.takeover.TakeoverSignal.TheVariants.{LqhTransConf}

-- where this is said of a transaction that was decided in an epoch, and that of one that the client knows to have begun
module _ (D : TxId → ℕ → Type 0) (B : TxId → Type 0) where
  -- a record that isn't only prepared, and a marker, are of a transaction that was decided
  abbrev pub TellsOfRecord : TxId → RecordState → ℕ → Type 0
  TellsOfRecord tx state.Prepared epoch = Unit {0}
  TellsOfRecord tx state.Committed epoch = D tx epoch
  TellsOfRecord tx state.Marker epoch = D tx epoch

  -- what a signal tells
  abbrev pub Tells : Body → Type 0
  Tells (Client (TcCommitReq tx)) = B tx
  Tells (Epoch (DiVerifyReq tx ops)) = B tx
  Tells (Epoch (DiVerifyConf tx epoch)) = D tx epoch
  Tells (Chain (Commit tx key epoch chain at)) = D tx epoch
  Tells (Client (TcCommitConf tx epoch)) = D tx epoch
  Tells (Client (TcKeyFailConf tx epoch)) = D tx epoch
  Tells (Takeover (LqhTransConf tx key told epoch)) = TellsOfRecord tx told epoch
  Tells body = Unit {0}

  -- the client learns that a transaction has begun
  abbrev pub Teaches : Body → Type 0
  Teaches (Client (TcBeginConf name tx)) = B tx
  Teaches body = Unit {0}

  -- a decision is of one that has begun, and what is reported committed was decided
  abbrev pub IsRightOutcome : TxId → Outcome → Type 0
  IsRightOutcome tx (outcome.Committed epoch) = D tx epoch
  IsRightOutcome tx other = Unit {0}

  abbrev pub IsRightMark : Mark → Type 0
  IsRightMark (Decided tx epoch) = B tx
  IsRightMark (Reported tx outcome) = IsRightOutcome tx outcome
  IsRightMark mark = Unit {0}

  -- a mark of a decision makes it one
  abbrev pub Decides : Mark → Type 0
  Decides (Decided tx epoch) = D tx epoch
  Decides mark = Unit {0}
