-- Signals that tell nothing of transactions.
use Rattle.std.proofs.Common.{◌≡◌, ℕ, Bool, true, false, List, sym}
use Rattle.std.proofs.lemmas.Bool.{false≢true}
use Rattle.run_theory.specs.Lists.{Each}
use Rattle.run_theory.proofs.Pasts.{each_map}
use Rattle.sig_core.specs.declared.member.TxId.{TxId}
use Rattle.sig_core.specs.declared.outs.Outgoing.{Outgoing}
use Rattle.sig_core.specs.declared.signal.Body.{Body}
use Rattle.sig_core.specs.declared.signal.Body.TheVariants.{Chain, Client, Epoch, Host, Takeover}
use Rattle.sig_core.specs.declared.signal.chain.ChainSignal.TheVariants.{Commit}
use Rattle.sig_core.specs.declared.signal.client.ClientSignal.TheVariants.{TcBeginConf, TcCommitConf, TcCommitReq}
use Rattle.sig_core.specs.declared.signal.client.ClientSignal.TheVariants.{TcKeyConf, TcKeyFailConf, TcKeyReq}
use Rattle.sig_core.specs.declared.signal.client.ClientSignal.TheVariants.{TcRollbackRep}
use Rattle.sig_core.specs.declared.signal.epoch.EpochSignal.TheVariants.{DiVerifyConf, DiVerifyEnd, DiVerifyReq}
use Rattle.sig_core.specs.declared.signal.host.HostSignal.TheVariants.{Continue}
use Rattle.sig_core.specs.declared.signal.host.Work.TheVariants.{Transaction}
use Rattle.sig_core.specs.declared.signal.takeover.TakeoverSignal.TheVariants.{LqhTransConf, LqhTransEnd, LqhTransReq}
use Rattle.outcome_laws.specs.Tells.{Tells}

-- it tells that a transaction has begun, what it is to do or was answered, in which epoch one was decided, or why one
-- is aborted; or it is one of chains, goes on with what is sent of a transaction, or asks for a report or ends one
abbrev pub is_telling : Body → Bool
is_telling (Client (TcBeginConf name tx)) = true
is_telling (Client (TcKeyReq tx op)) = true
is_telling (Client (TcKeyConf tx answer)) = true
is_telling (Client (TcCommitReq tx)) = true
is_telling (Epoch (DiVerifyReq tx ops)) = true
is_telling (Epoch (DiVerifyConf tx epoch)) = true
is_telling (Epoch (DiVerifyEnd tx)) = true
is_telling (Client (TcCommitConf tx epoch)) = true
is_telling (Client (TcKeyFailConf tx epoch)) = true
is_telling (Takeover (LqhTransConf tx key told epoch)) = true
is_telling (Takeover LqhTransReq) = true
is_telling (Takeover LqhTransEnd) = true
is_telling (Client (TcRollbackRep tx cause)) = true
is_telling (Chain signal) = true
is_telling (Host (Continue (Transaction tx) at)) = true
is_telling body = false

-- it tells none of that
abbrev pub IsSilent : Outgoing → Type 0
IsSilent sent = is_telling sent.body ≡ false

abbrev pub AreSilent : List Outgoing → Type 0
AreSilent sends = Each IsSilent sends

-- so whatever is said of transactions, it is told
module _ (D : TxId → ℕ → Type 0) (B : TxId → Type 0) where
  silent_tells : (body : Body) → is_telling body ≡ false → Tells D B body
  silent_tells (Client (TcCommitReq tx)) is = absurd (false≢true (sym is))
  silent_tells (Epoch (DiVerifyReq tx ops)) is = absurd (false≢true (sym is))
  silent_tells (Epoch (DiVerifyConf tx epoch)) is = absurd (false≢true (sym is))
  silent_tells (Chain (Commit tx key epoch chain at)) is = absurd (false≢true (sym is))
  silent_tells (Client (TcCommitConf tx epoch)) is = absurd (false≢true (sym is))
  silent_tells (Client (TcKeyFailConf tx epoch)) is = absurd (false≢true (sym is))
  silent_tells (Takeover (LqhTransConf tx key told epoch)) is = absurd (false≢true (sym is))
  silent_tells body is = tt

  pub silent_tell : (sends : List Outgoing) → AreSilent sends → Each (λ (sent : Outgoing). Tells D B sent.body) sends
  silent_tell sends all =
      each_map IsSilent (λ (sent : Outgoing). Tells D B sent.body) sends
      (λ sent is. silent_tells sent.body is)
      all
