-- Whoever knows that a transaction is committed, knows of one that its coordinator has committed.
use Rattle.std.specs.Prelude.{◌≡◌, ℕ, true, List}
use Rattle.run_theory.specs.Links.{sent}
use Rattle.run_theory.specs.Lists.{Each, IsIn}
use Rattle.sig_core.specs.declared.member.Member.{Member}
use Rattle.sig_core.specs.declared.member.TxId.{TxId}
use Rattle.sig_core.specs.declared.signal.Body.{Body}
use Rattle.sig_core.specs.declared.signal.Body.TheVariants.{Chain, Client, Takeover}
use Rattle.sig_core.specs.declared.signal.chain.ChainSignal.TheVariants.{Commit, Committed, Complete, Completed}
use Rattle.sig_core.specs.declared.signal.client.ClientSignal.TheVariants.{TcCommitAck, TcCommitConf, TcKeyFailConf}
use Rattle.sig_core.specs.declared.signal.takeover.TakeoverSignal.TheVariants.{LqhTransConf}
use Rattle.world_core.specs.Start.{Start, made}
use Rattle.world_core.specs.Steps.{Addressed, HostStep}
use Rattle.view_laws.specs.Order.{sound_machine}
use Rattle.moment_laws.specs.Moments.{IsMoment, logs_of}
use Rattle.moment_laws.specs.Places.{tc_of}
use Rattle.outcome_laws.specs.Known.{RowsKnow, TakeoverKnows}
use Rattle.outcome_laws.specs.Tells.{TellsOfRecord}
use Rattle.request_laws.specs.Blocks.{takeover_after}
use Rattle.commit_laws.specs.Going.{is_forth}
use Rattle.commit_laws.specs.Traces.{is_known, rows_at}

-- what a signal tells of who was committed
module _ (F : TxId → Type 0) where
  abbrev pub TellsForth : Body → Type 0
  TellsForth (Chain (Commit tx key epoch chain at)) = F tx
  TellsForth (Chain (Committed tx key)) = F tx
  TellsForth (Chain (Complete tx key chain at)) = F tx
  TellsForth (Chain (Completed tx key)) = F tx
  TellsForth (Client (TcCommitConf tx epoch)) = F tx
  TellsForth (Client (TcKeyFailConf tx epoch)) = F tx
  TellsForth (Client (TcCommitAck tx)) = F tx
  TellsForth (Takeover (LqhTransConf tx key told epoch)) = TellsOfRecord (λ other e. F other) F tx told epoch
  TellsForth body = Unit {0}

module _ (start : Start) (logs : ℕ → List HostStep) where
  abbrev pub IsForth : TxId → Type 0
  IsForth tx = is_forth start logs tx ≡ true

  pub record ForthIsKnown : Type 0 where
    pub signals : (i j : ℕ) → Each (λ (x : Addressed). TellsForth IsForth x.signal.body)
        (sent (sound_machine start) i j (logs i))
    pub rows : (member : Member) → IsIn member (made start)
        → RowsKnow (λ tx epoch. IsForth tx) IsForth (rows_at start logs member)
    pub takeovers : (member : Member) → IsIn member (made start)
        → TakeoverKnows (λ tx epoch. IsForth tx) IsForth (takeover_after start member (logs (tc_of start member)))
    pub known : (tx : TxId) → is_known start logs tx ≡ true → IsForth tx

abbrev pub ForthIsKnownAlways : Type 0
ForthIsKnownAlways =
    (start : Start) (all : ℕ → List HostStep) (es : List HostStep) → IsMoment start all es
    → ForthIsKnown start (logs_of start es)
