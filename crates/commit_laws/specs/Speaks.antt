-- Who speaks of the abort of a transaction, and who of its commit, says what becomes of it.
use Rattle.std.specs.Prelude.{◌≡◌, ◌≢◌, ℕ, List}
use Rattle.run_theory.specs.Links.{sent}
use Rattle.run_theory.specs.Lists.{Each}
use Rattle.sig_core.specs.declared.outcome.AbortCause.{AbortCause}
use Rattle.sig_core.specs.declared.outcome.AbortCause.TheVariants.{Down}
use Rattle.sig_core.specs.declared.mark.Mark.TheVariants.{Reported}
use Rattle.sig_core.specs.declared.outcome.Outcome.TheVariants.{Aborted as ReportedAborted}
use Rattle.sig_core.specs.declared.member.TxId.{TxId}
use Rattle.sig_core.specs.declared.signal.Body.{Body}
use Rattle.sig_core.specs.declared.signal.Body.TheVariants.{Chain, Client}
use Rattle.sig_core.specs.declared.signal.chain.ChainSignal.TheVariants.{Abort, Aborted, Commit, Committed, Complete}
use Rattle.sig_core.specs.declared.signal.chain.ChainSignal.TheVariants.{Completed}
use Rattle.sig_core.specs.declared.signal.client.ClientSignal.TheVariants.{TcKeyFailRef, TcRollbackRep}
use Rattle.world_core.specs.Start.{Start}
use Rattle.world_core.specs.Steps.{Addressed, HostStep}
use Rattle.view_laws.specs.Order.{sound_machine}
use Rattle.moment_laws.specs.Moments.{IsMoment, current, logs_of}
use Rattle.outcome_laws.specs.Decided.{IsMarked}
use Rattle.commit_laws.specs.Fates.{Fate, aborts, commits, fate}

-- what a signal says of aborts, whatever its view, and of commits, in the current view
module _ (F : TxId → Fate) where
  abbrev pub SaysAbort : Body → Type 0
  SaysAbort (Chain (Abort tx key)) = F tx ≡ aborts
  SaysAbort (Chain (Aborted tx key)) = F tx ≡ aborts
  SaysAbort (Client (TcRollbackRep tx cause)) = F tx ≡ aborts
  SaysAbort (Client (TcKeyFailRef tx)) = F tx ≡ aborts
  SaysAbort body = Unit {0}

  abbrev pub SaysCommit : Body → Type 0
  SaysCommit (Chain (Commit tx key epoch chain at)) = F tx ≡ commits
  SaysCommit (Chain (Committed tx key)) = F tx ≡ commits
  SaysCommit (Chain (Complete tx key chain at)) = F tx ≡ commits
  SaysCommit (Chain (Completed tx key)) = F tx ≡ commits
  SaysCommit body = Unit {0}

pub record AreSpokenTruly (start : Start) (logs : ℕ → List HostStep) : Type 0 where
  pub aborts_said : (i j : ℕ) → Each (λ (x : Addressed). SaysAbort (fate start logs) x.signal.body)
      (sent (sound_machine start) i j (logs i))
  pub commits_said : (i j : ℕ)
      → Each (λ (x : Addressed). x.signal.view.number ≡ (current start logs).number → SaysCommit (fate start logs)
      x.signal.body)
      (sent (sound_machine start) i j (logs i))

-- whoever is reported aborted, but for the going down of the cluster, aborts
abbrev pub ReportedAbort : Type 0
ReportedAbort =
    (start : Start) (all : ℕ → List HostStep) (es : List HostStep) → IsMoment start all es
    → (tx : TxId) (cause : AbortCause)
    → cause ≢ Down → IsMarked (Reported tx (ReportedAborted cause)) (logs_of start es 0)
    → fate start (logs_of start es) tx ≡ aborts
