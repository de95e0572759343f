-- No coordinator tells its client that a transaction was aborted since the cluster is down: only the client's side
-- reports it.
use Rattle.std.specs.Prelude.{ℕ, List}
use Rattle.run_theory.specs.Lists.{Each}
use Rattle.sig_core.specs.declared.member.TxId.{TxId}
use Rattle.sig_core.specs.declared.outcome.AbortCause.{AbortCause}
use Rattle.sig_core.specs.declared.outcome.AbortCause.TheVariants.{Down}
use Rattle.sig_core.specs.declared.signal.Body.{Body}
use Rattle.sig_core.specs.declared.signal.Body.TheVariants.{Chain, Client}
use Rattle.sig_core.specs.declared.signal.chain.ChainSignal.TheVariants.{LqhKeyRef}
use Rattle.sig_core.specs.declared.signal.client.ClientSignal.TheVariants.{TcRollbackRep}
use Rattle.tc_block.specs.declared.phase.Phase.{Phase}
use Rattle.tc_block.specs.declared.phase.Phase.TheVariants.{Aborting}
use Rattle.tc_block.specs.declared.transaction.Transaction.{Transaction}
use Rattle.tc_views.specs.State.{CoordinatorState}
use Rattle.node_views.specs.declared.parts.Parts.{Parts}
use Rattle.node_views.specs.declared.parts.Parts.TheVariants.{Tc}
use Rattle.world_core.specs.Start.{Start}
use Rattle.world_core.specs.Steps.{HostStep}
use Rattle.view_laws.specs.Runs.{AreOfCluster}

-- any cause but that
abbrev pub IsNotDown : AbortCause → Type 0
IsNotDown Down = ⊥
IsNotDown cause = Unit {0}

-- a client that is told of an abort, and a coordinator whose operation is refused, are told of another cause
abbrev pub TellsNoDown : Body → Type 0
TellsNoDown (Client (TcRollbackRep tx cause)) = IsNotDown cause
TellsNoDown (Chain (LqhKeyRef tx key cause)) = IsNotDown cause
TellsNoDown body = Unit {0}

-- a transaction that is aborted is so for another cause
abbrev pub IsNotDownIn : Phase → Type 0
IsNotDownIn (Aborting cause verifying awaited) = IsNotDown cause
IsNotDownIn phase = Unit {0}

abbrev pub CoordinatorHasNoDown : CoordinatorState → Type 0
CoordinatorHasNoDown s = Each (λ (e : TxId × Transaction). IsNotDownIn e.1.phase) s.tc.live

-- of the blocks of a host only a coordinator has causes of aborts
abbrev pub PartsHaveNoDown : Parts → Type 0
PartsHaveNoDown (Tc p) = CoordinatorHasNoDown p.coordinator
PartsHaveNoDown parts = Unit {0}

-- whatever a host takes
abbrev pub TakesNoDown : HostStep → Type 0
TakesNoDown e = TellsNoDown e.step.taken.body

-- in all right logs
abbrev pub NoDownIsTold : Type 0
NoDownIsTold =
    (start : Start) (logs : ℕ → List HostStep) → AreOfCluster start logs → (h : ℕ) → Each TakesNoDown (logs h)
