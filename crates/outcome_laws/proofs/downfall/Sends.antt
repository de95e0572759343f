-- Signals that don't tell that a transaction was aborted since the cluster is down.
use Rattle.std.proofs.Common.{◌≡◌, false, List}
use Rattle.run_theory.specs.Lists.{Each}
use Rattle.run_theory.proofs.Pasts.{each_map}
use Rattle.sig_core.specs.declared.outs.Outgoing.{Outgoing}
use Rattle.sig_core.specs.declared.signal.Body.{Body}
use Rattle.sig_core.specs.declared.signal.Body.TheVariants.{Chain, Client}
use Rattle.sig_core.specs.declared.signal.chain.ChainSignal.TheVariants.{LqhKeyRef}
use Rattle.sig_core.specs.declared.signal.client.ClientSignal.TheVariants.{TcRollbackRep}
use Rattle.sig_core.specs.Step.{Step}
use Rattle.outcome_laws.specs.Down.{TellsNoDown}
use Rattle.outcome_laws.proofs.epochs.Silent.{AreSilent, IsSilent, is_telling}

abbrev pub IsNoDown : Outgoing → Type 0
IsNoDown sent = TellsNoDown sent.body

abbrev pub AreNoDown : List Outgoing → Type 0
AreNoDown sends = Each IsNoDown sends

-- a step sends no others
abbrev pub SendsNoDown : {S : Type 0} → Step S → Type 0
SendsNoDown step = AreNoDown step.effects.sends

-- what tells nothing of transactions doesn't
silent_none : (body : Body) → is_telling body ≡ false → TellsNoDown body
silent_none (Client (TcRollbackRep tx cause)) silent = absurd cc
silent_none (Chain (LqhKeyRef tx key cause)) silent = absurd cc
silent_none body silent = tt

pub silent_none_all : (sends : List Outgoing) → AreSilent sends → AreNoDown sends
silent_none_all sends silent = each_map IsSilent IsNoDown sends (λ sent is. silent_none sent.body is) silent
