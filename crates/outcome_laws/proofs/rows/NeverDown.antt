-- The rows of a node and their saver don't tell that a transaction was aborted since the cluster is down, whatever they
-- take.
use Rattle.std.proofs.Common.{◌≡◌, false}
use Rattle.run_theory.proofs.Pasts.{each_map}
use Rattle.sig_core.specs.declared.outcome.AbortCause.{AbortCause}
use Rattle.sig_core.specs.declared.outcome.AbortCause.TheVariants.{Down}
use Rattle.sig_core.specs.declared.signal.Body.{Body}
use Rattle.sig_core.specs.declared.signal.Body.TheVariants.{Chain, Client}
use Rattle.sig_core.specs.declared.signal.chain.ChainSignal.TheVariants.{LqhKeyRef}
use Rattle.sig_core.specs.declared.signal.client.ClientSignal.TheVariants.{TcRollbackRep}
use Rattle.sig_core.specs.declared.signal.Signal.{Signal}
use Rattle.lqh_saver.specs.Saver.{saver_row}
use Rattle.lqh_saver.specs.State.{SavingState}
use Rattle.outcome_laws.specs.Down.{IsNotDown, TellsNoDown}
use Rattle.outcome_laws.proofs.downfall.Sends.{IsNoDown, SendsNoDown}
use Rattle.outcome_laws.proofs.once.Counted.{IsUncounted, is_counted, is_down_cause}
use Rattle.outcome_laws.proofs.rows.SendUncounted.{rows_none}

other_cause : (cause : AbortCause) → is_down_cause cause ≡ false → IsNotDown cause
other_cause Down none = absurd cc
other_cause cause none = tt

uncounted_up : (body : Body) → is_counted body ≡ false → TellsNoDown body
uncounted_up (Client (TcRollbackRep tx cause)) none = absurd cc
uncounted_up (Chain (LqhKeyRef tx key cause)) none = other_cause cause none
uncounted_up body none = tt

pub rows_down_none : (s : SavingState) (x : Signal) → SendsNoDown (saver_row s x)
rows_down_none s x =
    each_map IsUncounted IsNoDown (saver_row s x).effects.sends (λ sent is. uncounted_up sent.body is)
    (rows_none s x)
