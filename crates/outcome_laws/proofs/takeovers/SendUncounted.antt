-- A takeover sends nothing that counts, nor tells that a transaction was aborted since the cluster is down.
use Rattle.std.proofs.Common.{◌≡◌, true, false, refl}
use Rattle.sig_core.specs.declared.signal.Body.{Body}
use Rattle.sig_core.specs.declared.signal.Body.TheVariants.{Chain, Client, Epoch}
use Rattle.sig_core.specs.declared.signal.Signal.{Signal}
use Rattle.sig_core.specs.declared.signal.chain.ChainSignal.TheVariants.{LqhKeyRef}
use Rattle.sig_core.specs.declared.signal.client.ClientSignal.TheVariants.{TcBeginConf, TcCommitReq, TcKeyConf}
use Rattle.sig_core.specs.declared.signal.client.ClientSignal.TheVariants.{TcKeyReq, TcRollbackRep}
use Rattle.takeover_block.specs.State.{TakeoverState}
use Rattle.takeover_block.specs.Takeover.{takeover_row}
use Rattle.view_laws.proofs.words.Sent.{each_of_kinds}
use Rattle.view_laws.proofs.words.Takeover.{is_of_takeover, takeover_kinds}
use Rattle.outcome_laws.specs.Down.{TellsNoDown}
use Rattle.outcome_laws.proofs.downfall.Sends.{SendsNoDown}
use Rattle.outcome_laws.proofs.once.Counted.{SendsUncounted, is_counted}

uncounted : (body : Body) → is_of_takeover body ≡ true → is_counted body ≡ false
uncounted (Client (TcBeginConf name tx)) is = absurd cc
uncounted (Client (TcKeyReq tx op)) is = absurd cc
uncounted (Client (TcKeyConf tx answer)) is = absurd cc
uncounted (Client (TcCommitReq tx)) is = absurd cc
uncounted (Client (TcRollbackRep tx cause)) is = absurd cc
uncounted (Epoch signal) is = absurd cc
uncounted (Chain (LqhKeyRef tx key cause)) is = absurd cc
uncounted body is = refl

no_down : (body : Body) → is_of_takeover body ≡ true → TellsNoDown body
no_down (Client (TcRollbackRep tx cause)) is = absurd cc
no_down (Chain (LqhKeyRef tx key cause)) is = absurd cc
no_down body is = tt

pub takeover_none : (s : TakeoverState) (x : Signal) → SendsUncounted (takeover_row s x)
takeover_none s x = each_of_kinds is_of_takeover (λ body. is_counted body ≡ false) _ uncounted (takeover_kinds s x)

pub takeover_down_none : (s : TakeoverState) (x : Signal) → SendsNoDown (takeover_row s x)
takeover_down_none s x = each_of_kinds is_of_takeover (λ body. TellsNoDown body) _ no_down (takeover_kinds s x)
