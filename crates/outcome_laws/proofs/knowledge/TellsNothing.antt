-- Steps that tell nothing of transactions: no signal that they send does, none counts, and no mark is of an outcome.
use Rattle.std.proofs.Common.{◌≡◌, Bool, true, false, List, refl}
use Rattle.run_theory.specs.Lists.{Each}
use Rattle.run_theory.proofs.Pasts.{each_map}
use Rattle.sig_core.specs.declared.outs.Outgoing.{Outgoing}
use Rattle.sig_core.specs.declared.signal.Body.{Body}
use Rattle.sig_core.specs.declared.signal.Body.TheVariants.{Chain, Client, Epoch, Host, Takeover}
use Rattle.sig_core.specs.declared.signal.client.ClientSignal.TheVariants.{ViewRep}
use Rattle.sig_core.specs.declared.signal.epoch.EpochSignal.TheVariants.{DiVerifyConf, DiVerifyEnd, DiVerifyReq}
use Rattle.sig_core.specs.declared.signal.host.HostSignal.TheVariants.{Continue}
use Rattle.sig_core.specs.declared.signal.host.Work.TheVariants.{Transaction}
use Rattle.sig_core.specs.declared.signal.takeover.TakeoverSignal.TheVariants.{LqhTransConf, LqhTransEnd, LqhTransReq}
use Rattle.sig_core.specs.Step.{Step}
use Rattle.outcome_laws.proofs.epochs.Silent.{AreSilent, IsSilent, is_telling}
use Rattle.outcome_laws.proofs.once.Counted.{AreUncounted, IsUncounted, is_counted}
use Rattle.outcome_laws.proofs.knowledge.MarksOfNoOutcome.{MarksNone}

-- a signal of clients and coordinators, but for the news of a view, one of chains, one that tells of a transaction's
-- epoch, one that goes on with what is sent of a transaction, or one that asks for a report or ends it
abbrev pub is_tale : Body → Bool
is_tale (Client ViewRep) = false
is_tale (Client signal) = true
is_tale (Chain signal) = true
is_tale (Epoch (DiVerifyReq tx ops)) = true
is_tale (Epoch (DiVerifyConf tx epoch)) = true
is_tale (Epoch (DiVerifyEnd tx)) = true
is_tale (Takeover (LqhTransConf tx key told epoch)) = true
is_tale (Takeover LqhTransReq) = true
is_tale (Takeover LqhTransEnd) = true
is_tale (Host (Continue (Transaction tx) at)) = true
is_tale body = false

-- it is none of them
abbrev pub IsUntold : Outgoing → Type 0
IsUntold sent = is_tale sent.body ≡ false

abbrev pub AreUntold : List Outgoing → Type 0
AreUntold sends = Each IsUntold sends

abbrev pub TellsNothing : {S : Type 0} → Step S → Type 0
TellsNothing step = AreUntold step.effects.sends × MarksNone step

-- so it tells nothing, and doesn't count
body_silent : (body : Body) → is_tale body ≡ false → is_telling body ≡ false
body_silent (Client ViewRep) none = refl
body_silent (Client signal) none = absurd cc
body_silent (Chain signal) none = absurd cc
body_silent (Epoch (DiVerifyReq tx ops)) none = absurd cc
body_silent (Epoch (DiVerifyConf tx epoch)) none = absurd cc
body_silent (Epoch (DiVerifyEnd tx)) none = absurd cc
body_silent (Takeover (LqhTransConf tx key told epoch)) none = absurd cc
body_silent (Takeover LqhTransReq) none = absurd cc
body_silent (Takeover LqhTransEnd) none = absurd cc
body_silent (Host (Continue (Transaction tx) at)) none = absurd cc
body_silent body none = refl

body_uncounted : (body : Body) → is_tale body ≡ false → is_counted body ≡ false
body_uncounted (Client ViewRep) none = refl
body_uncounted (Client signal) none = absurd cc
body_uncounted (Chain signal) none = absurd cc
body_uncounted (Epoch (DiVerifyReq tx ops)) none = absurd cc
body_uncounted (Epoch (DiVerifyEnd tx)) none = absurd cc
body_uncounted body none = refl

pub untold_silent : (sends : List Outgoing) → AreUntold sends → AreSilent sends
untold_silent sends none = each_map IsUntold IsSilent sends (λ sent is. body_silent sent.body is) none

pub untold_uncounted : (sends : List Outgoing) → AreUntold sends → AreUncounted sends
untold_uncounted sends none = each_map IsUntold IsUncounted sends (λ sent is. body_uncounted sent.body is) none
