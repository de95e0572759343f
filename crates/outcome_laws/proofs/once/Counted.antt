-- Signals that count: what only a coordinator tells a client, or asks the epochs of its node, and what only a client
-- asks a coordinator; that the cluster is down no replica says.
use Rattle.std.proofs.Common.{◌≡◌, Bool, true, false, List, [], ◌∷◌, ap, arith, refl}
use Rattle.std.specs.List.{count_by}
use Rattle.run_theory.specs.Lists.{Each}
use Rattle.sig_core.specs.declared.member.TxId.{TxId}
use Rattle.sig_core.specs.declared.outcome.AbortCause.{AbortCause}
use Rattle.sig_core.specs.declared.outcome.AbortCause.TheVariants.{Down}
use Rattle.sig_core.specs.declared.outs.Outgoing.{Outgoing}
use Rattle.sig_core.specs.declared.signal.Body.{Body}
use Rattle.sig_core.specs.declared.signal.Body.TheVariants.{Chain, Client, Epoch}
use Rattle.sig_core.specs.declared.signal.chain.ChainSignal.TheVariants.{LqhKeyRef}
use Rattle.sig_core.specs.declared.signal.client.ClientSignal.TheVariants.{TcBeginConf, TcCommitReq, TcKeyConf}
use Rattle.sig_core.specs.declared.signal.client.ClientSignal.TheVariants.{TcKeyReq, TcRollbackRep}
use Rattle.sig_core.specs.declared.signal.epoch.EpochSignal.TheVariants.{DiVerifyEnd, DiVerifyReq}
use Rattle.sig_core.specs.Step.{Step}
use Rattle.tc_block.specs.Complete.{one_if}
use Rattle.outcome_laws.specs.Counts.{is_asking, is_begin, is_wish}
use Rattle.outcome_laws.proofs.coordinators.Lists.{count_more}

-- the cluster is down
abbrev pub is_down_cause : AbortCause → Bool
is_down_cause Down = true
is_down_cause cause = false

abbrev pub is_counted : Body → Bool
is_counted (Client (TcBeginConf name tx)) = true
is_counted (Client (TcKeyReq tx op)) = true
is_counted (Client (TcKeyConf tx answer)) = true
is_counted (Client (TcCommitReq tx)) = true
is_counted (Client (TcRollbackRep tx cause)) = true
is_counted (Epoch (DiVerifyReq tx ops)) = true
is_counted (Epoch (DiVerifyEnd tx)) = true
is_counted (Chain (LqhKeyRef tx key cause)) = is_down_cause cause
is_counted body = false

-- it is none of them
abbrev pub IsUncounted : Outgoing → Type 0
IsUncounted send = is_counted send.body ≡ false

abbrev pub AreUncounted : List Outgoing → Type 0
AreUncounted sends = Each IsUncounted sends

-- a step sends none
abbrev pub SendsUncounted : {S : Type 0} → Step S → Type 0
SendsUncounted step = AreUncounted step.effects.sends

-- where none passes a test there are 0 of them
pub count_none : {A : Type 0} (p : A → Bool) (xs : List A) → Each (λ x. p x ≡ false) xs → count_by p xs ≡ 0
count_none p [] none = refl
count_none p (x ∷ xs) none =
    omega (arith, count_more p x xs, ap one_if none.0, count_none p xs none.1)

-- so it is with each kind
pub uncounted_begin : (tx : TxId) (body : Body) → is_counted body ≡ false → is_begin tx body ≡ false
uncounted_begin tx (Client (TcBeginConf name other)) none = absurd cc
uncounted_begin tx body none = refl

pub uncounted_wish : (tx : TxId) (body : Body) → is_counted body ≡ false → is_wish tx body ≡ false
uncounted_wish tx (Client (TcCommitReq other)) none = absurd cc
uncounted_wish tx body none = refl

pub uncounted_asking : (tx : TxId) (body : Body) → is_counted body ≡ false → is_asking tx body ≡ false
uncounted_asking tx (Epoch (DiVerifyReq other ops)) none = absurd cc
uncounted_asking tx body none = refl
