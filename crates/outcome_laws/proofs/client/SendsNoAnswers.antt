-- The client's side sends nothing that counts but wishes to commit, and decides nothing.
use Rattle.std.proofs.Common.{◌≡◌, Bool, true, false, refl}
use Rattle.run_theory.specs.Lists.{Each}
use Rattle.run_theory.proofs.Pasts.{each_map}
use Rattle.sig_core.specs.declared.mark.Mark.{Mark}
use Rattle.sig_core.specs.declared.mark.Mark.TheVariants.{Decided}
use Rattle.sig_core.specs.declared.member.TxId.{TxId}
use Rattle.sig_core.specs.declared.outs.Outgoing.{Outgoing}
use Rattle.sig_core.specs.declared.signal.Body.{Body}
use Rattle.sig_core.specs.declared.signal.Body.TheVariants.{Chain, Client, Epoch}
use Rattle.sig_core.specs.declared.signal.chain.ChainSignal.TheVariants.{LqhKeyRef}
use Rattle.sig_core.specs.declared.signal.client.ClientSignal.TheVariants.{TcBeginConf, TcKeyConf, TcRollbackRep}
use Rattle.sig_core.specs.declared.signal.epoch.EpochSignal.TheVariants.{DiVerifyEnd, DiVerifyReq}
use Rattle.sig_core.specs.declared.signal.Signal.{Signal}
use Rattle.step_forms.specs.Does.{IsAmong, IsWord}
use Rattle.api_views.specs.Client.{client_row}
use Rattle.api_views.specs.State.{ClientState}
use Rattle.api_views.specs.Words.{is_client_mark, is_client_word}
use Rattle.api_views.proofs.Walk.{client_words}
use Rattle.outcome_laws.specs.Counts.{is_decision}
use Rattle.outcome_laws.proofs.once.Counted.{is_down_cause}

-- what only coordinators send, or replicas never
abbrev pub is_coordinators : Body → Bool
is_coordinators (Client (TcBeginConf name tx)) = true
is_coordinators (Client (TcKeyConf tx answer)) = true
is_coordinators (Client (TcRollbackRep tx cause)) = true
is_coordinators (Epoch (DiVerifyReq tx ops)) = true
is_coordinators (Epoch (DiVerifyEnd tx)) = true
is_coordinators (Chain (LqhKeyRef tx key cause)) = is_down_cause cause
is_coordinators body = false

of_client : (body : Body) → is_client_word body ≡ true → is_coordinators body ≡ false
of_client (Client (TcBeginConf name tx)) is = absurd cc
of_client (Client (TcKeyConf tx answer)) is = absurd cc
of_client (Client (TcRollbackRep tx cause)) is = absurd cc
of_client (Epoch (DiVerifyReq tx ops)) is = absurd cc
of_client (Epoch (DiVerifyEnd tx)) is = absurd cc
of_client (Chain signal) is = absurd cc
of_client body is = refl

pub client_sends : (s : ClientState) (x : Signal)
    → Each (λ (sent : Outgoing). is_coordinators sent.body ≡ false) (client_row s x).effects.sends
client_sends s x =
    each_map (IsWord is_client_word) (λ (sent : Outgoing). is_coordinators sent.body ≡ false)
    (client_row s x).effects.sends (λ sent is. of_client sent.body is) (client_words s x).0

-- and decides none
undecided : (mark : Mark) → is_client_mark mark ≡ true → (tx : TxId) → is_decision tx mark ≡ false
undecided (Decided other epoch) is tx = absurd cc
undecided mark is tx = refl

pub client_decides_none : (s : ClientState) (x : Signal)
    → Each (λ (mark : Mark). (tx : TxId) → is_decision tx mark ≡ false) (client_row s x).effects.marks
client_decides_none s x =
    each_map (IsAmong is_client_mark) (λ (mark : Mark). (tx : TxId) → is_decision tx mark ≡ false)
    (client_row s x).effects.marks undecided (client_words s x).1
