-- What a takeover sends, whatever it takes.
use Rattle.std.proofs.Common.{Bool, true, false, refl, ◌≡◌}
use Rattle.sig_core.specs.declared.signal.Body.{Body}
use Rattle.sig_core.specs.declared.signal.Body.TheVariants.{Chain, Client, Host, Takeover}
use Rattle.sig_core.specs.declared.signal.Signal.{Signal}
use Rattle.sig_core.specs.declared.signal.chain.ChainSignal.TheVariants.{Abort, Commit, Complete}
use Rattle.sig_core.specs.declared.signal.client.ClientSignal.TheVariants.{NfCompleteRep, TcKeyFailConf, TcKeyFailRef}
use Rattle.sig_core.specs.declared.signal.host.HostSignal.TheVariants.{Continue}
use Rattle.sig_core.specs.declared.signal.takeover.TakeoverSignal.TheVariants.{LqhTransReq, TakeoverEnd}
use Rattle.takeover_block.specs.State.{TakeoverState}
use Rattle.takeover_block.specs.Takeover.{takeover_row}
use Rattle.view_laws.proofs.words.Sent.{IsOf, SendsOf}
use Rattle.run_theory.proofs.Pasts.{each_map}
use Rattle.step_forms.specs.Does.{IsWord}
use Rattle.takeover_block.specs.Words.{is_takeover_word}
use Rattle.takeover_block.proofs.Walk.{takeover_words}

-- it asks replicas for what they hold, ends it, tells the client how and that it is over, and goes on
abbrev pub is_of_takeover : Body → Bool
is_of_takeover (Takeover LqhTransReq) = true
is_of_takeover (Takeover TakeoverEnd) = true
is_of_takeover (Chain (Commit tx key epoch chain at)) = true
is_of_takeover (Chain (Complete tx key chain at)) = true
is_of_takeover (Chain (Abort tx key)) = true
is_of_takeover (Client (TcKeyFailConf tx epoch)) = true
is_of_takeover (Client (TcKeyFailRef tx)) = true
is_of_takeover (Client NfCompleteRep) = true
is_of_takeover (Host (Continue doing at)) = true
is_of_takeover body = false

of_words : (body : Body) → is_takeover_word body ≡ true → is_of_takeover body ≡ true
of_words (Host (Continue doing at)) is = refl
of_words (Takeover LqhTransReq) is = is
of_words (Chain (Abort tx key)) is = is
of_words (Client NfCompleteRep) is = is
of_words body is = is

pub takeover_kinds : (s : TakeoverState) (x : Signal) → SendsOf is_of_takeover (takeover_row s x)
takeover_kinds s x =
    each_map (IsWord is_takeover_word) (IsOf is_of_takeover) (takeover_row s x).effects.sends
    (λ sent is. of_words sent.body is) (takeover_words.takes s x).0
