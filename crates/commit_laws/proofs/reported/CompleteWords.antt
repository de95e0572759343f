-- Signals other than the word that a takeover is complete.
use Rattle.std.proofs.Common.{◌≡◌, Bool, true, false, List}
use Rattle.run_theory.specs.Lists.{Each}
use Rattle.sig_core.specs.declared.outs.Outgoing.{Outgoing}
use Rattle.sig_core.specs.declared.signal.Body.{Body}
use Rattle.sig_core.specs.declared.signal.Body.TheVariants.{Client}
use Rattle.sig_core.specs.declared.signal.client.ClientSignal.TheVariants.{NfCompleteRep}

abbrev pub is_no_word : Body → Bool
is_no_word (Client NfCompleteRep) = false
is_no_word body = true

abbrev pub IsNoWord : Outgoing → Type 0
IsNoWord sent = is_no_word sent.body ≡ true

abbrev pub AreNoWords : List Outgoing → Type 0
AreNoWords sends = Each (λ (sent : Outgoing). is_no_word sent.body ≡ true) sends
