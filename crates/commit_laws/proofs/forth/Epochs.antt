-- The epochs of a node say nothing of commits.
use Rattle.std.proofs.Common.{◌≡◌, ℕ, true, List}
use Rattle.run_theory.specs.Lists.{Each}
use Rattle.run_theory.proofs.Pasts.{each_map}
use Rattle.sig_core.specs.declared.member.TxId.{TxId}
use Rattle.sig_core.specs.declared.outs.Outgoing.{Outgoing}
use Rattle.sig_core.specs.declared.signal.Body.{Body}
use Rattle.sig_core.specs.declared.signal.Body.TheVariants.{Chain, Client, Takeover}
use Rattle.sig_core.specs.declared.signal.Signal.{Signal}
use Rattle.step_forms.specs.Does.{IsWord}
use Rattle.dih_node.specs.Dih.{dih_row}
use Rattle.dih_node.specs.Orders.{install_row}
use Rattle.dih_node.specs.State.{DihState}
use Rattle.dih_node.specs.Words.{is_dih_word}
use Rattle.dih_node.proofs.Walk.{dih_words}
use Rattle.commit_laws.proofs.forth.Speaks.{AreSpoken, Speaks}

module _ (F A : TxId → Type 0) where
  words_speak : (sends : List Outgoing) → Each (IsWord is_dih_word) sends → AreSpoken F A sends
  words_speak sends all =
      each_map (IsWord is_dih_word) (λ (sent : Outgoing). Speaks F A sent.body) sends (λ sent is. by sent.body is) all
    where
      by : (body : Body) → is_dih_word body ≡ true → Speaks F A body
      by (Chain signal) is = absurd cc
      by (Client signal) is = absurd cc
      by (Takeover signal) is = absurd cc
      by body is = tt

  pub dih_speaks : (s : DihState) (x : Signal) → AreSpoken F A (dih_row s x).effects.sends
  dih_speaks s x = words_speak (dih_row s x).effects.sends (dih_words.0 s x).0

  pub dih_installs_speak : (s : DihState) (number : ℕ) → AreSpoken F A (install_row s number).effects.sends
  dih_installs_speak s number = words_speak (install_row s number).effects.sends (dih_words.1 s number).0
