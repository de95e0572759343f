-- Epochs of a node, its membership, and the client's side speak of no commit and of no abort.
use Rattle.std.proofs.Common.{◌≡◌, ℕ, true, List}
use Rattle.run_theory.specs.Lists.{Each}
use Rattle.run_theory.proofs.Pasts.{each_map}
use Rattle.sig_core.specs.declared.member.TxId.{TxId}
use Rattle.sig_core.specs.declared.outs.Outgoing.{Outgoing}
use Rattle.sig_core.specs.declared.signal.Body.{Body}
use Rattle.sig_core.specs.declared.signal.Body.TheVariants.{Chain, Client}
use Rattle.sig_core.specs.declared.signal.Signal.{Signal}
use Rattle.sig_core.specs.declared.signal.client.ClientSignal.TheVariants.{TcKeyFailRef, TcRollbackRep}
use Rattle.step_forms.specs.Does.{IsWord}
use Rattle.dih_node.specs.Dih.{dih_row}
use Rattle.dih_node.specs.Orders as dih
use Rattle.dih_node.specs.State.{DihState}
use Rattle.dih_node.specs.Words.{is_dih_word}
use Rattle.dih_node.proofs.Walk.{dih_words}
use Rattle.node_views.specs.declared.parts.Parts.{Parts}
use Rattle.node_views.specs.declared.parts.Parts.TheVariants.{Shell, Main, Tc, Ldm}
use Rattle.node_views.specs.Words.{parts_words}
use Rattle.world_core.specs.Start.{Start}
use Rattle.world_core.specs.Steps.{HostStep}
use Rattle.world_views.specs.Hosts.{started}
use Rattle.world_views.specs.Machine.{step_after}
use Rattle.request_laws.proofs.routes.Hosts.{IsBeside}
use Rattle.commit_laws.proofs.hosts.Words.{Beside, host_each, of_beside}
use Rattle.commit_laws.proofs.fates.SpokenWords.{AreSpoken, IsSpoken, Speaks}

module _ (A C : TxId → Type 0) where
  words_speak : (sends : List Outgoing) → Each (IsWord is_dih_word) sends → AreSpoken A C sends
  words_speak sends all =
      each_map (IsWord is_dih_word) (IsSpoken A C) sends (λ sent is. by sent.body is) all
    where
      by : (body : Body) → is_dih_word body ≡ true → Speaks A C body
      by (Chain signal) is = absurd cc
      by (Client signal) is = absurd cc
      by body is = tt

  pub epochs_speak : (s : DihState) (x : Signal) → AreSpoken A C (dih_row s x).effects.sends
  epochs_speak s x = words_speak (dih_row s x).effects.sends (dih_words.0 s x).0

  pub epochs_install_speak : (s : DihState) (number : ℕ) → AreSpoken A C (dih.install_row s number).effects.sends
  epochs_install_speak s number = words_speak (dih.install_row s number).effects.sends (dih_words.1 s number).0

  -- hosts beside those of coordinators and rows
  beside_words : (parts : Parts) → Beside parts → (body : Body) → parts_words parts body ≡ true → Speaks A C body
  beside_words (Tc p) beside body is = absurd beside
  beside_words (Ldm p) beside body is = absurd beside
  beside_words (Shell p) beside (Chain signal) is = absurd cc
  beside_words (Shell p) beside (Client (TcRollbackRep tx cause)) is = absurd cc
  beside_words (Shell p) beside (Client (TcKeyFailRef tx)) is = absurd cc
  beside_words (Main p) beside (Chain signal) is = absurd cc
  beside_words (Main p) beside (Client (TcRollbackRep tx cause)) is = absurd cc
  beside_words (Main p) beside (Client (TcKeyFailRef tx)) is = absurd cc
  beside_words parts beside body is = tt

  pub beside_speaks : (start : Start) (h : ℕ) → IsBeside (started start h).parts → (log : List HostStep) (e : HostStep)
      → AreSpoken A C (step_after start h log e).effects.sends
  beside_speaks start h first log e =
      host_each (Unit {0}) (Unit {0}) ⊥ ⊥ (Speaks A C) beside_words start h
      (of_beside (started start h).parts first) log e
