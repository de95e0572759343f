-- Neither the client's side nor the epochs of a node tell that a transaction was aborted since the cluster is down.
use Rattle.std.proofs.Common.{◌≡◌, ℕ, true}
use Rattle.run_theory.proofs.Pasts.{each_map}
use Rattle.sig_core.specs.declared.signal.Body.{Body}
use Rattle.sig_core.specs.declared.signal.Body.TheVariants.{Chain, Client}
use Rattle.sig_core.specs.declared.signal.Signal.{Signal}
use Rattle.sig_core.specs.declared.signal.client.ClientSignal.TheVariants.{TcRollbackRep}
use Rattle.step_forms.specs.Does.{IsWord}
use Rattle.api_views.specs.Client.{client_row}
use Rattle.api_views.specs.State.{ClientState}
use Rattle.api_views.specs.Words.{is_client_word}
use Rattle.api_views.proofs.Walk.{client_words}
use Rattle.dih_node.specs.Dih.{dih_row}
use Rattle.dih_node.specs.Orders.{install_row}
use Rattle.dih_node.specs.State.{DihState}
use Rattle.dih_node.specs.Words.{is_dih_word}
use Rattle.dih_node.proofs.Walk.{dih_words}
use Rattle.outcome_laws.specs.Down.{TellsNoDown}
use Rattle.outcome_laws.proofs.downfall.Sends.{IsNoDown, SendsNoDown}

of_client : (body : Body) → is_client_word body ≡ true → TellsNoDown body
of_client (Client (TcRollbackRep tx cause)) is = absurd cc
of_client (Chain signal) is = absurd cc
of_client body is = tt

of_epochs : (body : Body) → is_dih_word body ≡ true → TellsNoDown body
of_epochs (Client signal) is = absurd cc
of_epochs (Chain signal) is = absurd cc
of_epochs body is = tt

pub client_down_none : (s : ClientState) (x : Signal) → SendsNoDown (client_row s x)
client_down_none s x =
    each_map (IsWord is_client_word) IsNoDown (client_row s x).effects.sends (λ sent is. of_client sent.body is)
    (client_words s x).0

pub epochs_down_none : (s : DihState) (x : Signal) → SendsNoDown (dih_row s x)
epochs_down_none s x =
    each_map (IsWord is_dih_word) IsNoDown (dih_row s x).effects.sends (λ sent is. of_epochs sent.body is)
    (dih_words.0 s x).0

pub epochs_install_down_none : (s : DihState) (number : ℕ) → SendsNoDown (install_row s number)
epochs_install_down_none s number =
    each_map (IsWord is_dih_word) IsNoDown (install_row s number).effects.sends (λ sent is. of_epochs sent.body is)
    (dih_words.1 s number).0
