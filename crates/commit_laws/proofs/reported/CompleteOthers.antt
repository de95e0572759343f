-- Of all that hosts run only takeovers say that they are complete.
use Rattle.std.proofs.Common.{◌≡◌, ◌≢◌, ℕ, true, List, refl, sym}
use Rattle.std.proofs.lemmas.Bool.{true≢false}
use Rattle.run_theory.specs.Lists.{Each}
use Rattle.run_theory.proofs.Pasts.{each_append, each_map}
use Rattle.sig_core.specs.declared.outs.Outgoing.{Outgoing}
use Rattle.sig_core.specs.declared.place.BlockId.{BlockId}
use Rattle.sig_core.specs.declared.place.BlockId.TheVariants as block
use Rattle.sig_core.specs.declared.signal.Body.{Body}
use Rattle.sig_core.specs.declared.signal.Body.TheVariants.{Client}
use Rattle.sig_core.specs.declared.signal.client.ClientSignal.TheVariants.{NfCompleteRep}
use Rattle.sig_core.specs.declared.signal.Signal.{Signal}
use Rattle.sig_core.specs.declared.view.View.{View}
use Rattle.step_forms.specs.Does.{IsWord}
use Rattle.dih_node.specs.Dih.{dih_row}
use Rattle.dih_node.specs.Orders as dih
use Rattle.dih_node.specs.Words.{is_dih_word}
use Rattle.dih_node.proofs.Walk.{dih_words}
use Rattle.tc_views.specs.Coordinator.{coordinator_row}
use Rattle.tc_views.specs.Views as coordinator
use Rattle.tc_views.specs.Words.{is_coordinator_word}
use Rattle.tc_views.proofs.Walk.{coordinator_words}
use Rattle.node_views.specs.declared.parts.Parts.{Parts}
use Rattle.node_views.specs.declared.parts.Parts.TheVariants.{Ldm, Main, Shell, Tc}
use Rattle.node_views.specs.declared.tc_part.TcPart.{TcPart}
use Rattle.node_views.specs.Parts.{tc_entered, tc_row}
use Rattle.node_views.specs.Words.{parts_words}
use Rattle.world_core.specs.Start.{Start}
use Rattle.world_core.specs.Steps.{HostStep}
use Rattle.world_views.specs.Hosts.{started}
use Rattle.world_views.specs.Machine.{step_after}
use Rattle.moment_laws.proofs.MomentHosts.{HasNoTc}
use Rattle.commit_laws.proofs.hosts.Words.{Apart, host_each}
use Rattle.commit_laws.proofs.reported.CompleteWords.{AreNoWords, IsNoWord, is_no_word}

-- what is of the words of a coordinator, or of the epochs beside it
coordinated_none : (sends : List Outgoing) → Each (IsWord is_coordinator_word) sends → AreNoWords sends
coordinated_none sends all = each_map (IsWord is_coordinator_word) IsNoWord sends (λ sent is. by sent.body is) all
  where
    by : (body : Body) → is_coordinator_word body ≡ true → is_no_word body ≡ true
    by (Client NfCompleteRep) is = absurd (true≢false (sym is))
    by body is = refl

epochs_none : (sends : List Outgoing) → Each (IsWord is_dih_word) sends → AreNoWords sends
epochs_none sends all = each_map (IsWord is_dih_word) IsNoWord sends (λ sent is. by sent.body is) all
  where
    by : (body : Body) → is_dih_word body ≡ true → is_no_word body ≡ true
    by (Client signal) is = absurd (true≢false (sym is))
    by body is = refl

-- a host that coordinates, but for its takeover
pub installs_say_none : (p : TcPart) (view : View) → AreNoWords (tc_entered p view).effects.sends
installs_say_none p view =
    each_append IsNoWord (coordinator.install_row p.coordinator view).effects.sends
    (dih.install_row p.dih view.number).effects.sends
    (coordinated_none (coordinator.install_row p.coordinator view).effects.sends
    (coordinator_words.installs p.coordinator view).0)
    (epochs_none (dih.install_row p.dih view.number).effects.sends (dih_words.1 p.dih view.number).0)

pub blocks_say_none : (p : TcPart) (b : BlockId) (x : Signal) → b ≢ block.Takeover
    → AreNoWords (tc_row p b x).effects.sends
unfolding tc_row
blocks_say_none p block.Tc x other =
    coordinated_none (coordinator_row p.coordinator x).effects.sends (coordinator_words.takes p.coordinator x).0
blocks_say_none p block.Takeover x other = absurd (other refl)
blocks_say_none p block.Dih x other = epochs_none (dih_row p.dih x).effects.sends (dih_words.0 p.dih x).0
blocks_say_none p _ x other = tt

-- the others
apart_words : (parts : Parts) → Apart parts → (body : Body) → parts_words parts body ≡ true → is_no_word body ≡ true
apart_words (Tc p) apart body is = absurd apart
apart_words (Shell p) apart (Client NfCompleteRep) is = absurd (true≢false (sym is))
apart_words (Main p) apart (Client NfCompleteRep) is = absurd (true≢false (sym is))
apart_words (Ldm p) apart (Client NfCompleteRep) is = absurd (true≢false (sym is))
apart_words parts apart body is = refl

of_none : (parts : Parts) → HasNoTc parts → Apart parts
of_none (Shell p) none = tt
of_none (Main p) none = tt
of_none (Tc p) none = absurd none
of_none (Ldm p) none = tt

pub apart_say_none : (start : Start) (h : ℕ) → HasNoTc (started start h).parts → (log : List HostStep) (e : HostStep)
    → AreNoWords (step_after start h log e).effects.sends
apart_say_none start h first log e =
    host_each (Unit {0}) (Unit {0}) ⊥ (Unit {0}) (λ body. is_no_word body ≡ true) apart_words start h
    (of_none (started start h).parts first) log e
