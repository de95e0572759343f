-- Takeovers alone ask rows for what they have, and rows alone tell of it: other blocks send nothing of reports.
use Rattle.std.proofs.Common.{◌≡◌, ℕ, Bool, true, false, List, refl, sym}
use Rattle.std.proofs.lemmas.Bool.{true≢false}
use Rattle.run_theory.specs.Lists.{Each}
use Rattle.run_theory.proofs.Pasts.{each_append, each_map}
use Rattle.sig_core.specs.declared.outs.Outgoing.{Outgoing}
use Rattle.sig_core.specs.declared.place.BlockId.TheVariants as block
use Rattle.sig_core.specs.declared.signal.Body.{Body}
use Rattle.sig_core.specs.declared.signal.Body.TheVariants.{Takeover}
use Rattle.sig_core.specs.declared.signal.Signal.{Signal}
use Rattle.sig_core.specs.declared.signal.takeover.TakeoverSignal.TheVariants.{LqhTransConf, LqhTransReq}
use Rattle.sig_core.specs.declared.view.View.{View}
use Rattle.step_forms.specs.Does.{IsWord}
use Rattle.dih_node.specs.Dih.{dih_row}
use Rattle.dih_node.specs.Orders as dih
use Rattle.dih_node.specs.Words.{is_dih_word}
use Rattle.dih_node.proofs.Walk.{dih_words}
use Rattle.tc_views.specs.Coordinator.{coordinator_row}
use Rattle.tc_views.specs.Views as coordinator
use Rattle.tc_views.specs.Words.{is_coordinator_word}
use Rattle.tc_views.proofs.Walk.{coordinator_words}
use Rattle.node_views.specs.declared.parts.Parts.{Parts}
use Rattle.node_views.specs.declared.parts.Parts.TheVariants.{Ldm, Main, Shell, Tc}
use Rattle.node_views.specs.declared.tc_part.TcPart.{TcPart}
use Rattle.node_views.specs.Parts.{tc_entered, tc_row}
use Rattle.node_views.specs.Words.{parts_words}
use Rattle.world_core.specs.Start.{Start}
use Rattle.world_core.specs.Steps.{HostStep}
use Rattle.world_views.specs.Hosts.{started}
use Rattle.world_views.specs.Machine.{step_after}
use Rattle.request_laws.proofs.routes.Hosts.{IsBeside}
use Rattle.commit_laws.proofs.hosts.Words.{Beside, host_each, of_beside}

-- rows are asked for what they have, or tell a takeover of it
abbrev pub is_of_reports : Body → Bool
is_of_reports (Takeover LqhTransReq) = true
is_of_reports (Takeover (LqhTransConf tx key told epoch)) = true
is_of_reports body = false

abbrev pub IsNoReport : Outgoing → Type 0
IsNoReport sent = is_of_reports sent.body ≡ false

abbrev pub AreNoReports : List Outgoing → Type 0
AreNoReports sends = Each IsNoReport sends

-- a host beside those that coordinate or run rows
beside_words : (parts : Parts) → Beside parts → (body : Body) → parts_words parts body ≡ true
    → is_of_reports body ≡ false
beside_words (Tc p) beside body is = absurd beside
beside_words (Ldm p) beside body is = absurd beside
beside_words (Shell p) beside (Takeover LqhTransReq) is = absurd (true≢false (sym is))
beside_words (Shell p) beside (Takeover (LqhTransConf tx key told epoch)) is = absurd (true≢false (sym is))
beside_words (Main p) beside (Takeover LqhTransReq) is = absurd (true≢false (sym is))
beside_words (Main p) beside (Takeover (LqhTransConf tx key told epoch)) is = absurd (true≢false (sym is))
beside_words parts beside body is = refl

pub beside_no_reports : (start : Start) (h : ℕ) → IsBeside (started start h).parts → (log : List HostStep)
    (e : HostStep) → AreNoReports (step_after start h log e).effects.sends
beside_no_reports start h first log e =
    host_each (Unit {0}) (Unit {0}) ⊥ ⊥ (λ body. is_of_reports body ≡ false) beside_words start h
    (of_beside (started start h).parts first) log e

-- a coordinator and the epochs beside it
of_coordinator : (sends : List Outgoing) → Each (IsWord is_coordinator_word) sends → AreNoReports sends
of_coordinator sends all = each_map (IsWord is_coordinator_word) IsNoReport sends (λ sent is. none sent.body is) all
  where
    none : (body : Body) → is_coordinator_word body ≡ true → is_of_reports body ≡ false
    none (Takeover signal) is = absurd (true≢false (sym is))
    none body is = refl

of_epochs : (sends : List Outgoing) → Each (IsWord is_dih_word) sends → AreNoReports sends
of_epochs sends all = each_map (IsWord is_dih_word) IsNoReport sends (λ sent is. none sent.body is) all
  where
    none : (body : Body) → is_dih_word body ≡ true → is_of_reports body ≡ false
    none (Takeover signal) is = absurd (true≢false (sym is))
    none body is = refl

module _ (p : TcPart) where
  pub coordinator_no_reports : (x : Signal) → AreNoReports (tc_row p block.Tc x).effects.sends
  unfolding tc_row
  coordinator_no_reports x =
      of_coordinator (coordinator_row p.coordinator x).effects.sends (coordinator_words.takes p.coordinator x).0

  pub epochs_no_reports : (x : Signal) → AreNoReports (tc_row p block.Dih x).effects.sends
  unfolding tc_row
  epochs_no_reports x = of_epochs (dih_row p.dih x).effects.sends (dih_words.0 p.dih x).0

  pub enters_no_reports : (view : View) → AreNoReports (tc_entered p view).effects.sends
  enters_no_reports view =
      each_append IsNoReport (coordinator.install_row p.coordinator view).effects.sends
      (dih.install_row p.dih view.number).effects.sends
      (of_coordinator (coordinator.install_row p.coordinator view).effects.sends
      (coordinator_words.installs p.coordinator view).0)
      (of_epochs (dih.install_row p.dih view.number).effects.sends (dih_words.1 p.dih view.number).0)
