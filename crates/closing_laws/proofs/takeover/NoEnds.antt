-- Steps that don't tell that a takeover is over: those of the blocks beside one, and of hosts without one.
use Rattle.std.proofs.Common.{◌≡◌, ℕ, Bool, true, false, List, refl}
use Rattle.run_theory.proofs.Pasts.{each_map}
use Rattle.run_theory.specs.Lists.{Each}
use Rattle.sig_core.specs.declared.outs.Outgoing.{Outgoing}
use Rattle.sig_core.specs.declared.place.Place.{Place}
use Rattle.sig_core.specs.declared.signal.Body.{Body}
use Rattle.sig_core.specs.declared.signal.Body.TheVariants.{Host, Takeover}
use Rattle.sig_core.specs.declared.signal.Signal.{Signal}
use Rattle.sig_core.specs.declared.signal.host.HostSignal.TheVariants.{Continue}
use Rattle.sig_core.specs.declared.signal.host.Work.{Work}
use Rattle.sig_core.specs.declared.signal.takeover.TakeoverSignal.TheVariants.{TakeoverEnd}
use Rattle.sig_core.specs.declared.view.View.{View}
use Rattle.sig_core.specs.Portion.{portion_effects}
use Rattle.step_forms.specs.Does.{IsWord}
use Rattle.step_forms.proofs.PortionLemmas.{portion_each}
use Rattle.dih_node.specs.Dih.{dih_row}
use Rattle.dih_node.specs.Orders as epochs
use Rattle.dih_node.specs.State.{DihState}
use Rattle.dih_node.specs.Words.{is_dih_word}
use Rattle.dih_node.proofs.Walk.{dih_words}
use Rattle.tc_views.specs.Coordinator.{coordinator_row}
use Rattle.tc_views.specs.State.{CoordinatorState}
use Rattle.tc_views.specs.Views.{install_row}
use Rattle.tc_views.specs.Words.{is_coordinator_word}
use Rattle.tc_views.proofs.Walk.{coordinator_words}
use Rattle.sig_core.specs.declared.mark.Mark.{Mark}
use Rattle.node_views.specs.declared.host_body.HostBody as hosts
use Rattle.node_views.specs.declared.parts.Parts.{Parts}
use Rattle.node_views.specs.declared.parts.Parts.TheVariants.{Ldm, Main, Shell, Tc}
use Rattle.node_views.specs.Words.{parts_words}
use Rattle.world_views.specs.Machine.{step_by}
use Rattle.world_views.proofs.StepEach.{step_words}
use Rattle.moment_laws.proofs.MomentHosts.{HasNoTc}

-- the signal tells so
abbrev pub is_over : Body → Bool
is_over (Takeover TakeoverEnd) = true
is_over body = false

abbrev pub IsUnended : Outgoing → Type 0
IsUnended sent = is_over sent.body ≡ false

abbrev pub AreUnended : List Outgoing → Type 0
AreUnended sends = Each IsUnended sends

-- so it is of a part of a list that doesn't
pub portion_unended : (by : Place) (work : Work) (sends : List Outgoing) (at : ℕ)
    → ((left : ℕ) → is_over (Host (Continue work left)) ≡ false) → AreUnended sends
    → AreUnended (portion_effects by work sends at).sends
portion_unended by work sends at goes_on all = portion_each IsUnended by work sends at goes_on all

-- what the words of a block don't tell, none of its steps does
of_words : (words : Body → Bool) → ((body : Body) → words body ≡ true → is_over body ≡ false) → (sends : List Outgoing)
    → Each (IsWord words) sends → AreUnended sends
of_words words none sends all = each_map (IsWord words) IsUnended sends (λ sent is. none sent.body is) all

of_dih : (body : Body) → is_dih_word body ≡ true → is_over body ≡ false
of_dih (Takeover TakeoverEnd) is = absurd cc
of_dih body is = refl

of_coordinator : (body : Body) → is_coordinator_word body ≡ true → is_over body ≡ false
of_coordinator (Takeover TakeoverEnd) is = absurd cc
of_coordinator body is = refl

pub dih_ends_none : (s : DihState) (x : Signal) → AreUnended (dih_row s x).effects.sends
dih_ends_none s x = of_words is_dih_word of_dih _ (dih_words.0 s x).0

pub dih_installs_end_none : (s : DihState) (number : ℕ) → AreUnended (epochs.install_row s number).effects.sends
dih_installs_end_none s number = of_words is_dih_word of_dih _ (dih_words.1 s number).0

pub coordinator_ends_none : (s : CoordinatorState) (x : Signal) → AreUnended (coordinator_row s x).effects.sends
coordinator_ends_none s x = of_words is_coordinator_word of_coordinator _ (coordinator_words.takes s x).0

pub coordinator_installs_end_none : (s : CoordinatorState) (view : View) → AreUnended (install_row s view).effects.sends
coordinator_installs_end_none s view =
    of_words is_coordinator_word of_coordinator _ (coordinator_words.installs s view).0

-- a host without a takeover
unended_words : (parts : Parts) → HasNoTc parts → (body : Body) → parts_words parts body ≡ true → is_over body ≡ false
unended_words (Shell p) none (Takeover TakeoverEnd) is = absurd cc
unended_words (Main p) none (Takeover TakeoverEnd) is = absurd cc
unended_words (Ldm p) none (Takeover TakeoverEnd) is = absurd cc
unended_words (Tc p) none body is = absurd none
unended_words parts none body is = refl

pub others_end_none : (x : Signal) (h : ℕ) (s : hosts.HostBody) → HasNoTc s.parts
    → AreUnended (step_by h s x).effects.sends
others_end_none x h s none =
    (step_words (λ body. is_over body ≡ false) (λ (mark : Mark). Unit {0}) h s x (unended_words s.parts none)
    (λ mark is. tt)).0
