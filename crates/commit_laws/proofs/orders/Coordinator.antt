-- A coordinator orders no takeover, whatever it takes and whatever view is installed.
use Rattle.std.proofs.Common.{◌≡◌, true, List, refl, sym}
use Rattle.std.proofs.lemmas.Bool.{true≢false}
use Rattle.run_theory.specs.Lists.{Each}
use Rattle.run_theory.proofs.Pasts.{each_map}
use Rattle.sig_core.specs.declared.outs.Outgoing.{Outgoing}
use Rattle.sig_core.specs.declared.signal.Body.{Body}
use Rattle.sig_core.specs.declared.signal.Body.TheVariants.{Host, Takeover}
use Rattle.sig_core.specs.declared.signal.Signal.{Signal}
use Rattle.sig_core.specs.declared.signal.host.HostSignal.TheVariants.{Continue}
use Rattle.sig_core.specs.declared.signal.host.Work.TheVariants.{Members}
use Rattle.sig_core.specs.declared.signal.takeover.TakeoverSignal.TheVariants.{LqhTransReq, TakeoverOrd}
use Rattle.sig_core.specs.declared.view.View.{View}
use Rattle.step_forms.specs.Does.{IsWord}
use Rattle.tc_views.specs.Coordinator.{coordinator_row}
use Rattle.tc_views.specs.State.{CoordinatorState}
use Rattle.tc_views.specs.Views.{install_row}
use Rattle.tc_views.specs.Words.{is_coordinator_word}
use Rattle.tc_views.proofs.Walk.{coordinator_words}
use Rattle.commit_laws.proofs.orders.Words.{AreNoOrders, IsNoOrder, is_quiet}

-- no word of a coordinator is one
words_quiet : (sends : List Outgoing) → Each (IsWord is_coordinator_word) sends → AreNoOrders sends
words_quiet sends all = each_map (IsWord is_coordinator_word) IsNoOrder sends (λ sent is. quiet sent.body is) all
  where
    quiet : (body : Body) → is_coordinator_word body ≡ true → is_quiet body ≡ true
    quiet (Takeover TakeoverOrd) is = absurd (true≢false (sym is))
    quiet (Takeover LqhTransReq) is = absurd (true≢false (sym is))
    quiet (Host (Continue Members at)) is = absurd (true≢false (sym is))
    quiet body is = refl

pub coordinator_quiet : (s : CoordinatorState) (x : Signal) → AreNoOrders (coordinator_row s x).effects.sends
coordinator_quiet s x = words_quiet (coordinator_row s x).effects.sends (coordinator_words.takes s x).0

pub coordinator_installs_quiet : (s : CoordinatorState) (view : View) → AreNoOrders (install_row s view).effects.sends
coordinator_installs_quiet s view = words_quiet (install_row s view).effects.sends (coordinator_words.installs s view).0
