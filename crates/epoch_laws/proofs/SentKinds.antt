-- A takeover, a coordinator, the client's side and the arbitrator send no order of epochs, whatever they take.
use Rattle.std.proofs.Common.{◌≡◌, true, false, refl}
use Rattle.run_theory.proofs.Pasts.{each_map}
use Rattle.sig_core.specs.declared.signal.Body.{Body}
use Rattle.sig_core.specs.declared.signal.Body.TheVariants.{Epoch}
use Rattle.sig_core.specs.declared.signal.Signal.{Signal}
use Rattle.sig_core.specs.declared.signal.epoch.EpochSignal.TheVariants.{DiVerifyEnd, DiVerifyReq}
use Rattle.sig_core.specs.declared.view.View.{View}
use Rattle.step_forms.specs.Does.{IsWord}
use Rattle.takeover_block.specs.State.{TakeoverState}
use Rattle.takeover_block.specs.Takeover.{takeover_row}
use Rattle.takeover_block.specs.Words.{is_takeover_word}
use Rattle.takeover_block.proofs.Walk.{takeover_words}
use Rattle.tc_views.specs.Coordinator.{coordinator_row}
use Rattle.tc_views.specs.State.{CoordinatorState}
use Rattle.tc_views.specs.Views.{install_row}
use Rattle.tc_views.specs.Words.{is_coordinator_word}
use Rattle.tc_views.proofs.Walk.{coordinator_words}
use Rattle.epoch_laws.proofs.SentNone.{IsNoOrder, SendsNoOrder, is_order}

takeovers : (body : Body) → is_takeover_word body ≡ true → is_order body ≡ false
takeovers (Epoch signal) is = absurd cc
takeovers body is = refl

coordinators : (body : Body) → is_coordinator_word body ≡ true → is_order body ≡ false
coordinators (Epoch (DiVerifyReq tx ops)) is = refl
coordinators (Epoch (DiVerifyEnd tx)) is = refl
coordinators (Epoch signal) is = absurd cc
coordinators body is = refl

pub takeover_none : (s : TakeoverState) (x : Signal) → SendsNoOrder (takeover_row s x)
takeover_none s x =
    each_map (IsWord is_takeover_word) IsNoOrder _ (λ send is. takeovers send.body is) (takeover_words.takes s x).0

pub coordinator_none : (s : CoordinatorState) (x : Signal) → SendsNoOrder (coordinator_row s x)
coordinator_none s x =
    each_map (IsWord is_coordinator_word) IsNoOrder _ (λ send is. coordinators send.body is)
    (coordinator_words.takes s x).0

pub coordinator_installs_none : (s : CoordinatorState) (view : View) → SendsNoOrder (install_row s view)
coordinator_installs_none s view =
    each_map (IsWord is_coordinator_word) IsNoOrder _ (λ send is. coordinators send.body is)
    (coordinator_words.installs s view).0
