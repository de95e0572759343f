-- Rows and their saver order no takeover.
use Rattle.std.proofs.Common.{◌≡◌, true, refl, sym}
use Rattle.std.proofs.lemmas.Bool.{true≢false}
use Rattle.run_theory.proofs.Pasts.{each_map}
use Rattle.sig_core.specs.declared.signal.Body.{Body}
use Rattle.sig_core.specs.declared.signal.Body.TheVariants.{Host, Takeover}
use Rattle.sig_core.specs.declared.signal.Signal.{Signal}
use Rattle.sig_core.specs.declared.signal.host.HostSignal.TheVariants.{Continue}
use Rattle.sig_core.specs.declared.signal.host.Work.TheVariants.{Members}
use Rattle.sig_core.specs.declared.signal.takeover.TakeoverSignal.TheVariants.{LqhTransReq, TakeoverOrd}
use Rattle.step_forms.specs.Does.{IsWord}
use Rattle.lqh_saver.specs.Saver.{saver_row}
use Rattle.lqh_saver.specs.State.{SavingState}
use Rattle.lqh_saver.specs.Words.{is_saver_word}
use Rattle.lqh_saver.proofs.Walk.{saver_words}
use Rattle.commit_laws.proofs.orders.Words.{AreNoOrders, IsNoOrder, is_quiet}

-- no word of theirs is one
pub rows_order_none : (s : SavingState) (x : Signal) → AreNoOrders (saver_row s x).effects.sends
rows_order_none s x =
    each_map (IsWord is_saver_word) IsNoOrder (saver_row s x).effects.sends (λ sent is. quiet sent.body is)
    (saver_words.takes s x).0
  where
    quiet : (body : Body) → is_saver_word body ≡ true → is_quiet body ≡ true
    quiet (Takeover TakeoverOrd) is = absurd (true≢false (sym is))
    quiet (Takeover LqhTransReq) is = absurd (true≢false (sym is))
    quiet (Host (Continue Members at)) is = absurd (true≢false (sym is))
    quiet body is = refl
