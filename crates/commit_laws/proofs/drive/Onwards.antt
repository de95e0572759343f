-- Rows and their saver never tell a coordinator to go on.
use Rattle.std.proofs.Common.{◌≡◌, ℕ, true, false, refl, sym}
use Rattle.sig_core.specs.declared.member.TxId.{TxId}
use Rattle.sig_core.specs.declared.outs.Outgoing.{Outgoing}
use Rattle.sig_core.specs.declared.signal.Body.{Body}
use Rattle.sig_core.specs.declared.signal.Body.TheVariants.{Host}
use Rattle.sig_core.specs.declared.signal.Signal.{Signal}
use Rattle.sig_core.specs.declared.signal.host.HostSignal.TheVariants.{Continue}
use Rattle.sig_core.specs.declared.signal.host.Work.TheVariants as work
use Rattle.lqh_saver.specs.Saver.{saver_row}
use Rattle.lqh_saver.specs.State.{SavingState}
use Rattle.lqh_saver.specs.Words.{is_saver_word}
use Rattle.lqh_saver.proofs.Walk.{saver_words}
use Rattle.step_forms.specs.Does.{IsWord}
use Rattle.run_theory.proofs.Pasts.{each_map}
use Rattle.std.proofs.lemmas.Bool.{true≢false}
use Rattle.outcome_laws.specs.Counts.{count_sent}
use Rattle.outcome_laws.proofs.coordinators.Lists.{none_counted}
use Rattle.commit_laws.proofs.drive.Lists.{onward}

-- no word of theirs does
pub rows_stay : (tx : TxId) (place : ℕ) (s : SavingState) (x : Signal)
    → count_sent (onward tx place) (saver_row s x).effects.sends ≡ 0
rows_stay tx place s x =
    none_counted (onward tx place) (saver_row s x).effects.sends
    (each_map (IsWord is_saver_word) (λ (o : Outgoing). onward tx place o.body ≡ false)
    (saver_row s x).effects.sends (λ o is. stays o.body is) (saver_words.takes s x).0)
  where
    stays : (body : Body) → is_saver_word body ≡ true → onward tx place body ≡ false
    stays (Host (Continue (work.Transaction other) at)) is = absurd (true≢false (sym is))
    stays body is = refl
