-- A host sends no signals of another view than that in which it stands.
use Rattle.std.proofs.Common.{◌≡◌, ◌≢◌, ◌==◌, ◌&&◌, ◌∙◌, ℕ, Bool, true, false, List, [], ◌∷◌, refl, ap, arith}
use Rattle.std.proofs.lemmas.Bool.Decides.{nat_tests}
use Rattle.std.specs.List.{count_by}
use Rattle.run_theory.specs.Links.{sent_by}
use Rattle.run_theory.specs.Lists.{Each}
use Rattle.run_theory.proofs.Pasts.{each_filter, each_map}
use Rattle.run_theory.proofs.Links.{sent_by_each}
use Rattle.sig_core.specs.declared.signal.Signal.{Signal}
use Rattle.sig_core.specs.declared.view.View.{View}
use Rattle.tc_block.specs.Complete.{one_if}
use Rattle.world_core.specs.Start.{Start}
use Rattle.world_core.specs.Steps.{Addressed, HostStep}
use Rattle.world_views.specs.Machine.{signals_of}
use Rattle.view_laws.specs.Order.{is_sound, sound_machine}
use Rattle.view_laws.specs.Runs.{view_after}
use Rattle.view_laws.proofs.follow.Senders.{each_from}
use Rattle.outcome_laws.proofs.coordinators.Lists.{count_more}

module _ (start : Start) (h : ℕ) (log : List HostStep) (e : HostStep) (number : ℕ) (q : Signal → Bool)
    (off : (view_after start h (e ∷ log)).number ≢ number)
  where
    abbrev seen : ℕ
    seen = (view_after start h (e ∷ log)).number

    abbrev in_view : Addressed → Bool
    in_view y = q y.signal && (y.signal.view.number == number)

    apart : (a b : ℕ) → a ≢ b → (a == b) ≡ false
    apart a b other = grind (arith, nat_tests)

    unseen : (xs : List Addressed) → Each (λ (y : Addressed). y.signal.view.number ≡ seen) xs → count_by in_view xs ≡ 0
    unseen [] all = refl
    unseen (y ∷ xs) all =
        omega (arith, count_more in_view y xs, ap one_if (none (q y.signal)), unseen xs all.1)
      where
        same : (y.signal.view.number == number) ≡ false
        same = ap (λ n. n == number) all.0 ∙ apart seen number off

        none : (b : Bool) → (b && (y.signal.view.number == number)) ≡ false
        none true = same
        none false = refl

    pub unseen_none : count_by (λ (y : Addressed). q y.signal && (y.signal.view.number == number))
        (sent_by (sound_machine start) h log e) ≡ 0
    unseen_none =
        unseen (sent_by (sound_machine start) h log e)
        (sent_by_each (sound_machine start) (λ (y : Addressed). y.signal.view.number ≡ seen) h log e
        (λ goes_on.
        each_filter _ (is_sound start) (signals_of start h log e)
        (each_map _ (λ (y : Addressed). y.signal.view.number ≡ seen) (signals_of start h log e)
        (λ y one. ap (λ (v : View). v.number) one.view_is)
        (each_from start h log e))))
