-- What was sent, and passes a test, is counted.
use Rattle.std.proofs.Common.{◌≡◌, ◌≤◌, ◌∙◌, ℕ, Bool, true, List, [], ◌∷◌, inl, inr, sym, ap, arith}
use Rattle.std.specs.List.{count_by}
use Rattle.run_theory.specs.Links.{sent, sent_by}
use Rattle.run_theory.specs.Lists.{Each, IsIn}
use Rattle.run_theory.proofs.Links.{put_each}
use Rattle.run_theory.proofs.Pasts.{each_from, each_in, each_map}
use Rattle.sig_core.specs.declared.signal.Signal.{Signal}
use Rattle.tc_block.specs.Complete.{one_if}
use Rattle.world_core.specs.Start.{Start}
use Rattle.world_core.specs.Steps.{Addressed, HostStep}
use Rattle.view_laws.specs.Order.{sound_machine}
use Rattle.outcome_laws.proofs.coordinators.Lists.{count_more}
use Rattle.request_laws.specs.Tokens.{sent_along}

module _ (start : Start) (p : Signal → Bool) where
  pub in_counted : (y : Addressed) (ys : List Addressed) → IsIn y ys → p y.signal ≡ true
      → 1 ≤ count_by (λ (x : Addressed). p x.signal) ys
  in_counted y [] there is = absurd there
  in_counted y (x ∷ ys) (inl same) is =
      let one : one_if (p x.signal) ≡ 1 = ap (λ (z : Addressed). one_if (p z.signal)) (sym same) ∙ ap one_if is in
      omega (arith, count_more (λ (x : Addressed). p x.signal) x ys, one)
  in_counted y (x ∷ ys) (inr there) is =
      omega (arith, count_more (λ (x : Addressed). p x.signal) x ys, in_counted y ys there is)

  all_counted : (h j : ℕ) (log : List HostStep)
      → Each (λ (y : Addressed). p y.signal ≡ true → 1 ≤ sent_along start p h log) (sent (sound_machine start) h j log)
  all_counted h j [] = tt
  all_counted h j (e ∷ log) =
      put_each (sound_machine start) (λ (y : Addressed). p y.signal ≡ true → 1 ≤ sent_along start p h (e ∷ log)) j
      (sent_by (sound_machine start) h log e) (sent (sound_machine start) h j log)
      (each_from (λ (y : Addressed). p y.signal ≡ true → 1 ≤ sent_along start p h (e ∷ log))
      (sent_by (sound_machine start) h log e)
      (λ y there is. omega (arith, in_counted y (sent_by (sound_machine start) h log e) there is)))
      (each_map (λ (y : Addressed). p y.signal ≡ true → 1 ≤ sent_along start p h log)
      (λ (y : Addressed). p y.signal ≡ true → 1 ≤ sent_along start p h (e ∷ log)) (sent (sound_machine start) h j log)
      (λ y some is. omega (arith, some is)) (all_counted h j log))

  pub sent_counted : (h j : ℕ) (log : List HostStep) (y : Addressed) → IsIn y (sent (sound_machine start) h j log)
      → p y.signal ≡ true → 1 ≤ sent_along start p h log
  sent_counted h j log y there is =
      each_in (λ (y : Addressed). p y.signal ≡ true → 1 ≤ sent_along start p h log) y
      (sent (sound_machine start) h j log) (all_counted h j log) there is
