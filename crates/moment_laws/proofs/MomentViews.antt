-- The current view of logs: no host stands in a greater one, and a host stands in it, or it is the first.
use Rattle.std.proofs.Common.{◌≡◌, ◌≤◌, ◌<◌, ◌⊎◌, ℕ, zero, suc, List, [], ◌∷◌, refl, ap, sym, subst, inl, inr, arith}
use Rattle.std.proofs.Common.{eq-or-lt_of_le, le_of_suc-le-suc}
use Rattle.frag_map.specs.Layout.{first_layout}
use Rattle.frag_map.specs.Shape.{IsShape}
use Rattle.run_theory.proofs.Along.{within_cut}
use Rattle.run_theory.proofs.Pasts.{past_nil, past_trans}
use Rattle.run_theory.proofs.Runs.{log_of-past}
use Rattle.run_theory.specs.Cuts.{IsCut}
use Rattle.run_theory.specs.Runs.{IsWithin}
use Rattle.sig_core.specs.declared.view.View.{View}
use Rattle.api_views.specs.Members.{greater_view}
use Rattle.world_core.proofs.MadeFirst.{all_made}
use Rattle.world_core.specs.Hosts.{hosts}
use Rattle.world_core.specs.Start.{NobodyStarts, Start}
use Rattle.world_core.specs.Steps.{HostStep}
use Rattle.world_views.proofs.SentFacts.{is_stamped}
use Rattle.world_views.specs.Machine.{machine}
use Rattle.view_laws.specs.Runs.{WasInstalled, view_after}
use Rattle.view_laws.proofs.eras.Causal.{greater_own, greater_taken}
use Rattle.view_laws.proofs.runs.AllSound.{have_orderly}
use Rattle.view_laws.proofs.runs.Headers.{installed_at}
use Rattle.view_laws.proofs.runs.Step.{started_view}
use Rattle.view_laws.proofs.runs.ChosenViews.{of_greater, one_view}
use Rattle.moment_laws.specs.Moments.{IsMoment, current, greater_if, greatest_of, logs_of}

module _ (start : Start) where
  -- the number of the view in which a host stands
  abbrev pub number_in : (ℕ → List HostStep) → ℕ → ℕ
  number_in logs h = (view_after start h (logs h)).number

  abbrev pub current_number : (ℕ → List HostStep) → ℕ
  current_number logs = (current start logs).number

  module _ (logs : ℕ → List HostStep) where
    abbrev greatest : ℕ → View
    greatest n = greatest_of start n logs

    -- each host is there
    pub greatest_next : NobodyStarts start → (n : ℕ)
        → greatest (suc n) ≡ greater_view (greatest n) (view_after start n (logs n))
    greatest_next nobody n =
        ap (λ made. greater_if made (greatest n) (view_after start n (logs n))) (all_made start nobody n (logs 0))

    grown : NobodyStarts start → (n : ℕ) → (greatest n).number ≤ (greatest (suc n)).number
    grown nobody n =
        subst (λ (v : View). (greatest n).number ≤ v.number) (sym (greatest_next nobody n))
        (greater_own (greatest n) (view_after start n (logs n)))

    greatest_above : NobodyStarts start → (n h : ℕ) → h < n → number_in logs h ≤ (greatest n).number
    greatest_above nobody zero h below = absurd (omega (arith, below))
    greatest_above nobody (suc n) h below = by (greatest_above nobody n h) (eq-or-lt_of_le (le_of_suc-le-suc below))
      where
        by : (h < n → number_in logs h ≤ (greatest n).number) → (h ≡ n) ⊎ (h < n)
            → number_in logs h ≤ (greatest (suc n)).number
        by before (inl at) =
            subst (λ (k : ℕ). number_in logs k ≤ (greatest (suc n)).number) (sym at)
            (subst (λ (v : View). number_in logs n ≤ v.number) (sym (greatest_next nobody n))
            (greater_taken (greatest n) (view_after start n (logs n))))
        by before (inr less) =
            let up = grown nobody n in
            let old = before less in
            omega (arith, up, old)

    greatest_first : NobodyStarts start → (n : ℕ) → (first_layout start.shape).view.number ≤ (greatest n).number
    greatest_first nobody zero = omega arith
    greatest_first nobody (suc n) =
        let up = grown nobody n in
        let old = greatest_first nobody n in
        omega (arith, up, old)

    -- a host below n stands in the view
    pub record IsViewOf (n : ℕ) (view : View) : Type 0 where
      pub host : ℕ
      pub below : host < n
      pub is : view ≡ view_after start host (logs host)

    abbrev pub IsSome : ℕ → View → Type 0
    IsSome n view = (view ≡ (first_layout start.shape).view) ⊎ IsViewOf n view

    some_more : (n : ℕ) (view : View) → IsSome n view → IsSome (suc n) view
    some_more n view (inl first) = inl first
    some_more n view (inr one) =
        let low = one.below in
        inr (record { host = one.host; below = omega (arith, low); is = one.is })

    greatest_is : NobodyStarts start → (n : ℕ) → IsSome n (greatest n)
    greatest_is nobody zero = inl refl
    greatest_is nobody (suc n) =
        subst (IsSome (suc n)) (sym (greatest_next nobody n))
        (of_greater (IsSome (suc n)) (greatest n) (view_after start n (logs n))
        (some_more n (greatest n) (greatest_is nobody n))
        (inr (record { host = n; below = omega arith; is = refl })))

    pub current_above : NobodyStarts start → (h : ℕ) → h < hosts start → number_in logs h ≤ current_number logs
    current_above nobody h low = greatest_above nobody (hosts start) h low

    pub first_below : NobodyStarts start → (first_layout start.shape).view.number ≤ current_number logs
    first_below nobody = greatest_first nobody (hosts start)

    pub current_is : NobodyStarts start → IsSome (hosts start) (current start logs)
    current_is nobody = greatest_is nobody (hosts start)

    -- it was installed in all logs of which these are a part
    module _ (nobody : NobodyStarts start) (shape : IsShape start.shape) (all : ℕ → List HostStep)
        (inside : IsCut logs all) where
      pub view_installed : (h : ℕ) → h < hosts start → WasInstalled start all (view_after start h (logs h))
      view_installed h low = installed_at start nobody all h low (logs h) (inside h)

      first_installed : WasInstalled start all (first_layout start.shape).view
      first_installed = record {
        host = 0;
        there = omega arith;
        made = all_made start nobody 0 (all 0);
        log = [];
        past = past_nil (all 0);
        is = sym (started_view start nobody 0);
      }

      pub current_installed : WasInstalled start all (current start logs)
      current_installed = by (current start logs) (current_is nobody)
        where
          by : (view : View) → IsSome (hosts start) view → WasInstalled start all view
          by view (inl first) = subst (WasInstalled start all) (sym first) first_installed
          by view (inr one) = subst (WasInstalled start all) (sym one.is) (view_installed one.host one.below)

-- one event less is a moment too
pub moment_less : (start : Start) (all : ℕ → List HostStep) (e : HostStep) (es : List HostStep)
    → IsMoment start all (e ∷ es) → IsMoment start all es
moment_less start all e es moment = record {
  cluster = moment.cluster;
  run = moment.run.0;
  inside = λ h. past_trans (log_of-past (machine start) e es h) (moment.inside h);
  ordered = moment.ordered.1;
}

module _ (start : Start) (all : ℕ → List HostStep) (es : List HostStep) (moment : IsMoment start all es) where
  pub moment_within : IsWithin (hosts start) (logs_of start es)
  moment_within =
      within_cut (machine start) (is_stamped start) (hosts start) (logs_of start es) all moment.cluster.within
      moment.inside

  pub moment_installed : WasInstalled start all (current start (logs_of start es))
  moment_installed =
      current_installed start (logs_of start es) moment.cluster.nobody moment.cluster.shape all moment.inside

  -- it is the view of each host of this number
  pub stands_in_current : (h : ℕ) → h < hosts start
      → number_in start (logs_of start es) h ≡ current_number start (logs_of start es)
      → view_after start h (logs_of start es h) ≡ current start (logs_of start es)
  stands_in_current h low same =
      one_view have_orderly start all moment.cluster (view_after start h (logs_of start es h))
      (current start (logs_of start es))
      (view_installed start (logs_of start es) moment.cluster.nobody moment.cluster.shape all moment.inside h low)
      moment_installed same
