-- The events of a run, which are of the hosts that there are.
use Rattle.std.proofs.Common.{◌≡◌, ◌⊎◌, ◌<◌, ◌≤◌, inl, inr, ℕ, List, [], ◌∷◌, ◌++◌, refl}
use Rattle.std.proofs.Common.{sym, ◌∙◌, arith}
use Rattle.std.proofs.lemmas.Bool.{cases_lt}
use Rattle.run_theory.proofs.Runs.{log_of-other, log_of-own, log_of-past}
use Rattle.run_theory.specs.Lists.{IsPast}
use Rattle.run_theory.specs.Runs.{IsWithin, log_of}
use Rattle.world_core.specs.Machine as plain
use Rattle.world_core.specs.Start.{Start}
use Rattle.world_core.specs.Steps.{HostStep}
use Rattle.world_views.specs.Machine.{machine}

-- an older part of nothing is nothing
pub none_before : {A : Type 0} (xs ys : List A) → IsPast xs ys → ys ≡ [] → xs ≡ []
none_before {A} xs ys p none = go p.newer p.is
  where
    go : (newer : List A) → ys ≡ newer ++ xs → xs ≡ []
    go [] is = sym is ∙ none
    go (y ∷ newer) is = absurd (cc (is, none))

module _ (start : Start) where
  -- what comes before a step is within the hosts that there are
  pub within_before : (n : ℕ) (e : HostStep) (es : List HostStep) → IsWithin n (log_of (machine start) (e ∷ es))
      → IsWithin n (log_of (machine start) es)
  within_before n e es within h above =
      none_before (log_of (machine start) es h) (log_of (machine start) (e ∷ es) h) (log_of-past (machine start) e es h)
      (within h above)

  pub host_there : (n : ℕ) (e : HostStep) (es : List HostStep) → IsWithin n (log_of (machine start) (e ∷ es))
      → e.host < n
  host_there n e es within = go (cases_lt e.host n)
    where
      go : (e.host < n) ⊎ (n ≤ e.host) → e.host < n
      go (inl below) = below
      go (inr above) =
          let none : log_of (machine start) (e ∷ es) e.host ≡ [] = within e.host above in
          absurd (cc (none, log_of-own (machine start) e es e.host refl))

  -- one more event of a host that is there
  pub within_next : (n : ℕ) (e : HostStep) (es : List HostStep) → e.host < n
      → IsWithin n (log_of (plain.machine start) es) → IsWithin n (log_of (plain.machine start) (e ∷ es))
  within_next n e es low within h above =
      log_of-other (plain.machine start) e es h (λ same. omega (arith, same, low, above)) ∙ within h above
