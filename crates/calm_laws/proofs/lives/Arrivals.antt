-- What comes to a host on a link.
use Rattle.std.proofs.Common.{◌≡◌, inl, inr, ℕ, List, [], ◌∷◌, false, sym, ◌∙◌}
use Rattle.std.proofs.lemmas.Bool.{true≢false}
use Rattle.run_theory.specs.Links.{IsGiven, sent}
use Rattle.run_theory.specs.Lists.{IsPast}
use Rattle.sig_core.specs.declared.signal.Signal.{Signal}
use Rattle.world_core.specs.Start.{Start}
use Rattle.world_core.specs.Steps.{Addressed, HostStep}
use Rattle.world_views.specs.Machine.{has_stopped, machine}

-- a signal that comes to a host
abbrev pub arriving : ℕ → Signal → Addressed
arriving h x = record { to = h; signal = x }

-- what a host gave that hasn't stopped it sent
pub given_running : (start : Start) (i j : ℕ) (log : List HostStep) (xs : List Addressed) → has_stopped log ≡ false
    → IsGiven (machine start) i j log xs → IsPast xs (sent (machine start) i j log)
given_running start i j log xs runs (inl past) = past
given_running start i j [] xs runs (inr closing) = absurd closing
given_running start i j (e ∷ log) xs runs (inr closing) = absurd (true≢false (sym closing.stops ∙ runs))
