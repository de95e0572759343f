-- Each event keeps the parts of operations that are under way true, and other keys settled, if events that raise the
-- view do.
use Rattle.std.proofs.Common.{◌≤◌, ◌<◌, ◌⊎◌, ℕ, List, ◌∷◌, inl, inr, arith}
use Rattle.std.proofs.lemmas.Bool.{cases_lt}
use Rattle.world_core.specs.Start.{Start}
use Rattle.world_core.specs.Steps.{Addressed, HostStep}
use Rattle.moment_laws.specs.Moments.{logs_of}
use Rattle.moment_laws.proofs.MomentTurns.{current_rises, old_current}
use Rattle.moment_laws.proofs.MomentViews.{current_number}
use Rattle.commit_laws.specs.Parts.{PartsStand}
use Rattle.commit_laws.specs.Together.{EventsKeepParts, Follows}
use Rattle.commit_laws.specs.Transit.{AreInTransit}
use Rattle.commit_laws.proofs.parts.Kept.{parts_kept}

abbrev pub RisesKeepParts : Type 0
RisesKeepParts =
    (start : Start) (all : ℕ → List HostStep) (e : HostStep) (es : List HostStep) → Follows start all e es
    → current_number start (logs_of start es) < current_number start (logs_of start (e ∷ es))
    → (xs : List Addressed) → AreInTransit start (e ∷ es) xs → PartsStand start (logs_of start (e ∷ es)) xs

pub events_keep_parts : RisesKeepParts → EventsKeepParts
events_keep_parts rising start all e es follows moves xs transit =
    by (cases_lt (current_number start (logs_of start es)) (current_number start (logs_of start (e ∷ es))))
  where
    by : (current_number start (logs_of start es) < current_number start (logs_of start (e ∷ es)))
        ⊎ (current_number start (logs_of start (e ∷ es)) ≤ current_number start (logs_of start es))
        → PartsStand start (logs_of start (e ∷ es)) xs
    by (inl above) = rising start all e es follows above xs transit
    by (inr low) =
        let rises = current_rises start all e es follows.moment in
        parts_kept start all e es follows (old_current start all e es follows.moment (omega (arith, low, rises))) xs
        transit
