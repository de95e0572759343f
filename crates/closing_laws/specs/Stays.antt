-- Closed epochs stay closed.
use Rattle.std.specs.Prelude.{◌≡◌, ◌≤◌, ◌<◌, ◌⊎◌, ℕ, true, List}
use Rattle.run_theory.specs.Cuts.{IsCut}
use Rattle.run_theory.specs.Lists.{IsIn}
use Rattle.sig_core.specs.declared.entry.Entry.{Entry}
use Rattle.sig_core.specs.declared.mark.Mark.TheVariants.{Closed, Durable}
use Rattle.world_core.specs.History.{history, writes}
use Rattle.world_core.specs.Hosts.{hosts}
use Rattle.world_core.specs.Start.{Start}
use Rattle.world_core.specs.Steps.{HostStep}
use Rattle.view_laws.specs.Runs.{AreOfCluster}
use Rattle.outcome_laws.specs.Decided.{IsMarked}

-- Once an epoch is closed, or durable, whoever writes and has that epoch or one before it, and is in the history of a
-- later cut, is in that of this one.
abbrev pub ClosedStayClosed : Type 0
ClosedStayClosed =
    (start : Start) (small large : ℕ → List HostStep) → start.start_epoch < start.epoch → AreOfCluster start small
    → AreOfCluster start large → IsCut small large → (h epoch : ℕ) → h < hosts start
    → (IsMarked (Closed epoch) (small h)) ⊎ (IsMarked (Durable epoch) (small h)) → (entry : Entry)
    → IsIn entry (history (hosts start) large) → writes entry ≡ true → entry.epoch ≤ epoch
    → IsIn entry (history (hosts start) small)
