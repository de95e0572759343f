-- The serial law: what the history of a cut is worth.
use Rattle.std.specs.Prelude.{◌≡◌, ◌≤◌, ℕ, true, List, [], ◌∷◌}
use Rattle.std.specs.FinMap as map
use Rattle.frag_map.specs.Groups.{is_viable}
use Rattle.run_theory.specs.Lists.{Each}
use Rattle.serial_model.specs.Legal.{IsLegal, fold, rows_of}
use Rattle.sig_core.specs.declared.entry.Entry.{Entry}
use Rattle.world_core.specs.Steps.{HostStep}
use Rattle.sig_core.specs.declared.member.Member.{Member}
use Rattle.world_core.specs.At.{row_in}
use Rattle.world_core.specs.History.{history}
use Rattle.world_core.specs.Hosts.{first_hosts}
use Rattle.world_core.specs.Rest.{IsAtRest, IsLiveReplica}
use Rattle.world_core.specs.Start.{Start}
use Rattle.world_core.specs.Strict.{IsStrictOrder}
use Rattle.world_core.specs.Views.{greatest_view}

-- epochs never fall along a list
abbrev pub AreEpochsOrdered : List Entry → Type 0
AreEpochsOrdered [] = Unit {0}
AreEpochsOrdered (a ∷ rest) = Each (λ (b : Entry). a.epoch ≤ b.epoch) rest × AreEpochsOrdered rest

-- The history of these logs is a serial history: every answer in it is right, it keeps to strict order, epochs never
-- fall along it, the greatest view is viable, and every live replica has its rows of each key at rest.
pub record IsSerial (start : Start) (logs : ℕ → List HostStep) : Type 0 where
  pub legal : IsLegal (rows_of start.rows) (history (first_hosts start) logs)
  pub strict : IsStrictOrder start (logs 0) (history (first_hosts start) logs)
  pub epochs : AreEpochsOrdered (history (first_hosts start) logs)
  pub viable : is_viable start.shape (greatest_view start logs) ≡ true
  pub rows : (key : List ℕ) → IsAtRest start logs key → (member : Member) → IsLiveReplica start logs key member
      → row_in start logs member.node key ≡ map.get (fold (rows_of start.rows) (history (first_hosts start) logs)) key
