-- The laws of closed cuts, as the contracts of functions name them.
use Rattle.world_core.specs.At.{row_in}
use Rattle.frag_map.specs.Shape.{IsShape}
use Rattle.frag_map.specs.Groups.{is_viable}
use Rattle.std.specs.Prelude.{◌≡◌, ℕ, true, List}
use Rattle.std.specs.FinMap as map
use Rattle.run_theory.specs.Cuts.{IsCut, IsClosed}
use Rattle.run_theory.specs.Lists.{IsIn}
use Rattle.run_theory.specs.Runs.{AreLogs, IsWithin}
use Rattle.serial_model.specs.Legal.{rows_of}
use Rattle.world_core.specs.Steps.{HostStep}
use Rattle.sig_core.specs.declared.member.Member.{Member}
use Rattle.sig_core.specs.declared.member.TxId.{TxId}
use Rattle.sig_core.specs.declared.signal.Body.TheVariants.{Chain}
use Rattle.sig_core.specs.declared.signal.chain.ChainSignal.TheVariants.{Commit}
use Rattle.world_core.specs.History.{history}
use Rattle.world_core.specs.Hosts.{first_hosts}
use Rattle.world_core.specs.Machine.{machine}
use Rattle.world_core.specs.Rest.{IsAtRest, IsLiveReplica}
use Rattle.world_core.specs.SerialLaw.{AreEpochsOrdered, IsSerial}
use Rattle.frag_map.specs.Layout.{first_view}
use Rattle.world_core.specs.Start.{Start}
use Rattle.world_core.specs.Strict.{IsStrictOrder}
use Rattle.world_core.specs.Views.{greatest_view}
use Rattle.host_laws.specs.Causes.{IsDecidedBelow}
use Rattle.key_laws.specs.OneKey.{IsRightAt, row_at_end}

-- a closed cut of right logs
pub record IsClosedCut (start : Start) (inside logs : ℕ → List HostStep) : Type 0 where
  pub within : IsWithin (first_hosts start) logs
  pub right : AreLogs (machine start) logs
  pub cut : IsCut inside logs
  pub closed : IsClosed (machine start) inside

-- epochs never fall along the history of a closed cut
abbrev pub EpochsNeverFall : Type 0
EpochsNeverFall =
    (start : Start) (inside logs : ℕ → List HostStep) → IsClosedCut start inside logs
    → AreEpochsOrdered (history (first_hosts start) inside)

-- nobody installs another view than the first one, which is viable
abbrev pub GreatestViewIsFirst : Type 0
GreatestViewIsFirst =
    (start : Start) (inside logs : ℕ → List HostStep) → IsClosedCut start inside logs
    → greatest_view start inside ≡ first_view start.shape.nodes

abbrev pub GreatestViewIsViable : Type 0
GreatestViewIsViable =
    (start : Start) (inside logs : ℕ → List HostStep) → IsShape start.shape → IsClosedCut start inside logs
    → is_viable start.shape (greatest_view start inside) ≡ true

-- the history of a closed cut keeps to strict order
abbrev pub HistoriesAreStrict : Type 0
HistoriesAreStrict =
    (start : Start) (inside logs : ℕ → List HostStep) → IsClosedCut start inside logs
    → IsStrictOrder start (inside 0) (history (first_hosts start) inside)

-- a row is committed for decided transactions alone: wherever a commit was taken, the decision has a lesser stamp
abbrev pub CommitsAreOfDecided : Type 0
CommitsAreOfDecided =
    (start : Start) (inside logs : ℕ → List HostStep) → IsClosedCut start inside logs
    → (h : ℕ) (e : HostStep) (tx : TxId) (key : List ℕ) (epoch : ℕ) (chain : List Member) (at : ℕ) → IsIn e (inside h)
    → e.step.taken.body ≡ Chain (Commit tx key epoch chain at)
    → IsDecidedBelow inside tx e.step.stamp

-- What is left of the serial law of a closed cut, key by key: the history is right for each key, and where a key is at
-- rest
-- each live replica has the row that the history leaves.
pub record AreKeysRight (start : Start) (inside : ℕ → List HostStep) : Type 0 where
  pub right : (key : List ℕ) → IsRightAt key (map.get (rows_of start.rows) key) (history (first_hosts start) inside)
  pub rows : (key : List ℕ) → IsAtRest start inside key → (member : Member) → IsLiveReplica start inside key member
      → row_in start inside member.node key
      ≡ row_at_end key (map.get (rows_of start.rows) key) (history (first_hosts start) inside)

-- with that the cut is serial
abbrev pub KeysMakeSerial : Type 0
KeysMakeSerial =
    (start : Start) (inside logs : ℕ → List HostStep) → IsShape start.shape → IsClosedCut start inside logs
    → AreKeysRight start inside
    → IsSerial start inside
