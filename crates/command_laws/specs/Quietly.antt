-- What is being aborted where nothing is under way.
use Rattle.std.specs.Prelude.{◌≡◌, ◌<◌, ℕ, false, List, Some}
use Rattle.sig_core.specs.declared.member.TxId.{TxId}
use Rattle.tc_block.specs.declared.phase.Asked.{Asked}
use Rattle.tc_block.specs.declared.transaction.Transaction.{Transaction}
use Rattle.tc_block.specs.Phases.{is_aborting}
use Rattle.world_core.specs.Hosts.{first_hosts}
use Rattle.world_core.specs.Machine.{after}
use Rattle.world_core.specs.Start.{Start}
use Rattle.world_core.specs.Steps.{HostStep}
use Rattle.answer_laws.specs.Answered.{AreQuiet, IsLiveAs}

-- at quiet no transaction that is being aborted has an operation unanswered
abbrev pub NoAbortWaits : Type 0
NoAbortWaits =
    (start : Start) (logs : ℕ → List HostStep) (h : ℕ) (tx : TxId) (t : Transaction) (asked : Asked)
    → AreQuiet start logs → h < first_hosts start
    → IsLiveAs tx t (after start h (logs h)) → t.asked ≡ Some asked → is_aborting t.phase ≡ false
