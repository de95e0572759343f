-- What the client asked for and was answered, of a transaction that was decided.
use Rattle.std.specs.Prelude.{◌≡◌, if◌then◌else◌, ℕ, List, [], ◌∷◌, ◌++◌, reverse}
use Rattle.run_theory.specs.Lists.{IsIn}
use Rattle.sig_core.specs.declared.entry.Entry.{Entry}
use Rattle.sig_core.specs.declared.member.TxId.{TxId}
use Rattle.sig_core.specs.declared.op.Answer.{Answer}
use Rattle.sig_core.specs.declared.op.Op.{Op}
use Rattle.report_laws.specs.Answered.{answers_among, answers_of, is_answered}
use Rattle.report_laws.specs.Asked.{asked_in, operations_of}
use Rattle.world_core.specs.Entries.{entries}
use Rattle.world_core.specs.Hosts.{hosts}
use Rattle.world_core.specs.Start.{Start}
use Rattle.world_core.specs.Steps.{HostStep}
use Rattle.world_views.specs.Machine.{replies_at, step_after}
use Rattle.view_laws.specs.Runs.{AreOfCluster}

-- the answers that the client was told for the transaction in this log of the shell's host, the newest first
abbrev pub told_of : Start → TxId → List HostStep → List Answer
told_of start tx [] = []
told_of start tx (e ∷ log) =
    (if is_answered tx e.step.taken.body then reverse (answers_among (replies_at 0 (step_after start 0 log e))) else [])
    ++ told_of start tx log

-- the operations that were asked of its coordinator for it, the newest first
abbrev pub asked_of : Start → TxId → List HostStep → List Op
asked_of start tx [] = []
asked_of start tx (e ∷ log) = asked_in tx (step_after start 0 log e).effects.sends (asked_of start tx log)

-- whoever is decided has the operations that its client asked for, and the answers that it was told: all, and no others
abbrev pub DecidedAsAskedAndTold : Type 0
DecidedAsAskedAndTold =
    (start : Start) (logs : ℕ → List HostStep) → AreOfCluster start logs → (entry : Entry)
    → IsIn entry (entries (hosts start) logs)
    → (asked_of start entry.tx (logs 0) ≡ operations_of entry) × (told_of start entry.tx (logs 0) ≡ answers_of entry)
