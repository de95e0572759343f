-- What is under way of operations is of those that coordinators have unanswered.
use Rattle.std.specs.Prelude.{◌≤◌, ◌+◌, ◌&&◌, ℕ, Bool, false, List, Option, None, Some}
use Rattle.sig_core.specs.declared.member.TxId.{TxId}
use Rattle.sig_core.specs.declared.signal.Body.{Body}
use Rattle.sig_core.specs.declared.signal.Body.TheVariants.{Chain}
use Rattle.sig_core.specs.declared.signal.chain.ChainSignal.TheVariants.{LqhKeyConf, LqhKeyRef, LqhKeyReq}
use Rattle.sig_core.specs.Op.{key_of}
use Rattle.sig_core.specs.Same.{same_key, same_tx}
use Rattle.sig_core.specs.Work.{work_key}
use Rattle.lqh_block.specs.Work.{is_for}
use Rattle.tc_block.specs.declared.phase.Asked.{Asked}
use Rattle.tc_block.specs.declared.transaction.Transaction.{Transaction}
use Rattle.node_core.specs.Blocks.{lqh_of}
use Rattle.node_core.specs.declared.host.Host.{Host}
use Rattle.run_theory.specs.Counts.{one_if, tally, total}
use Rattle.world_core.specs.Hosts.{first_hosts}
use Rattle.world_core.specs.Machine.{after}
use Rattle.world_core.specs.Start.{Start}
use Rattle.world_core.specs.Steps.{Addressed, HostStep}
use Rattle.run_laws.specs.Live.{live_at}
use Rattle.run_laws.specs.Transit.{AreInTransit, IsRun, logs_of}

-- the signal asks a replica for a part of an operation of the transaction on the key, or answers one
abbrev pub is_part_on : TxId → List ℕ → Body → Bool
is_part_on tx key (Chain (LqhKeyReq other work chain at)) = same_tx other tx && same_key (work_key work) key
is_part_on tx key (Chain (LqhKeyConf other own answer)) = same_tx other tx && same_key own key
is_part_on tx key (Chain (LqhKeyRef other own cause)) = same_tx other tx && same_key own key
is_part_on tx key body = false

-- requests of it that wait at a host
abbrev pub waiting_on : TxId → List ℕ → Host → ℕ
waiting_on tx key host = tally (is_for tx key) (lqh_of host).waiting

-- how many parts of an operation on the key are in transit or wait
abbrev pub parts_on : Start → (ℕ → List HostStep) → List Addressed → TxId → List ℕ → ℕ
parts_on start logs xs tx key =
    tally (λ (x : Addressed). is_part_on tx key x.signal.body) xs
    + total (first_hosts start) (λ h. waiting_on tx key (after start h (logs h)))

-- the unanswered operation, if there is one, is on the key
abbrev pub is_on_key : List ℕ → Option Asked → Bool
is_on_key key None = false
is_on_key key (Some asked) = same_key (key_of asked.op) key

abbrev pub asks_on : List ℕ → Option Transaction → Bool
asks_on key None = false
asks_on key (Some t) = is_on_key key t.asked

-- A part of an operation is in transit or waits only where the coordinator has the transaction, with an operation on
-- the
-- key unanswered; and one at most.
abbrev pub PartsAreUnanswered : Type 0
PartsAreUnanswered =
    (start : Start) (es : List HostStep) (xs : List Addressed) (tx : TxId) (key : List ℕ) → IsRun start es
    → AreInTransit start es xs
    → parts_on start (logs_of start es) xs tx key ≤ one_if (asks_on key (live_at start (logs_of start es) tx))
