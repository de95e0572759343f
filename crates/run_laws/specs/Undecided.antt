-- Of a transaction that is decided, and isn't given up, nothing is under way.
use Rattle.std.specs.Prelude.{◌≡◌, true, false, List}
use Rattle.world_core.specs.Steps.{Addressed, HostStep}
use Rattle.sig_core.specs.declared.member.TxId.{TxId}
use Rattle.world_core.specs.Start.{Start}
use Rattle.run_laws.specs.GivenUp.{is_carried_out, is_given_up}
use Rattle.run_laws.specs.Owed.{is_decided}
use Rattle.run_laws.specs.Tokens.{tokens}
use Rattle.run_laws.specs.Transit.{AreInTransit, IsRun, logs_of}

-- no part of an operation of it is in transit or waits
abbrev pub DecidedHaveNone : Type 0
DecidedHaveNone =
    (start : Start) (es : List HostStep) (xs : List Addressed) (tx : TxId) → IsRun start es → AreInTransit start es xs
    → is_decided start (logs_of start es) tx ≡ true → is_given_up start (logs_of start es) tx ≡ false
    → tokens start (logs_of start es) xs tx ≡ 0

-- so it is of one that is carried out
abbrev pub CarriedOutHaveNone : Type 0
CarriedOutHaveNone =
    (start : Start) (es : List HostStep) (xs : List Addressed) (tx : TxId) → IsRun start es → AreInTransit start es xs
    → is_carried_out start (logs_of start es) tx ≡ true
    → tokens start (logs_of start es) xs tx ≡ 0
