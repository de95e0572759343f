-- What the journal of a member's rows is good for.
use Rattle.std.specs.Prelude.{◌≡◌, ◌≤◌, ◌<◌, ◌^◌, ℕ, List, [], length}
use Rattle.std.specs.FinMap as map
use Rattle.redo_log.specs.Replaying.{replayed}
use Rattle.run_theory.specs.Lists.{IsIn}
use Rattle.sig_core.specs.declared.journal.TheConstants.{JOURNAL_BYTES}
use Rattle.sig_core.specs.declared.member.Member.{Member}
use Rattle.sig_core.specs.Rows.{RowsState, row_of}
use Rattle.sig_core.specs.Table.{Rows}
use Rattle.local_ckpt.specs.Events.{Event}
use Rattle.local_ckpt.specs.Orderly.{IsOrderly}
use Rattle.moment_laws.specs.Moments.{IsMoment, logs_of}
use Rattle.moment_laws.specs.Places.{ldm_of}
use Rattle.world_core.specs.Start.{Start, made}
use Rattle.world_core.specs.Steps.{HostStep}
use Rattle.journal_laws.specs.Asked.{AreOfWords}
use Rattle.journal_laws.specs.Events.{AreUpTo, own_behind, records_behind, rows_behind}
use Rattle.journal_laws.specs.Journal.{HasRecords, lqh_after}

-- At each moment the journal of a member's rows has just the records of what its log did to them, where the first epoch
-- of the life can be written, and all that the shell was asked for.
abbrev pub JournalsHaveRecords : Type 0
JournalsHaveRecords =
    (start : Start) (all : ℕ → List HostStep) (es : List HostStep) → start.epoch < 2 ^ 64 → IsMoment start all es
    → AreOfWords (all 0) → (member : Member) → IsIn member (made start)
    → (events : List Event) × HasRecords start member (logs_of start es (ldm_of start member)) events

-- Whatever events there were, their records make of the rows before them those that are committed up to an epoch.
abbrev pub ReplaysGiveOwnRows : Type 0
ReplaysGiveOwnRows =
    (s : RowsState) (before : Rows) (events : List Event) (epoch : ℕ) → s.pending ≡ []
    → replayed epoch before (records_behind s events) ≡ own_behind epoch s before events

-- Where none of them was committed later than an epoch, those are the rows.
abbrev pub OwnRowsAreTheRows : Type 0
OwnRowsAreTheRows =
    (s : RowsState) (before : Rows) (events : List Event) (epoch : ℕ) → IsOrderly s → s.pending ≡ []
    → ((key : List ℕ) → map.get before key ≡ row_of s key) → AreUpTo epoch events → (key : List ℕ)
    → map.get (own_behind epoch s before events) key ≡ row_of (rows_behind s events) key

-- All bytes of a member's journal fit in its ring.
abbrev pub JournalsHaveRoom : Type 0
JournalsHaveRoom =
    (start : Start) (all : ℕ → List HostStep) (es : List HostStep) → IsMoment start all es → (member : Member)
    → IsIn member (made start)
    → length (lqh_after start member (logs_of start es (ldm_of start member))).outlet.left ≤ JOURNAL_BYTES
