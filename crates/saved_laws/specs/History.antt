-- The rows that a member has saved are those of the history.
use Rattle.std.specs.Prelude.{◌≡◌, ◌≤◌, ◌<◌, ℕ, nat_le, true, List, Option, filter}
use Rattle.std.specs.FinMap as map
use Rattle.frag_map.specs.Layout.{holds}
use Rattle.key_laws.specs.OneKey.{row_at_end}
use Rattle.run_theory.specs.Lists.{IsIn, IsPast}
use Rattle.serial_model.specs.Legal.{rows_of}
use Rattle.sig_core.specs.declared.entry.Entry.{Entry}
use Rattle.sig_core.specs.declared.member.Member.{Member}
use Rattle.sig_core.specs.Rows.{row_of}
use Rattle.sig_core.specs.Table.{Rows}
use Rattle.local_ckpt.specs.Events.{Event}
use Rattle.moment_laws.specs.Places.{ldm_of}
use Rattle.request_laws.specs.Blocks.{rows_after}
use Rattle.view_laws.specs.Runs.{AreOfCluster}
use Rattle.world_core.specs.History.{history}
use Rattle.world_core.specs.Hosts.{hosts}
use Rattle.world_core.specs.Start.{Start, made}
use Rattle.world_core.specs.Steps.{HostStep}
use Rattle.journal_laws.specs.Events.{own_behind}
use Rattle.journal_laws.specs.Journal.{AreEventsOf, first_rows}

-- those of entries that have this epoch or one before it
abbrev pub up_to : ℕ → List Entry → List Entry
up_to epoch entries = filter (λ (entry : Entry). nat_le entry.epoch epoch) entries

-- the row of a key that the history up to an epoch leaves
abbrev pub row_up_to : Start → (ℕ → List HostStep) → ℕ → List ℕ → Option (List ℕ)
row_up_to start logs epoch key =
    row_at_end key (map.get (rows_of start.rows) key) (up_to epoch (history (hosts start) logs))

-- Up to any epoch that a member's rows noted as saved, after a part of their log, they had committed just what the
-- history of these logs has, and of every longer ones.
abbrev pub SavedRowsAreHistory : Type 0
SavedRowsAreHistory =
    (start : Start) (logs : ℕ → List HostStep) → start.start_epoch < start.epoch → AreOfCluster start logs
    → (member : Member) → IsIn member (made start) → (log : List HostStep) → IsPast log (logs (ldm_of start member))
    → (events : List Event) → AreEventsOf start member log events → (before : Rows)
    → ((key : List ℕ) → map.get before key ≡ row_of (first_rows start member) key)
    → (epoch : ℕ) → epoch ≤ (rows_after start member log).saved
    → (key : List ℕ) → holds start.shape member.node key ≡ true
    → map.get (own_behind epoch (first_rows start member) before events) key ≡ row_up_to start logs epoch key
