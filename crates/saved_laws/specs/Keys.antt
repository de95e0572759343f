-- A member commits nothing of keys that its node doesn't hold.
use Rattle.std.specs.Prelude.{◌≡◌, ◌<◌, ℕ, ◌-◌, ◌^◌, false, true, List}
use Rattle.std.specs.FinMap as map
use Rattle.frag_map.specs.Layout.{holds}
use Rattle.run_theory.specs.Lists.{IsIn, IsPast}
use Rattle.sig_core.specs.declared.member.Member.{Member}
use Rattle.sig_core.specs.Table.{Rows}
use Rattle.local_ckpt.specs.Events.{Event}
use Rattle.moment_laws.specs.Moments.{IsMoment, logs_of}
use Rattle.moment_laws.specs.Places.{ldm_of}
use Rattle.commit_laws.specs.Traces.{rows_at}
use Rattle.sys_restart.specs.Held.{are_records_held}
use Rattle.view_laws.specs.Runs.{AreOfCluster}
use Rattle.world_core.specs.Start.{Start, made}
use Rattle.world_core.specs.Steps.{HostStep}
use Rattle.journal_laws.specs.Events.{own_behind, records_behind}
use Rattle.journal_laws.specs.Journal.{AreEventsOf, first_rows}

abbrev pub OtherKeysStay : Type 0
OtherKeysStay =
    (start : Start) (logs : ℕ → List HostStep) → AreOfCluster start logs → (member : Member)
    → IsIn member (made start) → (log : List HostStep) → IsPast log (logs (ldm_of start member))
    → (events : List Event) → AreEventsOf start member log events → (before : Rows) (epoch : ℕ) (key : List ℕ)
    → holds start.shape member.node key ≡ false
    → map.get (own_behind epoch (first_rows start member) before events) key ≡ map.get before key

-- nor has its journal a record of such a key
abbrev pub OtherKeysAreUnlogged : Type 0
OtherKeysAreUnlogged =
    (start : Start) (logs : ℕ → List HostStep) → AreOfCluster start logs → (member : Member)
    → IsIn member (made start) → (log : List HostStep) → IsPast log (logs (ldm_of start member))
    → (events : List Event) → AreEventsOf start member log events
    → are_records_held start.shape member.node (records_behind (first_rows start member) events) ≡ true

-- behind an epoch that was noted as saved there is another number
abbrev pub SavedAreBelowLast : Type 0
SavedAreBelowLast =
    (start : Start) (all : ℕ → List HostStep) (es : List HostStep) → start.start_epoch < start.epoch
    → start.epoch < 2 ^ 64 - 1 → IsMoment start all es → (member : Member) → IsIn member (made start)
    → (rows_at start (logs_of start es) member).saved < 2 ^ 64 - 1
