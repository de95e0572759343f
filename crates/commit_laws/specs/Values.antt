-- The history up to a moment of a run whose end is fixed, and what it makes of each key at its replicas.
use Rattle.std.specs.FinMap as map
use Rattle.std.specs.List.{list_any}
use Rattle.std.specs.Prelude.{ℕ, Bool, List, Option, filter}
use Rattle.run_theory.specs.Lists.{IsPast}
use Rattle.sig_core.specs.declared.entry.Entry.{Entry}
use Rattle.sig_core.specs.declared.member.Member.{Member}
use Rattle.sig_core.specs.declared.member.TxId.{TxId}
use Rattle.sig_core.specs.Same.{same_tx}
use Rattle.serial_model.specs.Legal.{rows_of}
use Rattle.key_laws.specs.Backup.{IsLedUnlessSpoilt}
use Rattle.key_laws.specs.BackupEvents.{backup_of}
use Rattle.key_laws.specs.OneKey.{IsRightAt, row_at_end}
use Rattle.world_core.specs.History.{is_kept}
use Rattle.world_core.specs.Hosts.{hosts}
use Rattle.world_core.specs.Start.{Start}
use Rattle.world_core.specs.Steps.{HostStep}
use Rattle.view_laws.specs.Order.{entries_along}
use Rattle.moment_laws.specs.Moments.{IsMoment, logs_of}
use Rattle.commit_laws.specs.Going.{is_decided}
use Rattle.commit_laws.specs.Traces.{IsReplicaOf, replica_at}

module _ (start : Start) (end : List HostStep) where
  -- the entry takes effect by the end
  abbrev pub is_final_entry : Entry → Bool
  is_final_entry b = is_kept (hosts start) (logs_of start end) b

  -- the history up to a moment, in the order of the moment's events
  abbrev pub history_at : List HostStep → List Entry
  history_at es = filter is_final_entry (entries_along start es)

  -- the transaction has an entry that takes effect
  abbrev pub is_final : TxId → Bool
  is_final v = list_any (λ (b : Entry). same_tx b.tx v) (history_at end)

  -- it is decided at this moment
  abbrev pub decided_at : List HostStep → TxId → Bool
  decided_at es v = is_decided start (logs_of start es) v

  -- the row of a key before the first event, and after the history up to this moment
  abbrev pub first_row : List ℕ → Option (List ℕ)
  first_row key = map.get (rows_of start.rows) key

  abbrev pub value_at : List ℕ → List HostStep → Option (List ℕ)
  value_at key es = row_at_end key (first_row key) (history_at es)

  -- The answers of the history up to this moment are right for the key. What is prepared at a replica, decided and
  -- final, leads from the row there to the one that this history leaves, unless something was committed there that
  -- isn't final.
  pub record IsLedAt (es : List HostStep) (key : List ℕ) : Type 0 where
    pub right : IsRightAt key (first_row key) (history_at es)
    pub led : (member : Member) → IsReplicaOf start (logs_of start es) key member
        → IsLedUnlessSpoilt (decided_at es) is_final (value_at key es)
        (backup_of (replica_at start (logs_of start es) member key))

-- each key is so at each moment, whatever comes behind it
abbrev pub KeysAreLed : Type 0
KeysAreLed =
    (start : Start) (all : ℕ → List HostStep) (end es : List HostStep) → IsMoment start all end → IsPast es end
    → (key : List ℕ) → IsLedAt start end es key
