-- Where keys are led the history of right logs is legal, and a replica without records of a key has its row.
use Rattle.std.proofs.Common.{◌≡◌, ℕ, Bool, List, [], filter, sym, ap, ◌∙◌, subst}
use Rattle.std.specs.FinMap as map
use Rattle.std.specs.List.{list_any}
use Rattle.std.specs.Prelude.{Option}
use Rattle.run_theory.proofs.Pasts.{past_self}
use Rattle.run_theory.specs.Ranks.{in_order}
use Rattle.serial_model.specs.Legal.{IsLegal, fold, rows_of}
use Rattle.sig_core.specs.declared.member.Member.{Member}
use Rattle.sig_core.specs.declared.member.TxId.{TxId}
use Rattle.world_core.specs.History.{history, is_kept}
use Rattle.world_core.specs.Hosts.{hosts}
use Rattle.world_core.specs.Start.{Start}
use Rattle.world_core.specs.Steps.{HostStep}
use Rattle.view_laws.proofs.eras.Entries.{stand_in_order}
use Rattle.view_laws.specs.Order.{by_views, entries_along}
use Rattle.view_laws.specs.Runs.{AreOfCluster}
use Rattle.moment_laws.proofs.MomentRuns.{are_moments, logs_in_views}
use Rattle.moment_laws.specs.Moments.{logs_of}
use Rattle.key_laws.proofs.KeysJoin.{keys_join, rows_join}
use Rattle.key_laws.specs.Backup.{is_spoilt, kept_of}
use Rattle.key_laws.specs.OneKey.{IsRightAt, row_at_end}
use Rattle.key_laws.specs.Records.{kept_row}
use Rattle.commit_laws.specs.Cuts.{HistoriesAreLegal, RowsFollowHistories}
use Rattle.commit_laws.specs.Traces.{IsReplicaOf, replica_at}
use Rattle.commit_laws.specs.Values.{IsLedAt, KeysAreLed, decided_at, history_at, is_final}

-- the history along the run of right logs is that of the logs
pub history_in_views : (start : Start) (logs : ℕ → List HostStep) → AreOfCluster start logs
    → history_at start (in_order (by_views start logs)) (in_order (by_views start logs)) ≡ history (hosts start) logs
history_in_views start logs are =
    ap (λ (ls : ℕ → List HostStep). filter (is_kept (hosts start) ls)
    (entries_along start (in_order (by_views start logs)))) (logs_in_views start logs are)
    ∙ ap (filter (is_kept (hosts start) logs)) (sym (stand_in_order start logs are))

module _ (led : KeysAreLed) (start : Start) (logs : ℕ → List HostStep) (are : AreOfCluster start logs) where
  abbrev events : List HostStep
  events = in_order (by_views start logs)

  at_end : (key : List ℕ) → IsLedAt start events events key
  at_end key = led start logs events events (are_moments start logs are) (past_self events) key

  legal : IsLegal (rows_of start.rows) (history (hosts start) logs)
  legal =
      keys_join (rows_of start.rows) (history (hosts start) logs)
      (λ key. subst (IsRightAt key (map.get (rows_of start.rows) key)) (history_in_views start logs are)
      (at_end key).right)

  row_follows : (key : List ℕ) (member : Member) → IsReplicaOf start logs key member
      → (replica_at start logs member key).cell.pending ≡ []
      → (replica_at start logs member key).cell.row
      ≡ map.get (fold (rows_of start.rows) (history (hosts start) logs)) key
  row_follows key member is empty =
      ap (λ (ls : ℕ → List HostStep). (replica_at start ls member key).cell.row) (sym (logs_in_views start logs are))
      ∙ sym (ap (kept_row kept row) none)
      ∙ (at_end key).led member (subst (λ ls. IsReplicaOf start ls key member) (sym (logs_in_views start logs are)) is)
      (ap (list_any (is_spoilt (is_final start events))) none)
      ∙ ap (row_at_end key (map.get (rows_of start.rows) key)) (history_in_views start logs are)
      ∙ sym (rows_join (rows_of start.rows) (history (hosts start) logs) key)
    where
      kept : TxId → Bool
      kept = kept_of (decided_at start events events) (is_final start events)

      row : Option (List ℕ)
      row = (replica_at start (logs_of start events) member key).cell.row

      none : (replica_at start (logs_of start events) member key).cell.pending ≡ []
      none = ap (λ (ls : ℕ → List HostStep). (replica_at start ls member key).cell.pending)
          (logs_in_views start logs are) ∙ empty

pub histories_are_legal : KeysAreLed → HistoriesAreLegal
histories_are_legal led start logs are = legal led start logs are

pub rows_follow_histories : KeysAreLed → RowsFollowHistories
rows_follow_histories led start logs are key member is empty = row_follows led start logs are key member is empty
