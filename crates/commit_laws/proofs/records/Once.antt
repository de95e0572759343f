-- No transaction has two records on a key, after every log of the host of the rows.
use Rattle.std.proofs.Common.{◌≡◌, ℕ, true, filter, map, List, sym, subst, ◌∷◌}
use Rattle.run_theory.specs.Lists.{IsIn}
use Rattle.sig_core.specs.declared.member.Member.{Member}
use Rattle.sig_core.specs.declared.rows.PendingRecord.{PendingRecord}
use Rattle.sig_core.specs.declared.signal.Signal.{Signal}
use Rattle.sig_core.specs.declared.view.View.{View}
use Rattle.sig_core.specs.Rows.{is_on, no_rows}
use Rattle.lqh_views.specs.Replica.{installed, replica_row}
use Rattle.lqh_views.specs.State.{ReplicaState}
use Rattle.lqh_saver.specs.Switching.{given_up, has_position}
use Rattle.node_core.specs.Fresh.{own_rows}
use Rattle.key_laws.specs.Records.{AreOnce, without_epoch}
use Rattle.key_laws.specs.Replica.{Replica, at_key}
use Rattle.host_laws.specs.ReplicaLaws.{IsWell}
use Rattle.world_core.specs.Start.{NobodyStarts, Start, made}
use Rattle.world_core.specs.Steps.{HostStep}
use Rattle.world_views.proofs.FreshBodies.{none_pending}
use Rattle.run_laws.proofs.fades.Records.{once_after}
use Rattle.moment_laws.specs.Moments.{IsMoment, logs_of}
use Rattle.moment_laws.specs.Places.{ldm_of}
use Rattle.request_laws.specs.Blocks.{rows_after}
use Rattle.request_laws.specs.Replicas.{event_under}
use Rattle.request_laws.proofs.replicas.KeyEvents.{installations_keep_well, signals_are_events, signals_keep_well}
use Rattle.request_laws.proofs.replicas.AlongLogs.{always, first_rows, first_well, given_up_well}
use Rattle.commit_laws.proofs.hosts.RowsTurn.{IsBetween, between_so}
use Rattle.commit_laws.specs.Traces.{rows_at}

-- rows that are well and have each record once
record AreSo (s : ReplicaState) : Type 0 where
  well : IsWell s.lqh
  once : (key : List ℕ) → AreOnce (at_key key s.lqh).cell.pending

row_so : (s : ReplicaState) (x : Signal) → AreSo s → AreSo (replica_row s x).state
row_so s x so = record {
  well = signals_keep_well s x so.well;
  once = λ key.
      subst (λ (r : Replica). AreOnce r.cell.pending) (sym (signals_are_events s x key so.well))
      (once_after (event_under key s x) (at_key key s.lqh) (so.once key));
}

install_so : (s : ReplicaState) (view : View) → AreSo s → AreSo (installed s view)
install_so s view so = record { well = installations_keep_well s view so.well; once = so.once }

give_so : (s : ReplicaState) (at : ℕ) → has_position s.lqh.outlet at ≡ true → AreSo s → AreSo (given_up s at)
give_so s at has so =
    record { well = given_up_well s at has so.well; once = so.once }

-- none is there at first
first_so : (start : Start) (member : Member) → AreSo (first_rows start member)
first_so start member = record {
  well = first_well start member;
  once = λ key.
      subst (λ (xs : List PendingRecord). AreOnce (map without_epoch (filter (is_on key) xs)))
      (sym (none_pending no_rows (own_rows start.shape member.node start.rows) start.start_epoch)) tt;
}

module _ (start : Start) (nobody : NobodyStarts start) (member : Member) (there : IsIn member (made start))
    (log : List HostStep) where
  so : AreSo (rows_after start member log)
  so = always AreSo row_so install_so give_so start nobody member there (first_so start member) log

  pub rows_well : IsWell (rows_after start member log).lqh
  rows_well = so.well

  pub rows_once : (key : List ℕ) → AreOnce (at_key key (rows_after start member log).lqh).cell.pending
  rows_once = so.once

-- so are those that take the signal of an event
pub well_between : (start : Start) (all : ℕ → List HostStep) (e : HostStep) (es : List HostStep)
    (moment : IsMoment start all (e ∷ es)) (member : Member) (there : IsIn member (made start)) (s : ReplicaState)
    → IsBetween start all e es moment member there s → IsWell s.lqh
well_between start all e es moment member there s between =
    let well = rows_well start moment.cluster.nobody member there (logs_of start es (ldm_of start member)) in
    between_so start all e es moment member there (λ s. IsWell s.lqh) s between well
    (λ view. installations_keep_well (rows_at start (logs_of start es) member) view well)
