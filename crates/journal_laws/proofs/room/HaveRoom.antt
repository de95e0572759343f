-- The journal of a member's rows has its room after every log of their host.
use Rattle.std.proofs.Common.{◌≡◌, ◌≤◌, ◌-◌, ℕ, true, arith}
use Rattle.std.proofs.lemmas.Bool.{and_parts, leb-true}
use Rattle.std.proofs.lemmas.List.{length-drop}
use Rattle.std.specs.Prelude.{nat_le}
use Rattle.sig_core.specs.declared.member.Member.{Member}
use Rattle.sig_core.specs.declared.signal.Signal.{Signal}
use Rattle.sig_core.specs.declared.view.View.{View}
use Rattle.sig_core.specs.Journal.{end_of}
use Rattle.sig_core.specs.Rows.{no_rows}
use Rattle.lqh_block.specs.Fresh.{unused}
use Rattle.lqh_block.proofs.DueLemmas.{covered_at_rest}
use Rattle.lqh_views.specs.Replica.{installed, replica_row}
use Rattle.lqh_views.specs.State.{ReplicaState}
use Rattle.lqh_views.proofs.Walk.{replica_outcomes}
use Rattle.lqh_saver.specs.Switching.{given_up, has_position}
use Rattle.node_core.specs.Fresh.{own_rows, with_rows}
use Rattle.moment_laws.specs.Moments.{logs_of}
use Rattle.moment_laws.specs.Places.{ldm_of}
use Rattle.request_laws.proofs.replicas.AlongLogs.{always, first_rows}
use Rattle.world_core.specs.Start.{Start}
use Rattle.world_views.proofs.FreshBodies.{none_pending}
use Rattle.journal_laws.specs.Laws.{JournalsHaveRoom}
use Rattle.journal_laws.proofs.room.RowsKeepRoom.{RowsHaveRoom, rows_keep_room}

-- so have rows under views
abbrev ReplicaHasRoom : ReplicaState → Type 0
ReplicaHasRoom s = RowsHaveRoom s.lqh

takes : (s : ReplicaState) (x : Signal) → ReplicaHasRoom s → ReplicaHasRoom (replica_row s x).state
takes s x has =
    replica_outcomes s x (λ step. ReplicaHasRoom step.state) (record {
      passes = λ of_rows. rows_keep_room s.lqh x.body has;
      stales = λ of_waits stale. has;
      unasked = λ at is none. has;
      ignores = λ signal is. has;
      promises = λ proposal is. has;
      closes = λ epoch is. has;
      saves = λ epoch is. has;
      states = λ is. has;
      tells_record = λ r under_way at one last there. has;
      tells_marker = λ r under_way at m none last there. has;
      ends = λ r under_way none no_more. has;
    })

installs : (s : ReplicaState) (view : View) → ReplicaHasRoom s → ReplicaHasRoom (installed s view)
installs s view has = has

-- where it gives something up, it has more
gives : (s : ReplicaState) (at : ℕ) → has_position s.lqh.outlet at ≡ true → ReplicaHasRoom s
    → ReplicaHasRoom (given_up s at)
gives s at position has =
    let parts = and_parts (nat_le s.lqh.outlet.flushed at) (nat_le at (end_of s.lqh.outlet)) position in
    let least : s.lqh.outlet.flushed ≤ at = leb-true s.lqh.outlet.flushed at parts.0 in
    let most : at ≤ end_of s.lqh.outlet = leb-true at (end_of s.lqh.outlet) parts.1 in
    record {
      used = omega (arith, least, most, length-drop (at - s.lqh.outlet.flushed) s.lqh.outlet.left);
      room = omega (arith, least, has.used, has.room);
      covered = record { kept = has.covered.kept };
    }

begins : (start : Start) (member : Member) → ReplicaHasRoom (first_rows start member)
begins start member = record {
  used = omega arith;
  room = omega arith;
  covered =
      covered_at_rest (with_rows no_rows (own_rows start.shape member.node start.rows) start.start_epoch) unused
      (none_pending no_rows (own_rows start.shape member.node start.rows) start.start_epoch);
}

pub journals_have_room : JournalsHaveRoom
journals_have_room start all es moment member there =
    let has = always ReplicaHasRoom takes installs gives start moment.cluster.nobody member there (begins start member)
    (logs_of start es (ldm_of start member)) in
    omega (arith, has.used, has.room)
