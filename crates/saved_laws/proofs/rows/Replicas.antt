-- A replica of a key was one before, and begins with the row of the start.
use Rattle.std.proofs.Common.{◌≡◌, ◌∙◌, ◌++◌, ℕ, true, List, ap}
use Rattle.std.specs.FinMap as map
use Rattle.run_theory.specs.Lists.{IsIn}
use Rattle.frag_map.specs.Layout.{first_layout, holds}
use Rattle.sig_core.specs.Rows.{row_of}
use Rattle.sig_core.specs.declared.member.Member.{Member}
use Rattle.serial_model.specs.Legal.{rows_of}
use Rattle.node_core.specs.Fresh.{fresh_part}
use Rattle.node_views.specs.declared.host_body.HostBody as node
use Rattle.key_laws.specs.Replica.{Replica, at_key}
use Rattle.host_laws.proofs.rows.Replicas.{keys_begin_at_rest}
use Rattle.world_core.specs.Start.{NobodyStarts, Start, made}
use Rattle.world_core.specs.Steps.{HostStep}
use Rattle.moment_laws.proofs.MomentHosts.{ldm_started}
use Rattle.moment_laws.specs.Moments.{IsMoment, logs_of}
use Rattle.request_laws.proofs.replicas.AlongLogs.{first_rows}
use Rattle.request_laws.specs.Blocks.{no_replica, rows_in}
use Rattle.commit_laws.specs.Traces.{IsReplicaOf}
use Rattle.commit_laws.proofs.records.Replicas.{replica_before}
use Rattle.closing_laws.proofs.settled.Cuts.{goes_back}
use Rattle.journal_laws.specs.Journal as journal

pub replica_was : (start : Start) (all : ℕ → List HostStep) (newer es : List HostStep)
    → IsMoment start all (newer ++ es) → (key : List ℕ) (member : Member)
    → IsReplicaOf start (logs_of start (newer ++ es)) key member → IsReplicaOf start (logs_of start es) key member
replica_was start all newer es moment key member is =
    goes_back start all (λ es. IsReplicaOf start (logs_of start es) key member)
    (λ e es moment is. replica_before start all e es moment key member is) newer es moment is

-- the rows of the start
module _ (start : Start) (nobody : NobodyStarts start) (member : Member) (key : List ℕ)
    (held : holds start.shape member.node key ≡ true) where
  first_is : (at_key key (first_rows start member).lqh).cell.row ≡ map.get (rows_of start.rows) key
  unfolding fresh_part
  first_is =
      ap (λ (r : Replica). r.cell.row)
      (keys_begin_at_rest member (first_layout start.shape) start.start_epoch start.rows key held)

  pub row_begins : IsIn member (made start)
      → row_of (journal.first_rows start member) key ≡ map.get (rows_of start.rows) key
  row_begins there =
      ap (λ (s : node.HostBody). row_of (rows_in (no_replica start member) s.parts).lqh.rows key)
      (ldm_started start nobody member there) ∙ first_is
