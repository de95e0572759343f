-- Each replica of a key begins with the row of the start, and nothing is at work on it.
use Rattle.std.proofs.Common.{◌≡◌, ◌<◌, ◌∙◌, ℕ, zero, suc, true, length, List, [], ◌∷◌, ap, subst, inl, inr, arith}
use Rattle.std.specs.Prelude.{Some}
use Rattle.std.specs.List.{slice_get}
use Rattle.std.specs.FinMap as map
use Rattle.run_theory.specs.Lists.{IsIn}
use Rattle.frag_map.proofs.FirstReplicas.{first_group}
use Rattle.frag_map.specs.Laws.{first_chain}
use Rattle.frag_map.specs.Layout.{chain_of, first_layout, holds}
use Rattle.sig_core.specs.Chain.{node_of}
use Rattle.sig_core.specs.declared.member.Member.{Member}
use Rattle.sig_core.specs.declared.view.View.{View}
use Rattle.serial_model.specs.Legal.{rows_of}
use Rattle.node_core.specs.Fresh.{fresh_part}
use Rattle.node_views.specs.declared.host_body.HostBody as node
use Rattle.key_laws.specs.Replica.{Replica, at_key}
use Rattle.host_laws.proofs.rows.Replicas.{keys_begin_at_rest}
use Rattle.world_core.specs.Hosts.{hosts}
use Rattle.world_core.specs.Start.{Start}
use Rattle.world_core.specs.Steps.{HostStep}
use Rattle.view_laws.proofs.runs.Step.{started_view}
use Rattle.moment_laws.proofs.MomentHosts.{ldm_started}
use Rattle.moment_laws.proofs.MomentViews.{IsSome, current_is}
use Rattle.moment_laws.specs.Moments.{IsMoment, current, logs_of}
use Rattle.request_laws.proofs.replicas.AlongLogs.{first_rows}
use Rattle.request_laws.specs.Blocks.{no_replica, rows_in}
use Rattle.request_laws.specs.Routed.{layout_in}
use Rattle.commit_laws.specs.Owed.{ReplicasBeginAtRest}
use Rattle.commit_laws.specs.Traces.{IsReplicaOf, replica_at}
use Rattle.commit_laws.proofs.commits.Places.{place_of}
use Rattle.commit_laws.proofs.records.Replicas.{replica_made}

-- the first view is the current one
first_current : (start : Start) (all : ℕ → List HostStep) → IsMoment start all []
    → current start (logs_of start []) ≡ (first_layout start.shape).view
first_current start all moment =
    by (current start (logs_of start [])) (current_is start (logs_of start []) moment.cluster.nobody)
  where
    by : (view : View) → IsSome start (logs_of start []) (hosts start) view → view ≡ (first_layout start.shape).view
    by view (inl first) = first
    by view (inr one) = one.is ∙ started_view start moment.cluster.nobody one.host

-- a place that is found is inside
pub place_inside : (xs : List Member) (at : ℕ) (x : Member) → slice_get xs at ≡ Some x → at < length xs
place_inside [] at x there = absurd cc
place_inside (y ∷ xs) zero x there = omega arith
place_inside (y ∷ xs) (suc at) x there = let less = place_inside xs at x there in omega (arith, less)

-- so a replica is of the key's group
replica_holds : (start : Start) (all : ℕ → List HostStep) → IsMoment start all [] → (key : List ℕ) (member : Member)
    → IsReplicaOf start (logs_of start []) key member → holds start.shape member.node key ≡ true
replica_holds start all moment key member is =
    let chained : IsIn member (first_chain start.shape key) =
    subst (λ (view : View). IsIn member (chain_of (layout_in start view) key))
    (first_current start all moment) is.chained in
    let place = place_of (first_chain start.shape key) member chained in
    subst (λ n. holds start.shape n key ≡ true) (ap node_of place.is)
    (first_group start.shape moment.cluster.shape key place.at
    (place_inside (first_chain start.shape key) place.at member place.is))

-- the rows of the start
module _ (start : Start) (member : Member) (key : List ℕ) (held : holds start.shape member.node key ≡ true) where
  row_is : (at_key key (first_rows start member).lqh).cell.row ≡ map.get (rows_of start.rows) key
  unfolding fresh_part
  row_is =
      ap (λ (r : Replica). r.cell.row)
      (keys_begin_at_rest member (first_layout start.shape) start.start_epoch start.rows key held)

  pending_is : (at_key key (first_rows start member).lqh).cell.pending ≡ []
  unfolding fresh_part
  pending_is =
      ap (λ (r : Replica). r.cell.pending)
      (keys_begin_at_rest member (first_layout start.shape) start.start_epoch start.rows key held)

  holders_are : (at_key key (first_rows start member).lqh).lock.holders ≡ []
  unfolding fresh_part
  holders_are =
      ap (λ (r : Replica). r.lock.holders)
      (keys_begin_at_rest member (first_layout start.shape) start.start_epoch start.rows key held)

pub replicas_begin_at_rest : ReplicasBeginAtRest
replicas_begin_at_rest start all moment key member is = record {
  row = ap (λ (r : Replica). r.cell.row) begun ∙ row_is start member key held;
  pending = ap (λ (r : Replica). r.cell.pending) begun ∙ pending_is start member key held;
  holders = ap (λ (r : Replica). r.lock.holders) begun ∙ holders_are start member key held;
}
  where
    held : holds start.shape member.node key ≡ true
    held = replica_holds start all moment key member is

    begun : replica_at start (logs_of start []) member key ≡ at_key key (first_rows start member).lqh
    begun =
        ap (λ (s : node.HostBody). at_key key (rows_in (no_replica start member) s.parts).lqh)
        (ldm_started start moment.cluster.nobody member (replica_made start all [] moment key member is))
