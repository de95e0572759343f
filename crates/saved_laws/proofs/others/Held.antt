-- Each replica of a key is of a node that holds it.
use Rattle.std.proofs.Common.{◌≡◌, ℕ, suc, true, List, [], ◌∷◌, ap, sym, subst, inl, inr}
use Rattle.std.proofs.Common.{arith}
use Rattle.run_theory.specs.Lists.{IsIn}
use Rattle.frag_map.proofs.FirstReplicas.{first_group}
use Rattle.frag_map.specs.Fragment.{frag_of}
use Rattle.frag_map.specs.Laws.{HasReplica, first_chain}
use Rattle.frag_map.specs.Layout.{first_view, holds}
use Rattle.frag_map.specs.Replicas.{is_member}
use Rattle.sig_core.specs.declared.member.Member.{Member}
use Rattle.sig_core.specs.declared.view.View.{View}
use Rattle.world_core.proofs.MadeFirst.{made_begins}
use Rattle.world_core.specs.Start.{Start}
use Rattle.world_core.specs.Steps.{HostStep}
use Rattle.moment_laws.proofs.MomentMembers.{current_made}
use Rattle.moment_laws.proofs.MomentViews.{moment_installed}
use Rattle.moment_laws.specs.Moments.{IsMoment, current, logs_of}
use Rattle.request_laws.proofs.routes.ChainsStay.{any_in, nobody_later_first}
use Rattle.request_laws.proofs.routes.PartsOfTheFirst.{nobody_later}
use Rattle.commit_laws.proofs.records.Replicas.{chained, in_turns, self, turn_in}
use Rattle.commit_laws.specs.Traces.{IsReplicaOf}

-- whoever is in a chain has a place there
has_place : (xs : List Member) (m : Member) → IsIn m xs → HasReplica xs m.node
has_place [] m there = absurd there
has_place (x ∷ xs) m (inl same) =
    record { at = 0; inside = omega arith; is = ap (λ (y : Member). y.node) (sym same) }
has_place (x ∷ xs) m (inr there) =
    let more = has_place xs m there in
    let inside = more.inside in
    record { at = suc more.at; inside = omega (arith, inside); is = more.is }

-- it is one in the first view, too
pub replica_holds : (start : Start) (all : ℕ → List HostStep) (es : List HostStep) → IsMoment start all es
    → (key : List ℕ) (member : Member) → IsReplicaOf start (logs_of start es) key member
    → holds start.shape member.node key ≡ true
replica_holds start all es moment key member is =
    subst (λ node. holds start.shape node key ≡ true) place.is
    (first_group start.shape moment.cluster.shape key place.at place.inside)
  where
    view : View
    view = current start (logs_of start es)

    first : View
    first = first_view start.shape.nodes

    place : HasReplica (first_chain start.shape key) member.node
    place =
        has_place (first_chain start.shape key) member
        (chained start key moment.cluster.shape first (nobody_later_first start.shape.nodes) member
        (turn_in start.shape (frag_of start.shape key) view first start.shape.replicas member
        (in_turns start key moment.cluster.shape view
        (nobody_later start all moment.cluster view (moment_installed start all es moment)) member is.chained)
        (any_in (is_member member) member first.full
        (made_begins start moment.cluster.nobody member (current_made start all es moment member is.full))
        (self member))))
