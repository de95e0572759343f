-- Each full member of the current view has reached the epoch that the rows of a member have saved: it was closed, or
-- the life started from it.
use Rattle.std.proofs.Common.{◌<◌, ◌∷◌, ◌≡◌, ◌⊎◌, List, [], ap, arith, inl, inr, subst, sym, ℕ}
use Rattle.run_theory.proofs.Pasts.{each_from}
use Rattle.run_theory.specs.Lists.{IsIn}
use Rattle.sig_core.specs.declared.member.Member.{Member}
use Rattle.sig_core.specs.declared.signal.epoch.EpochSignal.TheVariants.{GcpSaveReq}
use Rattle.dih_node.specs.Dih.{fresh_dih}
use Rattle.node_views.specs.declared.host_body.HostBody.{HostBody}
use Rattle.node_views.specs.declared.host_body.HostBody as node
use Rattle.world_core.specs.Start.{Start, made}
use Rattle.world_core.specs.Steps.{HostStep}
use Rattle.moment_laws.proofs.MomentHosts.{ldm_started, tc_started}
use Rattle.moment_laws.proofs.MomentMembers.{current_made}
use Rattle.moment_laws.proofs.MomentSignals.{epoch_told}
use Rattle.moment_laws.proofs.MomentViews.{moment_less}
use Rattle.moment_laws.specs.Moments.{IsMoment, current, logs_of}
use Rattle.epoch_laws.proofs.StandAll.{epochs_stand}
use Rattle.epoch_laws.specs.Alike.{EachFull}
use Rattle.epoch_laws.specs.Members.{dih_in, epochs_of}
use Rattle.request_laws.specs.Blocks.{no_replica, rows_in}
use Rattle.commit_laws.specs.Traces.{rows_at}
use Rattle.closing_laws.proofs.durable.BehindClosed.{all_reached}
use Rattle.closing_laws.proofs.durable.Reached.{HasReached, each_reached_next}
use Rattle.closing_laws.specs.Closed.{WasClosed}
use Rattle.saved_laws.proofs.behind.Rows.{IsOrdered, rows_do}
use Rattle.saved_laws.proofs.masters.All.{all_ordered}
use Rattle.saved_laws.proofs.masters.Statement.{IsOrderedRightly, IsRightOrder}

module _ (start : Start) (logs : ℕ → List HostStep) where
  abbrev pub AreReached : Type 0
  AreReached =
      (member : Member) → IsIn member (made start)
      → EachFull start logs (HasReached (rows_at start logs member).saved)

module _ (start : Start) (all : ℕ → List HostStep) (e : HostStep) (es : List HostStep)
    (some : start.start_epoch < start.epoch) (moment : IsMoment start all (e ∷ es))
    (was : AreReached start (logs_of start es))
  where
    abbrev old : ℕ → List HostStep
    old = logs_of start es

    abbrev new : ℕ → List HostStep
    new = logs_of start (e ∷ es)

    less : IsMoment start all es
    less = moment_less start all e es moment

    still : (epoch : ℕ) → EachFull start old (HasReached epoch) → EachFull start new (HasReached epoch)
    still = each_reached_next start all e es moment (epochs_stand start all es some less)

    reached_next : AreReached start new
    reached_next member there = by (rows_do start all e es moment member there)
      where
        closed : (epoch : ℕ) → IsOrdered start all e es moment member there epoch → WasClosed start old epoch
        closed epoch is =
            subst (IsOrderedRightly start old) is.body
            (epoch_told start (IsRightOrder start old) all e es moment (all_ordered start all es some less).orders
            is.taken.sound (GcpSaveReq epoch) is.body)

        by : ((rows_at start new member).saved ≡ (rows_at start old member).saved)
            ⊎ IsOrdered start all e es moment member there (rows_at start new member).saved
            → EachFull start new (HasReached (rows_at start new member).saved)
        by (inl same) =
            subst (λ epoch. EachFull start new (HasReached epoch)) (sym same)
            (still (rows_at start old member).saved (was member there))
        by (inr ordered) =
            let epoch = (rows_at start new member).saved in
            let one = closed epoch ordered in
            still epoch ((all_reached start all es some less).closed one.host epoch one.below one.marked)

module _ (start : Start) (all : ℕ → List HostStep) (some : start.start_epoch < start.epoch)
    (moment : IsMoment start all [])
  where
    abbrev logs : ℕ → List HostStep
    logs = logs_of start []

    first_saved : (member : Member) → IsIn member (made start)
        → (rows_at start logs member).saved ≡ start.start_epoch
    first_saved member there =
        ap (λ (s : node.HostBody). (rows_in (no_replica start member) s.parts).saved)
        (ldm_started start moment.cluster.nobody member there)

    reached_first : AreReached start logs
    reached_first member there =
        subst (λ epoch. EachFull start logs (HasReached epoch)) (sym (first_saved member there))
        (each_from _ (current start logs).full (λ full inside. one full (current_made start all [] moment full inside)))
      where
        one : (full : Member) → IsIn full (made start) → HasReached start.start_epoch (epochs_of start logs full)
        one full there =
            subst (λ (s : node.HostBody). HasReached start.start_epoch (dih_in (fresh_dih 0 0 0 0) s.parts))
            (sym (tc_started start moment.cluster.nobody full there))
            (record { gives = omega (arith, some); ordered = omega arith })

-- so it is at each moment
pub saved_reached : (start : Start) (all : ℕ → List HostStep) (es : List HostStep) → start.start_epoch < start.epoch
    → IsMoment start all es → AreReached start (logs_of start es)
saved_reached start all [] some moment = reached_first start all some moment
saved_reached start all (e ∷ es) some moment =
    reached_next start all e es some moment
    (saved_reached start all es some (moment_less start all e es moment))
