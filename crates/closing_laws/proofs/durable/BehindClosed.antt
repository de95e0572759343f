-- Each full member of the current view has reached every epoch that was closed.
use Rattle.std.proofs.Common.{◌≤◌, ◌<◌, ◌⊎◌, ℕ, List, [], ◌∷◌, refl, subst, inl, inr}
use Rattle.run_theory.specs.Lists.{IsIn}
use Rattle.run_theory.proofs.EventCases.{event_cases}
use Rattle.world_views.specs.Machine.{machine}
use Rattle.sig_core.specs.declared.mark.Mark.TheVariants.{Closed}
use Rattle.sig_core.specs.declared.member.Member.{Member}
use Rattle.world_core.specs.Hosts.{hosts}
use Rattle.world_core.specs.Start.{Start, made}
use Rattle.world_core.specs.Steps.{HostStep}
use Rattle.moment_laws.specs.Moments.{IsMoment, logs_of}
use Rattle.moment_laws.proofs.MomentViews.{moment_less}
use Rattle.outcome_laws.specs.Decided.{IsMarked}
use Rattle.epoch_laws.specs.Alike.{EachFull}
use Rattle.epoch_laws.specs.Members.{master_of}
use Rattle.epoch_laws.specs.Stand.{AllStand}
use Rattle.epoch_laws.proofs.StandAll.{epochs_stand}
use Rattle.closing_laws.proofs.durable.Marks.{closing_marked}
use Rattle.closing_laws.proofs.durable.Masters.{IsRunReached, masters_first, masters_next}
use Rattle.closing_laws.proofs.durable.LastOrders.{AgreeOnOrders, orders_first, orders_next}
use Rattle.closing_laws.proofs.durable.Reached.{HasReached, each_reached_next}

pub record AllReached (start : Start) (logs : ℕ → List HostStep) : Type 0 where
  pub agree : AgreeOnOrders start logs
  pub masters : (member : Member) → IsIn member (made start)
      → IsRunReached start logs (master_of start logs member).phase
  pub closed : (h epoch : ℕ) → h < hosts start → IsMarked (Closed epoch) (logs h)
      → EachFull start logs (HasReached epoch)

module _ (start : Start) (all : ℕ → List HostStep) (e : HostStep) (es : List HostStep)
    (moment : IsMoment start all (e ∷ es)) (stand : AllStand start (logs_of start es))
    (reached : AllReached start (logs_of start es))
  where
    abbrev old : ℕ → List HostStep
    old = logs_of start es

    abbrev new : ℕ → List HostStep
    new = logs_of start (e ∷ es)

    -- an epoch that is closed now is that of a run that was committed
    closed_now : (epoch : ℕ) → IsIn (Closed epoch) e.step.marks → EachFull start old (HasReached epoch)
    closed_now epoch marked =
        let by = closing_marked start all e es moment stand (Closed epoch) refl marked in
        subst (λ epoch. EachFull start old (HasReached epoch)) by.is.epoch_is
        (subst (IsRunReached start old) by.is.phase (reached.masters by.member by.there))

    closed_next : (h epoch : ℕ) → h < hosts start → IsMarked (Closed epoch) (new h)
        → EachFull start new (HasReached epoch)
    closed_next h epoch low marked =
        each_reached_next start all e es moment stand epoch
        (event_cases (machine start) e es h (λ log. IsMarked (Closed epoch) log → EachFull start old (HasReached epoch))
        (λ at. own)
        (λ other. reached.closed h epoch low) marked)
      where
        own : IsIn (Closed epoch) e.step.marks ⊎ IsMarked (Closed epoch) (old h) → EachFull start old (HasReached epoch)
        own (inl now) = closed_now epoch now
        own (inr was) = reached.closed h epoch low was

    reached_next : AllReached start new
    reached_next = record {
      agree = orders_next start all e es moment stand reached.agree;
      masters = masters_next start all e es moment stand reached.agree reached.masters;
      closed = closed_next;
    }

reached_first : (start : Start) (all : ℕ → List HostStep) → IsMoment start all [] → AllReached start (logs_of start [])
reached_first start all moment = record {
  agree = orders_first start all moment;
  masters = masters_first start moment.cluster.nobody;
  closed = λ h epoch low marked. absurd marked;
}

-- so it is at each moment
pub all_reached : (start : Start) (all : ℕ → List HostStep) (es : List HostStep) → start.start_epoch < start.epoch
    → IsMoment start all es → AllReached start (logs_of start es)
all_reached start all [] some moment = reached_first start all moment
all_reached start all (e ∷ es) some moment =
    let less = moment_less start all e es moment in
    reached_next start all e es moment (epochs_stand start all es some less) (all_reached start all es some less)
