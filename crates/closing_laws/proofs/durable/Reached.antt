-- A member that has come to an epoch stays so: the epoch that it gives isn't below it, nor is that of its last order.
use Rattle.std.proofs.Common.{◌≤◌, ℕ, List, ◌∷◌, sym, subst, inl, inr, arith}
use Rattle.run_theory.proofs.Pasts.{each_from, each_in}
use Rattle.sig_core.specs.declared.member.Member.{Member}
use Rattle.sig_core.specs.declared.place.BlockId.TheVariants as block
use Rattle.sig_core.specs.declared.signal.Body.{Body}
use Rattle.sig_core.specs.declared.signal.Body.TheVariants.{Epoch}
use Rattle.sig_core.specs.declared.signal.epoch.EpochSignal.TheVariants.{GcpCommit, GcpPrepare}
use Rattle.dih_node.specs.State.{DihState}
use Rattle.world_core.specs.Start.{Start}
use Rattle.world_core.specs.Steps.{HostStep}
use Rattle.moment_laws.specs.Moments.{IsMoment, current, logs_of}
use Rattle.epoch_laws.specs.Alike.{EachFull}
use Rattle.epoch_laws.specs.Members.{epochs_of}
use Rattle.epoch_laws.specs.Stand.{AllStand}
use Rattle.epoch_laws.proofs.DihMoves.{Moves, Stays}
use Rattle.epoch_laws.proofs.DihRows.{Rises}
use Rattle.epoch_laws.proofs.MomentEvents.{EpochsDo, epochs_do, leave, take}
use Rattle.epoch_laws.proofs.StandMarks.{full_before}
use Rattle.epoch_laws.proofs.StandTakes.{taken_rises}

pub record HasReached (epoch : ℕ) (s : DihState) : Type 0 where
  pub gives : epoch ≤ s.current
  pub ordered : epoch ≤ s.prepared

pub reached_stays : (epoch : ℕ) (s now : DihState) → Stays s now → HasReached epoch s → HasReached epoch now
reached_stays epoch s now same was =
    record {
      gives = subst (λ n. epoch ≤ n) (sym same.current_is) was.gives;
      ordered = subst (λ n. epoch ≤ n) (sym same.prepared_is) was.ordered;
    }

-- whatever it takes, where orders rise
pub reached_moves : (epoch : ℕ) (s now : DihState) (body : Body) → Rises body → Moves s body now → HasReached epoch s
    → HasReached epoch now
reached_moves epoch s now body rises moves was = by body rises moves
  where
    by : (body : Body) → Rises body → Moves s body now → HasReached epoch now
    by (Epoch (GcpPrepare order next)) rises (inl (late, at)) =
        let low = was.gives in
        let gives = at.current_is in
        let prepared = at.prepared_is in
        record { gives = omega (arith, low, gives); ordered = omega (arith, low, late, prepared) }
    by (Epoch (GcpPrepare order next)) rises (inr (beyond, same)) = reached_stays epoch s now same was
    by (Epoch (GcpCommit order next)) rises (inl (late, at)) =
        let low = was.gives in
        let gives = at.current_is in
        let prepared = at.prepared_is in
        record { gives = omega (arith, low, late, rises, gives); ordered = omega (arith, low, late, prepared) }
    by (Epoch (GcpCommit order next)) rises (inr (beyond, same)) = reached_stays epoch s now same was
    by body rises same = reached_stays epoch s now same was

module _ (start : Start) (all : ℕ → List HostStep) (e : HostStep) (es : List HostStep)
    (moment : IsMoment start all (e ∷ es)) (stand : AllStand start (logs_of start es))
  where
    abbrev old : ℕ → List HostStep
    old = logs_of start es

    abbrev new : ℕ → List HostStep
    new = logs_of start (e ∷ es)

    -- so it is at each event
    reached_next : (epoch : ℕ) (member : Member) → HasReached epoch (epochs_of start old member)
        → HasReached epoch (epochs_of start new member)
    reached_next epoch member was = by (epochs_do start all e es moment member)
      where
        by : EpochsDo start all e es moment member → HasReached epoch (epochs_of start new member)
        by (leave stays sound) = reached_stays epoch (epochs_of start old member) (epochs_of start new member) stays was
        by (take at taken moves sound) =
            reached_moves epoch (epochs_of start old member) (epochs_of start new member) e.step.taken.body
            (taken_rises start all e es moment stand block.Dih taken) moves was

    -- and of each full member
    pub each_reached_next : (epoch : ℕ) → EachFull start old (HasReached epoch) → EachFull start new (HasReached epoch)
    each_reached_next epoch each =
        each_from _ (current start new).full
        (λ member there.
        reached_next epoch member
        (each_in _ member (current start old).full each (full_before start all e es moment stand member there)))
