-- A block takes the signal of an event at a host that is told by its number.
use Rattle.std.proofs.Common.{◌≡◌, ℕ, List, ◌∷◌, sym, subst}
use Rattle.sig_core.specs.declared.outs.Outgoing.{Outgoing}
use Rattle.sig_core.specs.declared.place.BlockId.{BlockId}
use Rattle.node_views.specs.declared.parts.Parts.TheVariants as part
use Rattle.world_core.specs.Start.{Start}
use Rattle.world_core.specs.Steps.{HostStep}
use Rattle.world_views.specs.Machine.{after}
use Rattle.view_laws.specs.Runs.{view_after}
use Rattle.moment_laws.specs.Moments.{IsMoment, logs_of}
use Rattle.moment_laws.specs.Parts.{IsPassed}
use Rattle.moment_laws.specs.PartSteps.{Kind, PartEnters, tc_kind}
use Rattle.moment_laws.proofs.PartKinds.{IsKind, tc_is}
use Rattle.moment_laws.proofs.PartTaken.{IsTakenNow, handled_now}
use Rattle.request_laws.proofs.routes.PartSteps.{TcStep}

module _ (start : Start) (all : ℕ → List HostStep) (e : HostStep) (es : List HostStep)
    (moment : IsMoment start all (e ∷ es)) (h : ℕ) (at : e.host ≡ h)
  where
    abbrev old : ℕ → List HostStep
    old = logs_of start es

    pub taken_at : {P : Type 0} (kind : Kind P) → IsKind kind → (p between : P) (front : List Outgoing)
        → (after start h (logs_of start es h)).parts ≡ kind.within p
        → PartEnters kind p (view_after start h (logs_of start es h)) e.step.taken between
        (view_after start h (e ∷ logs_of start es h)) front
        → IsPassed start.shape (kind.within between) (view_after start h (e ∷ logs_of start es h)) e.step.taken
        → (b : BlockId) → e.step.taken.to.block ≡ b → IsTakenNow start all e es moment b
    taken_at kind is p between front runs enters passed b to =
        handled_now start all e es moment kind is p
        (subst (λ k. (after start k (old k)).parts ≡ kind.within p) (sym at) runs) between front
        (subst
        (λ k. PartEnters kind p (view_after start k (old k)) e.step.taken between (view_after start k (e ∷ old k))
        front)
        (sym at) enters)
        (subst (λ k. IsPassed start.shape (kind.within between) (view_after start k (e ∷ old k)) e.step.taken) (sym at)
        passed)
        b to

    -- of a part that coordinates
    pub tc_taken : (step : TcStep start h (logs_of start es h) e)
        → IsPassed start.shape (part.Tc step.does.between) (view_after start h (e ∷ logs_of start es h)) e.step.taken
        → (b : BlockId) → e.step.taken.to.block ≡ b → IsTakenNow start all e es moment b
    tc_taken step =
        taken_at tc_kind tc_is step.own step.does.between step.does.front step.runs step.does.enters
