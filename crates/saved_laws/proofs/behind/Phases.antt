-- What is so of the phase of a master stays so behind an event, where rows save no other epoch than that of the phase,
-- and nobody prepares for a later one in a late phase.
use Rattle.std.proofs.Common.{◌∷◌, ◌≡◌, ◌≤◌, ◌⊎◌, List, arith, inl, inr, refl, subst, sym, ℕ}
use Rattle.run_theory.specs.Lists.{IsIn}
use Rattle.sig_core.specs.declared.member.Member.{Member}
use Rattle.gcp_master.specs.declared.phase.Phase.{Phase}
use Rattle.gcp_master.specs.declared.phase.Phase.TheVariants.{Closing, Committing, Copying, Gathering, Preparing}
use Rattle.gcp_master.specs.declared.phase.Phase.TheVariants.{Resting, Saving, Unordered}
use Rattle.gcp_master.specs.declared.phase.Run.{Run}
use Rattle.world_core.specs.Start.{Start, made}
use Rattle.world_core.specs.Steps.{HostStep}
use Rattle.moment_laws.specs.Moments.{IsMoment, logs_of}
use Rattle.epoch_laws.proofs.MasterMoves.{IsLate}
use Rattle.saved_laws.proofs.behind.Statement.{AreDurable, AreDurableBefore, IsBehind, IsLastOrder, durable_stays}
use Rattle.saved_laws.proofs.behind.Statement.{saved_at}
use Rattle.saved_laws.proofs.masters.Orders.{Saves}
use Rattle.saved_laws.specs.Behind.{IsDurable}

module _ (start : Start) (all : ℕ → List HostStep) (e : HostStep) (es : List HostStep)
    (moment : IsMoment start all (e ∷ es))
  where
    abbrev old : ℕ → List HostStep
    old = logs_of start es

    abbrev new : ℕ → List HostStep
    new = logs_of start (e ∷ es)

    -- rows save only what is saved in this phase
    abbrev pub SaveIn : Phase → Type 0
    SaveIn phase =
        (member : Member) → IsIn member (made start)
        → (saved_at start new member ≡ saved_at start old member) ⊎ Saves (saved_at start new member) phase

    -- and nobody prepares for a later epoch, where it is late
    abbrev pub StayIn : Phase → Type 0
    StayIn phase =
        (run : Run) → IsLate run phase → IsLastOrder start old run.epoch → IsLastOrder start new run.epoch

    still : (member : Member) → saved_at start new member ≡ saved_at start old member
        → IsDurable start old (saved_at start old member) → IsDurable start new (saved_at start new member)
    still member same durable =
        subst (IsDurable start new) (sym same) (durable_stays start all e es moment (saved_at start old member) durable)

    pub durable_next : ((member : Member) → IsIn member (made start)
        → saved_at start new member ≡ saved_at start old member)
        → AreDurable start old → AreDurable start new
    durable_next same durable member there = still member (same member there) (durable member there)

    pub before_next : (epoch : ℕ)
        → ((member : Member) → IsIn member (made start)
        → (saved_at start new member ≡ saved_at start old member) ⊎ (saved_at start new member ≡ epoch))
        → AreDurableBefore start old epoch → AreDurableBefore start new epoch
    before_next epoch rows earlier member there = by (rows member there) (earlier member there)
      where
        by : (saved_at start new member ≡ saved_at start old member) ⊎ (saved_at start new member ≡ epoch)
            → IsDurable start old (saved_at start old member) ⊎ (epoch ≤ saved_at start old member)
            → IsDurable start new (saved_at start new member) ⊎ (epoch ≤ saved_at start new member)
        by (inl same) (inl durable) = inl (still member same durable)
        by (inl same) (inr low) = inr (omega (arith, same, low))
        by (inr now) was = inr (omega (arith, now))

    none : (phase : Phase) → ((n : ℕ) → Saves n phase → ⊥) → SaveIn phase → (member : Member)
        → IsIn member (made start) → saved_at start new member ≡ saved_at start old member
    none phase never rows member there = by (rows member there)
      where
        by : (saved_at start new member ≡ saved_at start old member) ⊎ Saves (saved_at start new member) phase
            → saved_at start new member ≡ saved_at start old member
        by (inl same) = same
        by (inr saves) = absurd (never (saved_at start new member) saves)

    quiet : (phase : Phase) → ((n : ℕ) → Saves n phase → ⊥) → SaveIn phase → (epoch : ℕ)
        → AreDurableBefore start old epoch → AreDurableBefore start new epoch
    quiet phase never rows epoch =
        before_next epoch (λ member there. inl (none phase never rows member there))

    pub phase_next : (phase : Phase) → SaveIn phase → StayIn phase → IsBehind start old phase
        → IsBehind start new phase
    phase_next Unordered rows last was = tt
    phase_next (Gathering known) rows last was = tt
    phase_next (Resting epoch) rows last was =
        durable_next (none (Resting epoch) (λ n saves. saves) rows) was
    phase_next (Preparing run) rows last was = quiet (Preparing run) (λ n saves. saves) rows run.epoch was
    phase_next (Committing run) rows last was = quiet (Committing run) (λ n saves. saves) rows run.epoch was
    phase_next (Closing run) rows last was = (
      quiet (Closing run) (λ n saves. saves) rows run.epoch was.0,
      last run refl was.1,
    )
    phase_next (Saving run) rows last was = (
      before_next run.epoch rows was.0,
      (last run refl was.1.0, was.1.1),
    )
    phase_next (Copying run) rows last was = (
      quiet (Copying run) (λ n saves. saves) rows run.epoch was.0,
      last run refl was.1,
    )
