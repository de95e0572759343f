-- What rows had saved before they save a later epoch is durable.
use Rattle.std.specs.Prelude.{◌≤◌, ◌<◌, ◌⊎◌, ℕ, List, ◌∷◌}
use Rattle.run_theory.specs.Lists.{IsIn}
use Rattle.sig_core.specs.declared.mark.Mark.TheVariants.{Durable}
use Rattle.sig_core.specs.declared.member.Member.{Member}
use Rattle.world_core.specs.Hosts.{hosts}
use Rattle.world_core.specs.Start.{Start, made}
use Rattle.world_core.specs.Steps.{HostStep}
use Rattle.moment_laws.specs.Moments.{IsMoment, logs_of}
use Rattle.outcome_laws.specs.Decided.{IsMarked}
use Rattle.commit_laws.specs.Traces.{rows_at}

module _ (start : Start) (logs : ℕ → List HostStep) where
  -- a host has marked that an epoch is durable, or a later one
  pub record WasMadeDurable (epoch : ℕ) : Type 0 where
    pub host : ℕ
    pub below : host < hosts start
    pub at : ℕ
    pub marked : IsMarked (Durable at) (logs host)
    pub least : epoch ≤ at

  -- or the life started from it, or from a later one
  abbrev pub IsDurable : ℕ → Type 0
  IsDurable epoch = (epoch ≤ start.start_epoch) ⊎ WasMadeDurable epoch

-- where the rows of a member note a later epoch as saved, the one that they had noted before is durable
abbrev pub SavedBeforeIsDurable : Type 0
SavedBeforeIsDurable =
    (start : Start) (all : ℕ → List HostStep) (e : HostStep) (es : List HostStep) → start.start_epoch < start.epoch
    → IsMoment start all (e ∷ es) → (member : Member) → IsIn member (made start)
    → (rows_at start (logs_of start es) member).saved < (rows_at start (logs_of start (e ∷ es)) member).saved
    → IsDurable start (logs_of start es) (rows_at start (logs_of start es) member).saved
