-- All that stands of epochs at each moment of a run in the order of views.
use Rattle.std.specs.Prelude.{◌<◌, ◌≡◌, ℕ, List}
use Rattle.run_theory.specs.Lists.{Each, IsIn}
use Rattle.run_theory.specs.Links.{sent}
use Rattle.sig_core.specs.declared.member.Member.{Member}
use Rattle.gcp_master.specs.declared.phase.Phase.TheVariants.{Unordered}
use Rattle.world_core.specs.Start.{Start, made}
use Rattle.world_core.specs.Steps.{HostStep}
use Rattle.view_laws.specs.Order.{sound_machine}
use Rattle.epoch_laws.specs.Alike.{AreAlike, IsSound}
use Rattle.epoch_laws.specs.Masters.{IsRight}
use Rattle.epoch_laws.specs.Members.{IsPresident, IsStanding, epochs_of, master_of}
use Rattle.moment_laws.specs.Moments.{IsMoment, logs_of}
use Rattle.epoch_laws.specs.Told.{IsTrue}

pub record AllStand (start : Start) (logs : ℕ → List HostStep) : Type 0 where
  -- of each member by itself
  pub sound : (member : Member) → IsIn member (made start) → IsSound (epochs_of start logs member)
  -- of the members of the current view
  pub alike : AreAlike start logs
  -- of its president
  pub president : (member : Member) → IsPresident start logs member → IsStanding start logs member
      → IsRight start logs (master_of start logs member)
  -- the masters of other members do nothing in it
  pub others : (member : Member) → IsIn member (made start) → (IsPresident start logs member → ⊥)
      → IsStanding start logs member → (master_of start logs member).phase ≡ Unordered
  -- of the signals that were sent in it
  pub signals : (i j : ℕ) → Each (IsTrue start logs) (sent (sound_machine start) i j (logs i))

-- so it is at each moment, in a life whose first epoch isn't 0
abbrev pub EpochsStand : Type 0
EpochsStand =
    (start : Start) (all : ℕ → List HostStep) (es : List HostStep) → start.start_epoch < start.epoch
    → IsMoment start all es
    → AllStand start (logs_of start es)
