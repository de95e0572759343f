-- What is so where an epoch is closed.
use Rattle.std.specs.Prelude.{◌≡◌, ◌≤◌, ◌<◌, ◌⊎◌, ℕ, false, List, ◌∷◌}
use Rattle.run_theory.specs.Links.{taken}
use Rattle.run_theory.specs.Lists.{IsIn}
use Rattle.dih_node.specs.State.{DihState, is_unfinished}
use Rattle.frag_map.specs.Layout.{first_layout}
use Rattle.sig_core.specs.declared.mark.Mark.TheVariants.{Closed, Durable}
use Rattle.sig_core.specs.declared.member.Member.{Member}
use Rattle.sig_core.specs.declared.signal.Body.TheVariants.{Takeover}
use Rattle.sig_core.specs.declared.signal.takeover.TakeoverSignal.TheVariants.{TakeoverEnd}
use Rattle.world_core.specs.Hosts.{hosts}
use Rattle.world_core.specs.Start.{Start}
use Rattle.world_core.specs.Steps.{Addressed, HostStep}
use Rattle.view_laws.specs.Order.{sound_machine}
use Rattle.view_laws.specs.Runs.{AreOfCluster}
use Rattle.view_laws.specs.Votes.{main_of}
use Rattle.moment_laws.specs.Moments.{IsMoment, current, logs_of}
use Rattle.moment_laws.specs.Places.{tc_of}
use Rattle.outcome_laws.specs.Decided.{IsMarked}
use Rattle.epoch_laws.specs.Alike.{EachFull}
use Rattle.epoch_laws.specs.Members.{IsPresident, IsStanding}

-- a member gives a later epoch, and counts nothing up to this one any more
pub record HasEnded (epoch : ℕ) (s : DihState) : Type 0 where
  pub later : epoch < s.current
  pub finished : is_unfinished s.counted epoch ≡ false

-- the takeover of the member has told its master, in the current view, that it is over; in the first view there is none
pub record IsOver (start : Start) (logs : ℕ → List HostStep) (member : Member) : Type 0 where
  pub signal : Addressed
  pub there : IsIn signal (taken (sound_machine start) (tc_of start member) (logs (main_of start member)))
  pub body : signal.signal.body ≡ Takeover TakeoverEnd
  pub number : signal.signal.view.number ≡ (current start logs).number

-- An epoch is closed by the president of the current view: each full member has ended it, and takeover is over.
pub record IsClosedBy (start : Start) (e : HostStep) (logs : ℕ → List HostStep) (epoch : ℕ) (member : Member) : Type 0
  where
    pub president : IsPresident start logs member
    pub stands : IsStanding start logs member
    pub host_is : e.host ≡ main_of start member
    pub ended : EachFull start logs (HasEnded epoch)
    pub over : (current start logs ≡ (first_layout start.shape).view) ⊎ IsOver start logs member

pub record IsClosing (start : Start) (e : HostStep) (logs : ℕ → List HostStep) (epoch : ℕ) : Type 0 where
  pub member : Member
  pub is : IsClosedBy start e logs epoch member

abbrev pub ClosersHaveHeardAll : Type 0
ClosersHaveHeardAll =
    (start : Start) (all : ℕ → List HostStep) (e : HostStep) (es : List HostStep) → start.start_epoch < start.epoch
    → IsMoment start all (e ∷ es) → (epoch : ℕ) → IsIn (Closed epoch) e.step.marks
    → IsClosing start e (logs_of start (e ∷ es)) epoch

-- some host has marked that the epoch is closed
pub record WasClosed (start : Start) (logs : ℕ → List HostStep) (epoch : ℕ) : Type 0 where
  pub host : ℕ
  pub below : host < hosts start
  pub marked : IsMarked (Closed epoch) (logs host)

-- a durable epoch was closed before, in every closed cut
abbrev pub DurableWereClosed : Type 0
DurableWereClosed =
    (start : Start) (logs : ℕ → List HostStep) → start.start_epoch < start.epoch → AreOfCluster start logs
    → (h epoch : ℕ)
    → h < hosts start → IsMarked (Durable epoch) (logs h) → WasClosed start logs epoch
