-- What others were told by a member's hosts is kept on the disk of its node.
use Rattle.std.specs.Prelude.{◌≤◌, ◌<◌, ◌⊎◌, ℕ, List, length}
use Rattle.run_theory.specs.Links.{taken}
use Rattle.run_theory.specs.Lists.{Each, IsIn}
use Rattle.sig_core.specs.declared.member.Member.{Member}
use Rattle.sig_core.specs.declared.signal.Body.{Body}
use Rattle.sig_core.specs.declared.signal.Signal.{Signal}
use Rattle.request_laws.specs.Blocks.{rows_after}
use Rattle.world_core.specs.Hosts.{hosts}
use Rattle.world_core.specs.Start.{Start, made}
use Rattle.world_core.specs.Steps.{Addressed, HostStep}
use Rattle.world_core.specs.World.{logs_at}
use Rattle.world_views.specs.Driven.{IsSound}
use Rattle.world_views.specs.Links.{link}
use Rattle.world_views.specs.Machine.{machine}
use Rattle.world_views.specs.Right.{IsOpen}
use Rattle.world_views.specs.World.{Whole}
use Rattle.moment_laws.specs.Places.{ldm_of, tc_of}
use Rattle.disk_world.specs.Disks.{Disks, HasGoneOn}
use Rattle.saved_laws.specs.Copied.{TellsDurable, TellsUpTo}
use Rattle.disk_laws.specs.Noted.{WasNoted, kept_part}

module _ (start : Start) (member : Member) where
  -- a signal tells of no later epoch as saved than the rows have noted in a log
  abbrev pub TellsNotedRows : List HostStep → Body → Type 0
  TellsNotedRows log = TellsUpTo (rows_after start member log).saved

  -- a log noted that an epoch is durable, or a later one, unless the life started from it
  abbrev pub IsNotedDurable : List HostStep → ℕ → Type 0
  IsNotedDurable log epoch =
      (epoch ≤ start.start_epoch)
      ⊎ ((latest : ℕ) × ((mask : ℕ) × (WasNoted start (tc_of start member) log latest mask × (epoch ≤ latest))))

  -- a signal tells of none as durable that a log didn't note
  abbrev pub TellsNotedDurable : List HostStep → Body → Type 0
  TellsNotedDurable log body = (epoch : ℕ) → TellsDurable epoch body → IsNotedDurable log epoch

-- What everybody has taken of a host is so, and what stands on the links from it to whoever still takes from it.
pub record IsTold (start : Start) (h : ℕ) (P : Body → Type 0) (w : Whole) : Type 0 where
  pub taken :
      (j : ℕ) → j < hosts start
      → Each (λ (y : Addressed). P y.signal.body) (taken (machine start) h (logs_at w.logs j))
  pub in_transit :
      (j : ℕ) → j < hosts start → IsOpen start h j (logs_at w.logs j)
      → Each (λ (x : Signal). P x.body) (link w.links h j).signals

-- Nobody was told by a member's hosts what the disk of its node hasn't kept.
pub record TellsWhatIsKept (start : Start) (member : Member) (w : Whole) : Type 0 where
  pub saved :
      IsTold start (ldm_of start member)
      (TellsNotedRows start member (kept_part (logs_at w.logs (ldm_of start member)))) w
  pub durable :
      IsTold start (tc_of start member)
      (TellsNotedDurable start member (kept_part (logs_at w.logs (tc_of start member)))) w

-- a host goes on, and its node's disk keeps what it is to keep of it, before anybody is told
abbrev pub StepsTellWhatIsKept : Type 0
StepsTellWhatIsKept =
    (start : Start) (member : Member) (w t : Whole) (old new : Disks) (counts : List ℕ) → IsSound start w
    → IsIn member (made start) → start.shape.nodes ≤ length old.told → start.shape.nodes ≤ length old.slots
    → HasGoneOn w old new counts t → TellsWhatIsKept start member w → TellsWhatIsKept start member t
