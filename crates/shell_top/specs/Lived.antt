-- What the lives of a session say of it.
use Rattle.std.specs.Prelude.{◌≡◌, ℕ, true, List, [], reverse}
use Rattle.run_theory.specs.Cuts.{IsClosed, IsCut}
use Rattle.run_theory.specs.Orders.{LogsRun}
use Rattle.run_theory.specs.Runs.{AreLogs, IsWithin}
use Rattle.report_laws.specs.Growing.{IsSublist}
use Rattle.script_lang.specs.declared.command.Command.{Command}
use Rattle.sig_core.specs.declared.view.Shape.{Shape}
use Rattle.sig_core.specs.declared.log.HostLog.{HostLog}
use Rattle.sig_core.specs.declared.log.Life.{Life}
use Rattle.shell_top.specs.Asked.{AreAsked, are_peaceful, AreAskedInFront, AreAskedInPart}
use Rattle.shell_top.specs.Peace.{IsPeacefullyServed}
use Rattle.shell_top.specs.declared.ended.Ending.{Ending}
use Rattle.shell_top.specs.declared.ended.Ending.TheVariants.{NoMemory, WriteFault}
use Rattle.shell_top.specs.Safe.{AreSafe, IsSafe}
use Rattle.shell_top.specs.Served.{AreInPeace}
use Rattle.shell_top.specs.Stopped.{NoneWants}
use Rattle.talk_laws.specs.Reports.{AreReported}
use Rattle.world_core.specs.History.{history}
use Rattle.world_core.specs.Hosts.{hosts}
use Rattle.world_core.specs.Labels.{AreLabelled}
use Rattle.world_core.specs.Lives.{logs_of}
use Rattle.world_core.specs.Start.{Start}
use Rattle.world_core.specs.Steps.{HostStep}
use Rattle.world_core.specs.World.{logs_at}
use Rattle.world_views.specs.Lives.{start_of}
use Rattle.world_views.specs.Machine.{machine}
use Rattle.world_views.specs.Quiet.{IsQuiet}
use Rattle.world_views.specs.Requests.{AreAskedAtQuiet}
use Rattle.world_views.specs.Stamps.{HaveNextStamps}
use Rattle.world_views.specs.Unscheduled.{AreUnscheduled}

-- All commands were asked for; or, where the sink failed meanwhile, the first of them; or, where memory was wanting
-- meanwhile, the first of them and a first part of what is asked for the next one.
abbrev pub AreAskedFor : Start → Ending → List Command → List HostStep → Type 0
AreAskedFor start WriteFault commands log = AreAskedInFront start commands log
AreAskedFor start NoMemory commands log = AreAskedInPart start commands log
AreAskedFor start ending commands log = AreAsked start (reverse commands) log

-- The logs of a life in which the shell asked for the commands, each at quiet, as far as the session came. There is one
-- for each host, it says which host's it is, and it skips no stamp. At its end nothing was under way, unless memory was
-- wanting. No host stopped by itself, unless for want of memory or of stamps, and then it had no stamp left, or since
-- its node's disk failed, nor cut off a node. Where none did so, and no command kills or cuts anything, the logs came
-- about in peace.
pub record AreLived (start : Start) (ending : Ending) (commands : List Command) (logs : List HostLog) : Type 0 where
  pub labelled : AreLabelled start logs
  pub right : AreLogs (machine start) (logs_at logs)
  pub next_stamps : (h : ℕ) → HaveNextStamps (logs_at logs h)
  pub within : IsWithin (hosts start) (logs_at logs)
  pub asked : AreAskedFor start ending commands (logs_at logs 0)
  pub at_quiet : AreAskedAtQuiet start (logs_at logs)
  pub quiet : (ending ≡ NoMemory → ⊥) → IsQuiet start (logs_at logs)
  pub unscheduled : AreUnscheduled true start (logs_at logs)
  pub in_peace : are_peaceful commands ≡ true → NoneWants (logs_at logs) → AreInPeace start (logs_at logs)

-- What a life of a cluster of this shape says: it begins with the rows that it restored, in the first epoch of the
-- checkpoint number behind that of the epoch that it restored; its logs, one for each host and each with its host's
-- number, are a run of the machine from there, in which hosts may stop and cut each other off; the requests in them are
-- those of the commands; every closed cut of them is safe, whatever failed, and so are any two of them, one inside the
-- other; the history of a cut is that of each larger one with some entries left out; what the client is told is what is
-- marked as reported, and what was answered, under the name of its transaction; where it begins without rows, no
-- command kills, cuts or restarts anything, and no host gave up, the cluster served as one does in which nothing can
-- fail, and each closing of an epoch was answered; and it tells of no slots that a host found, nor of rows of its own.
pub record IsLife (shape : Shape) (ending : Ending) (commands : List Command) (life : Life) : Type 0 where
  pub lived : AreLived (start_of shape life) ending commands life.logs
  pub run : LogsRun (machine (start_of shape life)) (hosts (start_of shape life)) (logs_of life)
  pub safe : (inside : ℕ → List HostStep) → IsCut inside (logs_of life)
      → IsClosed (machine (start_of shape life)) inside → IsSafe (start_of shape life) inside
  pub between : (small large : ℕ → List HostStep) → IsCut small large → IsCut large (logs_of life)
      → IsClosed (machine (start_of shape life)) small → IsClosed (machine (start_of shape life)) large
      → AreSafe (start_of shape life) small large
  pub grows : (small large : ℕ → List HostStep) → IsCut small large → IsCut large (logs_of life)
      → IsSublist (history (hosts (start_of shape life)) small) (history (hosts (start_of shape life)) large)
  pub reported : AreReported (start_of shape life) (logs_of life)
  pub peaceful : life.start_rows ≡ [] → are_peaceful commands ≡ true → NoneWants (logs_of life)
      → IsPeacefullyServed (start_of shape life) ending (logs_of life)
  pub no_slots : life.slots ≡ []
