-- Of which transactions takeovers are told, and which they have gathered.
use Rattle.std.specs.Prelude.{◌≡◌, ℕ, false, List}
use Rattle.run_theory.specs.Links.{sent}
use Rattle.run_theory.specs.Lists.{Each, IsIn}
use Rattle.sig_core.specs.declared.member.Member.{Member}
use Rattle.sig_core.specs.declared.member.TxId.{TxId}
use Rattle.sig_core.specs.declared.signal.Body.{Body}
use Rattle.sig_core.specs.declared.signal.Body.TheVariants.{Takeover}
use Rattle.sig_core.specs.declared.signal.takeover.TakeoverSignal.TheVariants.{LqhTransConf}
use Rattle.sig_core.specs.declared.view.View.{View}
use Rattle.takeover_block.specs.declared.gathered.Gathered.{Gathered}
use Rattle.takeover_block.specs.State.{TakeoverState}
use Rattle.lqh_block.specs.Views.{is_coordinated}
use Rattle.world_core.specs.Start.{Start, made}
use Rattle.world_core.specs.Steps.{Addressed, HostStep}
use Rattle.view_laws.specs.Order.{sound_machine}
use Rattle.view_laws.specs.Runs.{view_after}
use Rattle.moment_laws.specs.Moments.{IsMoment, logs_of}
use Rattle.moment_laws.specs.Places.{tc_of}
use Rattle.request_laws.specs.Blocks.{takeover_after}

-- of whom a takeover is told, of that this is so
abbrev pub TellsOf : (TxId → Type 0) → Body → Type 0
TellsOf D (Takeover (LqhTransConf tx key state epoch)) = D tx
TellsOf D body = Unit {0}

-- and of all that it has gathered
abbrev pub GatheredAre : (TxId → Type 0) → TakeoverState → Type 0
GatheredAre D s = Each (λ (g : Gathered). D g.tx) s.gathered

-- the coordinator of the transaction isn't a full member of the view
abbrev pub IsOrphan : View → TxId → Type 0
IsOrphan view tx = is_coordinated view.full tx ≡ false

-- so it is of all that takeovers were told, in the view of the sender, and of what each has gathered, in its own
pub record AllOrphans (start : Start) (logs : ℕ → List HostStep) : Type 0 where
  pub signals : (i j : ℕ)
      → Each (λ (x : Addressed). TellsOf (IsOrphan x.signal.view) x.signal.body)
      (sent (sound_machine start) i j (logs i))
  pub gathered : (member : Member) → IsIn member (made start)
      → GatheredAre (IsOrphan (view_after start (tc_of start member) (logs (tc_of start member))))
      (takeover_after start member (logs (tc_of start member)))

abbrev pub TakeoversAreOfOrphans : Type 0
TakeoversAreOfOrphans =
    (start : Start) (all : ℕ → List HostStep) (es : List HostStep) → IsMoment start all es
    → AllOrphans start (logs_of start es)
