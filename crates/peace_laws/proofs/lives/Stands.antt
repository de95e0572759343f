-- What stands of a life in peace after some logs, and what besides where nothing is under way.
use Rattle.std.proofs.Common.{◌≡◌, ◌≤◌, ℕ, zero, suc, ◌%◌, List, [], false, refl, ap, subst, sym}
use Rattle.run_theory.specs.Lists.{Each}
use Rattle.run_theory.specs.Orders.{HasLogs}
use Rattle.run_theory.specs.Runs.{IsWithin, Run, log_of}
use Rattle.sig_core.specs.declared.mark.Mark.{Mark}
use Rattle.sig_core.specs.declared.mark.Mark.TheVariants.{Decided}
use Rattle.sig_core.specs.declared.place.Part.{Part}
use Rattle.sig_core.specs.declared.place.Part.TheVariants as part
use Rattle.world_core.specs.Hosts.{first_hosts, member_at, part_by}
use Rattle.world_core.specs.Start.{NobodyStarts, Start, made}
use Rattle.world_core.specs.Steps.{HostStep}
use Rattle.world_views.specs.Hosts.{part_started, started}
use Rattle.world_views.specs.Machine.{has_stopped, machine}
use Rattle.world_views.specs.Quiet.{IsQuiet}
use Rattle.world_views.proofs.AllBegin.{started_behind}
use Rattle.calm_laws.specs.Resting.{AreResting}
use Rattle.calm_laws.proofs.plain_steps.Rest.{lives_begin_at_rest}
use Rattle.peace_laws.specs.Peace.{ArePeaceful}
use Rattle.peace_laws.specs.Rest.{AreAtRestIn, RestsIn}
use Rattle.peace_laws.proofs.lives.NextSignals.{AllTaken}
use Rattle.peace_laws.proofs.plain.Logs.{all_taken}
use Rattle.peace_laws.proofs.near.Runs.{IsKept, begins_kept}

-- no transaction is decided in a later epoch by these marks, nor by the steps of a log
abbrev pub IsBelow : ℕ → Mark → Type 0
IsBelow epoch (Decided tx other) = other ≤ epoch
IsBelow epoch mark = Unit {0}

abbrev pub AreBelow : ℕ → List HostStep → Type 0
AreBelow epoch log = Each (λ e. Each (IsBelow epoch) e.step.marks) log

-- The logs are those of a run that is kept, each step is peaceful, and no host has stopped.
pub record Stands (start : Start) (logs : ℕ → List HostStep) : Type 0 where
  pub es : List HostStep
  pub run : Run (machine start) es
  pub is : log_of (machine start) es ≡ logs
  pub within : IsWithin (first_hosts start) logs
  pub kept : IsKept start es
  pub peaceful : ArePeaceful logs
  pub running : (h : ℕ) → has_stopped (logs h) ≡ false

-- Nothing is under way: each host is at rest in this epoch, and nobody was decided in a later one.
pub record Rests (start : Start) (epoch : ℕ) (logs : ℕ → List HostStep) : Type 0 where
  pub stands : Stands start logs
  pub beating : AreResting start logs
  pub rests : AreAtRestIn start epoch logs
  pub below : (h : ℕ) → AreBelow epoch (logs h)

module _ (start : Start) (logs : ℕ → List HostStep) (stands : Stands start logs) where
  pub has : HasLogs (machine start) stands.es logs
  has h = ap (λ (all : ℕ → List HostStep). all h) stands.is

  -- so where nothing is under way all that was sent was taken
  pub taken_by_all : IsQuiet start logs → AllTaken start logs
  taken_by_all quiet = all_taken start stands.es logs has stands.kept stands.running quiet

-- a life that begins without rows begins at rest
part_rests : (start : Start) (h : ℕ) (of : Part)
    → RestsIn start h start.epoch (part_started start of (member_at (made start) h)).parts
part_rests start h part.Main =
    record { member = refl; view = refl; phase = refl; front = refl; asked = refl; owed = refl }
part_rests start h part.Tc = record { current = refl; next = refl; counted = refl; held = refl; order = refl }
part_rests start h part.Ldm = tt

begin_rests : (start : Start) (nobody : NobodyStarts start) (h : ℕ)
    → RestsIn start h start.epoch (started start h).parts
unfolding started
begin_rests start nobody zero = (refl, refl)
begin_rests start nobody (suc h) =
    subst (λ s. RestsIn start (suc h) start.epoch s.parts) (sym (started_behind start nobody h))
    (part_rests start (suc h) (part_by (h % 3)))

pub lives_rest : (start : Start) → NobodyStarts start → start.rows ≡ [] → Rests start start.epoch (λ h. [])
lives_rest start nobody rows =
    record {
      stands = record {
        es = [];
        run = tt;
        is = refl;
        within = λ h high. refl;
        kept = begins_kept start nobody rows;
        peaceful = λ h. tt;
        running = λ h. refl;
      };
      beating = lives_begin_at_rest start nobody;
      rests = λ h low. begin_rests start nobody h;
      below = λ h. tt;
    }
