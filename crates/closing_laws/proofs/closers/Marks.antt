-- When a master of checkpoints marks that an epoch is closed, or durable.
use Rattle.std.proofs.Common.{◌≡◌, ℕ, false, refl}
use Rattle.run_theory.specs.Lists.{Each}
use Rattle.sig_core.specs.declared.mark.Mark.{Mark}
use Rattle.sig_core.specs.declared.mark.Mark.TheVariants.{Closed, Durable}
use Rattle.sig_core.specs.declared.signal.Body.{Body}
use Rattle.sig_core.specs.declared.signal.Body.TheVariants.{Takeover, Epoch}
use Rattle.sig_core.specs.declared.signal.Signal.{Signal}
use Rattle.sig_core.specs.declared.signal.epoch.EpochSignal.TheVariants.{GcpNodeFinish}
use Rattle.sig_core.specs.declared.signal.takeover.TakeoverSignal.TheVariants.{TakeoverEnd}
use Rattle.gcp_master.specs.declared.phase.Phase.TheVariants.{Committing, Copying}
use Rattle.gcp_master.specs.declared.phase.Run.{Run}
use Rattle.gcp_master.specs.declared.voices.Voice.{Voice}
use Rattle.gcp_master.specs.Master.{master_row}
use Rattle.gcp_master.specs.Sends.{list_effects, listing}
use Rattle.gcp_master.specs.State.{MasterState}
use Rattle.gcp_master.proofs.Outcomes.{heard_one, not_owing, voice_of}
use Rattle.gcp_master.proofs.Walk.{IsClosing, all_heard, is_last, is_over, master_steps}
use Rattle.epoch_laws.proofs.MasterMoves.{HaveAll, with_one}

-- the last confirmation came, and no takeover is owed; or all were there, and the takeover has ended
pub data Heard (s : MasterState) (voice : Voice) (body : Body) (run : Run) : Type 0 where
  last : body ≡ Epoch (GcpNodeFinish run.epoch) → HaveAll 1 (with_one s.voices voice) s.view → s.owed ≡ false
      → Heard s voice body run
  over : body ≡ Takeover TakeoverEnd → HaveAll 1 s.voices s.view → Heard s voice body run

-- so a run is closed
pub record ClosesRun (s : MasterState) (voice : Voice) (body : Body) (epoch : ℕ) : Type 0 where
  pub run : Run
  pub epoch_is : run.epoch ≡ epoch
  pub phase : s.phase ≡ Committing run
  pub heard : Heard s voice body run

-- and a run becomes durable whose system files all have written
pub record MakesDurable (s : MasterState) (epoch : ℕ) : Type 0 where
  pub run : Run
  pub epoch_is : run.epoch ≡ epoch
  pub phase : s.phase ≡ Copying run

abbrev pub IsMarkOf : MasterState → Voice → Body → Mark → Type 0
IsMarkOf s voice body (Closed epoch) = ClosesRun s voice body epoch
IsMarkOf s voice body (Durable epoch) = MakesDurable s epoch
IsMarkOf s voice body mark = Unit {0}

heard_so : (s : MasterState) (x : Signal) (run : Run) → IsClosing s x run → Heard s (voice_of x) x.body run
heard_so s x run (is_last is on none all) = last is (all_heard 1 (heard_one s x) all) none
heard_so s x run (is_over is all) = over is (all_heard 1 (not_owing s) all)

-- a list marks nothing
unmarked : (s : MasterState) (voice : Voice) (body : Body) (t : MasterState) (at : ℕ)
    → Each (IsMarkOf s voice body) (listing t at).effects.marks
unfolding listing list_effects
unmarked s voice body t at = tt

-- whatever a master takes
pub master_marks : (s : MasterState) (x : Signal)
    → Each (IsMarkOf s (voice_of x) x.body) (master_row s x).effects.marks
master_marks s x =
    master_steps s x (λ step. Each (IsMarkOf s (voice_of x) x.body) step.effects.marks) (record {
      stays = λ t. tt;
      stops = λ t. (tt, tt);
      lists = λ t at member view. unmarked s (voice_of x) x.body t at;
      closes = λ run t member view at is. (
        record { run = run; epoch_is = refl; phase = at; heard = heard_so s x run is },
        unmarked s (voice_of x) x.body t 0,
      );
      makes_durable = λ run step is at on all marks. (record { run = run; epoch_is = refl; phase = at }, marks);
      walks = λ is at first. tt;
      tells_local = λ epoch is at. tt;
    })
