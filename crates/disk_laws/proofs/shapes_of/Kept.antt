-- A host goes on, and whatever a crash leaves of the disk of its node, the system slots are of the cluster's shape.
use Rattle.std.proofs.Common.{◌≡◌, ◌≢◌, ◌∙◌, ℕ, true, false, List, [], ◌∷◌, sym, subst, arith, inl, inr}
use Rattle.std.specs.Prelude.{Some}
use Rattle.std.proofs.lemmas.Bool.{true≢false}
use Rattle.host_io.specs.DiskState.{FileState, state_of}
use Rattle.host_io.specs.Image.{IsImage}
use Rattle.run_theory.specs.Lists.{IsIn}
use Rattle.sig_core.specs.declared.member.Member.{Member}
use Rattle.sig_core.specs.declared.slots.SystemSlot.{SystemSlot}
use Rattle.sig_core.specs.Journal.{OutletState}
use Rattle.sig_core.specs.Table.{Rows}
use Rattle.sys_restart.proofs.AlikeLemmas.{same_some}
use Rattle.sys_restart.proofs.NextLemmas.{next_file_is}
use Rattle.sysfile_core.specs.declared.place.TheConstants.{SYSTEM_FILE}
use Rattle.lqh_saver.specs.declared.stage.Todo.{Todo}
use Rattle.lqh_saver.specs.declared.stage.Todo.TheVariants as todo
use Rattle.node_disk.specs.Laws.{HasSystem}
use Rattle.node_disk.specs.Saving.{free_file}
use Rattle.node_disk.proofs.LawLemmas.{checkpoints_leave, rows_leave}
use Rattle.node_views.specs.WellFormed.{is_mask}
use Rattle.world_core.specs.Start.{Start, made}
use Rattle.world_core.specs.Steps.{HostStep}
use Rattle.world_core.specs.World.{logs_at}
use Rattle.world_views.specs.Driven.{IsSound}
use Rattle.world_views.specs.Machine.{has_stopped}
use Rattle.world_views.specs.World.{Whole}
use Rattle.moment_laws.specs.Places.{ldm_of, tc_of}
use Rattle.request_laws.specs.Blocks.{rows_after}
use Rattle.disk_world.specs.Disks.{Disks, HasGoneOn}
use Rattle.disk_world.specs.Keeping.{DurableAt, Kept, OfCheckpoint, RowsUpTo, kept_unless, redo_from}
use Rattle.journal_laws.specs.Journal.{lqh_after}
use Rattle.disk_laws.specs.OnDisk.{KeepsNoted, KeepsUp}
use Rattle.disk_laws.specs.Shapes.{KeepsShape, LeavesShape, ShapesAreKept}
use Rattle.disk_laws.proofs.NotedSignals.{none_noted, noted, noted_mask}
use Rattle.disk_laws.proofs.RowSteps.{rows_kept_are, todo_behind}
use Rattle.disk_laws.proofs.WhoseStep.{HasMade, NotingStep, WhoseStep, of_none, of_noting, of_rows, whose_step}
use Rattle.disk_laws.proofs.shapes_of.Written.{written_shaped}

module _ (start : Start) (member : Member) (before : Rows) (first : SystemSlot) (w t : Whole) (old new : Disks)
    (counts : List ℕ) (sound : IsSound start w) (there : IsIn member (made start))
    (gone : HasGoneOn w old new counts t) (up : KeepsUp start member before first w old)
    (are : KeepsShape start.shape member.node old) where
  abbrev tc : ℕ
  tc = tc_of start member

  abbrev log_of : ℕ → List HostStep
  log_of g = logs_at gone.stepped.logs g

  abbrev Shaped : Type 0
  Shaped = KeepsShape start.shape member.node new

  abbrev Made : Kept → Type 0
  Made what = HasMade start member before first w t old new counts sound there gone up what

  leaves : LeavesShape start.shape up.calls
  leaves = subst (LeavesShape start.shape) (same_some are.calls up.calls _ are.told up.told) are.leaves

  -- it kept something, for which other files were written
  other_files : (what : Kept) (it : Made what) → state_of it.calls SYSTEM_FILE ≡ state_of up.calls SYSTEM_FILE → Shaped
  other_files what it same = record {
    calls = it.calls;
    told = it.told;
    leaves = λ bytes image. leaves bytes (subst (λ (s : FileState). IsImage s bytes) same image);
  }

  not_free : SYSTEM_FILE ≢ free_file up.slots
  not_free is = absurd (omega (arith, is, (next_file_is (Some up.slots.control)).0))

  -- as what is kept of the rows, or of a local checkpoint
  rows_shaped : (epoch : ℕ) (redo : OutletState) (it : Todo) → Made (kept_unless epoch redo it) → Shaped
  rows_shaped epoch redo todo.Nothing it =
      other_files (RowsUpTo epoch redo) it
      (rows_leave up.slots epoch (redo_from redo up.slots.control.redo_end) up.calls it.calls it.ok SYSTEM_FILE it.runs
      (λ same. absurd (omega (arith, same))) (λ position same. absurd (omega (arith, same))))
  rows_shaped epoch redo (todo.Write piece) it =
      other_files (OfCheckpoint (todo.Write piece)) it
      (checkpoints_leave.written up.slots piece up.calls it.calls it.ok SYSTEM_FILE it.runs not_free)
  rows_shaped epoch redo todo.Sync it =
      other_files (OfCheckpoint todo.Sync) it
      (checkpoints_leave.settled up.slots up.calls it.calls it.ok SYSTEM_FILE it.runs not_free)
  rows_shaped epoch redo (todo.Name finished) it =
      other_files (OfCheckpoint (todo.Name finished)) it
      (checkpoints_leave.named up.slots finished up.calls it.calls it.ok SYSTEM_FILE it.runs
      (λ same. absurd (omega (arith, same))))

  -- the host that coordinates hasn't stopped, so no call for it failed
  noted_there : has_stopped (logs_at w.logs tc) ≡ false
      → KeepsNoted start member before first (logs_at w.logs tc) up.slots up.calls → HasSystem up.slots up.calls
  noted_there ran (inl has) = has.slot
  noted_there ran (inr left) = absurd (true≢false (sym left.stopped ∙ ran))

  mask_named : (log : List HostStep) (epoch mask : ℕ) → noted start member there log ≡ DurableAt epoch mask
      → is_mask start.shape mask ≡ true
  mask_named [] epoch mask is = let none = none_noted start member there sound.right.nobody in absurd cc
  mask_named (e ∷ log) epoch mask is = noted_mask start member there sound.right.nobody e log epoch mask is

  -- that an epoch is durable, and wrote a slot
  durable_shaped : NotingStep start member before first w t old new counts sound there gone up → Shaped
  durable_shaped noting =
      let it = noting.made in
      record {
        calls = it.calls;
        told = it.told;
        leaves =
            written_shaped start.shape up.slots noting.epoch noting.mask up.calls it.calls it.ok
            (noted_there noting.ran up.is.noted) (mask_named (log_of tc) noting.epoch noting.mask noting.is) it.grows
            it.kept leaves it.runs;
      }

  by_step : WhoseStep start member before first w t old new counts sound there gone up → Shaped
  by_step (of_none told) = record { calls = up.calls; told = told; leaves = leaves }
  by_step (of_rows step) =
      let log = log_of (ldm_of start member) in
      rows_shaped (rows_after start member log).saved (lqh_after start member log).outlet
      (todo_behind start member before first there log)
      (subst Made (rows_kept_are start member before first there sound.right.nobody log) step.made)
  by_step (of_noting noting) = durable_shaped noting

pub shapes_kept : ShapesAreKept
shapes_kept start member before first w t old new counts sound there told slots gone of_first up are =
    by_step start member before first w t old new counts sound there gone up are
    (whose_step start member before first w t old new counts sound there gone up told slots)
