-- A host goes on, and whatever a crash leaves of the disk of its node, of two control slots one was saved at an epoch
-- that is durable.
use Rattle.std.proofs.Common.{◌∙◌, ◌≤◌, ◌<◌, ◌^◌, ℕ, List, ◌∷◌, ap, sym, subst, arith}
use Rattle.host_io.specs.Call.{Call}
use Rattle.host_io.specs.DiskState.{FileState}
use Rattle.host_io.specs.Image.{IsImage}
use Rattle.run_theory.specs.Cuts.{IsCut}
use Rattle.run_theory.specs.Lists.{IsIn, IsPast}
use Rattle.run_theory.specs.Logs.{IsLog}
use Rattle.sig_core.specs.declared.member.Member.{Member}
use Rattle.sig_core.specs.declared.slots.SystemSlot.{SystemSlot}
use Rattle.sig_core.specs.Table.{Rows}
use Rattle.sys_restart.proofs.AlikeLemmas.{same_some}
use Rattle.sysfile_core.specs.declared.place.TheConstants.{CONTROL_FILE}
use Rattle.node_disk.proofs.LawLemmas.{system_leaves}
use Rattle.world_core.specs.Start.{Start, made}
use Rattle.world_core.specs.Steps.{HostStep}
use Rattle.world_core.specs.World.{logs_at}
use Rattle.world_views.specs.Driven.{IsSound}
use Rattle.world_views.specs.Machine.{has_stopped, machine}
use Rattle.world_views.specs.World.{Whole}
use Rattle.moment_laws.specs.Places.{ldm_of}
use Rattle.request_laws.specs.Blocks.{rows_after}
use Rattle.disk_world.specs.Disks.{Disks, HasGoneOn}
use Rattle.saved_laws.specs.Behind.{IsDurable}
use Rattle.disk_laws.specs.Laws.{AreSavable}
use Rattle.disk_laws.specs.OnDisk.{HasLastRows, KeepsUp}
use Rattle.disk_laws.specs.ToldSlots.{KeepsTold, LeavesTold, ToldSlotsAreKept}
use Rattle.disk_laws.proofs.RowSteps.{rows_there}
use Rattle.disk_laws.proofs.WhoseStep.{NotingStep, RowsStep, WhoseStep, of_none, of_noting, of_rows, whose_step}
use Rattle.disk_laws.proofs.told_slots.Logs.{leaves_along}
use Rattle.disk_laws.proofs.told_slots.Steps.{row_step_told}

module _ (start : Start) (member : Member) (before : Rows) (first : SystemSlot) (w t : Whole) (old new : Disks)
    (counts : List ℕ) (sound : IsSound start w) (there : IsIn member (made start))
    (gone : HasGoneOn w old new counts t) (late : 2 ^ 32 ≤ start.epoch)
    (savable :
    (log : List HostStep) → IsPast log (logs_at t.logs (ldm_of start member)) → AreSavable start member before log)
    (behind : (e : HostStep) (log : List HostStep) → IsPast (e ∷ log) (logs_at t.logs (ldm_of start member))
    → (rows_after start member log).saved < (rows_after start member (e ∷ log)).saved
    → IsDurable start (logs_at t.logs) (rows_after start member log).saved)
    (up : KeepsUp start member before first w old) (are : KeepsTold start member first.generation w old) where
  abbrev ldm : ℕ
  ldm = ldm_of start member

  abbrev Leaves : List Call → Type 0
  Leaves calls = LeavesTold start member first.generation (logs_at t.logs) calls

  abbrev Told : Type 0
  Told = KeepsTold start member first.generation t new

  -- all logs have grown
  grown : IsCut (logs_at w.logs) (logs_at t.logs)
  grown h = (gone.goes start sound).grown.more h

  leaves : Leaves up.calls
  leaves =
      leaves_along start member first.generation (logs_at w.logs) (logs_at t.logs) grown up.calls
      (subst (LeavesTold start member first.generation (logs_at w.logs))
      (same_some are.calls up.calls _ are.told up.told) are.leaves)

  -- the host of the rows made a step and runs
  rows_leave_told : (rows : RowsStep start member before first w t old new counts sound there gone up)
      → Leaves rows.made.calls
  rows_leave_told rows =
      row_step_told start sound.right.nobody member before first there late first.generation (logs_at t.logs) rows.step
      log within
      (behind rows.step log within) (subst (IsLog (machine start) ldm) rows.more rows.local) (savable log (grown ldm))
      (savable (rows.step ∷ log) within) (ap has_stopped (sym rows.more) ∙ rows.runs) up.slots up.calls last
      rows.made.calls rows.made.ok (logs_at gone.stepped.logs ldm) rows.more leaves rows.made.runs
    where
      log : List HostStep
      log = logs_at w.logs ldm

      within : IsPast (rows.step ∷ log) (logs_at t.logs ldm)
      within = subst (λ l. IsPast l (logs_at t.logs ldm)) rows.more rows.since

      last : HasLastRows start member before first log up.slots up.calls
      last = (rows_there start member before first there log up.slots up.calls rows.ran up.is.rows).last

  -- that an epoch is durable is written to another file
  durable_leaves : (noting : NotingStep start member before first w t old new counts sound there gone up)
      → Leaves noting.made.calls
  durable_leaves noting bytes image =
      leaves bytes
      (subst (λ (s : FileState). IsImage s bytes)
      (system_leaves up.slots noting.epoch noting.mask up.calls noting.made.calls noting.made.ok CONTROL_FILE
      noting.made.runs (λ same. absurd (omega (arith, same))))
      image)

  by_step : WhoseStep start member before first w t old new counts sound there gone up → Told
  by_step (of_none told) = record { calls = up.calls; told = told; leaves = leaves }
  by_step (of_rows rows) =
      record { calls = rows.made.calls; told = rows.made.told; leaves = rows_leave_told rows }
  by_step (of_noting noting) =
      record { calls = noting.made.calls; told = noting.made.told; leaves = durable_leaves noting }

pub told_slots_kept : ToldSlotsAreKept
told_slots_kept start member before first w t old new counts sound there told slots gone late savable behind up are =
    by_step start member before first w t old new counts sound there gone late savable behind up are
    (whose_step start member before first w t old new counts sound there gone up told slots)
