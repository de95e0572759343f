-- What a disk was told to note as durable had been saved, so a slot has room for it.
use Rattle.std.proofs.Common.{◌<◌, ◌-◌, ◌^◌, ℕ, arith}
use Rattle.run_theory.specs.Links.{taken}
use Rattle.run_theory.specs.Lists.{IsIn}
use Rattle.run_theory.proofs.Pasts.{each_in, past_self}
use Rattle.sig_core.specs.declared.member.Member.{Member}
use Rattle.sys_restart.specs.declared.restored.Restored.{Restored}
use Rattle.world_core.specs.Start.{Start, made}
use Rattle.world_core.specs.Steps.{Addressed}
use Rattle.world_core.specs.World.{logs_at}
use Rattle.world_views.specs.Machine.{machine}
use Rattle.world_views.specs.World.{Whole}
use Rattle.view_laws.specs.Runs.{AreOfCluster}
use Rattle.view_laws.proofs.runs.AllSound.{have_orderly}
use Rattle.view_laws.proofs.runs.ChosenViews.{viable}
use Rattle.moment_laws.proofs.MomentMembers.{full_made}
use Rattle.moment_laws.specs.Places.{ldm_of, tc_of}
use Rattle.saved_laws.specs.Copied.{IsOfSaved, TellsSaved, WasTold}
use Rattle.saved_laws.proofs.masters.All.{copied_were_saved}
use Rattle.disk_laws.specs.Laws.{AreNotable}
use Rattle.disk_laws.specs.Noted.{kept_part}
use Rattle.disk_laws.proofs.KeptParts.{kept_is_past}
use Rattle.restart_laws.specs.Told.{TellsNotedRows, TellsWhatIsKept}
use Rattle.restart_laws.proofs.groups.Copied.{noted_saved}
use Rattle.restart_laws.proofs.groups.Left.{sound_taken}
use Rattle.restart_laws.proofs.groups.Nodes.{first_below, has_full}
use Rattle.restart_laws.proofs.lived.Savable.{saved_low}

module _ (start : Start) (r : Restored) (t : Whole) (are : AreOfCluster start (logs_at t.logs))
    (begins : start.start_epoch < start.epoch) (last : start.epoch < 2 ^ 64 - 1)
    (tells : (member : Member) → IsIn member (made start) → TellsWhatIsKept start member t) where
  -- somebody told that it was saved
  module _ (epoch mask : ℕ) (saved : IsOfSaved start (logs_at t.logs) epoch mask) where
    told_low : epoch < 2 ^ 64 - 1
    told_low =
        let one =
        has_full start.shape are.shape saved.view
        (viable have_orderly start (logs_at t.logs) are saved.view saved.installed)
        0 (first_below start.shape are.shape) in
        let there = full_made start (logs_at t.logs) are saved.view saved.installed one.member one.full in
        let told =
        each_in (λ (m : Member). WasTold start (logs_at t.logs) (TellsSaved epoch) (ldm_of start m)) one.member
        saved.view.full saved.told one.full in
        let kept =
        each_in
        (λ (y : Addressed). TellsNotedRows start one.member (kept_part (logs_at t.logs (ldm_of start one.member)))
        y.signal.body)
        told.signal (taken (machine start) (ldm_of start one.member) (logs_at t.logs told.host))
        ((tells one.member there).saved.taken told.host told.below)
        (sound_taken start (ldm_of start one.member) told.signal (logs_at t.logs told.host) told.there) epoch told.tells
        in
        let low =
        saved_low start (logs_at t.logs) are begins last one.member there
        (kept_part (logs_at t.logs (ldm_of start one.member)))
        (kept_is_past (logs_at t.logs (ldm_of start one.member))) in
        omega (arith, kept, low)

  pub notable : (member : Member) → IsIn member (made start)
      → AreNotable start member (logs_at t.logs (tc_of start member))
  notable member there epoch mask was =
      let low =
      told_low epoch mask
      (noted_saved copied_were_saved start (logs_at t.logs) are begins (tc_of start member)
      (logs_at t.logs (tc_of start member)) (past_self (logs_at t.logs (tc_of start member))) epoch mask was) in
      omega (arith, low)
