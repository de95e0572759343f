-- Whatever a crash leaves of the disks of a life, a restart comes to its history.
use Rattle.std.proofs.Common.{◌≡◌, ◌<◌, ◌-◌, ℕ, List, subst, arith}
use Rattle.std.specs.Prelude.{get_or, Option, None, Some}
use Rattle.host_io.specs.Call.{Call}
use Rattle.host_io.specs.DiskState.{state_of}
use Rattle.host_io.specs.Image.{IsImage, IsLeft}
use Rattle.run_theory.specs.Lists.{IsIn}
use Rattle.sig_core.specs.declared.member.Member.{Member}
use Rattle.sys_restart.specs.declared.restored.Restored.{Restored}
use Rattle.sys_restart.specs.Calls.{next_system, rows_of_node}
use Rattle.sys_restart.specs.Files as files
use Rattle.sys_restart.specs.LifeCalls.{told_by}
use Rattle.sysfile_core.specs.declared.place.TheConstants.{CONTROL_FILE, SYSTEM_FILE}
use Rattle.world_core.specs.Start.{Start, made}
use Rattle.world_core.specs.World.{logs_at}
use Rattle.world_views.specs.World.{Whole}
use Rattle.moment_laws.specs.Places.{tc_of}
use Rattle.disk_world.specs.Disks.{Disks}
use Rattle.disk_laws.specs.Found.{HasLatest}
use Rattle.disk_laws.specs.OnDisk.{KeepsUp}
use Rattle.disk_laws.proofs.KeptLaw.{kept_is_found}
use Rattle.disk_laws.proofs.owner_of.Found.{owners_found}
use Rattle.disk_laws.proofs.shapes_of.Read.{shapes_read}
use Rattle.restart_laws.specs.Lived.{IsLived, IsLivedAt, LivesRestart}
use Rattle.restart_laws.specs.Restart.{AreLeft, IsLeftOf}
use Rattle.restart_laws.proofs.groups.Whole.{restarts_as_history}
use Rattle.restart_laws.proofs.lived.Epochs.{below_first, starts_behind}
use Rattle.restart_laws.proofs.lived.Savable.{cluster, table_begins}

same_calls : (o : Option (List Call)) (one other : List Call) → o ≡ Some one → o ≡ Some other → one ≡ other
same_calls o one other first second = cc

module _ (start : Start) (r : Restored) (w : Whole) (disks : Disks) (images : files.Disks)
    (lived : IsLived r w disks start)
    (left : (node : ℕ) (calls : List Call) → told_by disks.told node ≡ Some calls → IsLeft calls (images node)) where
  module _ (member : Member) (there : IsIn member (made start)) where
    abbrev at : IsLivedAt start r member w disks
    at = lived.each member there

    abbrev up : KeepsUp start member (rows_of_node start.shape member.node r) (next_system start.shape r) w disks
    up = at.up

    image : IsLeft up.calls (images member.node)
    image = left member.node up.calls up.told

    noted : HasLatest start member (rows_of_node start.shape member.node r) (next_system start.shape r)
        (logs_at w.logs (tc_of start member)) (images member.node)
    noted =
        kept_is_found.noted start member (rows_of_node start.shape member.node r) (next_system start.shape r) w disks
        (images member.node) up image

    left_of : IsLeftOf start r (logs_at w.logs) images member
    left_of =
        record {
          begun = table_begins start r lived.is_start lived.may member there;
          saved =
              kept_is_found.rows start lived.sound.right.nobody member (rows_of_node start.shape member.node r)
              (next_system start.shape r) w disks (images member.node) up image;
          noted = noted;
          latest =
              shapes_read start.shape member.node (images member.node) noted.slot
              (at.shape.leaves (images member.node SYSTEM_FILE)
              (subst (λ calls. IsImage (state_of calls SYSTEM_FILE) (images member.node SYSTEM_FILE))
              (same_calls (get_or disks.told (member.node - 1) None) up.calls at.shape.calls up.told at.shape.told)
              (image SYSTEM_FILE (omega arith))))
              noted.in_use;
          told_slots =
              at.told_slots.leaves (images member.node CONTROL_FILE)
              (subst (λ calls. IsImage (state_of calls CONTROL_FILE) (images member.node CONTROL_FILE))
              (same_calls (get_or disks.told (member.node - 1) None) up.calls at.told_slots.calls up.told
              at.told_slots.told)
              (image CONTROL_FILE (omega arith)));
          owner =
              owners_found member.node at.owner.calls (images member.node CONTROL_FILE) at.owner.named
              (subst (λ calls. IsImage (state_of calls CONTROL_FILE) (images member.node CONTROL_FILE))
              (same_calls (get_or disks.told (member.node - 1) None) up.calls at.owner.calls up.told at.owner.told)
              (image CONTROL_FILE (omega arith)));
          told_saved = at.tells.saved.taken;
          told_durable = at.tells.durable.taken;
        }

  are_left : AreLeft start r (logs_at w.logs) images
  are_left =
      record {
        cluster = cluster start w lived.may.is_shape lived.sound;
        epoch_is = starts_behind start r lived.is_start lived.may;
        below =
            subst (λ e. e < start.epoch) (starts_behind start r lived.is_start lived.may)
            (below_first start r lived.is_start lived.may);
        groups_are = lived.may.groups_are;
        grouped = lived.may.grouped;
        each = left_of;
      }

pub lives_restart : LivesRestart
lives_restart start r w disks images lived left =
    restarts_as_history start r (logs_at w.logs) images (are_left start r w disks images lived left)
