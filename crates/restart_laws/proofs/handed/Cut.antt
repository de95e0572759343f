-- A life may begin on what a crash leaves of the disks of a life.
use Rattle.std.specs.Prelude.{◌≡◌, ◌≤◌, ◌<◌, ℕ, ◌+◌, List, Some, Ok}
use Rattle.std.proofs.Common.{sym, subst}
use Rattle.frag_map.specs.Replicas.{first_start}
use Rattle.host_io.specs.Call.{Call}
use Rattle.life_start.specs.Begun.{end_of_epochs}
use Rattle.redo_log.specs.Stored.{files_of}
use Rattle.run_theory.specs.Lists.{IsIn}
use Rattle.sig_core.specs.declared.member.Member.{Member}
use Rattle.sysfile_core.specs.declared.place.TheConstants.{CONTROL_FILE}
use Rattle.sysfile_core.specs.Reading.{control_of_file}
use Rattle.sys_restart.specs.declared.restored.Restored.{Restored}
use Rattle.sys_restart.specs.Calls.{next_system, rows_of_node}
use Rattle.sys_restart.specs.Files.{disks_of}
use Rattle.sys_restart.specs.LifeCalls.{record_of}
use Rattle.sys_restart.specs.Prepared.{HasKept}
use Rattle.sys_restart.specs.Restored.{restored_of}
use Rattle.node_restart.proofs.StorableLaw.{restored_storable}
use Rattle.world_core.proofs.MadeFirst.{begins_made}
use Rattle.world_core.specs.Start.{Start, made}
use Rattle.world_core.specs.World.{logs_at}
use Rattle.world_views.specs.World.{Whole}
use Rattle.view_laws.proofs.runs.FirstMembers.{first_in}
use Rattle.moment_laws.specs.Places.{ldm_of}
use Rattle.disk_world.specs.Disks.{Disks}
use Rattle.disk_laws.specs.Found.{HasSavedRows}
use Rattle.disk_laws.specs.OnDisk.{KeepsUp}
use Rattle.disk_laws.proofs.KeptLaw.{kept_is_found}
use Rattle.restart_laws.specs.HandedOn.{AreCut, LivesAreHandedOn}
use Rattle.restart_laws.specs.Lived.{AreFitFor, IsLived}
use Rattle.restart_laws.specs.Restart.{IsOfLife}
use Rattle.restart_laws.proofs.handed.CutBytes.{files_have_bytes}
use Rattle.restart_laws.proofs.handed.CutControl.{in_use_kept}
use Rattle.restart_laws.proofs.lived.Ends.{lives_restart}

module _ (start : Start) (r : Restored) (w : Whole) (disks : Disks) (records : List (List Call))
    (lived : IsLived r w disks start) (cut : AreCut start.shape disks.told records) where
  -- a control slot of the life is in use on each disk
  saved : (node : ℕ) → 1 ≤ node → node ≤ start.shape.nodes
      → HasSavedRows start (first_start node) (rows_of_node start.shape node r) (r.generation + 1)
      (logs_at w.logs (ldm_of start (first_start node))) (disks_of records node)
  saved node some few =
      kept_is_found.rows start lived.sound.right.nobody member (rows_of_node start.shape node r)
      (next_system start.shape r) w disks (disks_of records node) up (cut.left node up.calls up.told)
    where
      member : Member
      member = first_start node

      there : IsIn member (made start)
      there = begins_made start _ (first_in start.shape.nodes node some few)

      up : KeepsUp start member (rows_of_node start.shape node r) (next_system start.shape r) w disks
      up = (lived.each member there).up

  control : (node : ℕ) → 1 ≤ node → node ≤ start.shape.nodes
      → HasKept (r.generation + 1) (files_of (record_of records node) CONTROL_FILE)
  control node some few =
      let has = saved node some few in
      in_use_kept (r.generation + 1) (files_of (record_of records node) CONTROL_FILE) has.slot
      (subst
      (λ (generation : ℕ). control_of_file generation (disks_of records node CONTROL_FILE) ≡ Ok (Some has.slot))
      has.generation_is has.restores.0)

  fit : (found : Restored) → restored_of start.shape (disks_of records) ≡ Ok found
      → IsOfLife start r (logs_at w.logs) found → found.epoch < end_of_epochs
      → AreFitFor start.shape found records
  fit found restored of_life last = (
    record {
      restored = restored;
      each = λ node some few.
          record {
            kept = cut.kept node;
            settled = cut.settled node some few;
            control =
                subst (λ (generation : ℕ). HasKept generation (files_of (record_of records node) CONTROL_FILE))
                (sym of_life.generation_is) (control node some few);
            rows =
                restored_storable start.shape (disks_of records) found
                (λ other file. files_have_bytes (record_of records other) file (cut.kept other))
                restored node;
          };
    },
    record {
      is_shape = lived.may.is_shape;
      last = last;
      groups_are = of_life.groups_are;
      grouped = of_life.grouped;
    },
  )

pub lives_are_handed_on : LivesAreHandedOn
lives_are_handed_on start r w disks records lived cut =
    let (found, (restored, of_life)) = lives_restart start r w disks (disks_of records) lived cut.left in
    (found, (restored, of_life, fit start r w disks records lived cut found restored of_life))
