-- A life begins on disks that are ready for it.
use Rattle.std.proofs.Common.{◌≡◌, ◌+◌, ◌≤◌, ◌<◌, ◌⊎◌, inl, inr, ℕ, [], map, reverse, refl, ap, sym, subst, arith}
use Rattle.std.proofs.lemmas.Bool.{cases_lt}
use Rattle.std.proofs.lemmas.List.{get_or_past}
use Rattle.host_io.specs.Image.{IsImage}
use Rattle.host_io.proofs.StateLemmas.{settled_is_kept}
use Rattle.redo_log.specs.Stored.{files_of}
use Rattle.run_theory.specs.Lists.{IsIn}
use Rattle.sig_core.specs.declared.log.HostLog.{HostLog}
use Rattle.sig_core.specs.declared.member.Member.{Member}
use Rattle.sig_core.specs.declared.view.Shape.{Shape}
use Rattle.life_start.specs.Shapes.{AreOfShape}
use Rattle.sys_restart.specs.declared.restored.Restored.{Restored}
use Rattle.sys_restart.specs.Calls.{next_system, rows_of_node}
use Rattle.sysfile_core.specs.declared.place.TheConstants.{CONTROL_FILE, SYSTEM_FILE}
use Rattle.world_core.proofs.FreshWorld.{each_at, each_length}
use Rattle.world_core.specs.Hosts.{hosts}
use Rattle.world_core.specs.Start.{Start, made}
use Rattle.world_core.specs.World.{for_each, logs_at, no_steps, of_host}
use Rattle.world_views.specs.Driven.{IsSound}
use Rattle.world_views.specs.World.{Whole, new_world}
use Rattle.view_laws.proofs.runs.FirstMembers.{node_low, node_some}
use Rattle.moment_laws.specs.Places.{ldm_of, tc_of}
use Rattle.disk_world.specs.Disks.{Disks}
use Rattle.disk_laws.proofs.owner_of.Found.{settled_named}
use Rattle.disk_laws.proofs.ReadyLaw.{ready_keep_up}
use Rattle.disk_laws.proofs.told_slots.Begun.{told_slots_begin}
use Rattle.disk_laws.specs.OnDisk.{IsOnDisk}
use Rattle.disk_laws.specs.ToldSlots.{SlotsAreTold}
use Rattle.journal_laws.specs.Asked.{AreOfWords}
use Rattle.restart_laws.specs.Lived.{AreReadyFor, IsLived, IsLivedAt, IsReadyFor, LivesBegin, MayBegin, start_behind}
use Rattle.restart_laws.proofs.telling.Lives.{fresh_worlds_tell_what_is_kept}

module _ (start : Start) where
  -- no host has done anything
  pub none_done : (h : ℕ) → logs_at (new_world start).logs h ≡ []
  none_done h = go (cases_lt h (hosts start))
    where
      go : (h < hosts start) ⊎ (hosts start ≤ h) → logs_at (new_world start).logs h ≡ []
      go (inl low) =
          ap (λ (log : HostLog). map (of_host h) (reverse log.steps))
          (each_at (hosts start) no_steps h (no_steps 0) low)
      go (inr past) =
          ap (λ (log : HostLog). map (of_host h) (reverse log.steps))
          (get_or_past (for_each (hosts start) no_steps) h (no_steps 0)
          (omega (arith, past, each_length (hosts start) no_steps)))

module _ (shape : Shape) (r : Restored) (disks : Disks) (may : MayBegin shape r) (ready : AreReadyFor shape r disks)
    (sound : IsSound (start_behind shape r) (new_world (start_behind shape r))) where
  abbrev start : Start
  start = start_behind shape r

  abbrev world : Whole
  world = new_world start

  module _ (member : Member) (there : IsIn member (made start)) where
    own : IsReadyFor shape r disks member.node
    own = ready.each member.node (node_some start refl member there) (node_low start refl member there)

    -- the one control slot of the life was saved at the epoch from which it starts
    prepared_told : SlotsAreTold start member (r.generation + 1) (logs_at world.logs)
        (files_of own.calls CONTROL_FILE)
    prepared_told =
        let has = own.ready.0.1.1 in
        let begins : start.start_epoch ≡ r.epoch = refl in
        told_slots_begin start member (r.generation + 1) (logs_at world.logs) own.ready.0.1.0
        (files_of own.calls CONTROL_FILE) has.in_use (omega (arith, has.saved, begins))

    lived_at : IsLivedAt start r member world disks
    lived_at =
        record {
          up = record {
            there = there;
            slots = own.slots;
            slots_are = own.slots_are;
            calls = own.calls;
            told = own.told;
            is =
                subst
                (λ log. IsOnDisk start member (rows_of_node shape member.node r) (next_system shape r) log
                (logs_at world.logs (tc_of start member)) own.slots own.calls)
                (sym (none_done start (ldm_of start member)))
                (subst
                (λ log. IsOnDisk start member (rows_of_node shape member.node r) (next_system shape r) [] log own.slots
                own.calls)
                (sym (none_done start (tc_of start member)))
                (ready_keep_up start refl member r own.calls own.slots own.kept refl there own.ready own.found));
          };
          tells = fresh_worlds_tell_what_is_kept start world sound (none_done start) member there;
          shape = record {
            calls = own.calls;
            told = own.told;
            leaves = λ bytes image.
                subst (AreOfShape shape)
                (sym (settled_is_kept (files_of own.calls SYSTEM_FILE) bytes
                (subst (λ s. IsImage s bytes) (own.ready.0.0 SYSTEM_FILE (omega arith)) image)))
                own.shapes;
          };
          told_slots = record {
            calls = own.calls;
            told = own.told;
            leaves = λ bytes image.
                subst (SlotsAreTold start member (r.generation + 1) (logs_at world.logs))
                (sym (settled_is_kept (files_of own.calls CONTROL_FILE) bytes
                (subst (λ s. IsImage s bytes) (own.ready.0.0 CONTROL_FILE (omega arith)) image)))
                prepared_told;
          };
          owner = record {
            calls = own.calls;
            told = own.told;
            named =
                settled_named member.node own.calls (own.ready.0.0 CONTROL_FILE (omega arith))
                own.ready.0.1.1.owner;
          };
          storable = own.storable;
        }

  begins : IsLived r world disks start
  begins =
      record {
        is_start = refl;
        may = may;
        sound = sound;
        words = subst AreOfWords (sym (none_done start 0)) tt;
        told = omega (arith, ready.told);
        slots = omega (arith, ready.slots);
        each = lived_at;
      }

pub lives_begin : LivesBegin
lives_begin = begins
