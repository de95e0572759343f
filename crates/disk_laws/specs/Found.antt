-- What a restart finds on the disk of a node, whatever a crash leaves of it.
use Rattle.std.specs.Prelude.{◌≡◌, ◌≤◌, ℕ, List, Some, Ok}
use Rattle.run_theory.specs.Lists.{IsPast}
use Rattle.sig_core.specs.declared.member.Member.{Member}
use Rattle.sig_core.specs.declared.slots.ControlSlot.{ControlSlot}
use Rattle.sig_core.specs.declared.slots.SystemSlot.{SystemSlot}
use Rattle.sig_core.specs.Table.{Rows}
use Rattle.local_ckpt.specs.Events.{Event}
use Rattle.request_laws.specs.Blocks.{rows_after}
use Rattle.sys_restart.specs.Files.{Files}
use Rattle.sysfile_core.specs.declared.place.TheConstants.{SYSTEM_FILE}
use Rattle.sysfile_core.specs.Reading.{system_of_file}
use Rattle.world_core.specs.Start.{Start}
use Rattle.world_core.specs.Steps.{HostStep}
use Rattle.moment_laws.specs.Places.{tc_of}
use Rattle.node_restart.specs.Rows.{RestoresRows}
use Rattle.journal_laws.specs.Events.{records_behind}
use Rattle.journal_laws.specs.Journal.{AreEventsOf, first_rows}
use Rattle.journal_laws.specs.Saver.{IsToldDone}
use Rattle.disk_laws.specs.Noted.{IsFirstOrNoted, WasNoted, kept_part}

module _ (start : Start) (member : Member) (before : Rows) where
  -- In these files a control slot is in use that says what the member's rows had noted as saved after a part of their
  -- log, and its rows are those that the records of that part make.
  pub record HasSavedRows (generation : ℕ) (log : List HostStep) (image : Files) : Type 0 where
    pub slot : ControlSlot
    pub generation_is : slot.generation ≡ generation
    pub older : List HostStep
    pub past : IsPast older log
    pub saved : slot.saved ≡ (rows_after start member older).saved
    pub events : List Event
    pub events_of : AreEventsOf start member older events
    -- up to any epoch that isn't below one which was told to be durable
    pub least : ℕ
    pub told : IsToldDone start member log least
    pub restores : RestoresRows least image slot before (records_behind (first_rows start member) events)
    -- whatever was kept of what the rows had noted
    pub latest : (rows_after start member (kept_part log)).saved ≤ slot.saved

  -- and the system slot in use is the latest that was noted
  pub record HasLatest (first : SystemSlot) (log : List HostStep) (image : Files) : Type 0 where
    pub slot : SystemSlot
    pub in_use : system_of_file (image SYSTEM_FILE) ≡ Ok (Some slot)
    pub is : IsFirstOrNoted start (tc_of start member) log first slot
    pub latest :
        (epoch mask : ℕ) → WasNoted start (tc_of start member) (kept_part log) epoch mask → epoch ≤ slot.epoch
    pub least : first.epoch ≤ slot.epoch
