-- Whatever a crash leaves of a disk that keeps up, what was saved and noted is found on it.
use Rattle.std.proofs.Common.{◌∙◌, List, ap, inl, inr, arith}
use Rattle.host_io.specs.Call.{Call}
use Rattle.host_io.specs.Image.{IsLeft}
use Rattle.redo_log.specs.Stored.{files_of}
use Rattle.run_theory.specs.Lists.{IsIn}
use Rattle.sig_core.specs.declared.member.Member.{Member}
use Rattle.sig_core.specs.declared.slots.SystemSlot.{SystemSlot}
use Rattle.sig_core.specs.Table.{Rows}
use Rattle.sysfile_core.specs.declared.place.TheConstants.{SYSTEM_FILE}
use Rattle.sysfile_core.specs.Reading.{system_of_file}
use Rattle.sys_restart.specs.Files.{Files}
use Rattle.sys_restart.proofs.StandsLemmas.{left_as}
use Rattle.node_disk.specs.Slots.{SlotsInUse}
use Rattle.world_core.specs.Start.{NobodyStarts, Start, made}
use Rattle.world_core.specs.Steps.{HostStep}
use Rattle.world_core.specs.World.{logs_at}
use Rattle.moment_laws.specs.Places.{ldm_of, tc_of}
use Rattle.disk_laws.specs.Found.{HasLatest, HasSavedRows}
use Rattle.disk_laws.specs.Laws.{WhatIsKeptIsFound}
use Rattle.disk_laws.specs.Noted.{kept_part}
use Rattle.disk_laws.specs.OnDisk.{HasAllNoted, KeepsNoted, KeepsRows}
use Rattle.disk_laws.proofs.KeptParts.{kept_is_past, noted_along}
use Rattle.disk_laws.proofs.RowsSaved.{all_found}

module _ (start : Start) (member : Member) (before : Rows) (first : SystemSlot) (log : List HostStep) (s : SlotsInUse)
    (calls : List Call) (image : Files) (left : IsLeft calls image) where
  latest_found : HasAllNoted start member before first log s calls → HasLatest start member before first log image
  latest_found has = record {
    slot = s.system;
    in_use =
        ap system_of_file
        (left_as calls image SYSTEM_FILE (files_of calls SYSTEM_FILE) left (omega arith) has.slot.clean)
        ∙ has.slot.in_use;
    is = has.is;
    latest = λ epoch mask was.
        has.latest epoch mask
        (noted_along start (tc_of start member) (kept_part log) log epoch mask (kept_is_past log) was);
    least = has.least;
  }

  rows_found : NobodyStarts start → IsIn member (made start)
      → KeepsRows start member before first log s calls
      → HasSavedRows start member before first.generation log image
  rows_found nobody there (inl has) = all_found start nobody member before first log s calls image there has.last left
  rows_found nobody there (inr leaves) = leaves.leaves image (λ file low apart. left file low)

  noted_found : KeepsNoted start member before first log s calls
      → HasLatest start member before first log image
  noted_found (inl has) = latest_found has
  noted_found (inr leaves) = leaves.leaves image (left SYSTEM_FILE (omega arith))

pub kept_is_found : WhatIsKeptIsFound
kept_is_found = record {
  rows = λ start nobody member before first w disks image up left.
      rows_found start member before first (logs_at w.logs (ldm_of start member)) up.slots up.calls image left nobody
      up.there up.is.rows;
  noted = λ start member before first w disks image up left.
      noted_found start member before first (logs_at w.logs (tc_of start member)) up.slots up.calls image left
      up.is.noted;
}
