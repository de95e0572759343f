-- The shell asks for something, of which no disk has anything to keep.
use Rattle.std.proofs.Common.{◌≡◌, sym, subst, arith}
use Rattle.sig_core.specs.declared.member.Member.{Member}
use Rattle.sig_core.specs.declared.place.Part.TheVariants.{Ldm, Tc}
use Rattle.sig_core.specs.declared.slots.SystemSlot.{SystemSlot}
use Rattle.sig_core.specs.Table.{Rows}
use Rattle.world_core.specs.Start.{Start}
use Rattle.world_core.specs.World.{logs_at}
use Rattle.world_views.specs.World.{Whole}
use Rattle.moment_laws.specs.Places.{ldm_of, tc_of}
use Rattle.moment_laws.proofs.MomentHosts.{part_some}
use Rattle.disk_world.specs.Disks.{Disks}
use Rattle.disk_laws.specs.Laws.{RequestsAreKept}
use Rattle.disk_laws.specs.OnDisk.{IsOnDisk, KeepsUp}

-- a disk keeps up where neither log went on
pub keeps_same : (start : Start) (member : Member) (before : Rows) (first : SystemSlot) (w t : Whole) (disks : Disks)
    → logs_at t.logs (ldm_of start member) ≡ logs_at w.logs (ldm_of start member)
    → logs_at t.logs (tc_of start member) ≡ logs_at w.logs (tc_of start member)
    → KeepsUp start member before first w disks → KeepsUp start member before first t disks
keeps_same start member before first w t disks rows noted up = record {
  there = up.there;
  slots = up.slots;
  slots_are = up.slots_are;
  calls = up.calls;
  told = up.told;
  is =
      subst
      (λ log. IsOnDisk start member before first log (logs_at t.logs (tc_of start member)) up.slots up.calls) (sym rows)
      (subst
      (λ log. IsOnDisk start member before first (logs_at w.logs (ldm_of start member)) log up.slots up.calls)
      (sym noted) up.is);
}

pub requests_kept : RequestsAreKept
requests_kept start member before first request w t disks sound there asked up =
    let rows = part_some start Ldm member in
    let noted = part_some start Tc member in
    keeps_same start member before first w t disks
    (asked.alone.others (ldm_of start member) (λ is. absurd (omega (arith, is, rows))))
    (asked.alone.others (tc_of start member) (λ is. absurd (omega (arith, is, noted)))) up
