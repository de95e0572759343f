-- A host goes on, and the control file of its node's disk names the node still, whatever that disk was to keep.
use Rattle.std.proofs.Common.{ℕ, List, subst}
use Rattle.run_theory.specs.Lists.{IsIn}
use Rattle.sig_core.specs.declared.member.Member.{Member}
use Rattle.sig_core.specs.declared.slots.SystemSlot.{SystemSlot}
use Rattle.sig_core.specs.Table.{Rows}
use Rattle.sys_restart.proofs.AlikeLemmas.{same_some}
use Rattle.world_core.specs.Start.{Start, made}
use Rattle.world_views.specs.Driven.{IsSound}
use Rattle.world_views.specs.World.{Whole}
use Rattle.disk_world.specs.Disks.{Disks, HasGoneOn}
use Rattle.disk_world.specs.Keeping.{Kept}
use Rattle.disk_laws.specs.OnDisk.{KeepsUp}
use Rattle.disk_laws.specs.Owners.{IsNamed, KeepsOwner, OwnersAreKept}
use Rattle.disk_laws.proofs.WhoseStep.{HasMade, WhoseStep, of_none, of_noting, of_rows, record_kept, whose_step}
use Rattle.disk_laws.proofs.owner_of.Written.{kept_named}

module _ (start : Start) (member : Member) (before : Rows) (first : SystemSlot) (w t : Whole) (old new : Disks)
    (counts : List ℕ) (sound : IsSound start w) (there : IsIn member (made start))
    (gone : HasGoneOn w old new counts t) (up : KeepsUp start member before first w old)
    (are : KeepsOwner member.node old) where
  named : IsNamed member.node up.calls
  named = subst (IsNamed member.node) (same_some are.calls up.calls _ are.told up.told) are.named

  -- whatever it kept
  made_named : (what : Kept) → HasMade start member before first w t old new counts sound there gone up what
      → KeepsOwner member.node new
  made_named what it = record {
    calls = it.calls;
    told = it.told;
    named =
        kept_named member.node up.slots up.calls it.calls it.ok
        (record_kept start member before first w t old new counts sound there gone up) named what it.runs;
  }

  by_step : WhoseStep start member before first w t old new counts sound there gone up → KeepsOwner member.node new
  by_step (of_none told) = record { calls = up.calls; told = told; named = named }
  by_step (of_rows rows) = made_named _ rows.made
  by_step (of_noting noting) = made_named _ noting.made

pub owners_kept : OwnersAreKept
owners_kept start member before first w t old new counts sound there told slots gone up are =
    by_step start member before first w t old new counts sound there gone up are
    (whose_step start member before first w t old new counts sound there gone up told slots)
