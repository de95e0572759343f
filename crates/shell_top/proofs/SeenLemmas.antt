-- Disks of which more is seen.
use Rattle.std.proofs.Common.{◌≡◌, List, ℕ, sym, subst}
use Rattle.std.specs.Global.{Vec}
use Rattle.std.specs.Prelude.{Option}
use Rattle.disk_world.specs.declared.disk_world.DiskWorld.{DiskWorld}
use Rattle.host_io.specs.Call.{Call}
use Rattle.life_start.specs.Records.{HaveMore}
use Rattle.life_start.proofs.RecordLemmas.{all_itself, all_then}
use Rattle.shell_top.specs.Seen.{HasGrown, Seen, seen, seen_on}
use Rattle.sys_restart.specs.Answers.{AreSteady}
use Rattle.sys_restart.proofs.DisksLemmas.{steady_itself, steady_then}

pub grown_itself : (s : Seen) → HasGrown s s
grown_itself s = record { more = all_itself s.told; steady = steady_itself s.faults }

pub grown_then : (first second third : Seen) → HasGrown first second → HasGrown second third → HasGrown first third
grown_then first second third one other =
    record {
      more = all_then first.told second.told third.told one.more other.more;
      steady = steady_then first.faults second.faults third.faults one.steady other.steady;
    }

-- what the calls on the disks of a world promise
pub grown_by : (told now : List (Option (List Call))) (faults counts : List ℕ) → HaveMore told now
    → AreSteady faults counts → HasGrown (seen told faults) (seen now counts)
grown_by told now faults counts more steady = record { more = λ records all. more; steady = steady }

-- what is seen of the disks of a world
abbrev pub seen_in : {D : Type 0} → (D → Option (List Call)) → (D → ℕ) → DiskWorld D → Seen
seen_in told faults w = seen_on told faults w.disks.items

module _ {D : Type 0} (told : D → Option (List Call)) (faults : D → ℕ) where
  -- a world that keeps its disks as they are
  pub still_grown : (w t : DiskWorld D) → t.disks ≡ w.disks
      → HasGrown (seen_in told faults w) (seen_in told faults t)
  still_grown w t same =
      subst (λ (disks : Vec D). HasGrown (seen_in told faults w) (seen_on told faults disks.items)) (sym same)
      (grown_itself (seen_in told faults w))

  -- and one that goes on from another
  pub world_grown : (w u t : DiskWorld D) → HasGrown (seen_in told faults w) (seen_in told faults u)
      → HasGrown (seen_in told faults u) (seen_in told faults t)
      → HasGrown (seen_in told faults w) (seen_in told faults t)
  world_grown w u t = grown_then (seen_in told faults w) (seen_in told faults u) (seen_in told faults t)

  -- which may keep them too
  pub then_still : (w u t : DiskWorld D) → HasGrown (seen_in told faults w) (seen_in told faults u)
      → t.disks ≡ u.disks → HasGrown (seen_in told faults w) (seen_in told faults t)
  then_still w u t grown same = world_grown w u t grown (still_grown u t same)

  -- three calls, one after the other
  pub thrice_grown : (w u v t : DiskWorld D) → HasGrown (seen_in told faults w) (seen_in told faults u)
      → HasGrown (seen_in told faults u) (seen_in told faults v)
      → HasGrown (seen_in told faults v) (seen_in told faults t)
      → HasGrown (seen_in told faults w) (seen_in told faults t)
  thrice_grown w u v t one two three = world_grown w v t (world_grown w u v one two) three
