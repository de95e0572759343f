-- What stays in a life on disks.
use Rattle.std.proofs.Common.{◌≡◌, ℕ, List, length, map, ap, sym, ◌∙◌}
use Rattle.std.specs.Global.{Vec}
use Rattle.std.specs.Prelude.{Option}
use Rattle.disk_world.specs.declared.disk_world.DiskWorld.{DiskWorld}
use Rattle.host_io.specs.Call.{Call}
use Rattle.life_start.specs.Records.{HaveMore}
use Rattle.shell_top.specs.Setting.{Setting, setting_of}
use Rattle.sys_restart.proofs.DisksLemmas.{mapped}

abbrev setting : ℕ → List (List ℕ × List ℕ) → ℕ → Setting
setting start rows disks = record { start = start; rows = rows; disks = disks }

module _ {D : Type 0} (w t : DiskWorld D)
    (life : (t.generation ≡ w.generation) × (t.start ≡ w.start) × (t.rows ≡ w.rows))
  where
    pub same_setting : length t.disks.items ≡ length w.disks.items → setting_of t ≡ setting_of w
    same_setting many =
        ap (λ n. setting n t.rows.items (length t.disks.items)) life.1
        ∙ ap (λ (rows : Vec (List ℕ × List ℕ)). setting w.start rows.items (length t.disks.items)) life.2
        ∙ ap (λ n. setting w.start w.rows.items n) many

    -- where the disks do too
    pub still_setting : t.disks ≡ w.disks → setting_of t ≡ setting_of w
    still_setting same = same_setting (ap (λ (disks : Vec D). length disks.items) same)

    -- or their records grow
    pub more_setting : (told : D → Option (List Call)) → HaveMore (map told w.disks.items) (map told t.disks.items)
        → setting_of t ≡ setting_of w
    more_setting told more =
        same_setting (sym (mapped told t.disks.items) ∙ more.many ∙ mapped told w.disks.items)
