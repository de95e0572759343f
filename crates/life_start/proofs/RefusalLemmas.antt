-- Why a life doesn't begin, by why none begins behind what was restored.
use Rattle.std.proofs.Common.{◌≡◌, false, List, inl, inr}
use Rattle.std.specs.Prelude.{Option, Result, Ok, Err, IfErr}
use Rattle.host_io.specs.Call.{Call}
use Rattle.sig_core.specs.declared.fault.RestartFault.{RestartFault}
use Rattle.sig_core.specs.declared.view.Shape.{Shape}
use Rattle.sys_restart.specs.Answers.{is_outside}
use Rattle.sys_restart.specs.declared.restored.Restored.{Restored}
use Rattle.sys_restart.specs.Files.{Disks}
use Rattle.sys_restart.specs.Restored.{restored_of}
use Rattle.life_start.specs.Lacking.{IsNoneBehind}
use Rattle.life_start.specs.Refusals.{IsRefusedFor}

refused_for : (shape : Shape) (disks : Disks) (r : Restored) (told : List (Option (List Call)))
    (fault : RestartFault) → restored_of shape disks ≡ Ok r → IsNoneBehind r shape.nodes told fault
    → IsRefusedFor shape disks told fault
refused_for shape disks r told fault read (inl used) =
    inr (inl (record { restored = r; read = read; used_up = used.0; is = used.1 }))
refused_for shape disks r told fault read (inr lack) =
    inr (inr (record {
      restored = r;
      read = read;
      node = lack.node;
      least = lack.least;
      most = lack.most;
      lacks = lack.lacks;
    }))

pub none_begins : {B : Type 0} (shape : Shape) (disks : Disks) (r : Restored) (told : List (Option (List Call)))
    (result : Result B RestartFault) → restored_of shape disks ≡ Ok r
    → IfErr result (λ fault. is_outside fault ≡ false → IsNoneBehind r shape.nodes told fault)
    → IfErr result (λ fault. is_outside fault ≡ false → IsRefusedFor shape disks told fault)
none_begins shape disks r told (Ok begun) read none = tt
none_begins shape disks r told (Err fault) read none =
    λ inside. refused_for shape disks r told fault read (none inside)
