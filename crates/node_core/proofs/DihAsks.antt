-- The block of epochs sends no request of the shell.
use Rattle.std.proofs.Common.{refl}
use Rattle.sig_core.specs.declared.signal.Body.{Body}
use Rattle.api_block.proofs.Quiet.{AsksNothing}
use Rattle.node_core.specs.Dih.{DihState, dih_table}
use Rattle.node_core.proofs.DihForms.{dih_forms}

pub dih_asks : (s : DihState) (body : Body) → AsksNothing (dih_table s body)
dih_asks s =
    dih_forms (λ body step. AsksNothing step) s (record {
      decides = λ tx ops low. refl;
      is_full = λ tx ops high. refl;
      ends = λ tx at there. refl;
      misses = λ tx none. refl;
      rests = λ body off. refl;
    })
