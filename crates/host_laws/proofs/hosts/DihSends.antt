-- What the block of epochs sends.
use Rattle.std.proofs.Common.{refl}
use Rattle.sig_core.specs.declared.signal.Body.{Body}
use Rattle.node_core.specs.Dih.{DihState, dih_table}
use Rattle.node_core.proofs.DihForms.{dih_forms}
use Rattle.host_laws.proofs.hosts.SendKinds.{SendsOnly, is_dih_kind}

pub dih_kinds : (s : DihState) (body : Body) → SendsOnly is_dih_kind (dih_table s body)
dih_kinds s =
    dih_forms (λ body step. SendsOnly is_dih_kind step) s (record {
      decides = λ tx ops low. refl;
      is_full = λ tx ops high. refl;
      ends = λ tx at there. refl;
      misses = λ tx none. refl;
      rests = λ body off. refl;
    })
