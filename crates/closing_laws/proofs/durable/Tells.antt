-- What the epochs of a member tell: their last order, and of closed and durable epochs what they have noted.
use Rattle.std.proofs.Common.{◌≡◌, refl}
use Rattle.run_theory.specs.Lists.{Each}
use Rattle.sig_core.specs.declared.mark.Mark.{Mark}
use Rattle.sig_core.specs.declared.outs.Outgoing.{Outgoing}
use Rattle.sig_core.specs.declared.signal.Body.{Body}
use Rattle.sig_core.specs.declared.signal.Body.TheVariants.{Epoch}
use Rattle.sig_core.specs.declared.signal.Signal.{Signal}
use Rattle.sig_core.specs.declared.signal.epoch.EpochSignal.TheVariants.{GcpClosed, GcpStateConf}
use Rattle.dih_node.specs.Dih.{dih_row}
use Rattle.dih_node.specs.State.{DihState}
use Rattle.dih_node.proofs.Walk.{dih_each}

-- it tells what stands in this state, and orders nobody to note an epoch
abbrev pub TellsNoted : DihState → Body → Type 0
TellsNoted t (Epoch (GcpStateConf current prepared next noted saved durable)) =
    (noted ≡ t.closed) × ((prepared ≡ t.prepared) × (durable ≡ t.durable))
TellsNoted t (Epoch (GcpClosed epoch)) = ⊥
TellsNoted t body = Unit {0}

-- whatever it takes
pub dih_tells_noted : (s : DihState) (x : Signal)
    → Each (λ sent. TellsNoted s sent.body) (dih_row s x).effects.sends
dih_tells_noted s x =
    (dih_each s x (λ (sent : Outgoing). TellsNoted s sent.body) (λ (mark : Mark). Unit {0}) (record {
      decided = λ tx is. tt;
      confirms = λ tx is. tt;
      goes_on = tt;
      prepares = λ epoch next is. tt;
      reports = λ order is. tt;
      closes = λ epoch is. tt;
      copies = λ epoch mask is. tt;
      tells = λ is. (refl, (refl, refl));
      fences = λ proposal is. tt;
    })).0
