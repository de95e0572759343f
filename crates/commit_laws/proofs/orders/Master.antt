-- A master of checkpoints orders no takeover, and asks no rows for what they have.
use Rattle.std.proofs.Common.{refl}
use Rattle.sig_core.specs.declared.mark.Mark.{Mark}
use Rattle.sig_core.specs.declared.signal.Signal.{Signal}
use Rattle.gcp_master.specs.Master.{master_row}
use Rattle.gcp_master.specs.State.{MasterState}
use Rattle.gcp_master.proofs.Walk.{master_each}
use Rattle.commit_laws.proofs.orders.Words.{AreStill, IsStill}

pub master_orders_none : (s : MasterState) (x : Signal) → AreStill (master_row s x).effects.sends
master_orders_none s x =
    (master_each s x IsStill (λ (mark : Mark). Unit {0}) (record {
      lists = λ t member view. record {
        asks = λ known to member is one there. refl;
        prepares = λ run member is there. refl;
        commits = λ run member is there. refl;
        closes = λ run to member is one there. refl;
        saves = λ run member is there. refl;
        copies = λ run member is there. refl;
        tells_micro = λ epoch is. refl;
        tells_global = λ epoch copy local is. refl;
        tells_members = λ epoch copy local to member is one there. refl;
        tells_copying = λ epoch local is. refl;
        switches = λ epoch copy member is there. refl;
        goes_on = λ left. refl;
      };
      closed = λ run at is. tt;
      durable = λ run is at on all. tt;
      stopped = tt;
      walks = λ member is at first there. refl;
      tells_local = λ epoch is at. refl;
    })).0
