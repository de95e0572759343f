-- A takeover orders none, and sends no membership a signal to go on.
use Rattle.std.proofs.Common.{refl}
use Rattle.sig_core.specs.declared.mark.Mark.{Mark}
use Rattle.sig_core.specs.declared.signal.Signal.{Signal}
use Rattle.takeover_block.specs.State.{TakeoverState}
use Rattle.takeover_block.specs.Takeover.{takeover_row}
use Rattle.takeover_block.proofs.Walk.{takeover_does}
use Rattle.commit_laws.proofs.orders.Words.{IsQuiet, SendsQuiet}

pub takeover_quiet : (s : TakeoverState) (x : Signal) → SendsQuiet (takeover_row s x)
takeover_quiet s x =
    (takeover_does s x IsQuiet (λ (mark : Mark). Unit {0}) (record {
      asks = λ member. refl;
      asks_on = λ left. refl;
      commits = λ g epoch n drives key there. refl;
      confirms = λ g epoch n drives. refl;
      completes = λ g epoch n drives key there. refl;
      aborts = λ g n drives key there member among. refl;
      drives_on = λ g left. refl;
      gives_up = λ g key n is first at last. refl;
      ends = λ gathered rules none. (refl, refl);
    })).0
