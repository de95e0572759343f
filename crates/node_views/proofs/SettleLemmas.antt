-- A step by which the membership settles on a view leaves room for what the installation sends.
use Rattle.std.proofs.Common.{◌≡◌, ◌≤◌, ◌+◌, Option, None, Some, length, sym, ap, arith}
use Rattle.std.specs.Prelude.{IfOk, IfSome, OnOk, Result, Ok, Err}
use Rattle.std.proofs.lemmas.List.{length-append}
use Rattle.sig_core.specs.declared.signal.Signal.{Signal}
use Rattle.sig_core.specs.declared.view.View.{View}
use Rattle.sig_core.specs.Step.{Effects, IsTaken}
use Rattle.qmgr_block.specs.Qmgr.{qmgr_row}
use Rattle.qmgr_block.specs.Settle.{qmgr_settles}
use Rattle.qmgr_block.specs.State.{QmgrState}
use Rattle.qmgr_block.proofs.Settles.{settles_few, settles_may}

pub leaves_room : {E : Type 0} (s now : QmgrState) (x : Signal) (out out_now : Effects) (r : Result (Option View) E)
    → IfOk r (λ settled. settled ≡ qmgr_settles s x) → OnOk r (IsTaken (qmgr_row s x) now out out_now)
    → IfOk r (λ settled. IfSome settled (λ v. length out_now.sends ≤ length out.sends + 1))
leaves_room s now x out out_now (Ok (Some view)) is taken =
    omega (
      arith,
      ap (λ (e : Effects). length e.sends) taken.effects,
      length-append out.sends (qmgr_row s x).effects.sends,
      settles_few s x (settles_may s x view (sym is)),
    )
leaves_room s now x out out_now (Ok None) is taken = tt
leaves_room s now x out out_now (Err fault) is taken = tt

pub ruleset settles = (leaves_room)
