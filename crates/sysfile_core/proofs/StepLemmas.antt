-- The steps of a slot's write.
use Rattle.std.proofs.Common.{◌≡◌, ◌+◌, ◌-◌, [], ◌∷◌, length, take, drop, ap, arith, length-drop}
use Rattle.std.proofs.lemmas.List.{take_all}
use Rattle.host_io.specs.Call.{Wrote, Synced}
use Rattle.sysfile_core.specs.declared.place.TheConstants.{OPEN}
use Rattle.sysfile_core.specs.Places.{place_of}
use Rattle.sysfile_core.specs.Steps.{StepsAreTheCalls}
use Rattle.sysfile_core.specs.Writing.{closing_by, stands_closed}

pub steps_are_calls : StepsAreTheCalls
steps_are_calls bytes slot file which some =
    let at = place_of which in
    let rest : take (length slot - 1) (drop 1 slot) ≡ drop 1 slot =
    take_all (length slot - 1) (drop 1 slot) (omega (arith, length-drop 1 slot)) in
    ap
    (λ body.
    closing_by (stands_closed at bytes) file at ∷ Synced file ∷ Wrote file (at + 1) body ∷ Synced file
    ∷ Wrote file at (OPEN ∷ []) ∷ Synced file ∷ [])
    rest
