-- Signals of which none is a request of the shell.
use Rattle.std.proofs.Common.{◌≡◌, List, [], ◌∷◌, Bool, true, false, refl}
use Rattle.std.specs.Prelude.{if◌then◌else◌}
use Rattle.run_theory.specs.Lists.{Each}
use Rattle.sig_core.specs.declared.outs.Outgoing.{Outgoing}
use Rattle.sig_core.specs.Step.{Step}
use Rattle.api_block.specs.Requests.{asks_nothing, is_request}

-- a step that sends no request
abbrev pub AsksNothing : {S : Type 0} → Step S → Type 0
AsksNothing step = asks_nothing step.effects.sends ≡ true

-- a signal that is none
abbrev pub AsksNone : Outgoing → Type 0
AsksNone o = is_request o.body ≡ false

-- where none of them is one, none is asked for
pub each_asks_none : (sends : List Outgoing) → Each AsksNone sends → asks_nothing sends ≡ true
each_asks_none [] all = refl
each_asks_none (o ∷ more) all = by (is_request o.body) all.0 (each_asks_none more all.1)
  where
    by : (b : Bool) {rest : Bool} → b ≡ false → rest ≡ true → (if b then false else rest) ≡ true
    by true none rest = cc
    by false none rest = rest
