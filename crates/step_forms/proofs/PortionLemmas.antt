-- What is so of each signal of a list is so of each that an event sends of it.
use Rattle.std.proofs.Common.{◌+◌, ℕ, Bool, true, false, List, drop, length, nat_lt, take}
use Rattle.run_theory.specs.Lists.{Each}
use Rattle.run_theory.proofs.EachSent.{each_drop, each_take}
use Rattle.run_theory.proofs.Pasts.{each_append}
use Rattle.sig_core.specs.declared.outs.Outgoing.{Outgoing}
use Rattle.sig_core.specs.declared.place.Place.{Place}
use Rattle.sig_core.specs.declared.portion.TheConstants.{PORTION}
use Rattle.sig_core.specs.declared.signal.host.Work.{Work}
use Rattle.sig_core.specs.Portion.{go_on_at, portion_effects, rest_if}
use Rattle.step_forms.specs.Portions.{Passes, PortionsAreOfTheirLists}

-- also of the signal by which the block goes on with the list
pub portion_each : (P : Outgoing → Type 0) (by : Place) (work : Work) (sends : List Outgoing) (at : ℕ)
    → ((left : ℕ) → P (go_on_at by work left)) → Each P sends → Each P (portion_effects by work sends at).sends
portion_each P by work sends at goes_on all =
    each_append P (take PORTION (drop at sends)) (rest_if by work at more)
    (each_take P PORTION (drop at sends) (each_drop P at sends all)) (rest more)
  where
    more : Bool
    more = nat_lt (at + PORTION) (length sends)

    rest : (b : Bool) → Each P (rest_if by work at b)
    rest true = (goes_on (at + PORTION), tt)
    rest false = tt

pub portions_law : PortionsAreOfTheirLists
portions_law test by work sends at goes_on all = portion_each (Passes test) by work sends at goes_on all
