-- Signals of some kinds, as a block sends no others, and lists of them, of which one event sends a part.
use Rattle.std.proofs.Common.{◌≡◌, ℕ, Bool, true, List}
use Rattle.run_theory.specs.Lists.{Each}
use Rattle.run_theory.proofs.Pasts.{each_map}
use Rattle.sig_core.specs.declared.outs.Outgoing.{Outgoing}
use Rattle.sig_core.specs.declared.place.Place.{Place}
use Rattle.sig_core.specs.declared.signal.Body.{Body}
use Rattle.sig_core.specs.declared.signal.Body.TheVariants.{Host}
use Rattle.sig_core.specs.declared.signal.host.HostSignal.TheVariants.{Continue}
use Rattle.sig_core.specs.declared.signal.host.Work.{Work}
use Rattle.sig_core.specs.Portion.{portion_effects}
use Rattle.sig_core.specs.Step.{Step}
use Rattle.step_forms.proofs.PortionLemmas.{portion_each}

-- what is sent is of these kinds
abbrev pub IsOf : (Body → Bool) → Outgoing → Type 0
IsOf kinds sent = kinds sent.body ≡ true

abbrev pub AreOf : (Body → Bool) → List Outgoing → Type 0
AreOf kinds sends = Each (IsOf kinds) sends

-- a step sends no others
abbrev pub SendsOf : {S : Type 0} → (Body → Bool) → Step S → Type 0
SendsOf kinds step = AreOf kinds step.effects.sends

-- of such a list each part is one, if the block may also tell itself to go on
pub portion_kinds : (kinds : Body → Bool) (by : Place) (work : Work) (sends : List Outgoing) (at : ℕ)
    → ((left : ℕ) → kinds (Host (Continue work left)) ≡ true) → AreOf kinds sends
    → AreOf kinds (portion_effects by work sends at).sends
portion_kinds kinds by work sends at goes_on all = portion_each (IsOf kinds) by work sends at goes_on all

-- what holds of signals of these kinds holds of them all
pub each_of_kinds : (kinds : Body → Bool) (Q : Body → Type 0) (sends : List Outgoing)
    → ((body : Body) → kinds body ≡ true → Q body)
    → AreOf kinds sends → Each (λ (sent : Outgoing). Q sent.body) sends
each_of_kinds kinds Q sends so all = each_map (IsOf kinds) (λ sent. Q sent.body) sends (λ sent is. so sent.body is) all
