-- Lists of sends of which one event sends a portion.
use Rattle.std.specs.Prelude.{◌≡◌, ℕ, Bool, true, List}
use Rattle.run_theory.specs.Lists.{Each}
use Rattle.sig_core.specs.declared.outs.Outgoing.{Outgoing}
use Rattle.sig_core.specs.declared.place.Place.{Place}
use Rattle.sig_core.specs.declared.signal.host.Work.{Work}
use Rattle.sig_core.specs.Portion.{go_on_at, portion_effects}

-- what passes this test
abbrev pub Passes : (Outgoing → Bool) → Outgoing → Type 0
Passes test sent = test sent ≡ true

-- What passes the test of each signal of a list, and of that by which a block goes on with it, passes it of a portion.
abbrev pub PortionsAreOfTheirLists : Type 0
PortionsAreOfTheirLists =
    (test : Outgoing → Bool) (by : Place) (work : Work) (sends : List Outgoing) (at : ℕ)
    → ((left : ℕ) → Passes test (go_on_at by work left)) → Each (Passes test) sends
    → Each (Passes test) (portion_effects by work sends at).sends
