-- Lists of sends, of which one event sends eight.
use Rattle.std.specs.Prelude.{ℕ, ◌+◌, ◌-◌, Bool, true, false, nat_lt, List, [], ◌∷◌, ◌++◌, length, take, drop}
use Rattle.sig_core.specs.declared.outs.Outgoing.{Outgoing}
use Rattle.sig_core.specs.declared.place.Place.{Place}
use Rattle.sig_core.specs.declared.portion.Portion.{Portion}
use Rattle.sig_core.specs.declared.portion.TheConstants.{PORTION}
use Rattle.sig_core.specs.declared.signal.Body.TheVariants.{Host}
use Rattle.sig_core.specs.declared.signal.host.HostSignal.TheVariants.{Continue}
use Rattle.sig_core.specs.declared.signal.host.Work.{Work}
use Rattle.sig_core.specs.Step.{Effects, and_send, to_place}

-- what an event sends of a list, from a place on
abbrev pub portion : List Outgoing → ℕ → List Outgoing
portion sends at = take PORTION (drop at sends)

-- the signal by which a block goes on with this work, at a place of its list
abbrev pub go_on_at : Place → Work → ℕ → Outgoing
go_on_at by work at = to_place by (Host (Continue work at))

abbrev pub rest_if : Place → Work → ℕ → Bool → List Outgoing
rest_if by work at true = go_on_at by work (at + PORTION) ∷ []
rest_if by work at false = []

-- the signal that goes on behind the portion, if something of the list is left
abbrev pub rest : Place → Work → List Outgoing → ℕ → List Outgoing
rest by work sends at = rest_if by work at (nat_lt (at + PORTION) (length sends))

-- the place from which a list goes on after an event that sent from a place on; 0 where nothing is left
abbrev pub left_if : ℕ → Bool → ℕ
left_if at true = at + PORTION
left_if at false = 0

abbrev pub left_after : List Outgoing → ℕ → ℕ
left_after sends at = left_if at (nat_lt (at + PORTION) (length sends))

-- what an event sends for a block that has this list to send for this work, from a place on
abbrev pub portion_effects : Place → Work → List Outgoing → ℕ → Effects
portion_effects by work sends at = record { sends = portion sends at ++ rest by work sends at; marks = [] }

-- how far an event has come with a list, and what it has done
pub record Offered : Type 0 where
  pub portion : Portion
  pub effects : Effects

-- one more of the list: it is passed over, sent, or left for later
abbrev pub offered_by : Portion → Effects → Outgoing → Bool → Bool → Offered
offered_by p effects send true room = record {
  portion = record { skip = p.skip - 1; room = p.room; more = p.more };
  effects = effects;
}
offered_by p effects send false true = record {
  portion = record { skip = p.skip; room = p.room - 1; more = p.more };
  effects = and_send effects send.to send.body;
}
offered_by p effects send false false = record {
  portion = record { skip = p.skip; room = p.room; more = true };
  effects = effects;
}

abbrev pub offered : Offered → Outgoing → Offered
offered o send = offered_by o.portion o.effects send (nat_lt 0 o.portion.skip) (nat_lt 0 o.portion.room)

-- all of a list
abbrev pub all_offered : Offered → List Outgoing → Offered
all_offered o [] = o
all_offered o (send ∷ sends) = all_offered (offered o send) sends

-- an event that has offered nothing, and sends from a place on
abbrev pub offered_from : ℕ → Effects → Offered
offered_from at effects = record { portion = record { skip = at; room = PORTION; more = false }; effects = effects }

-- what is offered, as the code holds it
abbrev pub so_far : Portion → Effects → Offered
so_far p effects = record { portion = p; effects = effects }
