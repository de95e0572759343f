-- What a transaction sends of a list in one event.
use Rattle.std.specs.Prelude.{ℕ, Bool, List}
use Rattle.sig_core.specs.declared.member.TxId.{TxId}
use Rattle.sig_core.specs.declared.outs.Outgoing.{Outgoing}
use Rattle.sig_core.specs.declared.signal.host.Work.TheVariants.{Transaction}
use Rattle.sig_core.specs.Place.{coordinator}
use Rattle.sig_core.specs.Portion as portions
use Rattle.sig_core.specs.Step.{Effects}

-- the signal that goes on behind the part, if something of the list is left
abbrev pub rest_if : ℕ → TxId → ℕ → Bool → List Outgoing
rest_if node tx at more = portions.rest_if (coordinator node) (Transaction tx) at more

abbrev pub rest : ℕ → TxId → List Outgoing → ℕ → List Outgoing
rest node tx sends at = portions.rest (coordinator node) (Transaction tx) sends at

-- what an event sends for a transaction that has this list to send, from a place on
unfoldable pub part_effects : ℕ → TxId → List Outgoing → ℕ → Effects
part_effects node tx sends at = portions.portion_effects (coordinator node) (Transaction tx) sends at
