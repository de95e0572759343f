use Rattle.std.proofs.Common.{◌≡◌, ◌∙◌, ap, sym, subst}
use Rattle.std.specs.Prelude.{List, Option, Some}
use Rattle.sig_core.specs.declared.rows.Slot.{Slot}
use Rattle.sig_core.specs.Rows.{place_of}
use Rattle.frag_store.specs.Places.{IsIndexed}
use Rattle.frag_store.proofs.PlaceLemmas.{freed_gone, freed_indexed, is_taken}
use Rattle.frag_store.proofs.places.Places.vacate.Goals as goal

pub free-requires : goal.free-requires
free-requires c =
    let slots = c.self.inside.pages.slots in
    let index = c.self.inside.index.at in
    let key = c.args.key.now in
    let same_slots : slots ≡ c.args.self.now.slots = ap (λ p. p.slots) c.self.view_is in
    let there : place_of slots key ≡ Some c.args.at = ap (λ ps. place_of ps key) same_slots ∙ c.requires in
    is_taken slots index c.self.inside.spare c.self.invariant key c.args.at there

pub invariant_of-self : goal.invariant_of-self
invariant_of-self c =
    let slots = c.self.inside.pages.slots in
    let index = c.self.inside.index.at in
    let key = c.args.key.now in
    let same_slots : slots ≡ c.args.self.now.slots = ap (λ p. p.slots) c.self.view_is in
    let there : place_of slots key ≡ Some c.args.at = ap (λ ps. place_of ps key) same_slots ∙ c.requires in
    let P : List (Option Slot) → Type 0 = λ ps. IsIndexed ps c.leave.new.self.at c.self.inside.spare in
    subst P (sym c.free.ensures)
    (freed_indexed slots index c.self.inside.spare c.self.invariant c.leave.new.self.at key c.args.at there
    c.leave.ensures.gone
    c.leave.ensures.others)

pub returns-clause-gone : goal.returns-clause-gone
returns-clause-gone c =
    let slots = c.self.inside.pages.slots in
    let key = c.args.key.now in
    let same_slots : slots ≡ c.args.self.now.slots = ap (λ p. p.slots) c.self.view_is in
    let there : place_of slots key ≡ Some c.args.at = ap (λ ps. place_of ps key) same_slots ∙ c.requires in
    ap (λ ps. place_of ps key) c.free.ensures
    ∙ freed_gone slots c.self.inside.index.at c.self.inside.spare c.self.invariant key c.args.at there
