use Rattle.std.proofs.Common.{◌≡◌, ◌∙◌, ap, sym, subst}
use Rattle.std.specs.Prelude.{List, Option, Some}
use Rattle.sig_core.specs.declared.rows.Slot.{Slot}
use Rattle.sig_core.specs.Rows.{place_of, set_row}
use Rattle.frag_store.specs.Places.{IsIndexed}
use Rattle.frag_store.proofs.PlaceLemmas.{is_taken, rewritten_indexed, row_written}
use Rattle.frag_store.proofs.places.Places.set_row.Goals as goal

pub set-requires : goal.set-requires
set-requires c =
    let slots = c.self.inside.pages.slots in
    let index = c.self.inside.index.at in
    let key = c.args.key.now in
    let same_slots : slots ≡ c.args.self.now.slots = ap (λ p. p.slots) c.self.view_is in
    let there : place_of slots key ≡ Some c.in-Some.at =
    ap (λ ps. place_of ps key) same_slots ∙ sym c.in-Some.ensures in
    is_taken slots index c.self.inside.spare c.self.invariant key c.in-Some.at there

pub invariant_of-self : goal.invariant_of-self
invariant_of-self c =
    let slots = c.self.inside.pages.slots in
    let index = c.self.inside.index.at in
    let key = c.args.key.now in
    let same_slots : slots ≡ c.args.self.now.slots = ap (λ p. p.slots) c.self.view_is in
    let there : place_of slots key ≡ Some c.in-Some.at =
    ap (λ ps. place_of ps key) same_slots ∙ sym c.in-Some.ensures in
    let P : List (Option Slot) → Type 0 = λ ps. IsIndexed ps index c.self.inside.spare in
    subst P (sym c.set.ensures.slots)
    (rewritten_indexed slots index c.self.inside.spare c.self.invariant key c.in-Some.at c.args.row.now c.args.epoch
    there)

pub returns-in-Some : goal.returns-in-Some
returns-in-Some c =
    let slots = c.self.inside.pages.slots in
    let index = c.self.inside.index.at in
    let key = c.args.key.now in
    let same_slots : slots ≡ c.args.self.now.slots = ap (λ p. p.slots) c.self.view_is in
    let there : place_of slots key ≡ Some c.in-Some.at =
    ap (λ ps. place_of ps key) same_slots ∙ sym c.in-Some.ensures in
    c.set.ensures.slots
    ∙ row_written slots index c.self.inside.spare c.self.invariant key c.in-Some.at c.args.row.now c.args.epoch there
    ∙ ap (λ ps. set_row ps key c.args.row.now c.args.epoch) same_slots
