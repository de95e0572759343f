use Rattle.std.proofs.Common.{◌∙◌, ap, sym, subst}
use Rattle.std.specs.Prelude.{List, Option}
use Rattle.sig_core.specs.declared.rows.Slot.{Slot}
use Rattle.sig_core.specs.Rows.{place_of}
use Rattle.frag_store.specs.HeldPlaces.{AreHeld, HeldState, held_at, records_on}
use Rattle.frag_store.proofs.HeldLemmas.{row_held, row_places}
use Rattle.frag_store.proofs.held_places.HeldPlaces.set_row.Goals as goal

pub invariant_of-self : goal.invariant_of-self
invariant_of-self c =
    let held = c.self.inside.held.items in
    let P : List (Option Slot) → Type 0 = λ ps. AreHeld ps held in
    subst P (sym c.set_row.ensures)
    (row_held c.self.inside.places.slots c.args.key.now c.args.row.now c.args.epoch held c.self.invariant)

pub returns-clause-records : goal.returns-clause-records
returns-clause-records c = λ q.
    let held = c.self.inside.held.items in
    ap (λ ps. held_at held (place_of ps q)) c.set_row.ensures
    ∙ ap (held_at held) (row_places c.self.inside.places.slots c.args.key.now c.args.row.now c.args.epoch q)
    ∙ ap (λ (h : HeldState). records_on h q) c.self.view_is
