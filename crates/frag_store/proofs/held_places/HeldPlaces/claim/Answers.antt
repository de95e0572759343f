use Rattle.std.proofs.Common.{◌∙◌, ◌<◌, ap, length, sym, subst}
use Rattle.std.specs.Prelude.{List, Option}
use Rattle.sig_core.specs.declared.rows.Slot.{Slot}
use Rattle.sig_core.specs.Rows.{place_of}
use Rattle.tuple_pages.specs.Free.{first_free}
use Rattle.frag_store.specs.HeldPlaces.{AreHeld, HeldState, held_at, records_on}
use Rattle.frag_store.proofs.HeldLemmas.{claimed_held, claimed_records}
use Rattle.frag_store.proofs.held_places.HeldPlaces.claim.Goals as goal

pub invariant_of-self : goal.invariant_of-self
invariant_of-self c =
    let slots = c.self.inside.places.slots in
    let held = c.self.inside.held.items in
    let W : HeldState → Type 0 = λ h. first_free h.places.slots < length h.held in
    let P : List (Option Slot) → Type 0 = λ ps. AreHeld ps held in
    subst P (sym c.claim.ensures.slots)
    (claimed_held slots held c.self.invariant c.args.key.now (subst W (sym c.self.view_is) c.requires.wide))

pub returns-clause-records : goal.returns-clause-records
returns-clause-records c = λ q.
    let slots = c.self.inside.places.slots in
    let held = c.self.inside.held.items in
    ap (λ ps. held_at held (place_of ps q)) c.claim.ensures.slots
    ∙ claimed_records slots held c.self.invariant c.args.key.now q
    ∙ ap (λ (h : HeldState). records_on h q) c.self.view_is
