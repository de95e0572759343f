use Rattle.std.proofs.Common.{◌≡◌, ◌∙◌, ap}
use Rattle.std.specs.Prelude.{Some}
use Rattle.sig_core.specs.Rows.{place_of}
use Rattle.frag_store.specs.HeldPlaces.{HeldState, held_at, records_on}
use Rattle.frag_store.proofs.HeldLemmas.{freed_held, freed_records}
use Rattle.frag_store.proofs.held_places.HeldPlaces.free_idle.Goals as goal

pub invariant_of-self : goal.invariant_of-self
invariant_of-self c =
    let slots = c.self.inside.places.slots in
    let held = c.self.inside.held.items in
    let key = c.args.key.now in
    let is : place_of slots key ≡ Some c.args.at =
    ap (λ (h : HeldState). place_of h.places.slots key) c.self.view_is ∙ c.requires.place in
    let idle : held_at held (place_of slots key) ≡ 0 =
    ap (λ (h : HeldState). records_on h key) c.self.view_is ∙ c.requires.idle in
    freed_held slots c.free_idle.new.self.slots held c.self.invariant key c.args.at is idle c.free_idle.ensures.slots
    c.free_idle.ensures.gone

pub returns-clause-records : goal.returns-clause-records
returns-clause-records c = λ q.
    let slots = c.self.inside.places.slots in
    let held = c.self.inside.held.items in
    let key = c.args.key.now in
    let is : place_of slots key ≡ Some c.args.at =
    ap (λ (h : HeldState). place_of h.places.slots key) c.self.view_is ∙ c.requires.place in
    let idle : held_at held (place_of slots key) ≡ 0 =
    ap (λ (h : HeldState). records_on h key) c.self.view_is ∙ c.requires.idle in
    freed_records slots c.free_idle.new.self.slots held c.self.invariant key c.args.at is idle c.free_idle.ensures.slots
    c.free_idle.ensures.gone q
    ∙ ap (λ (h : HeldState). records_on h q) c.self.view_is
