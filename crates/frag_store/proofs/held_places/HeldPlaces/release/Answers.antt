use Rattle.std.proofs.Common.{◌≡◌, ◌∙◌, ◌+◌, ◌-◌, ap, arith, cond, get_or, sym, subst}
use Rattle.std.specs.Prelude.{List, Some, ℕ}
use Rattle.sig_core.specs.Rows.{place_of}
use Rattle.sig_core.specs.Same.{same_key}
use Rattle.frag_store.specs.HeldPlaces.{AreHeld, HeldState, held_at, records_on}
use Rattle.frag_store.proofs.HeldLemmas.{less_held, own_number, placed_within, written_held}
use Rattle.frag_store.proofs.held_places.HeldPlaces.release.Goals as goal

pub number_at-before-requires : goal.number_at-before-requires
number_at-before-requires c =
    let slots = c.self.inside.places.slots in
    let held = c.self.inside.held.items in
    let key = c.args.key.now in
    let is : place_of slots key ≡ Some c.args.at =
    ap (λ (h : HeldState). place_of h.places.slots key) c.self.view_is ∙ c.requires.place in
    placed_within slots held c.self.invariant key c.args.at is

pub overflow_sub-left : goal.overflow_sub-left
overflow_sub-left c =
    let slots = c.self.inside.places.slots in
    let held = c.self.inside.held.items in
    let key = c.args.key.now in
    let is : place_of slots key ≡ Some c.args.at =
    ap (λ (h : HeldState). place_of h.places.slots key) c.self.view_is ∙ c.requires.place in
    let was : get_or held c.args.at 0 ≡ records_on c.args.self.now key =
    sym (ap (held_at held) is) ∙ ap (λ (h : HeldState). records_on h key) c.self.view_is in
    omega (arith, c.requires.some, c.number_at-before.ensures, was)

pub write-requires : goal.write-requires
write-requires c =
    let slots = c.self.inside.places.slots in
    let held = c.self.inside.held.items in
    let key = c.args.key.now in
    let is : place_of slots key ≡ Some c.args.at =
    ap (λ (h : HeldState). place_of h.places.slots key) c.self.view_is ∙ c.requires.place in
    placed_within slots held c.self.invariant key c.args.at is

pub invariant_of-self : goal.invariant_of-self
invariant_of-self c =
    let slots = c.self.inside.places.slots in
    let held = c.self.inside.held.items in
    let key = c.args.key.now in
    let is : place_of slots key ≡ Some c.args.at =
    ap (λ (h : HeldState). place_of h.places.slots key) c.self.view_is ∙ c.requires.place in
    let within = placed_within slots held c.self.invariant key c.args.at is in
    let P : List ℕ → Type 0 = λ hs. AreHeld slots hs in
    subst P (sym c.write.ensures)
    (written_held slots held key c.args.at is within (c.number_at-before.result - 1) c.self.invariant)

pub returns-clause-left : goal.returns-clause-left
returns-clause-left c =
    let slots = c.self.inside.places.slots in
    let held = c.self.inside.held.items in
    let key = c.args.key.now in
    let is : place_of slots key ≡ Some c.args.at =
    ap (λ (h : HeldState). place_of h.places.slots key) c.self.view_is ∙ c.requires.place in
    let within = placed_within slots held c.self.invariant key c.args.at is in
    ap (λ hs. held_at hs (place_of slots key)) c.write.ensures
    ∙ own_number slots held key c.args.at is within (c.number_at-before.result - 1)

pub returns-clause-records : goal.returns-clause-records
returns-clause-records c = λ q.
    let slots = c.self.inside.places.slots in
    let held = c.self.inside.held.items in
    let key = c.args.key.now in
    let is : place_of slots key ≡ Some c.args.at =
    ap (λ (h : HeldState). place_of h.places.slots key) c.self.view_is ∙ c.requires.place in
    let within = placed_within slots held c.self.invariant key c.args.at is in
    let was : get_or held c.args.at 0 ≡ records_on c.args.self.now key =
    sym (ap (held_at held) is) ∙ ap (λ (h : HeldState). records_on h key) c.self.view_is in
    let less : c.number_at-before.result - 1 + 1 ≡ get_or held c.args.at 0 =
    omega (arith, c.requires.some, c.number_at-before.ensures, was) in
    ap (λ hs. held_at hs (place_of slots q) + cond (same_key key q) 1 0) c.write.ensures
    ∙ less_held slots held key c.args.at is within (c.number_at-before.result - 1) less q
    ∙ ap (λ (h : HeldState). records_on h q) c.self.view_is
