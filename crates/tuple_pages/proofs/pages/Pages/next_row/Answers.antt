use Rattle.std.proofs.Common.{◌≡◌, ◌∙◌, ap, length, sym, arith}
use Rattle.tuple_pages.specs.Places.{PagesState, places_in}
use Rattle.tuple_pages.proofs.PageLemmas.{next_from, next_further, next_here, next_none, places-length, row_here}
use Rattle.tuple_pages.proofs.pages.Pages.next_row.Goals as goal

pub returns-then-has_row-clause-place : goal.returns-then-has_row-clause-place
returns-then-has_row-clause-place c =
    let pages = c.self.inside.pages.items in
    let slots : places_in c.self.inside.pages.items c.self.inside.len ≡ c.args.self.now.slots
    = ap (λ (p : PagesState). p.slots) c.self.view_is in
    let long : length c.args.self.now.slots ≡ c.self.inside.len
    = sym (ap length slots) ∙ places-length pages c.self.inside.len in
    sym
    (next_here
    c.args.self.now.slots
    c.loop-place.place
    (omega (arith, long, c.loop-place-test.true))
    (row_here
    pages
    c.self.inside.len
    c.self.inside.free
    c.args.self.now.slots
    c.loop-place.place
    c.place_at.result.now
    c.has_row.result
    c.self.invariant
    slots
    c.loop-place-test.true
    c.place_at.ensures
    c.has_row.ensures
    ∙ c.if-has_row.true))
    ∙ c.loop-place.invariant

pub loop-place-init : goal.loop-place-init
loop-place-init c =
    let slots : places_in c.self.inside.pages.items c.self.inside.len ≡ c.args.self.now.slots
    = ap (λ (p : PagesState). p.slots) c.self.view_is in
    let long : length c.args.self.now.slots ≡ c.self.inside.len
    = sym (ap length slots) ∙ places-length c.self.inside.pages.items c.self.inside.len in
    next_from c.args.self.now.slots c.args.at c.min-from.result (omega (arith, long, c.min-from.ensures))

pub loop-place-preserved : goal.loop-place-preserved
loop-place-preserved c =
    let pages = c.self.inside.pages.items in
    let slots : places_in c.self.inside.pages.items c.self.inside.len ≡ c.args.self.now.slots
    = ap (λ (p : PagesState). p.slots) c.self.view_is in
    let long : length c.args.self.now.slots ≡ c.self.inside.len
    = sym (ap length slots) ∙ places-length pages c.self.inside.len in
    sym
    (next_further
    c.args.self.now.slots
    c.loop-place.place
    (omega (arith, long, c.loop-place-test.true))
    (row_here
    pages
    c.self.inside.len
    c.self.inside.free
    c.args.self.now.slots
    c.loop-place.place
    c.place_at.result.now
    c.has_row.result
    c.self.invariant
    slots
    c.loop-place-test.true
    c.place_at.ensures
    c.has_row.ensures
    ∙ c.if-has_row.false))
    ∙ c.loop-place.invariant

pub returns-clause-place : goal.returns-clause-place
returns-clause-place c =
    let slots : places_in c.self.inside.pages.items c.self.inside.len ≡ c.args.self.now.slots
    = ap (λ (p : PagesState). p.slots) c.self.view_is in
    let long : length c.args.self.now.slots ≡ c.self.inside.len
    = sym (ap length slots) ∙ places-length c.self.inside.pages.items c.self.inside.len in
    sym
    (next_none
    c.args.self.now.slots
    c.loop-place.place
    (omega (arith, long, c.loop-place-test.false)))
    ∙ c.loop-place.invariant
