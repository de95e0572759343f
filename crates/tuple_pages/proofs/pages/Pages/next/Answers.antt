use Rattle.std.proofs.Common.{◌≡◌, ◌∙◌, ap}
use Rattle.tuple_pages.specs.Free.{first_free}
use Rattle.tuple_pages.specs.Places.{PagesState, places_in}
use Rattle.std.specs.BinaryHeap.{heap_items, heap_len}
use Rattle.tuple_pages.proofs.PageLemmas.{first_item, none_first, none_left, top_first}
use Rattle.tuple_pages.proofs.pages.Pages.next.Goals as goal

pub returns-in-Some : goal.returns-in-Some
returns-in-Some c =
    let slots : places_in c.self.inside.pages.items c.self.inside.len ≡ c.args.self.now.slots =
    ap (λ (p : PagesState). p.slots) c.self.view_is in
    let free = c.self.inside.free in
    top_first c.self.inside.pages.items c.self.inside.len free c.self.invariant c.in-Some.field-0.now
    (first_item (heap_items free) c.in-Some.field-0.now c.in-Some.ensures.item.0 c.in-Some.ensures.lookup)
    (c.in-Some.ensures.greatest c.self.invariant.holds.ordered)
    ∙ ap first_free slots

pub returns-in-None : goal.returns-in-None
returns-in-None c =
    let slots : places_in c.self.inside.pages.items c.self.inside.len ≡ c.args.self.now.slots =
    ap (λ (p : PagesState). p.slots) c.self.view_is in
    none_first c.self.inside.pages.items c.self.inside.len c.self.inside.free c.self.invariant
    (none_left (heap_len c.self.inside.free) (λ some. c.in-None.ensures.variant.1 some)) ∙ ap first_free slots
