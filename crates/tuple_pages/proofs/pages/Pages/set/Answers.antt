use Rattle.std.proofs.Common.{◌≡◌, ◌∙◌, ap, get_or, refl, true}
use Rattle.std.specs.Prelude.{None, is_some}
use Rattle.tuple_pages.specs.Places.{PagesState, place_at, places_in, rewritten}
use Rattle.std.proofs.Common.{set, nat_lt, ◌&&◌, ◌*◌}
use Rattle.std.specs.BinaryHeap.{heap_capacity}
use Rattle.tuple_pages.specs.declared.page.TheConstants.{PAGE_SLOTS}
use Rattle.tuple_pages.proofs.PageLemmas.{row_are, row_length, row_places, taken_inside, there_page, there_slot}
use Rattle.tuple_pages.proofs.pages.Pages.set.Goals as goal

pub rewrite-requires-clause-page : goal.rewrite-requires-clause-page
rewrite-requires-clause-page c =
    let slots : places_in c.self.inside.pages.items c.self.inside.len ≡ c.args.self.now.slots =
    ap (λ (p : PagesState). p.slots) c.self.view_is in
    let there : is_some (get_or (places_in c.self.inside.pages.items c.self.inside.len) c.args.at None) ≡ true =
    ap (λ ps. is_some (get_or ps c.args.at None)) slots ∙ c.requires in
    there_page c.self.inside.pages.items c.self.inside.len c.self.inside.free c.self.invariant c.args.at
    (taken_inside c.self.inside.pages.items c.self.inside.len c.self.inside.free c.self.invariant c.args.at there)

pub rewrite-requires-clause-slot : goal.rewrite-requires-clause-slot
rewrite-requires-clause-slot c =
    let slots : places_in c.self.inside.pages.items c.self.inside.len ≡ c.args.self.now.slots =
    ap (λ (p : PagesState). p.slots) c.self.view_is in
    let there : is_some (get_or (places_in c.self.inside.pages.items c.self.inside.len) c.args.at None) ≡ true =
    ap (λ ps. is_some (get_or ps c.args.at None)) slots ∙ c.requires in
    there_slot c.self.inside.pages.items c.self.inside.len c.self.inside.free c.self.invariant c.args.at
    (taken_inside c.self.inside.pages.items c.self.inside.len c.self.inside.free c.self.invariant c.args.at there)

pub invariant_of-self : goal.invariant_of-self
invariant_of-self c =
    let slots : places_in c.self.inside.pages.items c.self.inside.len ≡ c.args.self.now.slots =
    ap (λ (p : PagesState). p.slots) c.self.view_is in
    let there : is_some (get_or (places_in c.self.inside.pages.items c.self.inside.len) c.args.at None) ≡ true =
    ap (λ ps. is_some (get_or ps c.args.at None)) slots ∙ c.requires in
    row_are c.self.inside.pages.items c.self.inside.len c.self.inside.free c.self.invariant
    c.rewrite.new.pages.items c.args.at
    (rewritten (place_at c.self.inside.pages.items c.args.at) c.args.row.now c.args.epoch) c.args.row.now c.args.epoch
    c.rewrite.ensures refl there

pub returns-clause-slots : goal.returns-clause-slots
returns-clause-slots c =
    let slots : places_in c.self.inside.pages.items c.self.inside.len ≡ c.args.self.now.slots =
    ap (λ (p : PagesState). p.slots) c.self.view_is in
    let there : is_some (get_or (places_in c.self.inside.pages.items c.self.inside.len) c.args.at None) ≡ true =
    ap (λ ps. is_some (get_or ps c.args.at None)) slots ∙ c.requires in
    row_places c.self.inside.pages.items c.self.inside.len c.self.inside.free c.self.invariant
    c.rewrite.new.pages.items c.args.at
    (rewritten (place_at c.self.inside.pages.items c.args.at) c.args.row.now c.args.epoch) c.args.row.now c.args.epoch
    c.rewrite.ensures refl there
    ∙ ap (λ ps. set ps c.args.at (rewritten (get_or ps c.args.at None) c.args.row.now c.args.epoch)) slots

pub returns-clause-room : goal.returns-clause-room
returns-clause-room c =
    let slots : places_in c.self.inside.pages.items c.self.inside.len ≡ c.args.self.now.slots =
    ap (λ (p : PagesState). p.slots) c.self.view_is in
    let there : is_some (get_or (places_in c.self.inside.pages.items c.self.inside.len) c.args.at None) ≡ true =
    ap (λ ps. is_some (get_or ps c.args.at None)) slots ∙ c.requires in
    ap (λ n. nat_lt c.self.inside.len (PAGE_SLOTS * n) && nat_lt c.self.inside.len (heap_capacity c.self.inside.free))
    (row_length c.self.inside.pages.items c.self.inside.len c.self.inside.free c.self.invariant
    c.rewrite.new.pages.items c.args.at
    (rewritten (place_at c.self.inside.pages.items c.args.at) c.args.row.now c.args.epoch) c.args.row.now c.args.epoch
    c.rewrite.ensures refl there)
    ∙ ap (λ (p : PagesState). p.roomy) c.self.view_is
