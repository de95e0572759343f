use Rattle.tuple_pages.proofs.PageLemmas.{no_places, none_are}
use Rattle.tuple_pages.proofs.pages.Pages.new.Goals as goal

pub invariant_of-result : goal.invariant_of-result
invariant_of-result c =
    none_are c.new.result.items c.new-2.result c.new.ensures.items c.new-2.ensures.items c.new-2.ensures.len
    c.new-2.ensures.heap_order

pub returns : goal.returns
returns c = no_places c.new.result.items
