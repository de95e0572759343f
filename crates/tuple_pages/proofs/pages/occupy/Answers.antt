use Rattle.tuple_pages.specs.Places.{places_in}
use Rattle.tuple_pages.proofs.FreeLemmas.{Popped}
use Rattle.tuple_pages.proofs.PageLemmas.{more_are, more_places, none_first, page_below, pop_are, pop_first, pop_inside}
use Rattle.tuple_pages.proofs.PageLemmas.{pop_places, slot_below, there_page, there_slot}
use Rattle.tuple_pages.proofs.pages.occupy.Goals as goal

pub write-requires-clause-page : goal.write-requires-clause-page
write-requires-clause-page c =
    let popped : Popped (places_in c.args.pages.now.items c.args.len.now) c.args.free.now c.pop.new.self
    c.requires.are.holds c.in-Some.field-0 = record {
      moved = c.in-Some.ensures.permutation;
      order = c.in-Some.ensures.heap_order;
      fewer = c.in-Some.ensures.len;
      same_room = c.in-Some.ensures.capacity;
    } in
    there_page c.args.pages.now.items c.args.len.now c.args.free.now c.requires.are c.in-Some.field-0.0
    (pop_inside c.args.pages.now.items c.args.len.now c.args.free.now c.requires.are c.args.pages.now.items
    c.pop.new.self c.in-Some.field-0 popped)

pub write-requires-clause-slot : goal.write-requires-clause-slot
write-requires-clause-slot c =
    let popped : Popped (places_in c.args.pages.now.items c.args.len.now) c.args.free.now c.pop.new.self
    c.requires.are.holds c.in-Some.field-0 = record {
      moved = c.in-Some.ensures.permutation;
      order = c.in-Some.ensures.heap_order;
      fewer = c.in-Some.ensures.len;
      same_room = c.in-Some.ensures.capacity;
    } in
    there_slot c.args.pages.now.items c.args.len.now c.args.free.now c.requires.are c.in-Some.field-0.0
    (pop_inside c.args.pages.now.items c.args.len.now c.args.free.now c.requires.are c.args.pages.now.items
    c.pop.new.self c.in-Some.field-0 popped)

pub returns-in-Some-clause-place : goal.returns-in-Some-clause-place
returns-in-Some-clause-place c =
    let popped : Popped (places_in c.args.pages.now.items c.args.len.now) c.args.free.now c.pop.new.self
    c.requires.are.holds c.in-Some.field-0 = record {
      moved = c.in-Some.ensures.permutation;
      order = c.in-Some.ensures.heap_order;
      fewer = c.in-Some.ensures.len;
      same_room = c.in-Some.ensures.capacity;
    } in
    pop_first c.args.pages.now.items c.args.len.now c.args.free.now c.requires.are c.args.pages.now.items c.pop.new.self
    c.in-Some.field-0 popped

pub returns-in-Some-clause-slots : goal.returns-in-Some-clause-slots
returns-in-Some-clause-slots c =
    let popped : Popped (places_in c.args.pages.now.items c.args.len.now) c.args.free.now c.pop.new.self
    c.requires.are.holds c.in-Some.field-0 = record {
      moved = c.in-Some.ensures.permutation;
      order = c.in-Some.ensures.heap_order;
      fewer = c.in-Some.ensures.len;
      same_room = c.in-Some.ensures.capacity;
    } in
    pop_places c.args.pages.now.items c.args.len.now c.args.free.now c.requires.are c.write.new.pages.items
    c.pop.new.self c.in-Some.field-0 popped
    c.args.slot c.write.ensures

pub returns-in-Some-clause-are : goal.returns-in-Some-clause-are
returns-in-Some-clause-are c =
    let popped : Popped (places_in c.args.pages.now.items c.args.len.now) c.args.free.now c.pop.new.self
    c.requires.are.holds c.in-Some.field-0 = record {
      moved = c.in-Some.ensures.permutation;
      order = c.in-Some.ensures.heap_order;
      fewer = c.in-Some.ensures.len;
      same_room = c.in-Some.ensures.capacity;
    } in
    pop_are c.args.pages.now.items c.args.len.now c.args.free.now c.requires.are c.write.new.pages.items c.pop.new.self
    c.in-Some.field-0 popped
    c.args.slot c.write.ensures

pub write-requires-in-None-clause-page : goal.write-requires-in-None-clause-page
write-requires-in-None-clause-page c = page_below c.args.pages.now.items c.args.len.now c.requires.room

pub write-requires-in-None-clause-slot : goal.write-requires-in-None-clause-slot
write-requires-in-None-clause-slot c =
    slot_below c.args.pages.now.items c.args.len.now c.requires.are.whole c.requires.room

pub returns-in-None-clause-place : goal.returns-in-None-clause-place
returns-in-None-clause-place c =
    none_first c.args.pages.now.items c.args.len.now c.args.free.now c.requires.are c.in-None.ensures.none

pub returns-in-None-clause-slots : goal.returns-in-None-clause-slots
returns-in-None-clause-slots c =
    more_places c.args.pages.now.items c.args.len.now c.args.free.now c.requires.are c.write-in-None.new.pages.items
    c.pop.new.self c.args.slot
    c.requires.room c.write-in-None.ensures c.in-None.ensures.none

pub returns-in-None-clause-are : goal.returns-in-None-clause-are
returns-in-None-clause-are c =
    more_are c.args.pages.now.items c.args.len.now c.args.free.now c.requires.are c.write-in-None.new.pages.items
    c.pop.new.self c.args.slot
    c.requires.room c.write-in-None.ensures c.in-None.ensures.none c.in-None.ensures.unchanged
    c.in-None.ensures.capacity
    c.requires.more
