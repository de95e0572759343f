use Rattle.std.proofs.Common.{refl}
use Rattle.std.specs.Prelude.{None}
use Rattle.tuple_pages.specs.Places.{places_in}
use Rattle.tuple_pages.proofs.FreeLemmas.{freed_holds, freed_room}
use Rattle.tuple_pages.proofs.PageLemmas.{freed_are, places_set, taken_inside, taken_there, there_page, there_slot}
use Rattle.tuple_pages.proofs.pages.vacate.Goals as goal

pub write-requires-clause-page : goal.write-requires-clause-page
write-requires-clause-page c =
    there_page c.args.pages.now.items c.args.len c.args.free.now c.requires.are c.args.at
    (taken_inside c.args.pages.now.items c.args.len c.args.free.now c.requires.are c.args.at c.requires.taken)

pub write-requires-clause-slot : goal.write-requires-clause-slot
write-requires-clause-slot c =
    there_slot c.args.pages.now.items c.args.len c.args.free.now c.requires.are c.args.at
    (taken_inside c.args.pages.now.items c.args.len c.args.free.now c.requires.are c.args.at c.requires.taken)

pub unreachable-requires : goal.unreachable-requires
unreachable-requires c =
    let there =
    taken_there c.args.pages.now.items c.args.len c.args.free.now c.requires.are c.args.at c.requires.taken in
    let fits = freed_room (places_in c.args.pages.now.items c.args.len) c.args.free.now c.push.new.self
    c.requires.are.holds c.args.at there in
    let never = c.in-Err.ensures.succeeds fits in
    absurd cc

pub returns-clause-slots : goal.returns-clause-slots
returns-clause-slots c =
    let inside =
    taken_inside c.args.pages.now.items c.args.len c.args.free.now c.requires.are c.args.at c.requires.taken in
    places_set c.args.pages.now.items c.args.len c.args.free.now c.requires.are c.write.new.pages.items c.args.free.now
    c.args.at None
    (there_page c.args.pages.now.items c.args.len c.args.free.now c.requires.are c.args.at inside)
    (there_slot c.args.pages.now.items c.args.len c.args.free.now c.requires.are c.args.at inside)
    c.write.ensures inside

pub returns-clause-are : goal.returns-clause-are
returns-clause-are c =
    let there =
    taken_there c.args.pages.now.items c.args.len c.args.free.now c.requires.are c.args.at c.requires.taken in
    freed_are c.args.pages.now.items c.args.len c.args.free.now c.requires.are c.write.new.pages.items c.push.new.self
    c.args.at
    c.write.ensures c.requires.taken
    (freed_holds (places_in c.args.pages.now.items c.args.len) c.args.free.now c.push.new.self c.requires.are.holds
    c.args.at _ refl there
    c.in-Ok.ensures.permutation c.in-Ok.ensures.heap_order c.in-Ok.ensures.len c.in-Ok.ensures.capacity)
