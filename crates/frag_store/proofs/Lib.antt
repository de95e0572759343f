-- `frag_store` goes up by layers, each of which knows the one below by its contracts alone. `KeyIndex` is the index
-- with three answers remembered, and is seen as an index: what is remembered is so of any index that leads those keys
-- there (`LeadLemmas.antt`). `Places` puts pages and index together: that the index leads to the places and the places
-- to their keys (`IsIndexed`) is a fact on lists and a map, kept by each change of either (`PlaceLemmas.antt`), and
-- where a key is led that has no place is told by `AheadLemmas.antt`. `HeldPlaces` adds the numbers of records: a
-- number is written at the place of its key, and no other key is at that place, so no other number changes
-- (`HeldLemmas.antt`); that two lists whose items pass a test at the same places have their first such item at the same
-- place (`same_positions`) carries every key but one over a change. `Store` adds the records of `row_records`.
pub mod AheadLemmas
pub mod HeldLemmas
pub mod LeadLemmas
pub mod PlaceLemmas
