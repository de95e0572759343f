-- `Records` is a map from transaction and key to what the transaction makes of the row, in the order of its entries, so
-- the list of records has no invariant: it is what the entries say (`specs/Records.antt`), and a record stands where
-- its id does (`RecordLemmas.antt`). The number of records that is kept beside a key is their number
-- (`CountLemmas.antt`). `RowLemmas.antt` says what commits, aborts and completions come to where the record is found.
pub mod CountLemmas
pub mod EntryLemmas
pub mod KeyLemmas
pub mod PlaceLemmas
pub mod RecordLemmas
pub mod RowLemmas
