pub mod HashedLemmas
pub mod ListingLemmas
pub mod SortedLemmas
pub mod StoredLemmas
