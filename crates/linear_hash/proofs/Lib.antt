pub mod FoundLemmas
pub mod HomeLemmas
pub mod PlaceLemmas
pub mod SplitLemmas
