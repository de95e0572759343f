pub mod ClosedLemmas
pub mod MergeLemmas
