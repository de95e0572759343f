mod LatestLemmas
pub mod LawLemmas
pub mod ReplayLemmas
pub mod OrderLemmas
pub mod StoredLemmas
pub mod PieceLemmas
pub mod StoredReplay
