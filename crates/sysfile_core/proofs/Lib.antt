pub mod DiskLemmas
pub mod FileLemmas
pub mod FoundLemmas
pub mod ReadLemmas
pub mod RunLemmas
pub mod SlotLemmas
pub mod StepLemmas
pub mod WriteLemmas
