pub mod CoverLemmas
pub mod EditLemmas
pub mod EventLemmas
pub mod FirstRows
pub mod Firsts
pub mod LawLemmas
pub mod LockLemmas
mod PassingLemmas
pub mod RecordLemmas
pub mod RedoLemmas
pub mod StepLemmas
pub mod WayLemmas
