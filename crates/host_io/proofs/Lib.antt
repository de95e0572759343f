pub mod SourceLemmas
pub mod StateLemmas
pub mod LaidLemmas
pub mod FileLemmas
pub mod OutcomeLemmas
pub mod MemoryLemmas
