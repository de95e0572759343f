pub mod DifferenceLemmas
pub mod LegalLemmas
pub mod Prefixes
pub mod Walks
