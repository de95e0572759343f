mod GrantLemmas
mod LawLemmas
mod SetLemmas
pub mod Walk
