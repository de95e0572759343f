pub mod FreeLemmas
pub mod PageLemmas
