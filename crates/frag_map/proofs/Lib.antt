mod AroundLemmas
pub mod FirstReplicas
mod GroupLemmas
mod ListLemmas
mod ShapeLemmas
mod TurnLemmas
