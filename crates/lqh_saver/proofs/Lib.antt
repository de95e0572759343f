pub mod RedoLemmas
pub mod StepLemmas
pub mod Walk
