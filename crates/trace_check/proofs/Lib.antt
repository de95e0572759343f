pub mod AllLemmas
pub mod AnswerLemmas
pub mod CompareLemmas
pub mod HistoryLemmas
pub mod LabelLemmas
pub mod RefusedLemmas
pub mod SameLemmas
pub mod StepLemmas
