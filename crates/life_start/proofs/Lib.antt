pub mod RecordLemmas
mod BeginLemmas
mod LackLemmas
mod ReadyRecords
mod RefusalLemmas
mod ShapeLemmas
pub mod SlotShape
mod SlotsLemmas
