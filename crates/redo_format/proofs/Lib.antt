pub mod Readers
pub mod RecordReaders
pub mod RecordLaws
