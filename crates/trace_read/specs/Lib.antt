pub mod Reading
pub mod Traces
