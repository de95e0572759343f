-- Requests for the rows of a node: they are told in the order of their keys, each once.
pub mod Dump
pub mod GatheredRows
pub mod NoDump
pub mod PlacedRows
pub mod State
