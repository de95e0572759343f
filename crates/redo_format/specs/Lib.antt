pub mod Records
pub mod Reading
pub mod Decoding
pub mod Lent
