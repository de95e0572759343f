-- Where hosts of the plain machine send in calm: to places that take it, block by block.
pub mod Api
pub mod FineSends
pub mod Main
pub mod Placed
pub mod Plain
pub mod PlainReplies
pub mod PlainSends
pub mod Reached
pub mod Rows
pub mod Sent
pub mod ShellSends
pub mod Turns
