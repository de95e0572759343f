-- A wish for a transaction: it begins where its coordinator isn't full, and else is refused; also where it is asked
-- for with an operation.
pub mod Begins
pub mod Lone
pub mod Rows
pub mod TurnedDown
