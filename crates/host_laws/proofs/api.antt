-- What the client's interface knows and does of its transactions, row by row and along its log.
pub mod Begins
pub mod Holds
pub mod Marks
pub mod Moves
pub mod Told
pub mod Wishes
