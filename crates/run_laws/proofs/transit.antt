-- What is under way between hosts after each run: of each link the signals that were sent and weren't taken, as lists
-- and as sums over them.
pub mod Lists
pub mod Runs
pub mod Transit
pub mod Weighing
