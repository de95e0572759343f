-- An operation alone, whose transaction is begun, performed and ended with it.
pub mod Answered
pub mod Asks
pub mod Committed
pub mod GivenUp
pub mod Wishes
