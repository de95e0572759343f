pub mod Blocks
pub mod Committed
pub mod Dih
pub mod Fresh
pub mod Replies
pub mod Requests
pub mod Row
