-- What the blocks beside the membership send, by kinds of signals. These are read off the words of each block.
pub mod Client
pub mod ClientKinds
pub mod Coordinator
pub mod Sent
pub mod Takeover
pub mod Turns
