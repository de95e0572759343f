-- A life on disks, from its beginning to a restart. By induction on its steps: a host goes on, with what the disk of
-- its node keeps of it (`Goes`), or the shell asks for something (`Asks`); the disk of each node keeps up, nobody is
-- told what it hasn't kept, and its system slots have the cluster's shape. What laws of runs say of journals and
-- epochs, so that slots have room, stands in `Savable`, `Epochs` and `Notable`; that what rows had saved before they
-- save more is durable, in `Before`. `Begins` and `Ends` are the two ends of a life.
pub mod Asks
pub mod Before
pub mod Begins
pub mod Ends
pub mod Epochs
pub mod Goes
pub mod Notable
pub mod Opened
pub mod Savable
