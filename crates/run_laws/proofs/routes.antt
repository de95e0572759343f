-- What is sent along chains goes to the places that it is for, and what comes to a host is for it. By induction along
-- the run, a block at a time.
pub mod Addressed
pub mod Chain
pub mod Coordinator
pub mod Events
pub mod Routes
pub mod Rows
pub mod Sends
