-- How many signals of one operation there are: it is under way as one at a time, so a part that comes is the only one.
-- Each step sends no more of them than it took and no longer waits for; summed over hosts and links. By induction
-- along the run (OneAtATime). Stands on transit.
pub mod Bystanders
pub mod Coordinator
pub mod Hosts
pub mod NoneWait
pub mod OneAtATime
pub mod OnlyToken
pub mod Owing
pub mod Performing
pub mod Rows
pub mod Signals
pub mod Still
pub mod TouchedLists
pub mod Turns
pub mod Waiting
