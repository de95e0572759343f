-- A transaction that is given an epoch is counted by its member until its coordinator forgets it, and forgets it only
-- when it is done. By induction along the logs of one node, on the turns of its coordinator.
pub mod Forgotten
pub mod ForgottenAreDone
pub mod OrForgotten
pub mod OtherHosts
pub mod Turns
pub mod UntilItsEnd
