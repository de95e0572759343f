-- What stands of takeovers at a moment: what they are told is so, who none told of aborts, and of who commits all is
-- closed.
-- It goes on from event to event with the fates. It stands on gatherings that are whole.
pub mod Closes
pub mod Events
pub mod GoesOn
pub mod Next
pub mod Reports
pub mod Rests
pub mod Told
pub mod Words
