-- Where a host stands: in a view of which its member is one, whose number never falls, and on which a membership
-- settles only as the oldest of it.
pub mod Home
pub mod Members
pub mod Numbers
pub mod Oldest
pub mod Settled
