-- A member that has confirmed a view has fenced its blocks at it first: requests for fences go down links in the order
-- of promises, and confirmations are counted against them. The induction goes along the log of the main host and along
-- the links to the other parts; it stands on memberships and follow.
pub mod AboveViews
pub mod AlwaysThere
pub mod Answers
pub mod Asked
pub mod AskedAndConfirmed
pub mod Confirming
pub mod Dropped
pub mod EachViewFenced
pub mod Hosts
pub mod Links
pub mod OfOwnMember
pub mod OwnNodes
pub mod Promised
pub mod Raised
pub mod Ranks
pub mod RequestsInOrder
pub mod RequestsTaken
pub mod Rows
pub mod Seen
pub mod Sent
pub mod WaitInOrder
pub mod WhatLinksOwe
