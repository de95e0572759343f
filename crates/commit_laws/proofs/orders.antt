-- In each view one takeover at most is ordered, by the membership of the oldest member: it sends as many orders, and
-- signals to go on to them, as it takes of these.
-- By induction along moments, on counts. All blocks but the membership order none, by their words.
pub mod All
pub mod Aside
pub mod Coordinator
pub mod Counts
pub mod First
pub mod Hosts
pub mod Main
pub mod Master
pub mod Membership
pub mod Oldest
pub mod Once
pub mod Others
pub mod Rows
pub mod Sent
pub mod Sound
pub mod Steps
pub mod Takeover
pub mod Together
pub mod UnorderedHosts
pub mod UnorderedRows
pub mod UnorderedViews
pub mod Unseen
pub mod Words
