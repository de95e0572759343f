-- Who has prepared an image of a key holds its lock exclusive, as all stands at each moment (commit_laws), and so is
-- alone (Alone): the rows of a member move only while it is one of the current view. Two that prepare one key would
-- both have it prepared behind the later event (Keep).
pub mod Alone
pub mod Keep
