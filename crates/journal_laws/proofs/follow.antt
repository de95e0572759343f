-- What a member's saver knows is so. The bytes of its journal are read as records (Parsing); those before the oldest
-- one that isn't finished may be left out (Oldest), and no commit is later than is noted of them (Noted). So a walk
-- begins (Begun), passes rows (Passing) and ends (Ended), and the journal gives up what stands before it (GivenUp): one
-- induction along the events of a log (Follow).
pub mod Begun
pub mod Ended
pub mod Follow
pub mod GivenUp
pub mod Noted
pub mod Oldest
pub mod Parsing
pub mod Passing
