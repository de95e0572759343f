-- Who marks that an epoch is closed: the president of the current view, once each of its full members has ended the
-- epoch and no takeover is owed. What a member reports of an end stays so, by induction along the moments of a run
-- (ToldByMembers, HeardByMasters); what the steps of masters and epochs are is from the walks beside these blocks, and
-- that nobody else marks a closing from the words of the others.
pub mod EndedStays
pub mod Hear
pub mod HeardByMasters
pub mod MainSteps
pub mod Marks
pub mod NoClosings
pub mod Others
pub mod ToldByMembers
