-- What a takeover is told while it gathers: each member is asked once and ends once, in front of the end it tells of
-- each record and marker, and when the last has ended the takeover has noted all that it was told. By induction along
-- moments, view by view, with counts of asks and ends. It stands on the orders, one for each view.
pub mod All
pub mod Alone
pub mod Asked
pub mod AskedLists
pub mod AskedStands
pub mod AskedTakeover
pub mod EndedAll
pub mod Ends
pub mod EndsBehind
pub mod EndsCounts
pub mod EndsReport
pub mod EndsTold
pub mod EntriesPrepared
pub mod Listed
pub mod Notes
pub mod OrphanRows
pub mod OrphanStays
pub mod OrphansUnended
pub mod PreparedTold
pub mod ReportTells
pub mod ReportsBehind
pub mod TellingsGathered
pub mod TellingsNoted
pub mod TellingsPlaced
pub mod TellingsWhole
pub mod Whole
pub mod Words
