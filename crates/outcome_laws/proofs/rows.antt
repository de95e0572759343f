-- The rows of a node, by the walk that stands beside them: what they know of decisions was told to them, they tell
-- only that, and they mark no outcome.
pub mod KnowDecided
pub mod MarkNoOutcome
pub mod NeverDown
pub mod RecordsAndMarkers
pub mod SendUncounted
pub mod TellTrue
