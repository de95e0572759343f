-- Between two moments at which nothing is under way: the request comes first, and each later signal was sent since.
-- Along a run that goes on from the first of them.
pub mod Cuts
pub mod First
pub mod FirstTaken
pub mod Homes
pub mod NoAbortWaits
pub mod OneAtATime
pub mod ReadyAtQuiet
pub mod RequestsAnswered
pub mod ServedBetween
pub mod Since
