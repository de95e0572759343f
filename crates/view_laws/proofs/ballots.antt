-- Views as ballots choose them, apart from any host: sets of members, promises, proposals and grants as lists. A chosen
-- set of a number is the only one, and each is made of the one before by one change. The induction is on the number; it
-- stands on the definitions of ballots alone.
pub mod ApartNodes
pub mod DistinctNodes
pub mod Found
pub mod FromChosenToLater
pub mod Grants
pub mod GreatestBelow
pub mod MadeOfLesser
pub mod MadeSets
pub mod NewProposals
pub mod OneOfANumber
pub mod OnlyShrink
pub mod Promises
pub mod SharedByGroups
pub mod SharedMembers
pub mod ToldApart
