pub mod FreshWorld
pub mod HostNumbers
pub mod LogIndex
pub mod MadeFirst
pub mod MemberLemmas
pub mod Replies
pub mod SentFacts
pub mod Stamped
