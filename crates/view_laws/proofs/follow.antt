-- Hosts follow the events of their blocks: from the log of a host to the events of its membership, of its arbitrator
-- and of the view that it stands in. The induction goes along a log; a step has few forms.
pub mod HostKinds
pub mod Hosts
pub mod Memberships
pub mod Routes
pub mod Seen
pub mod Senders
pub mod Steps
pub mod TakenOnce
pub mod Views
pub mod Walk
