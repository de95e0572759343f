-- What hosts have as they begin, and what is so of each along its log, over all their blocks; sums over hosts.
pub mod BlocksAlong
pub mod DihSends
pub mod HostGoes
pub mod HostMarks
pub mod LinkCounts
pub mod PartCounts
pub mod PartKinds
pub mod PlainMarks
pub mod SendKinds
pub mod ShellHost
pub mod StartedHosts
pub mod Sums
