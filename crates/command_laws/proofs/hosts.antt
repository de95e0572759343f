-- What hosts are, send and reply, block by block, and one transaction among those of the client's interface.
pub mod ApiChanges
pub mod BlockSteps
pub mod BlocksTake
pub mod Entries
pub mod EntryGoes
pub mod HostKinds
pub mod HostSends
pub mod LastOne
pub mod Places
pub mod Pushes
pub mod SampleServed
pub mod TcPath
pub mod Tests
pub mod Told
