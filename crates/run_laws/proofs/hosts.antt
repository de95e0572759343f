-- What each host keeps whatever comes, and what a step does to one transaction of its coordinator.
pub mod AlongSteps
pub mod Always
pub mod FreshHosts
pub mod HomeSteps
pub mod HostAfter
pub mod Keyed
pub mod LiveAfter
pub mod LiveOf
pub mod RowsNodes
pub mod TcOwn
pub mod TcSaid
pub mod TcSound
pub mod TxSteps
pub mod TxTurns
