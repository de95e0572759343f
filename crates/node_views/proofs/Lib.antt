pub mod BlockStops
pub mod HostEach
pub mod HostWalk
mod NodeLemmas
pub mod CutLemmas
pub mod InstallLemmas
pub mod LawLemmas
mod MasterStops
pub mod RoomLemmas
pub mod SettleLemmas
pub mod StopMarks
pub mod StopWalk
pub mod Walk
pub mod WordWalk
