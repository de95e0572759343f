-- Once a takeover has told its master that it is over, nobody whose coordinator is gone is left to decide: all that it
-- decided is done. One induction along moments for whose end a master is told (OwnMaster, MastersAreTold), one for
-- where rows stand meanwhile (RowsStand), and the rest at one moment, on the laws of commits.
pub mod BesideClients
pub mod Done
pub mod LeavesNone
pub mod MastersAreTold
pub mod MastersOwe
pub mod NoEnds
pub mod OwnMaster
pub mod RowsStand
pub mod Seen
pub mod Sends
pub mod Steps
pub mod Works
