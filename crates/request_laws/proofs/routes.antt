-- Each signal about rows goes where the chain of its key leads in the view in which it was sent, and coordinators and
-- rows have what they need for that. One induction along moments (All) over events of the hosts of coordinators
-- (CoordinatorEvents), of rows (RowEvents) and of others (OtherHosts), on what a turn sends (Turns, Sends).
pub mod All
pub mod AskedOrDriven
pub mod BesideRows
pub mod ChainsStay
pub mod CoordinatorEvents
pub mod Coordinators
pub mod DoomedStay
pub mod Driven
pub mod Entering
pub mod Headers
pub mod Hosts
pub mod Idle
pub mod Installed
pub mod Layouts
pub mod OtherHosts
pub mod OwnSends
pub mod PartSteps
pub mod PartsOfTheFirst
pub mod Places
pub mod RefusedWaited
pub mod RowEvents
pub mod Rows
pub mod Sends
pub mod Takeovers
pub mod Taking
pub mod Turns
pub mod Unsent
pub mod ViableViews
