-- Hosts beside those of the plain machine: a host is near a plain one where its plain part is that but for epochs and
-- something of a closing. A step in calm keeps them near. Stands on calm_laws.
pub mod CalmFacts
pub mod CalmNear
pub mod MainNear
pub mod Mirrored
pub mod NearHosts
pub mod PartKinds
pub mod PeaceNext
pub mod Resting
pub mod Runs
pub mod Seen
pub mod Sent
pub mod Signals
