pub mod Disks
pub mod Keeping
pub mod Laws
pub mod Picking
pub mod Starting
