pub mod Found
pub mod Laws
pub mod Noted
pub mod OnDisk
pub mod Owners
pub mod Shapes
pub mod ToldSlots
