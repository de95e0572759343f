pub mod Begun
pub mod Lacking
pub mod Records
pub mod Refusals
pub mod Shapes
