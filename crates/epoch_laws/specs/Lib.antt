pub mod Members
pub mod Alike
pub mod Masters
pub mod Told
pub mod Stand
pub mod Falls
