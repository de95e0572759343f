pub mod Address
pub mod Epochs
pub mod Laws
pub mod Replica
pub mod Report
pub mod State
pub mod WholeReports
pub mod Words
