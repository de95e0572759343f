pub mod Answer
pub mod Histories
pub mod Labels
pub mod Playing
pub mod RightLife
