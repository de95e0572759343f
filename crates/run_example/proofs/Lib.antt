pub mod Games
pub mod SampleRun
