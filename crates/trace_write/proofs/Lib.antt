pub mod ListLoops
