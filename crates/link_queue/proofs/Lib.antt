mod Ends
mod Passes
mod Steps
