-- The control file of a disk names its node: that a crash leaves it so, and that each step does. Whatever host goes on,
-- its disk writes other files, or a control slot at one of two places that end before the owner's slot begins.
pub mod Found
pub mod Kept
pub mod Written
