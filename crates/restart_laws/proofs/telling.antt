-- Nobody is told by a member's hosts what the disk of its node hasn't kept. What a host sends tells what its log has,
-- and all that a step sends on one link but the last what the log had before (Facts; Rows and Noted, of the two hosts
-- of a member). So it is in a right world where its disk didn't fail (Whole). Where it fails, the newest signal of each
-- link is lost with the step of which the disk kept nothing (Last). Whoever goes on then takes what stands on links
-- (Over, Alone).
pub mod All
pub mod Alone
pub mod Epochs
pub mod Facts
pub mod Last
pub mod Lives
pub mod Marks
pub mod Noted
pub mod OnLinks
pub mod Over
pub mod Rows
pub mod Steps
pub mod Stops
pub mod Whole
