-- What is sent goes on a link, and is in transit until it is taken: counted link by link.
-- By induction along moments. It stands on the links of run_theory and on moment_laws.
pub mod Puts
pub mod TakenChains
pub mod TakeoverHears
pub mod TakeoverTold
pub mod Transit
pub mod TransitCounts
