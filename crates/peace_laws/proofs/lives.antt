-- A life in peace, request by request: from one moment at which nothing is under way to the next, by calm requests and
-- by closings. By induction over its requests. Stands on near, plain and closing.
pub mod Arrivals
pub mod CalmGoes
pub mod ClosingGoes
pub mod FirstAsked
pub mod FirstHosts
pub mod NextGood
pub mod NextSignals
pub mod Peaceful
pub mod RestAgain
pub mod Served
pub mod Stands
pub mod UnderWay
