-- `gcp_master` has its state in `specs/State.antt` and its table in `specs/Master.antt`. `requests.rt`, `closing.rt`,
-- `resume.rt` and `local.rt` have a method for each row, in files named as those of the rows; `begin.rt` begins what is
-- asked for; `sends.rt` goes through the list of what is sent, with the orders of `orders.rt`; `voices.rt` counts
-- confirmations, `known.rt` knows where to go on, and `numbers.rt` which epoch follows. What is true of its
-- confirmations and requests stands in `specs/Laws.antt` and `laws.rt`.
mod ConfirmLemmas
pub mod Lists
pub mod Outcomes
mod RequestLemmas
mod TwiceLemmas
mod VoiceLemmas
pub mod Walk
