-- State and table stand in `specs/State.antt` and `Dih.antt`, the rows in `verify.rt`, `orders.rt` and `fences.rt`
-- (definitions in `specs/Verify.antt` and `Orders.antt`), and laws of the block in `specs/Laws.antt` and `laws.rt`.
mod EpochLemmas
mod NoneLemmas
mod ReportLemmas
pub mod Walk
