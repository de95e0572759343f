-- Takeovers are told only of transactions whose coordinator is no full member of the view, and gather only such: rows
-- report no others (ReportsOfOrphans); one induction along moments (TakeoversOfOrphans).
pub mod ReportsOfOrphans
pub mod TakeoversOfOrphans
