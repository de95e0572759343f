-- The epochs of a node by the forms of their steps: they decide a transaction for each request, one that they hold or
-- that comes, and tell nothing else of transactions.
pub mod DecisionsCounted
pub mod KnowBegun
pub mod Silent
pub mod Steps
