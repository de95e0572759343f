-- The history of a closed cut: its entries stand in the order of their stamps, epochs never fall along it, and what
-- was reported before another was asked for stands before it. Stands on causes and circle.
pub mod EachEntry
pub mod Epochs
pub mod Serial
pub mod SortedEntries
pub mod StrictOrder
