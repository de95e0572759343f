-- A step is an effect of forms: each signal that it sends and each mark that it makes is of one of a few. Where P is so
-- of each form of signal, and M of each form of mark, they are so of the step (`Does`), however it was put together:
-- nothing, one more, two effects behind each other, a portion of a list. A walk over a block's rows gives the forms; a
-- law gives P and M.
pub mod DoesLemmas
pub mod ListLemmas
pub mod PortionLemmas
