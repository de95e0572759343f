-- `copy_block` has its state in `specs/State.antt` and its table in `specs/Copying.antt`. `joining.rt` drives a
-- joining, `sends.rt` has what it sends to many; `feeding.rt` copies fragments, and `handing.rt` hands over their rows.
pub mod SendLemmas
pub mod Walk
