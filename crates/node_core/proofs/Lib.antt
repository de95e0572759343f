-- A host in which nothing fails is the shell's or a part of a node, and each of its steps (`row` in
-- `crates/node_core/specs/Row.antt`) is one of the block that its signal is for, where the host runs it.
-- `HostCases.antt` tells that once, as cases: `host_case` by the host's kind, `block_case` and the like by what a host
-- has of each block, `keeps_tc` and its kin for what a block's row keeps, and `each_send` and `each_mark` for what all
-- rows send and mark. Laws over hosts go by these. No host sends a request of the shell (`rows_ask` in
-- `HostLemmas.antt`): one case for each block, over lemmas that go through its rows (`ApiLemmas.antt`, `TcAsks.antt`,
-- `LqhAsks.antt`, `DihAsks.antt`); so what a link gives is never taken for one. What the API does is the same whatever
-- replies it has given away (`ApiGiven.antt`), and so replies only ever come behind those that there are
-- (`replies_grow`).
--
-- What stands where:
-- - `host.rt`, `main_part.rt`, `tc_part.rt`, `dih.rt`: a host is the shell's or a part of a node, with its blocks.
-- - `specs/Dih.antt`: the rows of the block that gives epochs.
-- - `specs/Row.antt`, `Blocks.antt`, `Fresh.antt`, `Replies.antt`, `Committed.antt`: what a host does; its blocks; how
--   it begins; its replies to the shell; its committed rows.
-- - `proofs/HostCases.antt`: the walk over hosts: a step of a host is one of one block, or of none.
-- - `proofs/DihForms.antt`: the walk over the steps of the block of epochs.
-- - `proofs/HostLemmas.antt`: that no host sends a request of the shell, and that replies come behind those that there
--   are.
pub mod DihAsks
pub mod DihForms
pub mod HostCases
pub mod HostLemmas
pub mod LqhAsks
pub mod RowLemmas
pub mod TcAsks
