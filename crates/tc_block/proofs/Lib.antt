-- `tc_block` has three floors, each by the contract of the one below. A list of sends is gone through from its first
-- signal in every event that sends a part of it: `Portion::offer` passes a signal over, sends it, or leaves it for
-- later, and ensures `offered`, one step of a fold. The loops over keys and replicas ensure that fold over the whole
-- list (invariant: what is left leads to the same as all did), and `PortionLemmas.antt` says once, by induction over
-- any list, what the fold comes to: eight signals from the place on, and whether more are left. A row of a transaction
-- (`operate.. aborted`) ensures its row function, a few cases over phase, unanswered operation and count; the check
-- finds these alone, each opening its own row. Rows that may end the transaction answer whether it is over (`Turn`). A
-- step of the coordinator finds the transaction in its `IndexMap`, lets it take its turn, and forgets it if it is over;
-- two lemmas about a list that was written to at a place serve all eleven (`LiveLemmas.antt`). No invariant ties the
-- counts to what is under way: counts are set once, when a phase begins, and only fall. An abort counts the `Aborted`
-- of the late answer from the start, so nothing is ever added and nothing can overflow; the only invariant is that a
-- transaction touches at most 64 keys.
--
-- `tc_block` has besides what fences and installations make of one transaction: `doom.rt`, and `resume.rt` with
-- `task.rt` and `tasks.rt` (what is left to do, for one and for all). `tc_views` puts a coordinator under views round
-- it: state and table are in `specs/State.antt` and `Coordinator.antt`, fences and installations in `views.rt`, and
-- laws in `laws.rt`.
pub mod CountLemmas
pub mod EachResume
pub mod EachTc
pub mod EachTurn
pub mod LiveKeeps
pub mod LiveLemmas
pub mod LiveSplit
pub mod TurnRows
pub mod TurnSends
