-- In `qmgr_block` a row is a function of `Known`, a plain struct that is copied: a method moves the copy and gives the
-- list that goes out, so what it ensures has no case for want of memory (`IfOk result (λ sends. row old ≡ sending_all
-- new sends)`), and `Qmgr::settle` takes both over. Where two paths join before a further call the fact of each is
-- lost, so each has a method of its own (`allow`, `refuse`). Loops go by what is done and what is left: of sets
-- (`ListLemmas` in `frag_map`), of starts that are noted and members that are suspected (`FoldLemmas.antt`), of orders
-- (`PortionLemmas` in `sig_core`). The laws go by one relation, `Kept` (`KeptLemmas.antt`), that each row keeps
-- (`RowLemmas.antt`, a lemma for each and then one for the table) and that goes on along any list of events
-- (`LawLemmas.antt`). That proposals are new is a second walk over the rows, of what each sends (`NewLemmas.antt`),
-- from the first: who is told of suspects at the end of a row has numbers that aren't below those at its beginning.
--
-- `qmgr_block` has what it knows of the members in one plain struct (`known.rt`, which definitions cite), and beside it
-- the promises that wait (`promise.rt`). A row makes a copy of what is known, moves it and makes the list of what goes
-- out; only then the block takes both over (`Qmgr::settle`), so where memory is wanting nothing has happened. Rows are
-- in `ring.rt`, `suspects.rt`, `promise.rt`, `decide.rt`, `join.rt` and `install.rt`, beside `propose.rt`, `sets.rt`,
-- `starts.rt` and `sends.rt`; what holds along all signals and installations is in `specs/Laws.antt` and `src/laws.rt`.
mod FoldLemmas
mod KeptLemmas
mod LawLemmas
pub mod NewLemmas
pub mod Outcomes
mod RowLemmas
mod SendLemmas
pub mod Settles
pub mod Walk
