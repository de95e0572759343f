-- `lqh_views` has `Lqh` inside, and addresses what its step sends behind the signals that stand there already. Effects
-- give out their first signal alone, so all of them go aside and come back: in each loop what was moved, and then what
-- becomes of those that are left, is all (`AddressLemmas.antt`). That there is room for them aside is that a step of
-- the rows sends at most four signals (`FewLemmas.antt`), which goes by the forms of the rows in `LqhForms.antt`. What
-- a report tells is so in the state since an entry that was found stands there (`LastLemmas.antt`); the other laws are
-- short cases (`LawLemmas.antt`).
--
-- That a report leaves nothing out goes by one fact, which every step keeps until the entry is told: no entry of the
-- transaction on the key stands at or behind the place to which the report has come (`NoneFrom` in `Below.antt`). It
-- needs no word on how often one stands there. An entry that is taken out, changed or left out moves others to the
-- front alone, and one that is made behind the others is of another transaction or key, since of this one there is one
-- already; that each row of `lqh_block` does no more than this goes by the forms in `LqhForms.antt` (`ListsKept.antt`).
-- A step of the report tells the last orphaned entry in front of its place: that is the one, or leaves it in front of
-- the new place (`ReportSteps.antt`). The rest is one induction along what comes, the same for records and markers
-- (`WholeLemmas.antt`). Where nothing comes between, the last entry in front of a place is the first of those that are
-- left, read from the last on (`AloneLemmas.antt`).
--
-- What views need of it stands in `views.rt` (`specs/Views.antt`), over `keeping.rt` in `row_locks`, by which waits end
-- and some holders let go. `lqh_views` has state and table in `specs/State.antt` and `Replica.antt`, and `handle` in
-- `replica.rt`; `address.rt` addresses what the rows send, `report.rt` has the report to a takeover, `epochs.rt` fences
-- and the orders of the master. What is true of it stands in `specs/Laws.antt` and `laws.rt`; of whole reports, along
-- all that comes, in `specs/WholeReports.antt`.
pub mod AddressLemmas
pub mod AloneLemmas
pub mod Below
pub mod ListsKept
pub mod FewLemmas
pub mod LastLemmas
pub mod LawLemmas
pub mod ReportSteps
pub mod StraightLemmas
pub mod Walk
pub mod WholeLemmas
