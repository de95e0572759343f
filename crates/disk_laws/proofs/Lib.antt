-- A disk keeps up with two logs, that of its member's rows and that of its coordinator: `IsOnDisk` has a half for each.
-- A half says what the disk has, or, once a call failed, what it leaves. A step of a host is told in its own half by
-- `RowSteps` and `NoteSteps`, over one save of `RowsSaved` and `SystemSaved`; the other half depends on other files.
-- What a step comes to of a local checkpoint is written and synced in its file (`RowKept`, `PiecesWritten`), or named
-- (`NamedSteps`); what the disk has stands for all that was, and with the records of each step for what is now
-- (`StandLemmas`). `StepLaw` goes through whose step it was, by what `GoneLemmas` make of the world, and `OtherHosts`
-- say that of a main host nothing is kept: `CopyOrders` follow the only order that could be. `WhoseStep` tells whose
-- step it was for what depends on the calls of one disk alone: `shapes_of`, `told_slots` and `owner_of` have a case for
-- the rows, one for an epoch that is noted, and one for a disk that tells what it told.
pub mod CopyOrders
pub mod GoneLemmas
pub mod ImageLemmas
pub mod JournalLemmas
pub mod KeptLaw
pub mod KeptParts
pub mod NamedSteps
pub mod NoteSteps
pub mod NotedSignals
pub mod OtherHosts
pub mod PiecesWritten
pub mod ReadyLaw
pub mod RecordLemmas
pub mod RequestLaw
pub mod RowKept
pub mod RowSteps
pub mod RowsSaved
pub mod SavedLemmas
pub mod SaverSteps
pub mod SlotNumbers
pub mod StandLemmas
pub mod StepLaw
pub mod StopsKeepSaved
pub mod SystemSaved
pub mod WhoseStep
pub mod owner_of
pub mod shapes_of
pub mod told_slots
