-- A takeover knows the epochs that it was told, tells them as it knows them, and marks nothing.
pub mod KnowEpochs
pub mod NoMarks
pub mod SendUncounted
pub mod TellEpochs
