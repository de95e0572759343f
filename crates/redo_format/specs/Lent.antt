-- What a record is whose image lies where it was read.
use Rattle.sig_core.specs.declared.redo.Redo.{Redo}
use Rattle.sig_core.specs.declared.redo.Redo.TheVariants.{Prepare, Commit, Abort}
use Rattle.redo_format.specs.declared.lent.LentRedo.{LentRedo}
use Rattle.redo_format.specs.declared.lent.LentRedo.TheVariants.{Prepare as LentPrepare, Commit as LentCommit}
use Rattle.redo_format.specs.declared.lent.LentRedo.TheVariants.{Abort as LentAbort}

-- the record itself
abbrev pub redo_of : LentRedo → Redo
redo_of (LentPrepare tx fragment key image) = Prepare tx fragment key image
redo_of (LentCommit tx epoch key) = Commit tx epoch key
redo_of (LentAbort tx key) = Abort tx key
