-- How a transaction ended, in words.
use Rattle.std.specs.Prelude.{ℕ, List, ◌++◌, codes}
use Rattle.std.specs.Fmt.{decimal}
use Rattle.sig_core.specs.declared.outcome.AbortCause.{AbortCause}
use Rattle.sig_core.specs.declared.outcome.AbortCause.TheVariants.{Request, Timeout, NodeFail, LogFull, TableFull, Down}
use Rattle.sig_core.specs.declared.outcome.Outcome.{Outcome}
use Rattle.sig_core.specs.declared.outcome.Outcome.TheVariants.{Committed, Aborted, Unknown}
use Rattle.script_lang.specs.EpochText.{epoch_words}

-- the words of an abort, by its cause
abbrev pub abort_words : AbortCause → List ℕ
abort_words Request = codes "aborted by request"
abort_words Timeout = codes "aborted 266 time-out"
abort_words (NodeFail view) = codes "aborted nodefail " ++ decimal view
abort_words (LogFull used reserved need) =
    codes "aborted log full " ++ decimal used ++ codes " " ++ decimal reserved ++ codes " " ++ decimal need
abort_words (TableFull rows) = codes "aborted table full " ++ decimal rows
abort_words Down = codes "aborted down"

-- the words of an outcome
abbrev pub outcome_words : Outcome → List ℕ
outcome_words (Committed epoch) = codes "committed " ++ epoch_words epoch
outcome_words (Aborted cause) = abort_words cause
outcome_words Unknown = codes "unknown"
