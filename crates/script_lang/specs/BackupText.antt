-- What becomes of backups, in words.
use Rattle.std.specs.Prelude.{ℕ, List, ◌++◌, codes}
use Rattle.std.specs.Fmt.{decimal}
use Rattle.script_lang.specs.EpochText.{epoch_words}

-- it was taken, up to this epoch
abbrev pub backup_words : ℕ → ℕ → List ℕ
backup_words backup epoch = (codes "backup " ++ decimal backup) ++ (codes " stop " ++ epoch_words epoch)

-- a view of this number ended it
abbrev pub ended_words : ℕ → ℕ → List ℕ
ended_words backup view = codes "backup " ++ decimal backup ++ codes " ended " ++ decimal view

-- the data of a node would have so many bytes
abbrev pub too_large_words : ℕ → ℕ → List ℕ
too_large_words backup size = codes "backup " ++ decimal backup ++ codes " too large " ++ decimal size

-- it has so many rows, up to this epoch
abbrev pub dump_words : ℕ → ℕ → ℕ → List ℕ
dump_words backup rows epoch =
    (codes "backup " ++ decimal backup) ++ (codes " rows " ++ decimal rows) ++ (codes " stop " ++ epoch_words epoch)
