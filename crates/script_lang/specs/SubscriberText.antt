-- What subscribers are handed, in words.
use Rattle.std.specs.Prelude.{ℕ, List, ◌++◌, codes}
use Rattle.std.specs.Fmt.{decimal}
use Rattle.script_lang.specs.EpochText.{epoch_words}

-- a subscription begins or ends, in these words, and the last epoch before
abbrev pub subscribed_words : List ℕ → ℕ → ℕ → List ℕ
subscribed_words words subscriber epoch = words ++ decimal subscriber ++ (codes " after " ++ epoch_words epoch)

-- how many changes of an epoch it was handed
abbrev pub changes_words : ℕ → ℕ → ℕ → List ℕ
changes_words subscriber epoch changes =
    (codes "sub " ++ decimal subscriber) ++ (codes " " ++ epoch_words epoch) ++ (codes " changes " ++ decimal changes)

-- it failed, and its count of faults is this
abbrev pub failed_words : ℕ → ℕ → List ℕ
failed_words subscriber count = codes "sub " ++ decimal subscriber ++ codes " failed " ++ decimal count
