-- The end of a load, in words.
use Rattle.std.specs.Prelude.{ℕ, List, ◌++◌, codes}
use Rattle.std.specs.Fmt.{decimal}

-- how many transactions it had, and how many of them were committed and aborted
abbrev pub load_words : ℕ → ℕ → ℕ → List ℕ
load_words transactions committed aborted =
    codes "load " ++ decimal transactions ++ codes " committed " ++ decimal committed ++ codes " aborted "
    ++ decimal aborted
