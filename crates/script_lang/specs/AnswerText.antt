-- What an operation answers, in words.
use Rattle.std.specs.Prelude.{ℕ, List, ◌++◌, codes}
use Rattle.sig_core.specs.declared.op.Answer.{Answer}
use Rattle.sig_core.specs.declared.op.Answer.TheVariants.{Done, Found, Missing, E626, E630}

-- the words of an answer
abbrev pub answer_words : Answer → List ℕ
answer_words Done = codes "ok"
answer_words (Found value) = codes "value " ++ value
answer_words Missing = codes "none"
answer_words E626 = codes "error 626 tuple did not exist"
answer_words E630 = codes "error 630 tuple already existed"
