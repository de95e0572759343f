-- What an operation answers where values are unique, in words.
use Rattle.std.specs.Prelude.{ℕ, List, ◌++◌, codes}
use Rattle.std.specs.Fmt.{decimal}
use Rattle.sig_core.specs.declared.unique.UAnswer.{UAnswer}
use Rattle.sig_core.specs.declared.unique.UAnswer.TheVariants.{Plain, Held, TooLong, KeyOf}
use Rattle.script_lang.specs.AnswerText.{answer_words}

-- the words of an answer
abbrev pub unique_words : UAnswer → List ℕ
unique_words (Plain answer) = answer_words answer
unique_words (Held key) = codes "unique held by " ++ key
unique_words (TooLong len) = codes "unique too long " ++ decimal len
unique_words (KeyOf key) = codes "key " ++ key
