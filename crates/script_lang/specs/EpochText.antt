-- An epoch, in words: its checkpoint number, and how many epochs of that number came before it.
use Rattle.std.specs.Prelude.{ℕ, ◌/◌, ◌%◌, List, ◌++◌, codes}
use Rattle.std.specs.Fmt.{decimal}
use Rattle.script_lang.specs.declared.reply.epoch.TheConstants.{MICROS}

abbrev pub epoch_words : ℕ → List ℕ
epoch_words epoch = decimal (epoch / MICROS) ++ codes "/" ++ decimal (epoch % MICROS)
