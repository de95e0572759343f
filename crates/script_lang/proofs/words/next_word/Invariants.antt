use Rattle.std.proofs.Common.{◌≡◌, length}
use Rattle.script_lang.specs.Words.{words}
use Rattle.script_lang.proofs.words.next_word.Given as goal

-- the spaces that were passed are no words
abbrev pub invariant-spaces : goal.invariant-spaces
invariant-spaces l = words l.line ≡ words l.initial.line

abbrev pub decreases-spaces : goal.decreases-spaces
decreases-spaces l = length l.line
