use Rattle.std.proofs.Common.{sym, ◌∙◌}
use Rattle.script_lang.proofs.WordCuts.{words-word}
use Rattle.script_lang.proofs.words.next_word.Goals as goal

-- the line that is left begins with a word
pub returns-then-first-ne32 : goal.returns-then-first-ne32
returns-then-first-ne32 c =
    rw (c.cut_word.ensures.word, c.cut_word.ensures.rest)
    (sym c.spaces.invariant ∙ words-word c.spaces.line.now c.in_ok-first.first.now c.in_ok-first.rest.now
    c.in_ok-first.ensures.cases.0 c.if-first-ne32.true)
