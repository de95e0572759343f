use Rattle.std.proofs.Common.{map}
use Rattle.std.specs.Prelude.{string_bytes}
use Rattle.shell_top.proofs.WordsLemmas.{free, taken_words}
use Rattle.shell_top.proofs.words.asked_of.Goals as goal

pub returns-in-Ok-clause-told : goal.returns-in-Ok-clause-told
returns-in-Ok-clause-told c =
    taken_words _ c.in_ok-command.ensures (map string_bytes c.args.words.now) c.has_separator.result
    c.has_separator.ensures c.if-has_separator.false c.in-Ok.matches c.asked_in.result
    (c.in-Ok.ensures.kinds (free _ c.in_ok-command.ensures)) c.in-Ok.ensures.matches c.asked_in.ensures.told
