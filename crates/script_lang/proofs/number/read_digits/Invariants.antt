use Rattle.std.proofs.Common.{◌≡◌, ◌≤◌, length}
use Rattle.script_lang.specs.Number.{read_digits}
use Rattle.script_lang.proofs.number.read_digits.Given as goal

-- the digits that are left lead to what all of them tell
abbrev pub invariant-digits : goal.invariant-digits
invariant-digits l = (read_digits l.most l.value l.word ≡ read_digits l.most 0 l.initial.word) × (l.value ≤ l.most)

abbrev pub decreases-digits : goal.decreases-digits
decreases-digits l = length l.word
