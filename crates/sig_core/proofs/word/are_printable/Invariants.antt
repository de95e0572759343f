use Rattle.std.proofs.Common.{◌≡◌, take}
use Rattle.std.specs.Prelude.{not}
use Rattle.std.specs.List.{list_all}
use Rattle.sig_core.specs.Word.{is_unprintable}
use Rattle.sig_core.proofs.word.are_printable.Given as goal

-- it is told of the bytes so far whether words have them all
abbrev pub invariant-loop-byte : goal.invariant-loop-byte
invariant-loop-byte l = l.good ≡ list_all (λ byte. not (is_unprintable byte)) (take l.byte-index l.bytes)
