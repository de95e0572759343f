use Rattle.std.proofs.Common.{◌≡◌, ◌++◌, drop}
use Rattle.script_lang.specs.DigestText.{hex_digits}
use Rattle.script_lang.proofs.reply.digest.add_hex.Given as goal

-- the line so far and the digits of the bytes that are left are the line with all digits
abbrev pub invariant-loop-byte : goal.invariant-loop-byte
invariant-loop-byte l =
    l.line.items ++ hex_digits (drop l.byte-index l.bytes) ≡ l.initial.line.items ++ hex_digits l.bytes
