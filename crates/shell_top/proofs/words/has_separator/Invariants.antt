use Rattle.std.proofs.Common.{◌≡◌, drop, map}
use Rattle.std.specs.Prelude.{string_bytes}
use Rattle.std.specs.List.{list_any}
use Rattle.shell_top.specs.Words.{is_separator}
use Rattle.shell_top.proofs.words.has_separator.Given as goal

-- those passed are no separators
abbrev pub invariant-loop-word : goal.invariant-loop-word
invariant-loop-word l = record {
  left : list_any is_separator (map string_bytes (drop l.word-index l.words))
      ≡ list_any is_separator (map string_bytes l.words);
}
