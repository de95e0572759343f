-- The digest of a node's rows, in words.
use Rattle.std.specs.Prelude.{ℕ, false, ◌/◌, ◌%◌, List, [], ◌∷◌, ◌++◌, codes}
use Rattle.std.specs.Fmt.{decimal, digit_glyph}

-- each byte as two hexadecimal digits, the higher first, in lower case
abbrev pub hex_digits : List ℕ → List ℕ
hex_digits [] = []
hex_digits (byte ∷ bytes) = digit_glyph false (byte / 16) ∷ digit_glyph false (byte % 16) ∷ hex_digits bytes

-- the words of a node's digest
abbrev pub digest_words : ℕ → List ℕ → List ℕ
digest_words node digest = codes "digest " ++ decimal node ++ codes " " ++ hex_digits digest
