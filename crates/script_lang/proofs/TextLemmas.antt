-- How a loop that adds pieces to a line goes on, and what a byte is as two digits.
use Rattle.std.proofs.Common.{◌≡◌, ℕ, ◌+◌, ◌<◌, ◌/◌, ◌%◌, List, [], ◌∷◌, ◌++◌, length, drop, get_or, false, ap, sym}
use Rattle.std.proofs.Common.{subst, ◌∙◌, append_assoc}
use Rattle.std.specs.Prelude.{Option, IfSome, Some, codes}
use Rattle.std.specs.Fmt.{decimal, digits, digit_glyph, padded_integral, format_spec}
use Rattle.std.specs.Option.{option_map}
use Rattle.std.proofs.lemmas.Fmt.{hex_byte}
use Rattle.std.proofs.lemmas.List.{drop_more}
use Rattle.sig_core.specs.declared.member.Member.{Member}
use Rattle.script_lang.specs.ViewText.{further_nodes}
use Rattle.script_lang.specs.DigestText.{hex_digits}

-- a piece that is added moves from what is left to what is done
pub moved : (line piece rest : List ℕ) {left now whole : List ℕ} → now ≡ line ++ piece → left ≡ piece ++ rest
    → line ++ left ≡ whole → now ++ rest ≡ whole
moved line piece rest added split kept =
    ap (λ xs. xs ++ rest) added ∙ append_assoc line piece rest ∙ ap (λ xs. line ++ xs) (sym split) ∙ kept

-- the nodes of the members that are left begin with that of the next one
pub further_nodes-next : (members : List Member) (index : ℕ) (default : Member) → index < length members
    → further_nodes (drop index members) ≡ (codes "," ++ decimal (get_or members index default).node)
    ++ further_nodes (drop (index + 1) members)
further_nodes-next members index default within = ap further_nodes (drop_more members index default within)

-- a byte as two digits
abbrev pub byte_digits : ℕ → List ℕ
byte_digits byte = digit_glyph false (byte / 16) ∷ digit_glyph false (byte % 16) ∷ []

-- the digits of the bytes that are left begin with those of the next one
pub hex_digits-next : (bytes : List ℕ) (index : ℕ) → index < length bytes
    → hex_digits (drop index bytes) ≡ byte_digits (get_or bytes index 0) ++ hex_digits (drop (index + 1) bytes)
hex_digits-next bytes index within = ap hex_digits (drop_more bytes index 0 within)

-- the options `02x`: at least two places, filled up with 0
abbrev pub two_places : List ℕ → List ℕ
two_places = padded_integral (format_spec 32 0 4 2 18446744073709551615) false []

-- what they write of a byte
pub byte_digits-shown : (byte : ℕ) (number : Option (List ℕ)) (shown : List ℕ) → byte < 256
    → number ≡ Some (digits 16 false byte)
    → IfSome (option_map two_places number) (λ bytes. shown ≡ bytes) → shown ≡ byte_digits byte
byte_digits-shown byte number shown small is written =
    written_as (subst (λ n. IfSome (option_map two_places n) (λ bytes. shown ≡ bytes)) is written)
  where
    written_as : shown ≡ two_places (digits 16 false byte) → shown ≡ byte_digits byte
    written_as same = same ∙ hex_byte false byte small
