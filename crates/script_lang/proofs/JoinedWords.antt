-- Words with one space between each two make a line that falls into them.
use Rattle.std.proofs.Common.{◌≡◌, ℕ, ◌-◌, ◌<◌, Bool, true, false, cond, List, [], ◌∷◌, length, take, refl, ap, ◌∙◌}
use Rattle.std.proofs.Common.{arith, lit<}
use Rattle.std.specs.Prelude.{filter, nat_lt, ◌==◌, ◌&&◌, slice_index, if◌then◌else◌}
use Rattle.std.specs.List.{All, AllByRecursion, join_with_byte, slice_split}
use Rattle.std.proofs.lemmas.Bool.{and_parts, and_from, ltb-true, lt-ltb, ne_eqb}
use Rattle.std.proofs.lemmas.List.Elements.{All-nil, All-cons, All-head, All-tail, All-append, All-weaker}
use Rattle.std.proofs.lemmas.List.Splits.{slice_split_none, slice_split_at}
use Rattle.script_lang.specs.Line.{without_return}
use Rattle.script_lang.specs.Words.{words, is_space, is_word}

abbrev pub are_visible : List ℕ → Bool
are_visible [] = true
are_visible (byte ∷ word) = nat_lt 32 byte && are_visible word

-- a word as it stands in a line
abbrev pub IsShown : List ℕ → Type 0
IsShown word = (is_word word ≡ true) × (are_visible word ≡ true)

all_visible : (word : List ℕ) → are_visible word ≡ true → All (λ byte. 32 < byte) word
all_visible [] e = All-nil (λ byte. 32 < byte)
all_visible (byte ∷ word) e =
    let both = and_parts (nat_lt 32 byte) (are_visible word) e in
    All-cons (λ byte. 32 < byte) byte word (ltb-true 32 byte both.0) (all_visible word both.1)

pub visible_all : (word : List ℕ) → All (λ byte. 32 < byte) word → are_visible word ≡ true
visible_all [] all = refl
visible_all (byte ∷ word) all =
    and_from (nat_lt 32 byte) (are_visible word) (lt-ltb 32 byte (All-head (λ byte. 32 < byte) byte word all))
    (visible_all word (All-tail (λ byte. 32 < byte) byte word all))

-- words that were joined by spaces come back
no_space : (byte : ℕ) → 32 < byte → is_space byte ≡ false
no_space byte above = ne_eqb byte 32 (λ is. omega (arith, is, above))

first_word_kept : (word : List ℕ) (parts : List (List ℕ)) → is_word word ≡ true
    → filter is_word (word ∷ parts) ≡ word ∷ filter is_word parts
first_word_kept word parts is = ap (λ b. cond b (word ∷ filter is_word parts) (filter is_word parts)) is

words_joined : (line : List (List ℕ)) → AllByRecursion IsShown line → words (join_with_byte 32 line) ≡ line
words_joined [] all = refl
words_joined (word ∷ []) all =
    ap (filter is_word) (slice_split_none is_space word (All-weaker (λ byte. 32 < byte) (λ byte. is_space byte ≡ false)
    no_space word (all_visible word all.0.1)))
    ∙ first_word_kept word [] all.0.0
words_joined (word ∷ second ∷ more) all =
    let rest = join_with_byte 32 (second ∷ more) in
    ap (filter is_word) (slice_split_at is_space word 32 rest
    (All-weaker (λ byte. 32 < byte) (λ byte. is_space byte ≡ false) no_space word (all_visible word all.0.1)) refl)
    ∙ first_word_kept word (slice_split is_space rest) all.0.0
    ∙ ap (λ line. word ∷ line) (words_joined (second ∷ more) all.1)

-- and no carriage return stands at their end
below : (byte : ℕ) → 32 < byte → 31 < byte
below byte above = omega arith

joined_bytes : (line : List (List ℕ)) → AllByRecursion IsShown line → All (λ byte. 31 < byte) (join_with_byte 32 line)
joined_bytes [] all = All-nil (λ byte. 31 < byte)
joined_bytes (word ∷ []) all = All-weaker (λ byte. 32 < byte) (λ byte. 31 < byte) below word (all_visible word all.0.1)
joined_bytes (word ∷ second ∷ more) all =
    let rest = join_with_byte 32 (second ∷ more) in
    All-append (λ byte. 31 < byte) word (32 ∷ rest)
    (All-weaker (λ byte. 32 < byte) (λ byte. 31 < byte) below word (all_visible word all.0.1))
    (All-cons (λ byte. 31 < byte) 32 rest (lit< tt) (joined_bytes (second ∷ more) all.1))

no_return : (line : List ℕ) → All (λ byte. 31 < byte) line → (slice_index line (length line - 1) == 13) ≡ false
no_return [] all = refl
no_return (byte ∷ line) all =
    let above : 31 < slice_index (byte ∷ line) (length (byte ∷ line) - 1) =
    all (length (byte ∷ line) - 1) 0 (omega arith) in
    ne_eqb (slice_index (byte ∷ line) (length (byte ∷ line) - 1)) 13 (λ is. omega (arith, is, above))

return_kept : (line : List ℕ) → All (λ byte. 31 < byte) line → without_return line ≡ line
return_kept line all = ap (λ b. if b then take (length line - 1) line else line) (no_return line all)

pub words_of_joined : (line : List (List ℕ)) → AllByRecursion IsShown line
    → words (without_return (join_with_byte 32 line)) ≡ line
words_of_joined line all =
    ap words (return_kept (join_with_byte 32 line) (joined_bytes line all)) ∙ words_joined line all
