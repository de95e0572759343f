-- The keys and values of loads are words.
use Rattle.std.proofs.Common.{◌≡◌, ℕ, ◌≤◌, ◌<◌, ◌%◌, ◌^◌, List, [], ◌∷◌, ◌++◌, length, refl, arith, false}
use Rattle.std.specs.Prelude.{None, position, nat_lt, codes}
use Rattle.std.specs.List.{position_or_len}
use Rattle.std.specs.Fmt.{decimal}
use Rattle.std.specs.Str.Parse.{AllDigits}
use Rattle.std.proofs.lemmas.Bool.{le-ltb}
use Rattle.std.proofs.lemmas.Fmt.{decimal_is_IsNumeral, length-decimal-le}
use Rattle.std.proofs.lemmas.List.{length-append}
use Rattle.std.proofs.lemmas.Str.Parse.{digit_from_value}
use Rattle.sig_core.specs.Word.{is_unprintable}
use Rattle.load_gen.specs.Wave.{row_key}

-- each byte is one that a word may have
abbrev pub AllPlain : List ℕ → Type 0
AllPlain [] = Unit {0}
AllPlain (byte ∷ bytes) = (is_unprintable byte ≡ false) × AllPlain bytes

plain_append : (xs ys : List ℕ) → AllPlain xs → AllPlain ys → AllPlain (xs ++ ys)
plain_append [] ys one other = other
plain_append (byte ∷ xs) ys one other = (one.0, plain_append xs ys one.1 other)

digits_plain : (word : List ℕ) → AllDigits 10 word → AllPlain word
digits_plain [] all = tt
digits_plain (byte ∷ word) all =
    let digit = digit_from_value byte all.0 in
    let low : nat_lt byte 33 ≡ false = le-ltb _ _ (omega (arith, digit.0)) in
    let high : nat_lt 126 byte ≡ false = le-ltb _ _ (omega (arith, digit.1)) in
    (rw (low, high) refl, digits_plain word all.1)

decimal_plain : (n : ℕ) → n < 2 ^ 64 → AllPlain (decimal n)
decimal_plain n small = digits_plain (decimal n) (decimal_is_IsNumeral n small).0.1

all_counted : (word : List ℕ) → AllPlain word → position_or_len is_unprintable word ≡ length word
all_counted [] all = refl
all_counted (byte ∷ word) all = rw (all.0, all_counted word all.1) (omega arith)

none_spoilt : (word : List ℕ) → AllPlain word → position is_unprintable word ≡ None
none_spoilt word all =
    let counted = all_counted word all in
    let past : nat_lt (position_or_len is_unprintable word) (length word) ≡ false =
    le-ltb _ _ (omega (arith, counted)) in
    rw past refl

pub value_plain : (n : ℕ) → n < 2 ^ 64 → position is_unprintable (decimal n) ≡ None
value_plain n small = none_spoilt (decimal n) (decimal_plain n small)

pub value_short : (n : ℕ) → n < 10 ^ 9 → length (decimal n) ≤ 200
value_short n small = let short = length-decimal-le 9 n (omega arith) small (omega arith) in omega (arith, short)

pub key_plain : (t draw : ℕ) → t < 256 → draw % 1024 < 1024 → position is_unprintable (row_key t draw) ≡ None
key_plain t draw small few =
    none_spoilt (row_key t draw) (
      refl,
      plain_append (decimal t) (codes "." ++ decimal (draw % 1024)) (decimal_plain t (omega arith))
          (refl, decimal_plain (draw % 1024) (omega arith)),
    )

pub key_short : (t draw : ℕ) → t < 256 → draw % 1024 < 1024 → length (row_key t draw) ≤ 32
key_short t draw small few =
    let one = length-decimal-le 3 t (omega arith) (omega arith) (omega arith) in
    let two = length-decimal-le 4 (draw % 1024) (omega arith) (omega arith) (omega arith) in
    simp length-append (omega (arith, one, two))
