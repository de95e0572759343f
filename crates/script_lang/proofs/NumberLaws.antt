-- A word tells a number exactly where it is that number's decimal text.
use Rattle.std.proofs.Common.{◌≡◌, ℕ, ◌+◌, ◌-◌, ◌*◌, ◌^◌, ◌<◌, ◌≤◌, Bool, true, false, List, [], ◌∷◌, length, refl, ap}
use Rattle.std.proofs.Common.{sym, ◌∙◌, arith, lit<}
use Rattle.std.specs.Prelude.{Option, None, Some, ◌==◌, ◌&&◌, ◌||◌, not, nat_lt, if◌then◌else◌, slice_index}
use Rattle.std.specs.Fmt.{decimal}
use Rattle.std.specs.Char.{digit_value}
use Rattle.std.specs.Int.{IsInRange}
use Rattle.std.specs.Str.Parse.{AllDigits, digits_value_after}
use Rattle.std.proofs.lemmas.Bool.Decides.{nat_tests}
use Rattle.std.proofs.lemmas.Fmt.{decimal_is_IsNumeral, decimal-digits_value, decimal_digit, first_decimal}
use Rattle.std.proofs.lemmas.Str.{digit_value_digit}
use Rattle.std.proofs.lemmas.Str.Parse.{digit_from_value, numerals_by_value, tells_digits}
use Rattle.script_lang.specs.Number.{is_digit, with_digit, read_next, read_digits, has_no_leading_zero, at_least}
use Rattle.script_lang.specs.Number.{NumbersAreSpelled, DecimalsAreRead}

both_true : (a b : Bool) → (a && b) ≡ true → (a ≡ true) × (b ≡ true)
both_true true true e = (refl, refl)
both_true true false e = cc
both_true false b e = cc

true_both : (a b : Bool) → a ≡ true → b ≡ true → (a && b) ≡ true
true_both a b p q = ap (λ x. x && b) p ∙ q

some_same : (a b : ℕ) → Some a ≡ Some b → a ≡ b
some_same a b e = cc

-- what a digit that was read is
record IsRead (most before byte value : ℕ) : Type 0 where
  digit : IsInRange 48 57 byte
  same : value ≡ before * 10 + digit_value byte
  bound : value ≤ most

digit_range : (byte : ℕ) → is_digit byte ≡ true → IsInRange 48 57 byte
digit_range byte e = let both = both_true (nat_lt 47 byte) (nat_lt byte 58) e in
    (grind (arith, nat_tests, both.0), grind (arith, nat_tests, both.1))

range_digit : (byte : ℕ) → IsInRange 48 57 byte → is_digit byte ≡ true
range_digit byte r =
    true_both (nat_lt 47 byte) (nat_lt byte 58) (grind (arith, nat_tests, r.0)) (grind (arith, nat_tests, r.1))

was_read : (most before byte value : ℕ) → with_digit most before byte ≡ Some value → IsRead most before byte value
was_read most before byte value e = by_test (is_digit byte && not (nat_lt most (before * 10 + (byte - 48)))) refl e
  where
    by_test : (b : Bool) → (is_digit byte && not (nat_lt most (before * 10 + (byte - 48)))) ≡ b
        → (if b then Some (before * 10 + (byte - 48)) else None) ≡ Some value → IsRead most before byte value
    by_test true test e =
        let both = both_true (is_digit byte) (not (nat_lt most (before * 10 + (byte - 48)))) test in
        let range = digit_range byte both.0 in
        record {
          digit = range;
          same = omega (arith, some_same _ _ e, digit_value_digit byte range, range.0);
          bound = let is = some_same _ _ e in grind (arith, nat_tests, both.1, is);
        }
    by_test false test e = cc

is_read : (most before byte : ℕ) → IsInRange 48 57 byte → before * 10 + digit_value byte ≤ most
    → with_digit most before byte ≡ Some (before * 10 + digit_value byte)
is_read most before byte range bound =
    let same : byte - 48 ≡ digit_value byte = omega (arith, digit_value_digit byte range) in
    let low : not (nat_lt most (before * 10 + (byte - 48)))
    ≡ true = (let small : before * 10 + (byte - 48) ≤ most = omega (arith, same, bound) in grind
    (arith, nat_tests, small)) in
    ap (λ b. if b then Some (before * 10 + (byte - 48)) else None) (true_both _ _ (range_digit byte range) low)
    ∙ ap (λ digit. Some (before * 10 + digit)) same

-- what digits that were read tell
record AreRead (most before : ℕ) (word : List ℕ) (value : ℕ) : Type 0 where
  digits : AllDigits 10 word
  same : digits_value_after 10 before word ≡ value
  bound : before ≤ most → value ≤ most

were_read : (most before : ℕ) (word : List ℕ) (value : ℕ) → read_digits most before word ≡ Some value
    → AreRead most before word value
were_read most before [] value e = record {
  digits = tt;
  same = some_same _ _ e;
  bound = λ low. omega (arith, low, some_same _ _ e);
}
were_read most before (byte ∷ rest) value e =
    step (with_digit most before byte) refl e (λ next. were_read most next rest value)
  where
    step : (o : Option ℕ) → with_digit most before byte ≡ o
        → read_next (λ next. read_digits most next rest) o ≡ Some value
        → ((next : ℕ) → read_digits most next rest ≡ Some value → AreRead most next rest value)
        → AreRead most before (byte ∷ rest) value
    step None is e more = cc
    step (Some next) is e more =
        let one = was_read most before byte next is in
        let all = more next e in
        record {
          digits = (omega (arith, digit_value_digit byte one.digit, one.digit.1), all.digits);
          same = ap (λ n. digits_value_after 10 n rest) (sym one.same) ∙ all.same;
          bound = λ low. all.bound one.bound;
        }

value_grows : (n : ℕ) (ds : List ℕ) → n ≤ digits_value_after 10 n ds
value_grows n [] = omega arith
value_grows n (c ∷ cs) = omega (arith, value_grows (n * 10 + digit_value c) cs)

are_read : (most before : ℕ) (word : List ℕ) → AllDigits 10 word → digits_value_after 10 before word ≤ most
    → read_digits most before word ≡ Some (digits_value_after 10 before word)
are_read most before [] digits low = refl
are_read most before (byte ∷ rest) digits low =
    let next = before * 10 + digit_value byte in
    let small : next ≤ most = omega (arith, value_grows next rest, low) in
    ap (read_next (λ value. read_digits most value rest))
    (is_read most before byte (digit_from_value byte digits.0) small)
    ∙ are_read most next rest digits.1 low

-- no leading zero, as a fact
leading : (word : List ℕ) → has_no_leading_zero word ≡ true
    → (0 < length word) × (slice_index word 0 ≡ 48 → length word ≡ 1)
leading word e = by_length (length word == 1) refl e
  where
    by_length : (b : Bool) → (length word == 1) ≡ b
        → (b || (nat_lt 1 (length word) && not (slice_index word 0 == 48))) ≡ true
        → (0 < length word) × (slice_index word 0 ≡ 48 → length word ≡ 1)
    by_length true is e = (grind (arith, nat_tests, is), λ zero. grind (arith, nat_tests, is))
    by_length false is e =
        let both = both_true (nat_lt 1 (length word)) (not (slice_index word 0 == 48)) e in
        (grind (arith, nat_tests, both.0), λ zero. absurd (grind (arith, nat_tests, both.1, zero)))

at_least_some : (least value : ℕ) (o : Option ℕ) → at_least least o ≡ Some value → (o ≡ Some value) × (least ≤ value)
at_least_some least value None e = cc
at_least_some least value (Some found) e = by_test (nat_lt found least) refl e
  where
    by_test : (b : Bool) → nat_lt found least ≡ b → (if b then None else Some found) ≡ Some value
        → (Some found ≡ Some value) × (least ≤ value)
    by_test true test e = cc
    by_test false test e = (e, (let is = some_same _ _ e in grind (arith, nat_tests, test, is)))

spelled_if : (least most value : ℕ) (word : List ℕ) → most < 2 ^ 64 → (b : Bool) → has_no_leading_zero word ≡ b
    → (if b then at_least least (read_digits most 0 word) else None) ≡ Some value
    → (word ≡ decimal value) × (least ≤ value) × (value ≤ most)
spelled_if least most value word small true lead e =
    let found = at_least_some least value (read_digits most 0 word) e in
    let all = were_read most 0 word value found.0 in
    let bound : value ≤ most = all.bound (omega arith) in
    let first = leading word lead in (
      sym (decimal-digits_value (numerals_by_value _ tells_digits) word all.digits first.0 first.1
          (omega (arith, all.same, bound, small))) ∙ ap decimal all.same,
      found.1,
      bound,
    )
spelled_if least most value word small false lead e = cc

pub spelled : NumbersAreSpelled
spelled least most value word small e = spelled_if least most value word small (has_no_leading_zero word) refl e

decimal_leads : (value : ℕ) → value < 2 ^ 64 → has_no_leading_zero (decimal value) ≡ true
decimal_leads value small = by_zero (value == 0) refl
  where
    by_length : (b : Bool) → (length (decimal value) == 1) ≡ b → 0 < value → has_no_leading_zero (decimal value) ≡ true
    by_length true is some =
        ap (λ b. b || (nat_lt 1 (length (decimal value)) && not (slice_index (decimal value) 0 == 48))) is
    by_length false is some =
        let long : 1 < length (decimal value) =
        (let there = (decimal_is_IsNumeral value small).0.0 in grind (arith, nat_tests, is, there)) in
        let first = first_decimal value some small in
        let longer : nat_lt 1 (length (decimal value)) ≡ true = grind (arith, nat_tests, long) in
        let no_zero : not (slice_index (decimal value) 0 == 48) ≡ true = grind (arith, nat_tests, first) in
        ap (λ b. b || (nat_lt 1 (length (decimal value)) && not (slice_index (decimal value) 0 == 48))) is
        ∙ true_both _ _ longer no_zero

    by_zero : (b : Bool) → (value == 0) ≡ b → has_no_leading_zero (decimal value) ≡ true
    by_zero true is =
        let zero : value ≡ 0 = grind (arith, nat_tests, is) in
        ap has_no_leading_zero (ap decimal zero ∙ decimal_digit 0 (lit< tt))
    by_zero false is = by_length (length (decimal value) == 1) refl (grind (arith, nat_tests, is))

pub read : DecimalsAreRead
read least most value small low high =
    let numeral = decimal_is_IsNumeral value small in
    let no_less : nat_lt value least ≡ false = grind (arith, nat_tests, low) in
    ap (λ b. if b then at_least least (read_digits most 0 (decimal value)) else None) (decimal_leads value small)
    ∙ ap (at_least least) (are_read most 0 (decimal value) numeral.0.1 (omega (arith, numeral.1, high)))
    ∙ ap (λ n. at_least least (Some n)) numeral.1
    ∙ ap (λ b. if b then None else Some value) no_less
