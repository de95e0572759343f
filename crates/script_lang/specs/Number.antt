-- The numbers of a script: decimal digits without leading zeros.
use Rattle.std.specs.Prelude.{◌≡◌, ℕ, ◌+◌, ◌-◌, ◌*◌, ◌^◌, ◌<◌, ◌≤◌, ◌==◌, ◌&&◌, ◌||◌, not, Bool, nat_lt, if◌then◌else◌}
use Rattle.std.specs.Prelude.{List, [], ◌∷◌, length, slice_index, Option, None, Some}
use Rattle.std.specs.Fmt.{decimal}

abbrev pub is_digit : ℕ → Bool
is_digit byte = nat_lt 47 byte && nat_lt byte 58

-- the number with one more digit behind it, if it isn't above `most`
abbrev pub with_digit : ℕ → ℕ → ℕ → Option ℕ
with_digit most before byte =
    if is_digit byte && not (nat_lt most (before * 10 + (byte - 48))) then Some (before * 10 + (byte - 48)) else None

abbrev pub read_next : (ℕ → Option ℕ) → Option ℕ → Option ℕ
read_next further None = None
read_next further (Some value) = further value

-- the number that the digits tell behind those of `before`, if it isn't above `most`
abbrev pub read_digits : ℕ → ℕ → List ℕ → Option ℕ
read_digits most before [] = Some before
read_digits most before (byte ∷ rest) = read_next (λ value. read_digits most value rest) (with_digit most before byte)

-- there is a digit, and no zero stands in front of another
abbrev pub has_no_leading_zero : List ℕ → Bool
has_no_leading_zero word = (length word == 1) || (nat_lt 1 (length word) && not (slice_index word 0 == 48))

abbrev pub at_least : ℕ → Option ℕ → Option ℕ
at_least least None = None
at_least least (Some value) = if nat_lt value least then None else Some value

-- the number that the word tells, if it is from `least` to `most`
abbrev pub number : ℕ → ℕ → List ℕ → Option ℕ
number least most word = if has_no_leading_zero word then at_least least (read_digits most 0 word) else None

-- a word that tells a number is its decimal text, and the number is in its range
abbrev pub NumbersAreSpelled : Type 0
NumbersAreSpelled =
    (least most value : ℕ) (word : List ℕ) → most < 2 ^ 64 → number least most word ≡ Some value
    → (word ≡ decimal value) × (least ≤ value) × (value ≤ most)

-- the decimal text of a number in its range tells it
abbrev pub DecimalsAreRead : Type 0
DecimalsAreRead = (least most value : ℕ) → value < 2 ^ 64 → least ≤ value → value ≤ most
    → number least most (decimal value) ≡ Some value
