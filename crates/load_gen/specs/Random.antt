-- The ring of random numbers: three shifts, each laid over the number, in 64 bits without the lost ones.
use Rattle.std.specs.Prelude.{ℕ, zero, suc, ◌*◌, ◌/◌, ◌%◌, ◌^◌, ◌==◌, if◌then◌else◌, bit_xor}

abbrev pub laid_left : ℕ → ℕ → ℕ
laid_left shift x = bit_xor x (x * 2 ^ shift % 2 ^ 64)

abbrev pub laid_right : ℕ → ℕ → ℕ
laid_right shift x = bit_xor x (x / 2 ^ shift)

-- a draw
unfoldable pub next : ℕ → ℕ
next x = laid_left 17 (laid_right 7 (laid_left 13 x))

-- so many draws
unfoldable pub drawn : ℕ → ℕ → ℕ
drawn zero x = x
drawn (suc draws) x = next (drawn draws x)

abbrev pub or_one : ℕ → ℕ
or_one x = if x == 0 then 1 else x

-- where the ring begins for a seed
unfoldable pub first : ℕ → ℕ
first seed = or_one (bit_xor seed 0x9e3779b97f4a7c15)
