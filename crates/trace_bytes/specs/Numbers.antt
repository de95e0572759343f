-- The bytes of numbers, the highest first.
use Rattle.std.specs.Prelude.{ℕ, ◌^◌, ◌<◌, List, [], ◌∷◌}
use Rattle.std.specs.Int.{w16, w32, w64, to_be_bytes}
use Rattle.redo_format.specs.Reading.{Reader, byte_at, number_at}

abbrev pub u8_bytes : ℕ → List ℕ
u8_bytes n = n ∷ []

abbrev pub IsU8 : ℕ → Type 0
IsU8 n = n < 256

abbrev pub u8_at : Reader ℕ
u8_at = byte_at 0 255

unfoldable pub u16_bytes : ℕ → List ℕ
u16_bytes n = to_be_bytes w16 n

abbrev pub IsU16 : ℕ → Type 0
IsU16 n = n < 2 ^ 16

abbrev pub u16_at : Reader ℕ
u16_at = number_at w16

unfoldable pub u32_bytes : ℕ → List ℕ
u32_bytes n = to_be_bytes w32 n

abbrev pub IsU32 : ℕ → Type 0
IsU32 n = n < 2 ^ 32

abbrev pub u32_at : Reader ℕ
u32_at = number_at w32

unfoldable pub u64_bytes : ℕ → List ℕ
u64_bytes n = to_be_bytes w64 n

abbrev pub IsU64 : ℕ → Type 0
IsU64 n = n < 2 ^ 64

abbrev pub u64_at : Reader ℕ
u64_at = number_at w64
