-- What was done to a disk.
use Rattle.std.specs.Prelude.{ℕ, List}

-- A call that a disk keeps in its record: bytes were written at a place of a file; a write failed, and may have laid
-- down a piece in place of what was asked for; a file was synced; power was cut, and each file has these bytes. A read,
-- a call that failed in another way, and a cut right after another leave no entry.
pub data Call : Type 0 where
  Wrote : ℕ → ℕ → List ℕ → Call
  Tore : ℕ → ℕ → List ℕ → List ℕ → Call
  Synced : ℕ → Call
  Lost : List (List ℕ) → Call
