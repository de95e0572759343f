-- All bytes of a source, as many as a trace may have.
use Rattle.std.specs.Prelude.{◌≡◌, ℕ, ◌+◌, ◌≤◌, List, length, Option}
use Rattle.std.specs.Io.KnownBytes.{Consumes, IsAtEnd}
use Rattle.shell_top.specs.declared.gathered.Ungathered.{Ungathered}
use Rattle.shell_top.specs.declared.gathered.Ungathered.TheVariants.{Failed, NoMemory, TooLong}
use Rattle.trace_write.specs.declared.trace.TheConstants.{TRACE_BYTES}

-- the source was read to its end, and these are the bytes
pub record IsGathered (left left_now : Option (List ℕ)) (bytes : List ℕ) : Type 0 where
  pub consumed : Consumes left left_now bytes
  pub at_end : IsAtEnd left_now
  pub short : length bytes ≤ TRACE_BYTES

-- why reading ended behind so many bytes
abbrev pub IsCause : Ungathered → ℕ → Type 0 → Type 0
IsCause TooLong count ReadFailed = count ≡ TRACE_BYTES + 1
IsCause Failed count ReadFailed = ReadFailed
IsCause NoMemory count ReadFailed = Unit {0}

-- the source was read, but not to its end
pub record IsUngathered (left left_now : Option (List ℕ)) (ReadFailed : Type 0) (why : Ungathered) : Type 0 where
  pub bytes : List ℕ
  pub consumed : Consumes left left_now bytes
  pub cause : IsCause why (length bytes) ReadFailed
  pub short : length bytes ≤ TRACE_BYTES + 1
