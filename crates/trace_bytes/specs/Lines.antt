-- The bytes of the lines of a batch.
use Rattle.std.specs.Prelude.{ℕ, ◌==◌, nat_lt, if◌then◌else◌, List, [], ◌∷◌}
use Rattle.sig_core.specs.declared.request.BatchLine.{BatchLine}
use Rattle.sig_core.specs.declared.request.BatchLine.TheVariants.{Begin, Operate, Kill, Gcp, Lcp, Micro, Unique}
use Rattle.redo_format.specs.Reading.{Reader, and_then, told, byte_at}
use Rattle.trace_bytes.specs.declared.kinds.lines.TheConstants as lines
use Rattle.trace_bytes.specs.Lists.{◌&◌}
use Rattle.trace_bytes.specs.Numbers.{IsU16, IsU32, IsU8, u16_at, u16_bytes, u32_at, u32_bytes, u8_at, u8_bytes}
use Rattle.trace_bytes.specs.Operations.{IsOp, op_at, op_bytes}
use Rattle.trace_bytes.specs.Words.{IsOptU8, always, opt_u8_at, opt_u8_bytes}

unfoldable pub line_bytes : BatchLine → List ℕ
line_bytes (Begin name node) = lines.BEGIN ∷ u16_bytes name & opt_u8_bytes node
line_bytes (Operate name op) = lines.OPERATE ∷ u16_bytes name & op_bytes op
line_bytes (Kill node after) = lines.KILL ∷ u8_bytes node & u32_bytes after
line_bytes Gcp = lines.GCP ∷ []
line_bytes Lcp = lines.LCP ∷ []
line_bytes Micro = lines.MICRO ∷ []
line_bytes (Unique name op) = lines.UNIQUE ∷ u16_bytes name & op_bytes op

abbrev pub IsLine : BatchLine → Type 0
IsLine (Begin name node) = IsU16 name × IsOptU8 node
IsLine (Operate name op) = IsU16 name × IsOp op
IsLine (Kill node after) = IsU8 node × IsU32 after
IsLine Gcp = Unit {0}
IsLine Lcp = Unit {0}
IsLine Micro = Unit {0}
IsLine (Unique name op) = IsU16 name × IsOp op

unfoldable pub line_of_1 : ℕ → Reader BatchLine
line_of_1 number =
    if number == lines.BEGIN then told (λ x. Begin x.0 x.1) (and_then u16_at (λ _. opt_u8_at))
    else if number == lines.OPERATE then told (λ x. Operate x.0 x.1) (and_then u16_at (λ _. op_at))
    else if number == lines.KILL then told (λ x. Kill x.0 x.1) (and_then u8_at (λ _. u32_at))
    else if number == lines.GCP then always Gcp
    else if number == lines.LCP then always Lcp
    else (always Micro)

unfoldable pub line_of_2 : ℕ → Reader BatchLine
line_of_2 number =
    told (λ x. Unique x.0 x.1) (and_then u16_at (λ _. op_at))

abbrev pub line_of : ℕ → Reader BatchLine
line_of number =
    if nat_lt number 6 then line_of_1 number else line_of_2 number

unfoldable pub line_at : Reader BatchLine
line_at = told (λ x. x.1) (and_then (byte_at 0 6) line_of)
