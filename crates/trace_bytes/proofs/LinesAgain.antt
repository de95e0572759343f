-- What is written of these is read again.
use Rattle.std.proofs.Common.{◌≡◌, ℕ, List, [], ◌∷◌, ◌++◌, drop, refl, lit≤}
use Rattle.std.specs.Prelude.{Result, Ok, Err}
use Rattle.sig_core.specs.declared.request.BatchLine.{BatchLine}
use Rattle.sig_core.specs.declared.request.BatchLine.TheVariants.{Begin, Operate, Kill, Gcp, Lcp, Micro, Unique}
use Rattle.trace_bytes.specs.declared.kinds.lines.TheConstants as lines
use Rattle.trace_bytes.specs.Lines.{line_bytes, IsLine, line_of, line_at, line_of_1, line_of_2}
use Rattle.trace_bytes.proofs.Again.{Again, again, both, known}
use Rattle.trace_bytes.proofs.OperationsAgain.{again_op}
use Rattle.trace_bytes.proofs.WordsAgain.{again_opt_u8, again_u16, again_u32, again_u8}

line_again : (x : BatchLine) (rest : List ℕ) → IsLine x → line_at (line_bytes x ++ rest) ≡ Ok (x, rest)
unfolding line_bytes line_at line_of_1 line_of_2
line_again (Begin name node) rest fits =
    known 6 line_of lines.BEGIN (drop 1 (line_bytes (Begin name node)) ++ rest) ((Begin name node), rest) (lit≤ tt)
    (again (λ x. Begin x.0 x.1) (both again_u16 again_opt_u8) (name, node) rest (fits.0, fits.1))
line_again (Operate name op) rest fits =
    known 6 line_of lines.OPERATE (drop 1 (line_bytes (Operate name op)) ++ rest) ((Operate name op), rest) (lit≤ tt)
    (again (λ x. Operate x.0 x.1) (both again_u16 again_op) (name, op) rest (fits.0, fits.1))
line_again (Kill node after) rest fits =
    known 6 line_of lines.KILL (drop 1 (line_bytes (Kill node after)) ++ rest) ((Kill node after), rest) (lit≤ tt)
    (again (λ x. Kill x.0 x.1) (both again_u8 again_u32) (node, after) rest (fits.0, fits.1))
line_again Gcp rest fits =
    known 6 line_of lines.GCP (drop 1 (line_bytes Gcp) ++ rest) (Gcp, rest) (lit≤ tt) refl
line_again Lcp rest fits =
    known 6 line_of lines.LCP (drop 1 (line_bytes Lcp) ++ rest) (Lcp, rest) (lit≤ tt) refl
line_again Micro rest fits =
    known 6 line_of lines.MICRO (drop 1 (line_bytes Micro) ++ rest) (Micro, rest) (lit≤ tt) refl
line_again (Unique name op) rest fits =
    known 6 line_of lines.UNIQUE (drop 1 (line_bytes (Unique name op)) ++ rest) ((Unique name op), rest) (lit≤ tt)
    (again (λ x. Unique x.0 x.1) (both again_u16 again_op) (name, op) rest (fits.0, fits.1))

pub again_line : Again IsLine line_bytes line_at
again_line = record { reads = line_again }
