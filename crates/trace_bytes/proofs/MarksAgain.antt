-- What is written of these is read again.
use Rattle.std.proofs.Common.{◌≡◌, ℕ, List, [], ◌∷◌, ◌++◌, drop, refl, lit≤}
use Rattle.std.specs.Prelude.{Result, Ok, Err}
use Rattle.sig_core.specs.declared.mark.Mark.{Mark}
use Rattle.sig_core.specs.declared.mark.Mark.TheVariants.{Prepared, Decided, Applied, Done, Expired, Promised}
use Rattle.sig_core.specs.declared.mark.Mark.TheVariants.{Installed, Reported, Durable, CutOff, Down, Stopped, Closed}
use Rattle.trace_bytes.specs.declared.kinds.marks.TheConstants as marks
use Rattle.trace_bytes.specs.Marks.{mark_bytes, IsMark, mark_of, mark_at, mark_of_1, mark_of_2, mark_of_3}
use Rattle.trace_bytes.proofs.Again.{Again, again, both, known}
use Rattle.trace_bytes.proofs.CausesAgain.{again_outcome, again_stop}
use Rattle.trace_bytes.proofs.WordsAgain.{again_host, again_key, again_tx, again_u64, again_u8, again_view}

mark_again : (x : Mark) (rest : List ℕ) → IsMark x → mark_at (mark_bytes x ++ rest) ≡ Ok (x, rest)
unfolding mark_bytes mark_at mark_of_1 mark_of_2 mark_of_3
mark_again (Prepared tx key) rest fits =
    known 12 mark_of marks.PREPARED (drop 1 (mark_bytes (Prepared tx key)) ++ rest) ((Prepared tx key), rest) (lit≤ tt)
    (again (λ x. Prepared x.0 x.1) (both again_tx again_key) (tx, key) rest (fits.0, fits.1))
mark_again (Decided tx epoch) rest fits =
    known 12 mark_of marks.DECIDED (drop 1 (mark_bytes (Decided tx epoch)) ++ rest) ((Decided tx epoch), rest) (lit≤ tt)
    (again (λ x. Decided x.0 x.1) (both again_tx again_u64) (tx, epoch) rest (fits.0, fits.1))
mark_again (Applied tx key) rest fits =
    known 12 mark_of marks.APPLIED (drop 1 (mark_bytes (Applied tx key)) ++ rest) ((Applied tx key), rest) (lit≤ tt)
    (again (λ x. Applied x.0 x.1) (both again_tx again_key) (tx, key) rest (fits.0, fits.1))
mark_again (Done tx key) rest fits =
    known 12 mark_of marks.DONE (drop 1 (mark_bytes (Done tx key)) ++ rest) ((Done tx key), rest) (lit≤ tt)
    (again (λ x. Done x.0 x.1) (both again_tx again_key) (tx, key) rest (fits.0, fits.1))
mark_again (Expired tx key) rest fits =
    known 12 mark_of marks.EXPIRED (drop 1 (mark_bytes (Expired tx key)) ++ rest) ((Expired tx key), rest) (lit≤ tt)
    (again (λ x. Expired x.0 x.1) (both again_tx again_key) (tx, key) rest (fits.0, fits.1))
mark_again (Promised number) rest fits =
    known 12 mark_of marks.PROMISED (drop 1 (mark_bytes (Promised number)) ++ rest) ((Promised number), rest) (lit≤ tt)
    (again (λ x. Promised x) again_u64 number rest fits)
mark_again (Installed view) rest fits =
    known 12 mark_of marks.INSTALLED (drop 1 (mark_bytes (Installed view)) ++ rest) ((Installed view), rest) (lit≤ tt)
    (again (λ x. Installed x) again_view view rest fits)
mark_again (Reported tx outcome) rest fits =
    known 12 mark_of marks.REPORTED (drop 1 (mark_bytes (Reported tx outcome)) ++ rest) ((Reported tx outcome), rest)
    (lit≤ tt) (again (λ x. Reported x.0 x.1) (both again_tx again_outcome) (tx, outcome) rest (fits.0, fits.1))
mark_again (Durable epoch) rest fits =
    known 12 mark_of marks.DURABLE (drop 1 (mark_bytes (Durable epoch)) ++ rest) ((Durable epoch), rest) (lit≤ tt)
    (again (λ x. Durable x) again_u64 epoch rest fits)
mark_again (CutOff host) rest fits =
    known 12 mark_of marks.CUT_OFF (drop 1 (mark_bytes (CutOff host)) ++ rest) ((CutOff host), rest) (lit≤ tt)
    (again (λ x. CutOff x) again_host host rest fits)
mark_again (Down group) rest fits =
    known 12 mark_of marks.DOWN (drop 1 (mark_bytes (Down group)) ++ rest) ((Down group), rest) (lit≤ tt)
    (again (λ x. Down x) again_u8 group rest fits)
mark_again (Stopped cause) rest fits =
    known 12 mark_of marks.STOPPED (drop 1 (mark_bytes (Stopped cause)) ++ rest) ((Stopped cause), rest) (lit≤ tt)
    (again (λ x. Stopped x) again_stop cause rest fits)
mark_again (Closed epoch) rest fits =
    known 12 mark_of marks.CLOSED (drop 1 (mark_bytes (Closed epoch)) ++ rest) ((Closed epoch), rest) (lit≤ tt)
    (again (λ x. Closed x) again_u64 epoch rest fits)

pub again_mark : Again IsMark mark_bytes mark_at
again_mark = record { reads = mark_again }
