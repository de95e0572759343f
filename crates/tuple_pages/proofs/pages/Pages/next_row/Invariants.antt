use Rattle.std.proofs.Common.{◌≡◌, drop}
use Rattle.std.specs.Prelude.{position}
use Rattle.sig_core.specs.Rows.{has_row, next_by}
use Rattle.tuple_pages.proofs.pages.Pages.next_row.Given as goal

-- what is left tells the answer
abbrev pub invariant-loop-place : goal.invariant-loop-place
invariant-loop-place l =
    next_by l.place (position has_row (drop l.place l.self.slots))
    ≡ next_by l.at (position has_row (drop l.at l.self.slots))
