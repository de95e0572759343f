use Rattle.redo_log.specs.LogState.{fresh_log}
use Rattle.redo_log.proofs.LawLemmas.{placed, given}
use Rattle.redo_log.proofs.laws.pieces_are_the_records.Goals as goal

pub returns : goal.returns
returns c = λ generation parity calls.
    (placed calls (fresh_log generation parity), given calls (fresh_log generation parity))
