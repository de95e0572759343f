use Rattle.std.proofs.Common.{sym}
use Rattle.std.proofs.lemmas.Bool.{and_from}
use Rattle.redo_log.specs.Stored.{files_of}
use Rattle.sys_restart.specs.Held.{are_held, are_records_held, records_of}
use Rattle.sys_restart.proofs.HeldLemmas.{all_held, all_records_held}
use Rattle.sys_restart.proofs.held.are_both_held.Goals as goal

-- there is one group
pub returns-then-shape-clause-read : goal.returns-then-shape-clause-read
returns-then-shape-clause-read g c = λ calls told.
    let shape = c.args.shape.now in
    let node = c.args.node in
    let records = records_of (files_of calls) c.args.slot.now in
    sym
    (and_from (are_held shape node c.args.rows.now) (are_records_held shape node records)
    (all_held shape c.requires.shape c.if-shape.true node c.requires.first c.requires.last c.args.rows.now)
    (all_records_held shape c.requires.shape c.if-shape.true node c.requires.first c.requires.last records))
