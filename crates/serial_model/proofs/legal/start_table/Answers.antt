use Rattle.std.proofs.Common.{ap, sym, ◌∙◌}
use Rattle.std.specs.FinMap as map
use Rattle.serial_model.proofs.LegalLemmas.{rows_more}
use Rattle.serial_model.proofs.legal.start_table.Goals as goal

pub loop-row-preserved : goal.loop-row-preserved
loop-row-preserved c =
    c.in_ok-insert.ensures.ok
    ∙ ap (λ rows. map.insert rows c.row-item.result.0 c.row-item.result.1) c.loop-row.invariant
    ∙ sym (rows_more map.empty c.args.start.now c.loop-row.row-index c.row-item.result c.loop-row-test.true
    c.row-item.is)
