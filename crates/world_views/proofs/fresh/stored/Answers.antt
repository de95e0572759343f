use Rattle.std.proofs.Common.{drop, sym, ap, ◌∙◌}
use Rattle.sig_core.specs.Rows.{RowsState, no_rows}
use Rattle.node_core.specs.Fresh.{own_rows, with_rows}
use Rattle.node_core.proofs.RowLemmas.{row_put}
use Rattle.world_views.proofs.FreshBodies.{none_pending}
use Rattle.world_views.proofs.fresh.stored.Goals as goal

pub loop-row-preserved : goal.loop-row-preserved
loop-row-preserved c =
    record {
      left = row_put c.args.shape.now c.args.node c.args.epoch c.loop-row.stored.rows c.put.new.stored.rows
          (with_rows no_rows (own_rows c.args.shape.now c.args.node c.args.rows.now) c.args.epoch) c.args.rows.now
          c.loop-row.row-index c.row-item.result c.loop-row-test.true c.row-item.is c.in_ok-put.ensures
          c.loop-row.invariant.left;
    }

pub returns-clause-none : goal.returns-clause-none
returns-clause-none c =
    let own = own_rows c.args.shape.now c.args.node in
    sym (none_pending c.loop-row.stored.rows (own (drop c.loop-row.row-index c.args.rows.now)) c.args.epoch)
    ∙ ap (λ (s : RowsState). s.pending) c.loop-row.invariant.left
    ∙ none_pending no_rows (own c.args.rows.now) c.args.epoch
