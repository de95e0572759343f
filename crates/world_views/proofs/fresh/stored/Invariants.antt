use Rattle.std.proofs.Common.{◌≡◌, drop}
use Rattle.sig_core.specs.Rows.{no_rows}
use Rattle.node_core.specs.Fresh.{own_rows, with_rows}
use Rattle.world_views.proofs.fresh.stored.Given as goal

-- what is left leads to the same as all did
abbrev pub invariant-loop-row : goal.invariant-loop-row
invariant-loop-row l = record {
  left : with_rows l.stored.rows (own_rows l.shape l.node (drop l.row-index l.rows)) l.epoch
      ≡ with_rows no_rows (own_rows l.shape l.node l.rows) l.epoch;
}
