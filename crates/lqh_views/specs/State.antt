-- The state of a node's rows under views.
use Rattle.std.specs.Prelude.{ℕ, Option}
use Rattle.lqh_block.specs.State.{LqhState}
use Rattle.lqh_views.specs.declared.report.Report.{Report}

-- the rows; the greatest epochs that they have noted as closed and as saved; and the report that is under way
pub record ReplicaState : Type 0 where
  pub lqh : LqhState
  pub closed : ℕ
  pub saved : ℕ
  pub report : Option Report

abbrev pub with_lqh : ReplicaState → LqhState → ReplicaState
with_lqh s lqh = record { lqh = lqh; closed = s.closed; saved = s.saved; report = s.report }

abbrev pub with_report : ReplicaState → Option Report → ReplicaState
with_report s report = record { lqh = s.lqh; closed = s.closed; saved = s.saved; report = report }
