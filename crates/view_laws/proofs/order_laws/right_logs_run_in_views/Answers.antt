use Rattle.view_laws.proofs.eras.Order.{run_in_views}
use Rattle.view_laws.proofs.order_laws.right_logs_run_in_views.Goals as goal

pub returns : goal.returns
returns c = run_in_views
