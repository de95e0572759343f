-- In each view at most one takeover is ordered, if hosts come to views rightly.
use Rattle.commit_laws.proofs.drive.Ruled.{OrdersAreOnce}
use Rattle.view_laws.proofs.standing.Oldest.{ViewsComeRightly}
use Rattle.commit_laws.proofs.orders.Oldest.{oldest_go_first}
use Rattle.commit_laws.proofs.orders.Once.{orders_are_once}
use Rattle.commit_laws.proofs.orders.Others.{others_are_quiet}

pub one_order : ViewsComeRightly → OrdersAreOnce
one_order come_rightly = orders_are_once others_are_quiet (oldest_go_first come_rightly)
