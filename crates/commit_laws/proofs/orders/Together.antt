-- Takeovers are ordered once in a view, and so each key is driven once.
use Rattle.view_laws.proofs.standing.Oldest.{views_come_rightly}
use Rattle.commit_laws.specs.Once.{KeysAreDrivenOnce}
use Rattle.commit_laws.proofs.drive.Ordered.{keys_driven_once}
use Rattle.commit_laws.proofs.drive.Ruled.{OrdersAreOnce}
use Rattle.commit_laws.proofs.orders.All.{one_order}

pub orders_once : OrdersAreOnce
orders_once = one_order views_come_rightly

pub keys_once : KeysAreDrivenOnce
keys_once = keys_driven_once orders_once
