-- The transaction among those that a coordinator has, where no two are of one number.
use Rattle.std.proofs.Common.{◌≡◌, List}
use Rattle.std.specs.Prelude.{Some}
use Rattle.run_theory.specs.Lists.{Each}
use Rattle.sig_core.specs.declared.member.TxId.{TxId}
use Rattle.tc_block.specs.declared.transaction.Transaction.{Transaction}
use Rattle.host_laws.proofs.coordinator.OfLive.{each_found}
use Rattle.host_laws.specs.Live.{of_live}

-- what holds of each holds of it
pub of_each : (P : TxId → Transaction → Type 0) (tx : TxId) (live : List (TxId × Transaction)) (t : Transaction)
    → Each (λ (e : TxId × Transaction). P e.0 e.1) live → of_live tx live ≡ Some t → P tx t
of_each P tx live t = each_found (λ e. P e.0 e.1) live tx t
