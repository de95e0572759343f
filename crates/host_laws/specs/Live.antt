-- One transaction among those of a coordinator.
use Rattle.std.specs.Prelude.{if◌then◌else◌, List, [], ◌∷◌, Option, None, Some}
use Rattle.sig_core.specs.declared.member.TxId.{TxId}
use Rattle.sig_core.specs.Same.{same_tx}
use Rattle.tc_block.specs.declared.transaction.Transaction.{Transaction}

-- of the transactions that a coordinator hasn't forgotten, this one
abbrev pub of_live : TxId → List (TxId × Transaction) → Option Transaction
of_live tx [] = None
of_live tx (e ∷ rest) = if same_tx e.0 tx then Some e.1 else of_live tx rest
