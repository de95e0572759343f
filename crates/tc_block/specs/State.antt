-- The coordinator's state.
use Rattle.std.specs.Prelude.{ℕ, List}
use Rattle.sig_core.specs.declared.member.TxId.{TxId}
use Rattle.frag_map.specs.Layout.{Layout}
use Rattle.tc_block.specs.declared.transaction.Transaction.{Transaction}

-- a coordinator: its node and start, the number of its next transaction, its layout, and the transactions that it
-- hasn't forgotten, in the order in which they began
pub record TcState : Type 0 where
  pub node : ℕ
  pub start : ℕ
  pub next_seq : ℕ
  pub layout : Layout
  pub live : List (TxId × Transaction)

-- the coordinator with these transactions
abbrev pub with_live : TcState → List (TxId × Transaction) → TcState
with_live s live = record { node = s.node; start = s.start; next_seq = s.next_seq; layout = s.layout; live = live }
