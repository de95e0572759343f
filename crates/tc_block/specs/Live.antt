-- Steps of one of the coordinator's transactions.
use Rattle.std.specs.Prelude.{ℕ, Bool, true, false, List, is_some, remove, position, slice_get, Option, None, Some}
use Rattle.std.specs.Map.{keys_of, values_of}
use Rattle.indexmap.specs.IndexMap.{set_value_at}
use Rattle.sig_core.specs.declared.member.TxId.{TxId}
use Rattle.sig_core.specs.Same.{same_tx}
use Rattle.sig_core.specs.Step.{Step, stay}
use Rattle.tc_block.specs.declared.transaction.Transaction.{Transaction}
use Rattle.tc_block.specs.State.{TcState, with_live}
use Rattle.tc_block.specs.Turn.{Turn}

-- where the transaction stands among those that aren't forgotten
abbrev pub place_in : TcState → TxId → Option ℕ
place_in s tx = position (same_tx tx) (keys_of s.live)

-- the transaction isn't forgotten
abbrev pub is_live : TcState → TxId → Bool
is_live s tx = is_some (place_in s tx)

-- the transaction at a place takes a step
abbrev pub stepped : TcState → ℕ → Step Transaction → Step TcState
stepped s at step = record { state = with_live s (set_value_at s.live at step.state); effects = step.effects }

-- the transactions without the one at a place
unfoldable pub without : List (TxId × Transaction) → ℕ → List (TxId × Transaction)
without live at = remove live at

-- the transaction at a place takes a turn, and is forgotten where it is over then
abbrev pub turned_if : TcState → ℕ → Turn → Bool → Step TcState
turned_if s at turn true = record { state = with_live s (without s.live at); effects = turn.step.effects }
turned_if s at turn false = stepped s at turn.step

abbrev pub turned : TcState → ℕ → Turn → Step TcState
turned s at turn = turned_if s at turn turn.over

-- the transaction does what its row says; one that isn't there changes nothing
abbrev pub step_value : TcState → (Transaction → Step Transaction) → ℕ → Option Transaction → Step TcState
step_value s row at None = stay s
step_value s row at (Some t) = stepped s at (row t)

abbrev pub step_place : TcState → (Transaction → Step Transaction) → Option ℕ → Step TcState
step_place s row None = stay s
step_place s row (Some at) = step_value s row at (slice_get (values_of s.live) at)

abbrev pub step_of : TcState → TxId → (Transaction → Step Transaction) → Step TcState
step_of s tx row = step_place s row (place_in s tx)

-- and so where it may be over then
abbrev pub turn_value : TcState → (Transaction → Turn) → ℕ → Option Transaction → Step TcState
turn_value s row at None = stay s
turn_value s row at (Some t) = turned s at (row t)

abbrev pub turn_place : TcState → (Transaction → Turn) → Option ℕ → Step TcState
turn_place s row None = stay s
turn_place s row (Some at) = turn_value s row at (slice_get (values_of s.live) at)

abbrev pub turn_of : TcState → TxId → (Transaction → Turn) → Step TcState
turn_of s tx row = turn_place s row (place_in s tx)
