-- What is known of a transaction where its coordinator runs.
use Rattle.std.specs.Prelude.{◌&&◌, ◌||◌, not, ℕ, Bool, List, [], ◌∷◌, Option, None}
use Rattle.std.specs.List.{list_any}
use Rattle.sig_core.specs.declared.op.Answer.{Answer}
use Rattle.sig_core.specs.declared.op.Answer.TheVariants as answer
use Rattle.sig_core.specs.declared.op.Op.{Op}
use Rattle.sig_core.specs.declared.member.TxId.{TxId}
use Rattle.tc_block.specs.declared.transaction.Transaction.{Transaction}
use Rattle.tc_block.specs.Doom.{is_among}
use Rattle.tc_views.specs.State.{CoordinatorState}
use Rattle.key_laws.specs.OneKey.{ops_on}
use Rattle.sig_core.specs.Op.{image_of}
use Rattle.world_core.specs.Entries.{ops_of}
use Rattle.world_core.specs.History.{is_done}
use Rattle.world_core.specs.Marks.{has_mark}
use Rattle.world_core.specs.Start.{Start}
use Rattle.world_core.specs.Steps.{HostStep}
use Rattle.moment_laws.specs.Places.{tc_of}
use Rattle.outcome_laws.specs.Counts.{coordinator_member, is_decision}
use Rattle.request_laws.specs.Blocks.{coordinator_after}
use Rattle.request_laws.specs.Ways.{entry_of, has_gone_back, has_gone_forth}

-- an operation on the key took effect
abbrev pub is_written_by : List (Op × Answer) → List ℕ → Bool
is_written_by ops key = list_any (λ (op : Op × Answer). is_done op.1) (ops_on key ops)

-- the image that the last of these operations that took effect leaves; before the first it is this one
abbrev pub image_left : Option (List ℕ) → List (Op × Answer) → Option (List ℕ)
image_left image [] = image
image_left image ((op, answer.Done) ∷ rest) = image_left (image_of op) rest
image_left image ((op, other) ∷ rest) = image_left image rest

-- what the operations leave on a key that they wrote
abbrev pub image_by : List (Op × Answer) → List ℕ → Option (List ℕ)
image_by ops key = image_left None (ops_on key ops)

module _ (start : Start) (logs : ℕ → List HostStep) (tx : TxId) where
  -- the log of its coordinator's host, and its coordinator behind that
  abbrev pub own_log : List HostStep
  own_log = logs (tc_of start (coordinator_member tx))

  abbrev pub own_coordinator : CoordinatorState
  own_coordinator = coordinator_after start (coordinator_member tx) own_log

  -- the transaction there, unless it is forgotten
  abbrev pub own_live : Option Transaction
  own_live = entry_of own_coordinator tx

  -- it was committed there, or given up
  abbrev pub is_forth : Bool
  is_forth = has_gone_forth start (coordinator_member tx) tx own_log

  abbrev pub is_back : Bool
  is_back = has_gone_back start (coordinator_member tx) tx own_log

  -- it is decided, with these operations
  abbrev pub is_decided : Bool
  is_decided = has_mark (is_decision tx) own_log

  abbrev pub decided_ops : List (Op × Answer)
  decided_ops = ops_of tx own_log

  -- it isn't committed there, and won't be: it was given up, or is doomed
  abbrev pub is_lost : Bool
  is_lost = not is_forth && (is_back || is_among own_coordinator.doomed tx)
