-- How the events of one key move what is true of it at its primary.
use Rattle.std.specs.Prelude.{◌≡◌, ℕ, Bool, true, false, List, Option}
use Rattle.sig_core.specs.declared.member.TxId.{TxId}
use Rattle.sig_core.specs.declared.op.Op.{Op}
use Rattle.sig_core.specs.Same.{same_tx}
use Rattle.row_locks.specs.declared.claim.Holder.{Holder}
use Rattle.row_locks.specs.Holders.{holds_enough}
use Rattle.lqh_block.specs.Work.{op_mode}
use Rattle.key_laws.specs.OneKey.{AreRight, row_after_all}
use Rattle.key_laws.specs.Primary.{HasPrepared, HoldOn, IsGood, IsLedTo, KeepsToo, Primary, aborted, committed}
use Rattle.key_laws.specs.Primary.{completed, granted, performed}

abbrev pub nobody_gone : TxId → Bool
nobody_gone v = false

-- more holders keep the key in good order
abbrev pub GrantsKeepGood : Type 0
GrantsKeepGood = (p : Primary) (holders : List Holder) → IsGood p → HoldOn nobody_gone p.holders holders
    → IsGood (granted p holders)

-- and so does an operation of a transaction that holds the lock as it needs to
abbrev pub OperationsKeepGood : Type 0
OperationsKeepGood = (p : Primary) (tx : TxId) (op : Op) → IsGood p → holds_enough tx (op_mode op) p.holders ≡ true
    → IsGood (performed p tx op)

-- and the end of a transaction, which lets go of the lock
abbrev pub CommitsKeepGood : Type 0
CommitsKeepGood = (p : Primary) (tx : TxId) (holders : List Holder) → IsGood p → HoldOn (same_tx tx) p.holders holders
    → IsGood (committed p tx holders)

abbrev pub AbortsKeepGood : Type 0
AbortsKeepGood = (p : Primary) (tx : TxId) (holders : List Holder) → IsGood p → HoldOn (same_tx tx) p.holders holders
    → IsGood (aborted p tx holders)

-- a completion comes behind the commit, so that no record of the transaction is prepared
abbrev pub CompletionsKeepGood : Type 0
CompletionsKeepGood =
    (p : Primary) (tx : TxId) (holders : List Holder) → IsGood p → (HasPrepared tx p.pending → ⊥)
    → HoldOn (same_tx tx) p.holders holders
    → IsGood (completed p tx holders)

-- an operation of a transaction that isn't kept moves nothing of what the row is led to
abbrev pub OperationsKeepValue : Type 0
OperationsKeepValue =
    (p : Primary) (tx : TxId) (op : Op) (kept : TxId → Bool) (value : Option (List ℕ)) → kept tx ≡ false
    → IsLedTo kept value p.row p.pending
    → IsLedTo kept value (performed p tx op).row (performed p tx op).pending

-- nor does the commit of one that is, where it has something to commit
abbrev pub CommitsKeepValue : Type 0
CommitsKeepValue =
    (p : Primary) (tx : TxId) (holders : List Holder) (kept : TxId → Bool) (value : Option (List ℕ)) → IsGood p
    → (HasPrepared tx p.pending → kept tx ≡ true)
    → IsLedTo kept value p.row p.pending
    → IsLedTo kept value (committed p tx holders).row (committed p tx holders).pending

-- nor the abort of one that isn't
abbrev pub AbortsKeepValue : Type 0
AbortsKeepValue =
    (p : Primary) (tx : TxId) (holders : List Holder) (kept : TxId → Bool) (value : Option (List ℕ)) → kept tx ≡ false
    → IsLedTo kept value p.row p.pending
    → IsLedTo kept value (aborted p tx holders).row (aborted p tx holders).pending

-- nor a completion
abbrev pub CompletionsKeepValue : Type 0
CompletionsKeepValue =
    (p : Primary) (tx : TxId) (holders : List Holder) (kept : TxId → Bool) (value : Option (List ℕ))
    → IsLedTo kept value p.row p.pending
    → IsLedTo kept value (completed p tx holders).row (completed p tx holders).pending

-- A transaction that hasn't ended is decided, and is kept: what it was answered on the key is right from the value that
-- the
-- row is led to, and from then on the row is led to what these operations make of that.
pub record IsDecidedRightly (p : Primary) (tx : TxId) (now : TxId → Bool) (value : Option (List ℕ)) : Type 0 where
  pub right : AreRight value (p.made tx)
  pub led : IsLedTo now (row_after_all value (p.made tx)) p.row p.pending

abbrev pub DecisionsAreRight : Type 0
DecisionsAreRight =
    (p : Primary) (tx : TxId) (kept now : TxId → Bool) (value : Option (List ℕ)) → IsGood p → p.ended tx ≡ false
    → KeepsToo tx kept now
    → IsLedTo kept value p.row p.pending → IsDecidedRightly p tx now value
