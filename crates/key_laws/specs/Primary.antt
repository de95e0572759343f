-- One key of its primary replica: its row, the records and the holders of its lock, and what it answered each
-- transaction.
use Rattle.std.specs.Prelude.{◌≡◌, ◌⊎◌, if◌then◌else◌, ◌||◌, ℕ, Bool, true, false, List, [], ◌∷◌, ◌++◌, Option, Some}
use Rattle.run_theory.specs.Lists.{Each}
use Rattle.sig_core.specs.declared.member.TxId.{TxId}
use Rattle.sig_core.specs.declared.op.Answer.{Answer}
use Rattle.sig_core.specs.declared.op.Answer.TheVariants.{Done}
use Rattle.sig_core.specs.declared.op.Op.{Op}
use Rattle.sig_core.specs.declared.rows.PendingRecord.{PendingRecord}
use Rattle.sig_core.specs.Op.{answer_to, image_of, key_of}
use Rattle.sig_core.specs.Rows.{prepared}
use Rattle.sig_core.specs.Same.{same_tx}
use Rattle.row_locks.specs.declared.claim.Holder.{Holder}
use Rattle.row_locks.specs.declared.mode.Mode.TheVariants.{Exclusive}
use Rattle.row_locks.specs.Holders.{holds, holds_enough}
use Rattle.row_locks.specs.Orderly.{are_agreed}
use Rattle.key_laws.specs.OneKey.{AreRight, row_after_all}
use Rattle.key_laws.specs.Records.{AreOnce, as_committed, committed_row, edited, found, if_committed, kept_row, seen_by}
use Rattle.key_laws.specs.Records.{stored, unless_committed}

-- the key at its primary; `ended` are the transactions whose commit or abort it has taken
pub record Primary : Type 0 where
  pub row : Option (List ℕ)
  pub pending : List PendingRecord
  pub holders : List Holder
  pub made : TxId → List (Op × Answer)
  pub ended : TxId → Bool

-- the row as a transaction sees it
abbrev pub seen_at : Primary → TxId → Option (List ℕ)
seen_at p tx = seen_by p.row (found tx p.pending)

-- the record is committed, or its transaction holds the lock exclusive
abbrev pub IsOwned : List Holder → PendingRecord → Type 0
IsOwned holders r = (r.committed ≡ true) ⊎ (holds_enough r.tx Exclusive holders ≡ true)

-- The key is in good order: of each transaction that hasn't ended the answers are right from the row on, and lead to
-- the
-- row as it sees it; records are of exclusive holders until they are committed; who doesn't hold the lock was answered
-- nothing.
pub record IsGood (p : Primary) : Type 0 where
  pub right : (v : TxId) → p.ended v ≡ false → AreRight p.row (p.made v)
  pub leads : (v : TxId) → p.ended v ≡ false → row_after_all p.row (p.made v) ≡ seen_at p v
  pub once : AreOnce p.pending
  pub owned : Each (IsOwned p.holders) p.pending
  pub over : Each (λ (r : PendingRecord). r.committed ≡ true → p.ended r.tx ≡ true) p.pending
  pub none : (v : TxId) → p.ended v ≡ false → holds v p.holders ≡ false → p.made v ≡ []
  pub agreed : are_agreed p.holders ≡ true

-- Of holders that agree come others that agree: who held the lock holds it still, and so exclusive, but for those that
-- are gone.
pub record HoldOn (gone : TxId → Bool) (before after : List Holder) : Type 0 where
  pub agreed : are_agreed after ≡ true
  pub held : (v : TxId) → gone v ≡ false → holds v before ≡ true → holds v after ≡ true
  pub exclusive : (v : TxId) → gone v ≡ false → holds_enough v Exclusive before ≡ true
      → holds_enough v Exclusive after ≡ true

-- more transactions come to hold the lock
abbrev pub granted : Primary → List Holder → Primary
granted p holders = record { row = p.row; pending = p.pending; holders = holders; made = p.made; ended = p.ended }

-- one answer more
abbrev pub noted : (TxId → List (Op × Answer)) → TxId → Op × Answer → TxId → List (Op × Answer)
noted made tx op v = if same_tx tx v then made v ++ op ∷ [] else made v

abbrev pub stored_by : Answer → TxId → Op → List PendingRecord → List PendingRecord
stored_by Done tx op pending = stored (prepared tx (key_of op) (image_of op)) pending
stored_by answer tx op pending = pending

-- an operation of a holder is performed, and answered
abbrev pub answered : Primary → TxId → Op → Answer → Primary
answered p tx op answer =
    record {
      row = p.row;
      pending = stored_by answer tx op p.pending;
      holders = p.holders;
      made = noted p.made tx (op, answer);
      ended = p.ended;
    }

abbrev pub performed : Primary → TxId → Op → Primary
performed p tx op = answered p tx op (answer_to op (seen_at p tx))

abbrev pub ended_too : (TxId → Bool) → TxId → TxId → Bool
ended_too ended tx v = same_tx tx v || ended v

-- a transaction ends here: its record is edited, and these hold the lock then
abbrev pub ended_with : Primary → TxId → Option (List ℕ) → (PendingRecord → Option PendingRecord) → List Holder
    → Primary
ended_with p tx row f holders =
    record {
      row = row;
      pending = edited f tx p.pending;
      holders = holders;
      made = p.made;
      ended = ended_too p.ended tx;
    }

abbrev pub committed : Primary → TxId → List Holder → Primary
committed p tx holders = ended_with p tx (committed_row p.row (found tx p.pending)) as_committed holders

abbrev pub aborted : Primary → TxId → List Holder → Primary
aborted p tx holders = ended_with p tx p.row if_committed holders

abbrev pub completed : Primary → TxId → List Holder → Primary
completed p tx holders = ended_with p tx p.row unless_committed holders

-- the transaction has a record that isn't committed
pub record HasPrepared (tx : TxId) (pending : List PendingRecord) : Type 0 where
  pub record_is : PendingRecord
  pub there : found tx pending ≡ Some record_is
  pub prepared : record_is.committed ≡ false

-- the row, once all that is kept is committed here, is this
abbrev pub IsLedTo : (TxId → Bool) → Option (List ℕ) → Option (List ℕ) → List PendingRecord → Type 0
IsLedTo kept value row pending = kept_row kept row pending ≡ value

-- one transaction more is kept
pub record KeepsToo (tx : TxId) (kept now : TxId → Bool) : Type 0 where
  pub new : kept tx ≡ false
  pub own : now tx ≡ true
  pub others : (v : TxId) → same_tx v tx ≡ false → now v ≡ kept v
