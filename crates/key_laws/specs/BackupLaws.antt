-- How the events of one key move what is true of it at a backup.
use Rattle.std.specs.Prelude.{◌≡◌, ◌⊎◌, ℕ, Bool, true, false, List, Option, None, Some}
use Rattle.sig_core.specs.declared.member.TxId.{TxId}
use Rattle.sig_core.specs.declared.rows.PendingRecord.{PendingRecord}
use Rattle.sig_core.specs.Same.{same_tx}
use Rattle.row_locks.specs.declared.claim.Holder.{Holder}
use Rattle.row_locks.specs.declared.mode.Mode.TheVariants.{Exclusive}
use Rattle.row_locks.specs.Holders.{holds_enough}
use Rattle.key_laws.specs.Backup.{Backup, HasImage, IsLedUnlessSpoilt, IsSound, aborted_at, committed_at, completed_at}
use Rattle.key_laws.specs.Backup.{let_in, prepared_at}
use Rattle.key_laws.specs.Primary.{HasPrepared, HoldOn, ended_too}
use Rattle.key_laws.specs.PrimaryLaws.{nobody_gone}
use Rattle.key_laws.specs.Records.{found}

-- What an event leaves: the key is in good order, and led to the same value as before, with what is decided and kept in
-- the end.
pub record Moves (decided final : TxId → Bool) (before after : Backup) : Type 0 where
  pub sound : IsSound decided after
  pub led : (value : Option (List ℕ)) → IsLedUnlessSpoilt decided final value before
      → IsLedUnlessSpoilt decided final value after

-- more holders
abbrev pub GrantsMove : Type 0
GrantsMove =
    (decided final : TxId → Bool) (b : Backup) (holders : List Holder) → IsSound decided b
    → HoldOn nobody_gone b.holders holders
    → Moves decided final b (let_in b holders)

-- an image of a transaction that holds the lock exclusive, and isn't decided
abbrev pub ImagesMove : Type 0
ImagesMove =
    (decided final : TxId → Bool) (b : Backup) (tx : TxId) (key : List ℕ) (image : Option (List ℕ)) → IsSound decided b
    → holds_enough tx Exclusive b.holders ≡ true → decided tx ≡ false
    → Moves decided final b (prepared_at b tx key image)

-- a commit, of a transaction that is decided if it has something to commit
abbrev pub CommitsMove : Type 0
CommitsMove =
    (decided final : TxId → Bool) (b : Backup) (tx : TxId) → IsSound decided b
    → (HasPrepared tx b.pending → decided tx ≡ true)
    → Moves decided final b (committed_at b tx)

-- a completion, behind the commit, of a transaction that is kept in the end if it has something to complete
abbrev pub CompletionsMove : Type 0
CompletionsMove =
    (decided final : TxId → Bool) (b : Backup) (tx : TxId) (holders : List Holder) → IsSound decided b
    → ((r : PendingRecord) → found tx b.pending ≡ Some r → (r.committed ≡ true) × (final tx ≡ true))
    → HoldOn (same_tx tx) b.holders holders
    → Moves decided final b (completed_at b tx holders)

-- an abort, of a transaction that isn't decided
abbrev pub AbortsMove : Type 0
AbortsMove =
    (decided final : TxId → Bool) (b : Backup) (tx : TxId) (holders : List Holder) → IsSound decided b
    → decided tx ≡ false
    → HoldOn (same_tx tx) b.holders holders
    → Moves decided final b (aborted_at b tx holders)

-- What a decision leaves: the key in good order, and led to the new value.
pub record IsDecidedTo (decided final : TxId → Bool) (b : Backup) (value : Option (List ℕ)) : Type 0 where
  pub sound : IsSound decided b
  pub led : IsLedUnlessSpoilt decided final value b

-- A transaction is decided that is kept in the end: where it has an image prepared, that is the new value; else the
-- value stays.
abbrev pub DecisionsMove : Type 0
DecisionsMove =
    (decided final : TxId → Bool) (b : Backup) (tx : TxId) (before after : Option (List ℕ)) → IsSound decided b
    → IsLedUnlessSpoilt decided final before b
    → decided tx ≡ false → final tx ≡ true
    → HasImage tx after b.pending ⊎ ((found tx b.pending ≡ None) × (after ≡ before))
    → IsDecidedTo (ended_too decided tx) final b after

-- the decision of one that isn't kept in the end changes nothing
abbrev pub UnkeptDecisionsMove : Type 0
UnkeptDecisionsMove =
    (decided final : TxId → Bool) (b : Backup) (tx : TxId) (value : Option (List ℕ)) → IsSound decided b
    → IsLedUnlessSpoilt decided final value b
    → final tx ≡ false
    → IsDecidedTo (ended_too decided tx) final b value
