-- What the replicas of a key have of a transaction is what it was answered.
use Rattle.std.specs.Prelude.{◌≡◌, ◌⊎◌, ℕ, Bool, true, false, not, List, [], ◌∷◌, Option, None, Some}
use Rattle.std.specs.List.{list_any, slice_get}
use Rattle.run_theory.specs.Lists.{IsIn}
use Rattle.frag_map.specs.Layout.{chain_of}
use Rattle.row_locks.specs.declared.mode.Mode.TheVariants.{Exclusive}
use Rattle.row_locks.specs.Holders.{holds, holds_enough}
use Rattle.sig_core.specs.declared.mark.Mark.TheVariants.{Decided}
use Rattle.sig_core.specs.declared.member.Member.{Member}
use Rattle.sig_core.specs.declared.member.TxId.{TxId}
use Rattle.sig_core.specs.declared.op.Answer.{Answer}
use Rattle.sig_core.specs.declared.op.Op.{Op}
use Rattle.sig_core.specs.declared.op.Op.TheVariants.{Get}
use Rattle.sig_core.specs.declared.rows.PendingRecord.{PendingRecord}
use Rattle.key_laws.specs.OneKey.{AreRight, ops_on, row_after_all}
use Rattle.world_core.specs.Start.{Start, made}
use Rattle.world_core.specs.Steps.{HostStep}
use Rattle.moment_laws.specs.Moments.{IsMoment, current, logs_of}
use Rattle.request_laws.specs.Routed.{layout_in}
use Rattle.commit_laws.specs.Fates.{is_led_by_full}
use Rattle.commit_laws.specs.Going.{decided_ops, is_lost, is_written_by}
use Rattle.commit_laws.specs.Traces.{IsReplicaOf, record_at, replica_at}

-- a record that is prepared with this image, or none
abbrev pub HasImageIf : Bool → Option (List ℕ) → Option PendingRecord → Type 0
HasImageIf true image o = (r : PendingRecord) × ((o ≡ Some r) × ((r.committed ≡ false) × (r.image ≡ image)))
HasImageIf false image o = o ≡ None

-- an operation that needs the lock of its key exclusive
abbrev pub is_get : Op → Bool
is_get (Get key) = true
is_get op = false

abbrev pub is_changing : List (Op × Answer) → Bool
is_changing ops = list_any (λ (op : Op × Answer). not (is_get op.0)) ops

module _ (start : Start) (logs : ℕ → List HostStep) (key : List ℕ) where
  -- the member is the primary of the key in the current view
  abbrev pub IsPrimary : Member → Type 0
  IsPrimary member = slice_get (chain_of (layout_in start (current start logs)) key) 0 ≡ Some member

  -- the primary's row after these operations
  abbrev pub row_behind : Member → List (Op × Answer) → Option (List ℕ)
  row_behind primary ops = row_after_all (replica_at start logs primary key).cell.row (ops_on key ops)

  -- The answers of these operations are right from the primary's row on; each replica in the current view has the image
  -- that they leave, if one took effect, and nobody else has any; and the transaction holds the lock at the primary as
  -- the operations need it, if there are any.
  pub record IsSettledWith (tx : TxId) (ops : List (Op × Answer)) : Type 0 where
    pub right : (primary : Member) → IsPrimary primary
        → AreRight (replica_at start logs primary key).cell.row (ops_on key ops)
    pub images : (primary : Member) → IsPrimary primary → (member : Member) → IsReplicaOf start logs key member
        → HasImageIf (is_written_by ops key) (row_behind primary ops) (record_at start logs member key tx)
    pub others : (member : Member) → IsIn member (made start) → (IsReplicaOf start logs key member → ⊥)
        → record_at start logs member key tx ≡ None
    pub held : (primary : Member) → IsPrimary primary → (ops_on key ops ≡ [])
        ⊎ (holds tx (replica_at start logs primary key).lock.holders ≡ true)
    pub exclusive : (primary : Member) → IsPrimary primary → is_changing (ops_on key ops) ≡ true
        → holds_enough tx Exclusive (replica_at start logs primary key).lock.holders ≡ true

-- a transaction is decided that isn't lost, and whose coordinator is a full member of the current view
pub record IsDecidedNow (start : Start) (e : HostStep) (es : List HostStep) (tx : TxId) : Type 0 where
  pub epoch : ℕ
  pub marked : IsIn (Decided tx epoch) e.step.marks
  pub full : is_led_by_full start (logs_of start es) tx ≡ true
  pub spared : is_lost start (logs_of start es) tx ≡ false

-- it is settled for each key then, with the operations with which it is decided
abbrev pub DecisionsAreSettled : Type 0
DecisionsAreSettled =
    (start : Start) (all : ℕ → List HostStep) (e : HostStep) (es : List HostStep) → IsMoment start all (e ∷ es)
    → (tx : TxId) → IsDecidedNow start e es tx → (key : List ℕ)
    → IsSettledWith start (logs_of start es) key tx (decided_ops start (logs_of start (e ∷ es)) tx)
