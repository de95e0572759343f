-- What the parts of an operation that are under way tell of a transaction on one key.
use Rattle.std.specs.Prelude.{◌≡◌, ◌&&◌, ◌<◌, ◌++◌, ◌⊎◌, ℕ, Bool, true, false, List, [], ◌∷◌, Option, None, Some}
use Rattle.std.specs.List.{slice_get}
use Rattle.run_theory.specs.Lists.{Each, IsIn}
use Rattle.frag_map.specs.Layout.{chain_of}
use Rattle.row_locks.specs.declared.mode.Mode.TheVariants.{Exclusive}
use Rattle.row_locks.specs.Holders.{holds_enough}
use Rattle.sig_core.specs.declared.member.Member.{Member}
use Rattle.sig_core.specs.declared.member.TxId.{TxId}
use Rattle.sig_core.specs.declared.op.Answer.{Answer}
use Rattle.sig_core.specs.declared.op.Answer.TheVariants.{Done}
use Rattle.sig_core.specs.declared.op.Op.{Op}
use Rattle.sig_core.specs.declared.signal.Body.{Body}
use Rattle.sig_core.specs.declared.signal.Body.TheVariants.{Chain}
use Rattle.sig_core.specs.declared.signal.chain.ChainSignal.TheVariants.{LqhKeyConf, LqhKeyRef, LqhKeyReq}
use Rattle.sig_core.specs.declared.signal.chain.RowWork.{RowWork}
use Rattle.sig_core.specs.declared.signal.chain.RowWork.TheVariants.{Operate, Store}
use Rattle.sig_core.specs.Op.{answer_to, image_of, key_of}
use Rattle.sig_core.specs.Same.{same_key, same_tx}
use Rattle.sig_core.specs.Work.{work_key}
use Rattle.tc_block.specs.declared.phase.Asked.{Asked}
use Rattle.tc_block.specs.declared.transaction.Transaction.{Transaction}
use Rattle.tc_block.specs.Doom.{is_undecided}
use Rattle.lqh_block.specs.declared.request.Request.{Request}
use Rattle.key_laws.specs.OneKey.{AreRight, ops_on}
use Rattle.world_core.specs.Start.{Start, made}
use Rattle.world_core.specs.Steps.{Addressed, HostStep}
use Rattle.view_laws.specs.Runs.{view_after}
use Rattle.moment_laws.specs.Moments.{current}
use Rattle.moment_laws.specs.Places.{ldm_of}
use Rattle.outcome_laws.specs.Counts.{coordinator_member}
use Rattle.request_laws.specs.Drives.{asked_in}
use Rattle.request_laws.specs.Routed.{layout_in}
use Rattle.commit_laws.specs.Fates.{is_led_by_full}
use Rattle.commit_laws.specs.Going.{is_lost, own_live, own_log}
use Rattle.commit_laws.specs.Settled.{HasImageIf, IsPrimary, IsSettledWith, row_behind}
use Rattle.commit_laws.specs.Traces.{IsReplicaOf, record_at, replica_at, rows_at}

-- a part of an operation: it is to be performed at a place of a chain, or is answered, or refused
pub data Part : Type 0 where
  performs : RowWork → ℕ → Part
  answers : Answer → Part
  refuses : Part

abbrev pub part_if : Part → Bool → Option Part
part_if part true = Some part
part_if part false = None

-- the part of an operation of the transaction on the key that a signal is
abbrev pub part_of : TxId → List ℕ → Body → Option Part
part_of tx key (Chain (LqhKeyReq other work chain at)) =
    part_if (performs work at) (same_tx other tx && same_key (work_key work) key)
part_of tx key (Chain (LqhKeyConf other own answer)) = part_if (answers answer) (same_tx other tx && same_key own key)
part_of tx key (Chain (LqhKeyRef other own cause)) = part_if refuses (same_tx other tx && same_key own key)
part_of tx key body = None

module _ (start : Start) (logs : ℕ → List HostStep) where
  -- The transaction is undecided and isn't lost, its coordinator is a full member of the current view, and what is
  -- unanswered was asked for in that view.
  pub record IsHale (tx : TxId) (t : Transaction) : Type 0 where
    pub there : own_live start logs tx ≡ Some t
    pub undecided : is_undecided t.phase ≡ true
    pub full : is_led_by_full start logs tx ≡ true
    pub spared : is_lost start logs tx ≡ false
    pub fresh : (t.asked ≡ None) ⊎ (asked_in start (coordinator_member tx) tx (own_log start logs tx) ≡
        (current start logs).number)

  module _ (key : List ℕ) (tx : TxId) (t : Transaction) where
    -- this operation is unanswered, and is on the key
    pub record IsAsked (op : Op) : Type 0 where
      pub asked : Asked
      pub is : t.asked ≡ Some asked
      pub op_is : asked.op ≡ op
      pub here : same_key (key_of op) key ≡ true

    -- an image of the unanswered operation is at the places in front of this one
    pub record IsStoredTo (image : Option (List ℕ)) (at : ℕ) : Type 0 where
      pub op : Op
      pub asks : IsAsked op
      pub image_is : image_of op ≡ image
      pub takes_effect : (primary : Member) → IsPrimary start logs key primary
          → answer_to op (row_behind start logs key primary t.ops) ≡ Done
      pub right : (primary : Member) → IsPrimary start logs key primary
          → AreRight (replica_at start logs primary key).cell.row (ops_on key t.ops)
      pub stored : (place : ℕ) (member : Member) → place < at
          → slice_get (chain_of (layout_in start (current start logs)) key) place ≡ Some member
          → HasImageIf true image (record_at start logs member key tx)
      pub others : (member : Member) → IsIn member (made start) → (IsReplicaOf start logs key member → ⊥)
          → record_at start logs member key tx ≡ None
      pub held : (primary : Member) → IsPrimary start logs key primary
          → holds_enough tx Exclusive (replica_at start logs primary key).lock.holders ≡ true

    -- what a part tells
    abbrev pub Tells : Part → Type 0
    Tells (performs (Operate op) at) = IsAsked op × IsSettledWith start logs key tx t.ops
    Tells (performs (Store own image) at) = IsStoredTo image at
    Tells (answers answer) =
        (op : Op) × (IsAsked op × IsSettledWith start logs key tx (t.ops ++ (op, answer) ∷ []))
    Tells refuses = Unit {0}

    abbrev pub Told : Option Part → Type 0
    Told None = Unit {0}
    Told (Some part) = Tells part

    abbrev pub IsOff : Option Asked → Type 0
    IsOff None = Unit {0}
    IsOff (Some asked) = same_key (key_of asked.op) key ≡ false

  -- All parts that are under way in the current view tell the truth, and keys on which nothing is are settled.
  pub record PartsStand (xs : List Addressed) : Type 0 where
    pub signals : (tx : TxId) (t : Transaction) → IsHale tx t → (key : List ℕ)
        → Each (λ (x : Addressed). x.signal.view.number ≡ (current start logs).number → Told key tx t
        (part_of tx key x.signal.body)) xs
    pub waits : (tx : TxId) (t : Transaction) → IsHale tx t → (key : List ℕ) (member : Member)
        → IsIn member (made start)
        → (view_after start (ldm_of start member) (logs (ldm_of start member))).number ≡ (current start logs).number
        → Each (λ (q : Request). same_tx q.tx tx ≡ true → same_key (work_key q.work) key ≡ true → Tells key tx t
        (performs q.work q.at))
        (rows_at start logs member).lqh.waiting
    pub rests : (tx : TxId) (t : Transaction) → IsHale tx t → (key : List ℕ) → IsOff key tx t t.asked
        → IsSettledWith start logs key tx t.ops
