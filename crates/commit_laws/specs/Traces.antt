-- What the rows of members have of transactions, and whether the client's side was told of a commit.
use Rattle.std.specs.Prelude.{◌&&◌, ◌||◌, ◌≡◌, ◌++◌, ℕ, Bool, true, false, List, [], ◌∷◌, Option, None, Some}
use Rattle.std.specs.List.{list_any}
use Rattle.run_theory.specs.Lists.{IsIn}
use Rattle.frag_map.specs.Layout.{chain_of}
use Rattle.sig_core.specs.declared.mark.Mark.TheVariants.{Applied}
use Rattle.sig_core.specs.declared.member.Member.{Member}
use Rattle.sig_core.specs.declared.member.TxId.{TxId}
use Rattle.sig_core.specs.declared.rows.PendingRecord.{PendingRecord}
use Rattle.sig_core.specs.declared.signal.Body.{Body}
use Rattle.sig_core.specs.declared.signal.Body.TheVariants.{Client}
use Rattle.sig_core.specs.declared.signal.client.ClientSignal.TheVariants.{TcCommitAck}
use Rattle.sig_core.specs.Same.{same_tx}
use Rattle.lqh_block.specs.Commit.{is_marker}
use Rattle.lqh_block.specs.declared.request.Marker.{Marker}
use Rattle.lqh_views.specs.State.{ReplicaState}
use Rattle.key_laws.specs.Records.{found}
use Rattle.key_laws.specs.Replica.{Replica, at_key}
use Rattle.world_core.specs.Start.{Start, made}
use Rattle.world_core.specs.Steps.{HostStep}
use Rattle.world_views.specs.Machine.{step_after}
use Rattle.moment_laws.specs.Moments.{current}
use Rattle.moment_laws.specs.Places.{ldm_of}
use Rattle.outcome_laws.specs.Decided.{IsMarked}
use Rattle.request_laws.specs.Blocks.{rows_after}
use Rattle.request_laws.specs.Routed.{layout_in}
use Rattle.request_laws.specs.Ways.{is_sent}

-- a host has sent such a signal
abbrev pub has_sent : Start → (Body → Bool) → ℕ → List HostStep → Bool
has_sent start p h [] = false
has_sent start p h (e ∷ log) = is_sent p (step_after start h log e).effects.sends || has_sent start p h log

-- rows are told that the client knows of the commit
abbrev pub is_acknowledgement : TxId → Body → Bool
is_acknowledgement tx (Client (TcCommitAck other)) = same_tx other tx
is_acknowledgement tx body = false

-- the record is committed, and of this transaction; the marker is of this transaction
abbrev pub is_committed_of : TxId → PendingRecord → Bool
is_committed_of tx r = same_tx r.tx tx && r.committed

abbrev pub is_marker_of : TxId → Marker → Bool
is_marker_of tx m = same_tx m.tx tx

-- rows have something that tells that the transaction is committed
abbrev pub leave_trace : TxId → ReplicaState → Bool
leave_trace tx s = list_any (is_committed_of tx) s.lqh.rows.pending || list_any (is_marker_of tx) s.lqh.markers

-- where there is no record of a transaction on a key it is committed, if that is remembered; else where the record is
abbrev pub is_committed_by : Bool → Option PendingRecord → Bool
is_committed_by remembered None = remembered
is_committed_by remembered (Some r) = r.committed

module _ (start : Start) (logs : ℕ → List HostStep) where
  abbrev pub rows_at : Member → ReplicaState
  rows_at member = rows_after start member (logs (ldm_of start member))

  abbrev pub replica_at : Member → List ℕ → Replica
  replica_at member key = at_key key (rows_at member).lqh

  -- the record of a transaction on a key at a member
  abbrev pub record_at : Member → List ℕ → TxId → Option PendingRecord
  record_at member key tx = found tx (replica_at member key).cell.pending

  -- its commit is marked there
  abbrev pub has_marker_at : Member → List ℕ → TxId → Bool
  has_marker_at member key tx = list_any (is_marker tx key) (rows_at member).lqh.markers

  -- the client's side was told of the commit
  abbrev pub is_known : TxId → Bool
  is_known tx = has_sent start (is_acknowledgement tx) 0 (logs 0)

  -- it is committed on the key at the member
  abbrev pub is_committed_at : Member → List ℕ → TxId → Bool
  is_committed_at member key tx = is_committed_by (has_marker_at member key tx || is_known tx) (record_at member key tx)

  -- a full member of the current view that has a replica of the key in that view
  pub record IsReplicaOf (key : List ℕ) (member : Member) : Type 0 where
    pub full : IsIn member (current start logs).full
    pub chained : IsIn member (chain_of (layout_in start (current start logs)) key)

  -- a member was marked to have applied it as the key's primary
  pub record IsApplied (tx : TxId) (key : List ℕ) : Type 0 where
    pub member : Member
    pub is_made : IsIn member (made start)
    pub marked : IsMarked (Applied tx key) (logs (ldm_of start member))

  -- it is committed on the key at each replica in the current view
  abbrev pub AreCommitted : TxId → List ℕ → Type 0
  AreCommitted tx key = (member : Member) → IsReplicaOf key member → is_committed_at member key tx ≡ true

  -- and was applied at the primary of that time
  pub record IsCommittedAtAll (tx : TxId) (key : List ℕ) : Type 0 where
    pub applied : IsApplied tx key
    pub committed : AreCommitted tx key

  -- the members of the current view
  abbrev pub members_now : List Member
  members_now = (current start logs).full ++ (current start logs).starting

  -- some member of the current view has a trace of its commit
  abbrev pub has_trace : TxId → Bool
  has_trace tx = list_any (λ (member : Member). leave_trace tx (rows_at member)) members_now
