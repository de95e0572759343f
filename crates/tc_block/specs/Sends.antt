-- What a transaction sends to the replicas of its keys, phase by phase.
use Rattle.std.specs.Prelude.{ℕ, Bool, true, false, nat_lt, List, [], ◌∷◌, ◌++◌, map}
use Rattle.std.specs.List.{flat_map}
use Rattle.sig_core.specs.declared.member.Member.{Member}
use Rattle.sig_core.specs.declared.member.TxId.{TxId}
use Rattle.sig_core.specs.declared.outs.Outgoing.{Outgoing}
use Rattle.sig_core.specs.declared.signal.Body.TheVariants.{Client, Chain, Epoch}
use Rattle.sig_core.specs.declared.signal.chain.ChainSignal.TheVariants.{Commit, Complete, Abort}
use Rattle.sig_core.specs.declared.signal.client.ClientSignal.TheVariants.{TcCommitConf, LqhWaitReq}
use Rattle.sig_core.specs.declared.signal.epoch.EpochSignal.TheVariants.{DiVerifyEnd}
use Rattle.frag_map.specs.Layout.{Layout}
use Rattle.sig_core.specs.Step.{Step, stay, to_place}
use Rattle.tc_block.specs.declared.phase.Phase.{Phase}
use Rattle.tc_block.specs.declared.phase.Phase.TheVariants.{Open, Verifying, Committing, Completing, Aborting}
use Rattle.tc_block.specs.declared.sends.TheConstants.{SENDS}
use Rattle.tc_block.specs.declared.touched.Touched.{Touched}
use Rattle.tc_block.specs.declared.transaction.Transaction.{Transaction}
use Rattle.sig_core.specs.Chain.{last_place, node_at}
use Rattle.frag_map.specs.Layout.{chain_of}
use Rattle.tc_block.specs.Part.{part_effects}
use Rattle.sig_core.specs.Place.{client, epochs, rows_of}
use Rattle.tc_block.specs.Turn.{at_phase}

-- the client is told that the transaction is committed
abbrev pub reported : TxId → ℕ → Outgoing
reported tx epoch = to_place client (Client (TcCommitConf tx epoch))

-- the transaction leaves the count of its epoch
abbrev pub verify_end : ℕ → TxId → Outgoing
verify_end node tx = to_place (epochs node) (Epoch (DiVerifyEnd tx))

-- a key is committed, from the last place of its chain on
abbrev pub commit_of : TxId → ℕ → Touched → Outgoing
commit_of tx epoch t = to_place (rows_of (node_at t.chain (last_place t.chain)))
    (Chain (Commit tx t.key epoch t.chain (last_place t.chain)))

-- a key is completed, from the last place of its chain on
abbrev pub complete_of : TxId → Touched → Outgoing
complete_of tx t =
    to_place (rows_of (node_at t.chain (last_place t.chain))) (Chain (Complete tx t.key t.chain (last_place t.chain)))

abbrev pub complete_if : TxId → Touched → Bool → List Outgoing
complete_if tx t true = complete_of tx t ∷ []
complete_if tx t false = []

-- a key is aborted at a replica
abbrev pub abort_of : TxId → List ℕ → Member → Outgoing
abort_of tx key replica = to_place (rows_of replica.node) (Chain (Abort tx key))

-- a key is aborted at these replicas
abbrev pub aborts_of : TxId → List ℕ → List Member → List Outgoing
aborts_of tx key replicas = map (abort_of tx key) replicas

-- a replica is asked who holds the lock that the transaction waits for
abbrev pub wait_of : TxId → List ℕ → Member → Outgoing
wait_of tx key replica = to_place (rows_of replica.node) (Client (LqhWaitReq tx key))

abbrev pub waits_of : TxId → List ℕ → List Member → List Outgoing
waits_of tx key replicas = map (wait_of tx key) replicas

-- what is sent for one key: to commit each, to complete those that were written, to abort each at every replica
unfoldable pub key_sends : Layout → TxId → Phase → Touched → List Outgoing
key_sends layout tx (Committing epoch awaited) t = commit_of tx epoch t ∷ []
key_sends layout tx (Completing epoch awaited) t = complete_if tx t t.written
key_sends layout tx (Aborting cause verifying awaited) t = aborts_of tx t.key (chain_of layout t.key)
key_sends layout tx Open t = []
key_sends layout tx Verifying t = []

-- what is sent in front of that: when all is committed the client is told first
unfoldable pub front_sends : TxId → Phase → List Outgoing
front_sends tx (Completing epoch awaited) = reported tx epoch ∷ []
front_sends tx (Committing epoch awaited) = []
front_sends tx (Aborting cause verifying awaited) = []
front_sends tx Open = []
front_sends tx Verifying = []

-- all that a transaction sends in a phase, in order
unfoldable pub phase_sends : Layout → TxId → Phase → List Touched → List Outgoing
phase_sends layout tx phase touched = front_sends tx phase ++ flat_map (key_sends layout tx phase) touched

-- a transaction comes to a phase, and sends the first part of what it sends in it
unfoldable pub entering : ℕ → Layout → TxId → Transaction → Phase → Step Transaction
entering node layout tx t phase = record {
  state = at_phase t phase;
  effects = part_effects node tx (phase_sends layout tx phase t.touched) 0;
}

-- the rest of what a transaction sends in its phase, from a place on. No list has more than 512 signals: `Abort` for 64
-- keys,
-- to eight replicas of each
abbrev pub go_on_if : ℕ → Layout → TxId → Transaction → ℕ → Bool → Step Transaction
go_on_if node layout tx t at true = record {
  state = t;
  effects = part_effects node tx (phase_sends layout tx t.phase t.touched) at;
}
go_on_if node layout tx t at false = stay t

unfoldable pub go_on_row : ℕ → Layout → TxId → Transaction → ℕ → Step Transaction
go_on_row node layout tx t at = go_on_if node layout tx t at (nat_lt at SENDS)
