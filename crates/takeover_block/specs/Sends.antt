-- What a takeover sends, stage by stage.
use Rattle.std.specs.Prelude.{ℕ, List, [], ◌∷◌, ◌++◌, map}
use Rattle.std.specs.List.{flat_map}
use Rattle.sig_core.specs.declared.member.Member.{Member}
use Rattle.sig_core.specs.declared.member.TxId.{TxId}
use Rattle.sig_core.specs.declared.outs.Outgoing.{Outgoing}
use Rattle.sig_core.specs.declared.signal.Body.TheVariants.{Client, Chain, Takeover}
use Rattle.sig_core.specs.declared.signal.chain.ChainSignal.TheVariants.{Commit, Complete, Abort}
use Rattle.sig_core.specs.declared.signal.client.ClientSignal.TheVariants.{TcKeyFailConf, TcKeyFailRef, NfCompleteRep}
use Rattle.sig_core.specs.declared.signal.host.Work.TheVariants as work
use Rattle.sig_core.specs.declared.signal.takeover.TakeoverSignal.TheVariants.{LqhTransReq, TakeoverEnd}
use Rattle.sig_core.specs.declared.view.View.{View}
use Rattle.sig_core.specs.Chain.{last_place, node_at}
use Rattle.sig_core.specs.Place.{checkpoints, client, rows_of, takeover}
use Rattle.sig_core.specs.Portion.{left_after, portion_effects}
use Rattle.sig_core.specs.Step.{Effects, to_place}
use Rattle.frag_map.specs.Layout.{Layout, chain_of}
use Rattle.takeover_block.specs.declared.gathered.Gathered.{Gathered}
use Rattle.takeover_block.specs.declared.stage.Stage.{Stage}
use Rattle.takeover_block.specs.declared.stage.Stage.TheVariants.{Resting, Gathering, Committing, Completing, Aborting}

-- a member is asked for its records and markers
abbrev pub ask_of : Member → Outgoing
ask_of member = to_place (rows_of member.node) (Takeover LqhTransReq)

-- every member of a view is asked, the full ones and then the starting ones
unfoldable pub asks_of : View → List Outgoing
asks_of view = map ask_of view.full ++ map ask_of view.starting

-- what an event sends of that, from a place on, and the place that is left
unfoldable pub ask_effects : ℕ → View → ℕ → Effects
ask_effects node view at = portion_effects (takeover node) work.Members (asks_of view) at

unfoldable pub ask_left : View → ℕ → ℕ
ask_left view at = left_after (asks_of view) at

-- a chain's last place is told to commit the key
abbrev pub commit_along : TxId → ℕ → List ℕ → List Member → Outgoing
commit_along tx epoch key chain =
    to_place (rows_of (node_at chain (last_place chain))) (Chain (Commit tx key epoch chain (last_place chain)))

-- a chain's last place is told to complete the key
abbrev pub complete_along : TxId → List ℕ → List Member → Outgoing
complete_along tx key chain =
    to_place (rows_of (node_at chain (last_place chain))) (Chain (Complete tx key chain (last_place chain)))

-- a replica is told to abort the key
abbrev pub abort_at : TxId → List ℕ → Member → Outgoing
abort_at tx key replica = to_place (rows_of replica.node) (Chain (Abort tx key))

-- the client is told that the transaction is committed
abbrev pub told_committed : TxId → ℕ → Outgoing
told_committed tx epoch = to_place client (Client (TcKeyFailConf tx epoch))

-- the client is told that the transaction is aborted
abbrev pub told_aborted : TxId → Outgoing
told_aborted tx = to_place client (Client (TcKeyFailRef tx))

-- the client and the checkpoints of the node are told that the takeover is over
abbrev pub told_over : ℕ → List Outgoing
told_over node = to_place client (Client NfCompleteRep) ∷ to_place (checkpoints node) (Takeover TakeoverEnd) ∷ []

-- what is sent for a key at a stage, by the replicas of the key
abbrev pub key_sends_along : TxId → Stage → List ℕ → List Member → List Outgoing
key_sends_along tx (Committing epoch awaited) key chain = commit_along tx epoch key chain ∷ []
key_sends_along tx (Completing epoch awaited) key chain = complete_along tx key chain ∷ []
key_sends_along tx (Aborting awaited) key chain = map (abort_at tx key) chain
key_sends_along tx Resting key chain = []
key_sends_along tx (Gathering awaited) key chain = []

unfoldable pub key_sends : Layout → TxId → Stage → List ℕ → List Outgoing
key_sends layout tx stage key = key_sends_along tx stage key (chain_of layout key)

-- what is sent in front of that: when all is committed the client is told first
unfoldable pub front_sends : TxId → Stage → List Outgoing
front_sends tx (Completing epoch awaited) = told_committed tx epoch ∷ []
front_sends tx (Committing epoch awaited) = []
front_sends tx (Aborting awaited) = []
front_sends tx Resting = []
front_sends tx (Gathering awaited) = []

-- all that is sent for a transaction at a stage, in order
unfoldable pub stage_sends : Layout → Stage → Gathered → List Outgoing
stage_sends layout stage g = front_sends g.tx stage ++ flat_map (key_sends layout g.tx stage) g.keys

-- what an event sends of that, from a place on, and the place that is left
unfoldable pub stage_effects : ℕ → Layout → Stage → Gathered → ℕ → Effects
stage_effects node layout stage g at =
    portion_effects (takeover node) (work.Transaction g.tx) (stage_sends layout stage g) at

unfoldable pub stage_left : Layout → Stage → Gathered → ℕ → ℕ
stage_left layout stage g at = left_after (stage_sends layout stage g) at
