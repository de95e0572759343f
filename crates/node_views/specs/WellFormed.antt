-- Which signals are well formed in a cluster of a shape.
use Rattle.std.specs.Prelude.{ℕ, ◌-◌, ◌^◌, ◌&&◌, ◌||◌, ◌==◌, Bool, true, nat_lt, nat_le, List, length, Option, None}
use Rattle.std.specs.Prelude.{Some}
use Rattle.std.specs.List.{list_all}
use Rattle.sig_core.specs.declared.member.HostId.{HostId}
use Rattle.sig_core.specs.declared.member.Member.{Member}
use Rattle.sig_core.specs.declared.member.TxId.{TxId}
use Rattle.sig_core.specs.declared.signal.Body.{Body}
use Rattle.sig_core.specs.declared.signal.Body.TheVariants.{Host, Client, Chain, Membership, Takeover, Epoch}
use Rattle.sig_core.specs.declared.signal.Body.TheVariants.{Checkpoint, File, Joining, Copying, Subscription, Backup}
use Rattle.sig_core.specs.declared.signal.Body.TheVariants.{Unique}
use Rattle.sig_core.specs.declared.signal.Signal.{Signal}
use Rattle.sig_core.specs.declared.signal.chain.ChainSignal.{ChainSignal}
use Rattle.sig_core.specs.declared.signal.chain.ChainSignal.TheVariants.{LqhKeyReq, LqhKeyConf, LqhKeyRef, Commit}
use Rattle.sig_core.specs.declared.signal.chain.ChainSignal.TheVariants.{Committed, Complete, Completed, Abort, Aborted}
use Rattle.sig_core.specs.declared.signal.client.ClientSignal.{ClientSignal}
use Rattle.sig_core.specs.declared.signal.client.ClientSignal.TheVariants.{TcBeginConf, TcKeyReq, TcKeyConf}
use Rattle.sig_core.specs.declared.signal.client.ClientSignal.TheVariants.{TcCommitReq, TcCommitConf, TcCommitAck}
use Rattle.sig_core.specs.declared.signal.client.ClientSignal.TheVariants.{TcRollbackReq, TcRollbackRep, TcKeyFailConf}
use Rattle.sig_core.specs.declared.signal.client.ClientSignal.TheVariants.{TcKeyFailRef, TcWaitReq, TcWaitConf}
use Rattle.sig_core.specs.declared.signal.client.ClientSignal.TheVariants.{LqhWaitReq, LqhWaitConf}
use Rattle.sig_core.specs.declared.signal.copying.CopyingSignal.{CopyingSignal}
use Rattle.sig_core.specs.declared.signal.copying.CopyingSignal.TheVariants.{CopyFragReq, LqhScanReq}
use Rattle.sig_core.specs.declared.signal.epoch.EpochSignal.{EpochSignal}
use Rattle.sig_core.specs.declared.signal.epoch.EpochSignal.TheVariants.{DiVerifyReq, DiVerifyConf, DiVerifyEnd}
use Rattle.sig_core.specs.declared.signal.epoch.EpochSignal.TheVariants.{CopyGciReq}
use Rattle.sig_core.specs.declared.signal.host.HostSignal.{HostSignal}
use Rattle.sig_core.specs.declared.signal.host.HostSignal.TheVariants.{Cut, Continue}
use Rattle.sig_core.specs.declared.signal.host.Work.TheVariants.{Transaction}
use Rattle.sig_core.specs.declared.signal.joining.JoiningSignal.{JoiningSignal}
use Rattle.sig_core.specs.declared.signal.joining.JoiningSignal.TheVariants.{StartReq, StartRep, StartEnd, StartGone}
use Rattle.sig_core.specs.declared.signal.joining.JoiningSignal.TheVariants.{CopyOrd, DrainWait, PromoteReq}
use Rattle.sig_core.specs.declared.signal.membership.MembershipSignal.{MembershipSignal}
use Rattle.sig_core.specs.declared.signal.membership.MembershipSignal.TheVariants.{FailRep, PrepFailReq, PrepFailConf}
use Rattle.sig_core.specs.declared.signal.membership.MembershipSignal.TheVariants.{PrepFailRef, FenceReq, ArbitReq}
use Rattle.sig_core.specs.declared.signal.membership.MembershipSignal.TheVariants.{ArbitConf, ArbitRef}
use Rattle.sig_core.specs.declared.signal.subscription.SubscriptionSignal.{SubscriptionSignal}
use Rattle.sig_core.specs.declared.signal.subscription.SubscriptionSignal.TheVariants.{SubData}
use Rattle.sig_core.specs.declared.signal.takeover.TakeoverSignal.{TakeoverSignal}
use Rattle.sig_core.specs.declared.signal.takeover.TakeoverSignal.TheVariants.{LqhTransConf}
use Rattle.sig_core.specs.declared.signal.unique.UniqueSignal.{UniqueSignal}
use Rattle.sig_core.specs.declared.signal.unique.UniqueSignal.TheVariants.{TcUniqueReq, TcUniqueConf}
use Rattle.sig_core.specs.declared.view.Shape.{Shape}
use Rattle.sig_core.specs.declared.view.View.{View}

-- a node of the cluster
abbrev pub is_node : Shape → ℕ → Bool
is_node shape node = nat_le 1 node && nat_le node shape.nodes

abbrev pub is_member : Shape → Member → Bool
is_member shape member = is_node shape member.node

abbrev pub are_nodes : Shape → List Member → Bool
are_nodes shape members = list_all (is_member shape) members

-- a number that a view may have: there is one above it
abbrev pub is_number : ℕ → Bool
is_number number = nat_lt number (2 ^ 64 - 1)

abbrev pub is_view : Shape → View → Bool
is_view shape view = is_number view.number && are_nodes shape view.full && are_nodes shape view.starting

-- a transaction of a coordinator
abbrev pub is_tx : Shape → TxId → Bool
is_tx shape tx = is_node shape tx.tc

-- who holds a lock: a transaction of a coordinator, or the copying of rows
abbrev pub is_ahead : Shape → TxId → Bool
is_ahead shape tx = nat_le tx.tc shape.nodes

-- a chain, and a place in it
abbrev pub is_chain : Shape → List Member → ℕ → Bool
is_chain shape chain at = are_nodes shape chain && nat_lt at (length chain)

-- some nodes of the cluster, of which node n has bit n - 1
abbrev pub is_mask : Shape → ℕ → Bool
is_mask shape mask = nat_lt 0 mask && nat_lt mask (2 ^ shape.nodes)

-- the hosts of a node that is to be cut off have numbers
abbrev pub is_first : HostId → Bool
is_first host = nat_lt host.0 (2 ^ 32 - 2)

abbrev pub is_joiner : Shape → Option Member → Bool
is_joiner shape None = true
is_joiner shape (Some member) = is_member shape member

abbrev pub is_host_sound : Shape → HostSignal → Bool
is_host_sound shape (Cut node first) = is_node shape node && is_first first
is_host_sound shape (Continue (Transaction tx) at) = is_tx shape tx
is_host_sound shape _ = true

abbrev pub is_client_sound : Shape → ClientSignal → Bool
is_client_sound shape (TcBeginConf name tx) = is_tx shape tx
is_client_sound shape (TcKeyReq tx op) = is_tx shape tx
is_client_sound shape (TcKeyConf tx answer) = is_tx shape tx
is_client_sound shape (TcCommitReq tx) = is_tx shape tx
is_client_sound shape (TcCommitConf tx epoch) = is_tx shape tx
is_client_sound shape (TcCommitAck tx) = is_tx shape tx
is_client_sound shape (TcRollbackReq tx) = is_tx shape tx
is_client_sound shape (TcRollbackRep tx cause) = is_tx shape tx
is_client_sound shape (TcKeyFailConf tx epoch) = is_tx shape tx
is_client_sound shape (TcKeyFailRef tx) = is_tx shape tx
is_client_sound shape (TcWaitReq tx) = is_tx shape tx
is_client_sound shape (LqhWaitReq tx key) = is_tx shape tx
is_client_sound shape (TcWaitConf tx ahead) = is_tx shape tx && is_ahead shape ahead
is_client_sound shape (LqhWaitConf tx ahead) = is_tx shape tx && is_ahead shape ahead
is_client_sound shape _ = true

abbrev pub is_chain_sound : Shape → ChainSignal → Bool
is_chain_sound shape (LqhKeyReq tx work chain at) = is_tx shape tx && is_chain shape chain at
is_chain_sound shape (Commit tx key epoch chain at) = is_tx shape tx && is_chain shape chain at
is_chain_sound shape (Complete tx key chain at) = is_tx shape tx && is_chain shape chain at
is_chain_sound shape (LqhKeyConf tx key answer) = is_tx shape tx
is_chain_sound shape (LqhKeyRef tx key cause) = is_tx shape tx
is_chain_sound shape (Committed tx key) = is_tx shape tx
is_chain_sound shape (Completed tx key) = is_tx shape tx
is_chain_sound shape (Abort tx key) = is_tx shape tx
is_chain_sound shape (Aborted tx key) = is_tx shape tx

abbrev pub is_membership_sound : Shape → MembershipSignal → Bool
is_membership_sound shape (FailRep suspects) = are_nodes shape suspects
is_membership_sound shape (PrepFailReq proposal) = is_view shape proposal
is_membership_sound shape (FenceReq proposal) = is_view shape proposal
is_membership_sound shape (PrepFailRef promised) = is_view shape promised
is_membership_sound shape (PrepFailConf number) = is_number number
is_membership_sound shape (ArbitConf number) = is_number number
is_membership_sound shape (ArbitReq number members joining) =
    is_number number && are_nodes shape members && is_joiner shape joining
is_membership_sound shape (ArbitRef number members) = is_number number && are_nodes shape members
is_membership_sound shape _ = true

abbrev pub is_takeover_sound : Shape → TakeoverSignal → Bool
is_takeover_sound shape (LqhTransConf tx key state epoch) = is_tx shape tx
is_takeover_sound shape _ = true

abbrev pub is_epoch_sound : Shape → EpochSignal → Bool
is_epoch_sound shape (DiVerifyReq tx ops) = is_tx shape tx
is_epoch_sound shape (DiVerifyConf tx epoch) = is_tx shape tx
is_epoch_sound shape (DiVerifyEnd tx) = is_tx shape tx
is_epoch_sound shape (CopyGciReq epoch mask) = is_mask shape mask
is_epoch_sound shape _ = true

abbrev pub is_joining_sound : Shape → JoiningSignal → Bool
is_joining_sound shape (StartReq member own) = is_member shape member
is_joining_sound shape (StartRep member) = is_member shape member
is_joining_sound shape (StartEnd member) = is_member shape member
is_joining_sound shape (StartGone member) = is_member shape member
is_joining_sound shape (CopyOrd member own) = is_member shape member
is_joining_sound shape (PromoteReq member) = is_member shape member
is_joining_sound shape (DrainWait tx) = is_tx shape tx
is_joining_sound shape _ = true

abbrev pub is_copying_sound : Shape → CopyingSignal → Bool
is_copying_sound shape (CopyFragReq member fragment own) = is_member shape member && nat_lt fragment shape.fragments
is_copying_sound shape (LqhScanReq fragment at) = nat_lt fragment shape.fragments
is_copying_sound shape _ = true

abbrev pub is_subscription_sound : Shape → SubscriptionSignal → Bool
is_subscription_sound shape (SubData epoch fragment at changes last) = nat_lt fragment shape.fragments
is_subscription_sound shape _ = true

abbrev pub is_unique_sound : Shape → UniqueSignal → Bool
is_unique_sound shape (TcUniqueReq tx op) = is_tx shape tx
is_unique_sound shape (TcUniqueConf tx answer) = is_tx shape tx

abbrev pub is_body_sound : Shape → Body → Bool
is_body_sound shape (Host signal) = is_host_sound shape signal
is_body_sound shape (Client signal) = is_client_sound shape signal
is_body_sound shape (Chain signal) = is_chain_sound shape signal
is_body_sound shape (Membership signal) = is_membership_sound shape signal
is_body_sound shape (Takeover signal) = is_takeover_sound shape signal
is_body_sound shape (Epoch signal) = is_epoch_sound shape signal
is_body_sound shape (Joining signal) = is_joining_sound shape signal
is_body_sound shape (Copying signal) = is_copying_sound shape signal
is_body_sound shape (Subscription signal) = is_subscription_sound shape signal
is_body_sound shape (Unique signal) = is_unique_sound shape signal
is_body_sound shape (Checkpoint signal) = true
is_body_sound shape (File signal) = true
is_body_sound shape (Backup signal) = true

-- a member of the cluster, or the shell's host
abbrev pub is_sender : Shape → Member → Bool
is_sender shape member = is_member shape member || ((member.node == 0) && (member.start == 0))

-- a signal is well formed
unfoldable pub is_well_formed : Shape → Signal → Bool
is_well_formed shape x = is_sender shape x.member && is_view shape x.view && is_body_sound shape x.body
