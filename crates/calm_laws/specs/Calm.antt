-- What hosts take in calm: what a cluster sends in which nothing fails and no epoch is closed, with its rounds and
-- heartbeats.
use Rattle.std.specs.Prelude.{ℕ, zero, suc, ◌%◌, ◌&&◌, Bool, true, false}
use Rattle.sig_core.specs.declared.place.BlockId.{BlockId}
use Rattle.sig_core.specs.declared.place.BlockId.TheVariants.{Api, Qmgr, Tc, Dih, Lqh}
use Rattle.sig_core.specs.declared.place.Part.{Part}
use Rattle.sig_core.specs.declared.place.Part.TheVariants as part
use Rattle.sig_core.specs.declared.request.ApiReq.{ApiReq}
use Rattle.sig_core.specs.declared.request.ApiReq.TheVariants.{Begin, Operate, Commit, Abort, Tick, Rows, Digest, View}
use Rattle.sig_core.specs.declared.request.ApiReq.TheVariants.{Waits, Pending}
use Rattle.sig_core.specs.declared.signal.Body.{Body}
use Rattle.sig_core.specs.declared.signal.Body.TheVariants.{Host, Client, Chain, Epoch, Membership}
use Rattle.sig_core.specs.declared.signal.Signal.{Signal}
use Rattle.sig_core.specs.declared.signal.chain.ChainSignal.TheVariants as chain
use Rattle.sig_core.specs.declared.signal.client.ClientSignal.TheVariants as client
use Rattle.sig_core.specs.declared.signal.epoch.EpochSignal.TheVariants.{DiVerifyReq, DiVerifyConf, DiVerifyEnd}
use Rattle.sig_core.specs.declared.signal.host.HostSignal.TheVariants.{Continue, Round}
use Rattle.sig_core.specs.declared.signal.host.Work.TheVariants as work
use Rattle.sig_core.specs.declared.signal.membership.MembershipSignal.TheVariants.{Heartbeat}
use Rattle.world_core.specs.Hosts.{part_by}

-- a command that stops nobody, cuts nobody off and closes no epoch
abbrev pub is_calm_request : ApiReq → Bool
is_calm_request (Begin name at) = true
is_calm_request (Operate name op) = true
is_calm_request (Commit name) = true
is_calm_request (Abort name) = true
is_calm_request (Tick round of) = true
is_calm_request (Rows at) = true
is_calm_request (Digest at) = true
is_calm_request View = true
is_calm_request Waits = true
is_calm_request Pending = true
is_calm_request _ = false

-- What each block takes: the client's side,
abbrev pub is_for_client : Body → Bool
is_for_client (Host (Continue (work.Request request) at)) = is_calm_request request
is_for_client (Client (client.TcBeginConf name tx)) = true
is_for_client (Client (client.TcBeginRef name)) = true
is_for_client (Client (client.TcKeyConf tx answer)) = true
is_for_client (Client (client.TcCommitConf tx epoch)) = true
is_for_client (Client (client.TcRollbackRep tx cause)) = true
is_for_client (Client (client.TcWaitConf tx ahead)) = true
is_for_client (Client (client.DumpConf rows next)) = true
is_for_client _ = false

-- the membership,
abbrev pub is_for_membership : Body → Bool
is_for_membership (Host Round) = true
is_for_membership (Membership Heartbeat) = true
is_for_membership _ = false

-- a coordinator,
abbrev pub is_for_coordinator : Body → Bool
is_for_coordinator (Host (Continue (work.Transaction tx) at)) = true
is_for_coordinator (Client (client.TcBeginReq name)) = true
is_for_coordinator (Client (client.TcKeyReq tx op)) = true
is_for_coordinator (Client (client.TcCommitReq tx)) = true
is_for_coordinator (Client (client.TcRollbackReq tx)) = true
is_for_coordinator (Client (client.TcWaitReq tx)) = true
is_for_coordinator (Client (client.LqhWaitConf tx ahead)) = true
is_for_coordinator (Chain (chain.LqhKeyConf tx key answer)) = true
is_for_coordinator (Chain (chain.LqhKeyRef tx key cause)) = true
is_for_coordinator (Chain (chain.Committed tx key)) = true
is_for_coordinator (Chain (chain.Completed tx key)) = true
is_for_coordinator (Chain (chain.Aborted tx key)) = true
is_for_coordinator (Epoch (DiVerifyConf tx epoch)) = true
is_for_coordinator _ = false

-- the epochs of a node,
abbrev pub is_for_epochs : Body → Bool
is_for_epochs (Epoch (DiVerifyReq tx ops)) = true
is_for_epochs (Epoch (DiVerifyEnd tx)) = true
is_for_epochs _ = false

-- and its rows
abbrev pub is_for_rows : Body → Bool
is_for_rows (Host Round) = true
is_for_rows (Host (Continue work.Granted at)) = true
is_for_rows (Host (Continue work.Expired at)) = true
is_for_rows (Client (client.LqhWaitReq tx key)) = true
is_for_rows (Client (client.DumpReq at)) = true
is_for_rows (Client (client.TcCommitAck tx)) = true
is_for_rows (Chain (chain.LqhKeyReq tx work chain at)) = true
is_for_rows (Chain (chain.Commit tx key epoch chain at)) = true
is_for_rows (Chain (chain.Complete tx key chain at)) = true
is_for_rows (Chain (chain.Abort tx key)) = true
is_for_rows _ = false

abbrev pub is_for : BlockId → Body → Bool
is_for Api body = is_for_client body
is_for Qmgr body = is_for_membership body
is_for Tc body = is_for_coordinator body
is_for Dih body = is_for_epochs body
is_for Lqh body = is_for_rows body
is_for block body = false

-- the blocks of a part that take something
abbrev pub is_in : Part → BlockId → Bool
is_in part.Main Qmgr = true
is_in part.Tc Tc = true
is_in part.Tc Dih = true
is_in part.Ldm Lqh = true
is_in part block = false

-- host h has the block
abbrev pub has_block : ℕ → BlockId → Bool
has_block zero Api = true
has_block zero block = false
has_block (suc h) block = is_in (part_by (h % 3)) block

-- host h takes such a signal in calm
abbrev pub is_calm : ℕ → Signal → Bool
is_calm h x = has_block h x.to.block && is_for x.to.block x.body
