-- Peaceful logs: what was taken is what a cluster sends in which nothing fails, with its rounds, heartbeats and
-- closings of epochs.
use Rattle.std.specs.Prelude.{◌≡◌, ℕ, zero, suc, ◌%◌, ◌&&◌, ◌||◌, Bool, true, false, List}
use Rattle.run_theory.specs.Lists.{Each}
use Rattle.sig_core.specs.declared.place.BlockId.{BlockId}
use Rattle.sig_core.specs.declared.place.BlockId.TheVariants.{Api, Dih, GcpMaster, Lqh}
use Rattle.sig_core.specs.declared.place.Part.{Part}
use Rattle.sig_core.specs.declared.place.Part.TheVariants as part
use Rattle.sig_core.specs.declared.request.ApiReq.{ApiReq}
use Rattle.sig_core.specs.declared.request.ApiReq.TheVariants.{Gcp, Micro}
use Rattle.sig_core.specs.declared.signal.Body.{Body}
use Rattle.sig_core.specs.declared.signal.Body.TheVariants.{Host, Epoch}
use Rattle.sig_core.specs.declared.signal.Signal.{Signal}
use Rattle.sig_core.specs.declared.signal.epoch.EpochSignal.{EpochSignal}
use Rattle.sig_core.specs.declared.signal.epoch.EpochSignal.TheVariants as epoch
use Rattle.sig_core.specs.declared.signal.host.HostSignal.TheVariants.{Continue}
use Rattle.sig_core.specs.declared.signal.host.Work.TheVariants as work
use Rattle.world_core.specs.Hosts.{part_by}
use Rattle.world_core.specs.Steps.{HostStep}
use Rattle.calm_laws.specs.Calm.{is_calm, is_calm_request}

-- a request that closes an epoch
abbrev pub is_closing_request : ApiReq → Bool
is_closing_request Gcp = true
is_closing_request Micro = true
is_closing_request _ = false

-- a command that stops nobody and cuts nobody off
abbrev pub is_peaceful_request : ApiReq → Bool
is_peaceful_request request = is_calm_request request || is_closing_request request

-- What each block takes of a closing: the client's side what it is told at its end, the master of checkpoints the
-- request and the confirmations, and the members its orders.
abbrev pub is_order : BlockId → EpochSignal → Bool
is_order Api (epoch.GcpRep closed) = true
is_order Api (epoch.MicroRep closed) = true
is_order GcpMaster (epoch.GcpReq by) = true
is_order GcpMaster epoch.MicroReq = true
is_order GcpMaster (epoch.GcpPrepareConf closed) = true
is_order GcpMaster (epoch.GcpNodeFinish closed) = true
is_order GcpMaster (epoch.GcpClosedConf closed) = true
is_order GcpMaster (epoch.GcpSaveConf closed) = true
is_order GcpMaster (epoch.CopyGciConf closed) = true
is_order Dih (epoch.GcpPrepare closed next) = true
is_order Dih (epoch.GcpCommit closed next) = true
is_order Dih (epoch.GcpClosed closed) = true
is_order Dih (epoch.CopyGciReq closed mask) = true
is_order Dih (epoch.GcpDone closed) = true
is_order Lqh (epoch.GcpClosed closed) = true
is_order Lqh (epoch.GcpSaveReq closed) = true
is_order Lqh (epoch.GcpDone closed) = true
is_order _ _ = false

abbrev pub is_for_closing : BlockId → Body → Bool
is_for_closing block (Epoch signal) = is_order block signal
is_for_closing GcpMaster (Host (Continue work.Members at)) = true
is_for_closing block body = false

-- the block of a part that takes something of a closing
abbrev pub is_closer : Part → BlockId → Bool
is_closer part.Main GcpMaster = true
is_closer part.Tc Dih = true
is_closer part.Ldm Lqh = true
is_closer part block = false

abbrev pub has_closer : ℕ → BlockId → Bool
has_closer zero Api = true
has_closer zero block = false
has_closer (suc h) block = is_closer (part_by (h % 3)) block

-- host h takes such a signal of a closing
abbrev pub is_closing : ℕ → Signal → Bool
is_closing h x = has_closer h x.to.block && is_for_closing x.to.block x.body

-- the client's side is asked for one
abbrev pub asks_by : BlockId → Body → Bool
asks_by Api (Host (Continue (work.Request request) at)) = is_closing_request request
asks_by block body = false

abbrev pub asks_closing : ℕ → Signal → Bool
asks_closing zero x = asks_by x.to.block x.body
asks_closing (suc h) x = false

-- host h takes such a signal in peace
abbrev pub is_peaceful : ℕ → Signal → Bool
is_peaceful h x = is_calm h x || (is_closing h x || asks_closing h x)

-- each that was taken is one
abbrev pub ArePeaceful : (ℕ → List HostStep) → Type 0
ArePeaceful logs = (h : ℕ) → Each (λ e. is_peaceful h e.step.taken ≡ true) (logs h)
