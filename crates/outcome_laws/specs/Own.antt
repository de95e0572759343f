-- What only the coordinator that began a transaction sends, and where to.
use Rattle.std.specs.Prelude.{◌≡◌}
use Rattle.sig_core.specs.declared.member.Member.{Member}
use Rattle.sig_core.specs.declared.outs.Outgoing.{Outgoing}
use Rattle.sig_core.specs.declared.place.Place.{Place}
use Rattle.sig_core.specs.declared.signal.Body.{Body}
use Rattle.sig_core.specs.declared.signal.Body.TheVariants.{Client, Epoch}
use Rattle.sig_core.specs.declared.signal.client.ClientSignal.TheVariants.{TcBeginConf, TcCommitReq}
use Rattle.sig_core.specs.declared.signal.epoch.EpochSignal.TheVariants.{DiVerifyReq}
use Rattle.sig_core.specs.Place.{epochs}
use Rattle.outcome_laws.specs.Counts.{coordinator_member}

-- Its own member tells that a transaction has begun, and asks for its epoch: of the epochs of its own node. Clients
-- alone ask for commits.
abbrev pub IsOwnAt : Member → Place → Body → Type 0
IsOwnAt member to (Client (TcBeginConf name tx)) = coordinator_member tx ≡ member
IsOwnAt member to (Client (TcCommitReq tx)) = ⊥
IsOwnAt member to (Epoch (DiVerifyReq tx ops)) = (coordinator_member tx ≡ member) × (to ≡ epochs member.node)
IsOwnAt member to body = Unit {0}

abbrev pub IsOwnSend : Member → Outgoing → Type 0
IsOwnSend member sent = IsOwnAt member sent.to sent.body
