-- What the master of checkpoints and the epochs of members tell one another.
use Rattle.std.proofs.Common.{◌≡◌, Bool, true, false, List}
use Rattle.run_theory.specs.Lists.{Each}
use Rattle.sig_core.specs.declared.outs.Outgoing.{Outgoing}
use Rattle.sig_core.specs.declared.signal.Body.{Body}
use Rattle.sig_core.specs.declared.signal.Body.TheVariants.{Epoch}
use Rattle.sig_core.specs.declared.signal.epoch.EpochSignal.TheVariants.{GcpClosed, GcpCommit, GcpNodeFinish, GcpOrd}
use Rattle.sig_core.specs.declared.signal.epoch.EpochSignal.TheVariants.{GcpPrepare, GcpPrepareConf, GcpStateConf}
use Rattle.sig_core.specs.Step.{Step}

-- an order of the master, or of its membership to it, or what a member answers
abbrev pub is_order : Body → Bool
is_order (Epoch (GcpPrepare epoch next)) = true
is_order (Epoch (GcpPrepareConf epoch)) = true
is_order (Epoch (GcpCommit epoch next)) = true
is_order (Epoch (GcpNodeFinish epoch)) = true
is_order (Epoch (GcpClosed epoch)) = true
is_order (Epoch GcpOrd) = true
is_order (Epoch (GcpStateConf current prepared next closed saved durable)) = true
is_order body = false

-- it is none of them
abbrev pub IsNoOrder : Outgoing → Type 0
IsNoOrder send = is_order send.body ≡ false

abbrev pub AreNoOrders : List Outgoing → Type 0
AreNoOrders sends = Each IsNoOrder sends

-- a step sends none
abbrev pub SendsNoOrder : {S : Type 0} → Step S → Type 0
SendsNoOrder step = AreNoOrders step.effects.sends
