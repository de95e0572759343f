-- What is true of confirmations and requests, in any state of a master.
use Rattle.std.specs.Prelude.{◌≡◌, ◌⊎◌, Bool, true, false, Some}
use Rattle.sig_core.specs.declared.signal.Body.{Body}
use Rattle.sig_core.specs.declared.signal.Body.TheVariants.{Epoch, Checkpoint}
use Rattle.sig_core.specs.declared.signal.Signal.{Signal}
use Rattle.sig_core.specs.declared.signal.checkpoint.CheckpointSignal.TheVariants.{LcpFragRep, LcpSwitchConf}
use Rattle.sig_core.specs.declared.signal.epoch.EpochSignal.TheVariants.{GcpPrepareConf, GcpNodeFinish, GcpClosedConf}
use Rattle.sig_core.specs.declared.signal.epoch.EpochSignal.TheVariants.{GcpSaveConf, CopyGciConf, GcpStateConf}
use Rattle.sig_core.specs.Step.{stay}
use Rattle.gcp_master.specs.declared.phase.Phase.{Phase}
use Rattle.gcp_master.specs.declared.phase.Phase.TheVariants.{Preparing}
use Rattle.gcp_master.specs.declared.phase.Run.{Run}
use Rattle.gcp_master.specs.Master.{master_row}
use Rattle.gcp_master.specs.Numbers.{next_global, next_micro}
use Rattle.gcp_master.specs.State.{MasterState}
use Rattle.gcp_master.specs.Voices.{is_in}

-- a signal by which a member confirms an order, or tells how far it is
abbrev pub is_confirmation : Body → Bool
is_confirmation (Epoch (GcpPrepareConf epoch)) = true
is_confirmation (Epoch (GcpNodeFinish epoch)) = true
is_confirmation (Epoch (GcpClosedConf epoch)) = true
is_confirmation (Epoch (GcpSaveConf epoch)) = true
is_confirmation (Epoch (CopyGciConf epoch)) = true
is_confirmation (Epoch (GcpStateConf current prepared next closed saved durable)) = true
is_confirmation (Checkpoint (LcpFragRep epoch)) = true
is_confirmation (Checkpoint LcpSwitchConf) = true
is_confirmation body = false

-- a confirmation of who isn't in the view changes nothing, sends nothing and marks nothing
abbrev pub OutsidersConfirmNothing : Type 0
OutsidersConfirmNothing =
    (s : MasterState) (x : Signal) → is_confirmation x.body ≡ true → is_in s.view x.member ≡ false
    → master_row s x ≡ stay s

-- one that comes once more at once doesn't either
abbrev pub TwiceConfirmedCountsOnce : Type 0
TwiceConfirmedCountsOnce =
    (s : MasterState) (x : Signal) → is_confirmation x.body ≡ true
    → master_row (master_row s x).state x ≡ stay (master_row s x).state

-- a global checkpoint begins, or a micro closing
abbrev pub BeginsGlobal : Phase → Type 0
BeginsGlobal phase = (run : Run) × ((phase ≡ Preparing run) × (next_global run.epoch ≡ Some run.next))

abbrev pub BeginsMicro : Phase → Type 0
BeginsMicro phase = (run : Run) × ((phase ≡ Preparing run) × (next_micro run.epoch ≡ Some run.next))

-- what was asked for still is, or a closing that serves it begins
abbrev pub KeepsGlobal : MasterState → Type 0
KeepsGlobal state = (state.asked.global ≡ true) ⊎ BeginsGlobal state.phase

abbrev pub KeepsMicro : MasterState → Type 0
KeepsMicro state = (state.asked.micro ≡ true) ⊎ BeginsMicro state.phase

-- no signal takes away what the client asked for, but by the beginning of a closing that serves it
abbrev pub RequestsAreKept : Type 0
RequestsAreKept =
    (s : MasterState) (x : Signal)
    → (s.asked.global ≡ true → KeepsGlobal (master_row s x).state)
    × (s.asked.micro ≡ true → KeepsMicro (master_row s x).state)
