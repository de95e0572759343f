-- What was told before an epoch is written as durable.
use Rattle.std.specs.Prelude.{◌≡◌, ◌≤◌, ◌<◌, ℕ, List}
use Rattle.gcp_master.specs.Orders.{mask_of}
use Rattle.run_theory.specs.Links.{sent, taken}
use Rattle.run_theory.specs.Lists.{Each, IsIn}
use Rattle.sig_core.specs.declared.mark.Mark.TheVariants.{Durable}
use Rattle.sig_core.specs.declared.member.Member.{Member}
use Rattle.sig_core.specs.declared.signal.Body.{Body}
use Rattle.sig_core.specs.declared.signal.Body.TheVariants.{Epoch}
use Rattle.sig_core.specs.declared.signal.epoch.EpochSignal.TheVariants.{CopyGciConf, CopyGciReq, GcpDone}
use Rattle.sig_core.specs.declared.signal.epoch.EpochSignal.TheVariants.{GcpSaveConf, GcpStateConf}
use Rattle.sig_core.specs.declared.view.View.{View}
use Rattle.world_core.specs.Hosts.{hosts}
use Rattle.world_core.specs.Start.{Start}
use Rattle.world_core.specs.Steps.{Addressed, HostStep}
use Rattle.view_laws.specs.Order.{sound_machine}
use Rattle.view_laws.specs.Runs.{WasInstalled}
use Rattle.moment_laws.specs.Moments.{IsMoment, logs_of}
use Rattle.moment_laws.specs.Places.{ldm_of, tc_of}
use Rattle.outcome_laws.specs.Decided.{IsMarked}

-- rows tell that they have saved an epoch, or a later one
abbrev pub TellsSaved : ℕ → Body → Type 0
TellsSaved epoch (Epoch (GcpSaveConf saved)) = epoch ≤ saved
TellsSaved epoch (Epoch (GcpStateConf now prepared next closed saved durable)) = epoch ≤ saved
TellsSaved epoch body = ⊥

-- it tells no later epoch than this
abbrev pub TellsUpTo : ℕ → Body → Type 0
TellsUpTo most body = (epoch : ℕ) → TellsSaved epoch body → epoch ≤ most

-- a block of epochs tells that the system slot of an epoch was written, or of a later one
abbrev pub TellsDurable : ℕ → Body → Type 0
TellsDurable epoch (Epoch (CopyGciConf durable)) = epoch ≤ durable
TellsDurable epoch body = ⊥

module _ (start : Start) (logs : ℕ → List HostStep) where
  -- somebody has taken such a signal of a host
  pub record WasTold (Tells : Body → Type 0) (from : ℕ) : Type 0 where
    pub host : ℕ
    pub below : host < hosts start
    pub signal : Addressed
    pub there : IsIn signal (taken (sound_machine start) from (logs host))
    pub tells : Tells signal.signal.body

  -- The mask is that of the full members of a view that was installed, each of which has told that it saved the epoch.
  pub record IsOfSaved (epoch mask : ℕ) : Type 0 where
    pub view : View
    pub installed : WasInstalled start logs view
    pub mask_is : mask ≡ mask_of view.full
    pub told : Each (λ (member : Member). WasTold (TellsSaved epoch) (ldm_of start member)) view.full

  -- Each full member of a view that was installed has told that it wrote the system slot of the epoch.
  pub record IsOfDurable (epoch : ℕ) : Type 0 where
    pub view : View
    pub installed : WasInstalled start logs view
    pub told : Each (λ (member : Member). WasTold (TellsDurable epoch) (tc_of start member)) view.full

-- an epoch is ordered to be written as durable at members that have told that they saved it
abbrev pub CopiedWereSaved : Type 0
CopiedWereSaved =
    (start : Start) (all : ℕ → List HostStep) (es : List HostStep) → start.start_epoch < start.epoch
    → IsMoment start all es → (i j : ℕ) → Each
    (λ (y : Addressed). (epoch mask : ℕ) → y.signal.body ≡ Epoch (CopyGciReq epoch mask)
    → IsOfSaved start (logs_of start es) epoch mask)
    (sent (sound_machine start) i j (logs_of start es i))

-- an epoch is durable when each full member of a view has told that it wrote its system slot
abbrev pub DurableWereNoted : Type 0
DurableWereNoted =
    (start : Start) (all : ℕ → List HostStep) (es : List HostStep) → start.start_epoch < start.epoch
    → IsMoment start all es → (h epoch : ℕ) → h < hosts start → IsMarked (Durable epoch) (logs_of start es h)
    → IsOfDurable start (logs_of start es) epoch

-- who tells that an epoch is durable has marked so
abbrev pub DoneWereMarked : Type 0
DoneWereMarked =
    (start : Start) (all : ℕ → List HostStep) (es : List HostStep) → start.start_epoch < start.epoch
    → IsMoment start all es → (i j : ℕ) → Each
    (λ (y : Addressed). (epoch : ℕ) → y.signal.body ≡ Epoch (GcpDone epoch)
    → IsMarked (Durable epoch) (logs_of start es i))
    (sent (sound_machine start) i j (logs_of start es i))
