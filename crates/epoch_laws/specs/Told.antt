-- What signals of the current view tell of epochs.
use Rattle.std.specs.Prelude.{◌≡◌, ◌≤◌, ◌<◌, ◌⊎◌, ℕ, List}
use Rattle.sig_core.specs.declared.member.Member.{Member}
use Rattle.sig_core.specs.declared.signal.Body.{Body}
use Rattle.sig_core.specs.declared.signal.Body.TheVariants.{Epoch}
use Rattle.sig_core.specs.declared.signal.Signal.{Signal}
use Rattle.sig_core.specs.declared.signal.epoch.EpochSignal.TheVariants.{GcpCommit, GcpNodeFinish, GcpOrd, GcpPrepare}
use Rattle.sig_core.specs.declared.signal.epoch.EpochSignal.TheVariants.{GcpPrepareConf, GcpStateConf}
use Rattle.dih_node.specs.State.{DihState}
use Rattle.gcp_master.specs.declared.phase.Phase.{Phase}
use Rattle.world_core.specs.Start.{Start}
use Rattle.world_core.specs.Steps.{Addressed, HostStep}
use Rattle.view_laws.specs.Votes.{main_of}
use Rattle.epoch_laws.specs.Alike.{EachFull}
use Rattle.epoch_laws.specs.Masters.{Commits, HasPrepared, IsSilent, Prepares}
use Rattle.epoch_laws.specs.Members.{IsPresident, IsStanding, epochs_of, master_of}
use Rattle.moment_laws.specs.Places.{ldm_of, tc_of}
use Rattle.moment_laws.specs.Moments.{current}

module _ (start : Start) (logs : ℕ → List HostStep) where
  -- The president ordered this in the current view: the order is under way, or each member is beyond it.
  pub record IsOrdered (next : ℕ) (UnderWay : Phase → Type 0) : Type 0 where
    pub president : Member
    pub is : IsPresident start logs president
    pub stands : IsStanding start logs president
    pub speaks : IsSilent (master_of start logs president).phase → ⊥
    pub far : UnderWay (master_of start logs president).phase ⊎ EachFull start logs (λ s. next ≤ s.current)

  -- the epochs of a member are as they were told
  pub record IsAsTold (current prepared next : ℕ) (s : DihState) : Type 0 where
    pub current_is : s.current ≡ current
    pub prepared_is : s.prepared ≡ prepared
    pub next_is : s.next ≡ next

  -- nothing was ordered yet in the current view
  abbrev pub IsAllSilent : Type 0
  IsAllSilent =
      (president : Member) → IsPresident start logs president → IsStanding start logs president
      → IsSilent (master_of start logs president).phase

  -- what the epochs of a member tell of themselves, and its rows don't
  abbrev pub IsTrueState : Signal → ℕ → ℕ → ℕ → Type 0
  IsTrueState x now prepared next =
      ((x.from.0 ≡ tc_of start x.member) × (IsAllSilent → IsAsTold now prepared next (epochs_of start logs x.member)))
      ⊎ ((x.from.0 ≡ ldm_of start x.member) × (now ≡ 0))

  abbrev pub IsTrueOf : Addressed → Body → Type 0
  IsTrueOf x (Epoch (GcpPrepare epoch next)) =
      (epoch < next) × IsOrdered next (λ phase. Prepares epoch next phase ⊎ Commits epoch next phase)
  IsTrueOf x (Epoch (GcpCommit epoch next)) = (epoch < next) × IsOrdered next (Commits epoch next)
  IsTrueOf x (Epoch (GcpPrepareConf epoch)) = HasPrepared epoch (epochs_of start logs x.signal.member)
  IsTrueOf x (Epoch (GcpNodeFinish epoch)) = epoch < (epochs_of start logs x.signal.member).current
  IsTrueOf x (Epoch (GcpStateConf now prepared next closed saved durable)) = IsTrueState x.signal now prepared next
  IsTrueOf x (Epoch GcpOrd) =
      IsPresident start logs x.signal.member × (x.to ≡ main_of start x.signal.member)
  IsTrueOf x body = Unit {0}

  -- a signal of the current view tells the truth
  abbrev pub IsTrue : Addressed → Type 0
  IsTrue x = x.signal.view.number ≡ (current start logs).number → IsTrueOf x x.signal.body
