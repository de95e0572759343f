-- What the master of the current view knows of its members.
use Rattle.std.specs.Prelude.{◌≡◌, ◌≤◌, ◌<◌, ◌⊎◌, ℕ, false, List, [], ◌∷◌}
use Rattle.run_theory.specs.Lists.{Each, IsIn}
use Rattle.sig_core.specs.declared.member.Member.{Member}
use Rattle.gcp_master.specs.declared.known.Known.{Known}
use Rattle.gcp_master.specs.declared.phase.Phase.{Phase}
use Rattle.gcp_master.specs.declared.phase.Phase.TheVariants.{Unordered, Gathering, Resting, Preparing, Committing}
use Rattle.gcp_master.specs.declared.phase.Phase.TheVariants.{Closing, Saving, Copying}
use Rattle.gcp_master.specs.declared.phase.Run.{Run}
use Rattle.gcp_master.specs.declared.voices.Voice.{Voice}
use Rattle.gcp_master.specs.State.{MasterState}
use Rattle.gcp_master.specs.Voices.{same_voice}
use Rattle.dih_node.specs.State.{DihState}
use Rattle.world_core.specs.Start.{Start}
use Rattle.world_core.specs.Steps.{HostStep}
use Rattle.epoch_laws.specs.Alike.{EachFull, IsAcross, Rests, Waits}
use Rattle.epoch_laws.specs.Members.{epochs_of}
use Rattle.moment_laws.specs.Places.{ldm_of, tc_of}
use Rattle.moment_laws.specs.Moments.{current}

-- the master has ordered nothing in its view
abbrev pub IsSilent : Phase → Type 0
IsSilent Unordered = Unit {0}
IsSilent (Gathering known) = Unit {0}
IsSilent phase = ⊥

-- the run is under way, in the phase in which the members prepare, or in the one in which they commit
abbrev pub Prepares : ℕ → ℕ → Phase → Type 0
Prepares epoch next (Preparing run) = (run.epoch ≡ epoch) × (run.next ≡ next)
Prepares epoch next phase = ⊥

abbrev pub Commits : ℕ → ℕ → Phase → Type 0
Commits epoch next (Committing run) = (run.epoch ≡ epoch) × (run.next ≡ next)
Commits epoch next phase = ⊥

-- it has prepared the epoch, or doesn't give it any more
abbrev pub HasPrepared : ℕ → DihState → Type 0
HasPrepared epoch s = (epoch < s.current) ⊎ ((s.current ≡ epoch) × (s.prepared ≡ epoch) × (epoch < s.next))

-- no block is heard twice
abbrev pub AreOnce : List Voice → Type 0
AreOnce [] = Unit {0}
AreOnce (voice ∷ voices) = Each (λ other. same_voice other voice ≡ false) voices × AreOnce voices

module _ (start : Start) (logs : ℕ → List HostStep) where
  -- what is said of the epochs of each member that is heard
  abbrev pub EachHeard : (DihState → Type 0) → List Voice → Type 0
  EachHeard P voices = Each (λ voice. P (epochs_of start logs voice.member)) voices

  -- it is heard from the host of its epochs, or of its rows
  abbrev pub IsOfHosts : Voice → Type 0
  IsOfHosts voice = (voice.from.0 ≡ tc_of start voice.member) ⊎ (voice.from.0 ≡ ldm_of start voice.member)

  -- what was told by the epochs of a member lies within what is known
  pub record IsWithin (known : Known) (s : DihState) : Type 0 where
    pub least : known.least ≤ s.current
    pub greatest : s.current ≤ known.greatest
    pub epoch : s.prepared ≤ known.epoch
    pub next : s.next ≤ known.next

  -- some full member has what is known, unless nothing is
  abbrev pub IsHad : (DihState → ℕ) → ℕ → Type 0
  IsHad part value =
      (value ≡ 0)
      ⊎ ((member : Member) × (IsIn member (current start logs).full × (part (epochs_of start logs member) ≡ value)))

  -- what is known is so of who was heard
  pub record IsKnown (voices : List Voice) (known : Known) : Type 0 where
    pub within : Each (λ voice. IsIn voice.member (current start logs).full → voice.from.0 ≡ tc_of start voice.member
        → IsWithin known (epochs_of start logs voice.member)) voices
    pub greatest : IsHad (λ s. s.current) known.greatest
    pub epoch : IsHad (λ s. s.prepared) known.epoch
    pub next : IsHad (λ s. s.next) known.next

  -- the run leads on, and the members are so far
  pub record IsUnderWay (run : Run) (P : DihState → Type 0) : Type 0 where
    pub rises : run.epoch < run.next
    pub each : EachFull start logs P

  abbrev pub IsRightIn : List Voice → Phase → Type 0
  IsRightIn voices Unordered = Unit {0}
  IsRightIn voices (Gathering known) = IsKnown voices known × (Each IsOfHosts voices × AreOnce voices)
  IsRightIn voices (Resting epoch) = EachFull start logs (Rests epoch)
  IsRightIn voices (Preparing run) =
      IsUnderWay run (Waits run.epoch run.next) × EachHeard (HasPrepared run.epoch) voices
  IsRightIn voices (Committing run) =
      IsUnderWay run (IsAcross run.epoch run.next) × EachHeard (λ s. run.epoch < s.current) voices
  IsRightIn voices (Closing run) = IsUnderWay run (Rests run.next)
  IsRightIn voices (Saving run) = IsUnderWay run (Rests run.next)
  IsRightIn voices (Copying run) = IsUnderWay run (Rests run.next)

  -- what the master says of the current view is so
  abbrev pub IsRight : MasterState → Type 0
  IsRight s = IsRightIn s.voices s.phase
