-- What members tell a takeover before their ends, and what it keeps of it.
use Rattle.std.specs.Prelude.{◌≡◌, ◌++◌, ℕ, true, List, ◌∷◌, None, is_some}
use Rattle.run_theory.specs.Links.{sent, taken}
use Rattle.run_theory.specs.Lists.{Each, IsIn}
use Rattle.sig_core.specs.declared.member.Member.{Member}
use Rattle.sig_core.specs.declared.member.TxId.{TxId}
use Rattle.sig_core.specs.declared.place.BlockId.TheVariants as block
use Rattle.sig_core.specs.declared.signal.Body.TheVariants.{Takeover}
use Rattle.sig_core.specs.declared.signal.takeover.RecordState.{RecordState}
use Rattle.sig_core.specs.declared.signal.takeover.TakeoverSignal.TheVariants.{LqhTransConf, LqhTransEnd, TakeoverOrd}
use Rattle.takeover_block.specs.declared.gathered.Gathered.{Gathered}
use Rattle.takeover_block.specs.Gathered.{told_epoch}
use Rattle.takeover_block.specs.Keys.{has_key}
use Rattle.node_views.specs.WellFormed.{is_well_formed}
use Rattle.world_core.specs.Start.{Start, made}
use Rattle.world_core.specs.Steps.{Addressed, HostStep}
use Rattle.view_laws.specs.Order.{sound_machine}
use Rattle.moment_laws.specs.Moments.{IsMoment, current, logs_of}
use Rattle.moment_laws.specs.Places.{ldm_of, tc_of}
use Rattle.request_laws.specs.Orphans.{IsOrphan}
use Rattle.commit_laws.specs.Gathering.{EndsGathering, IsPreparedSomewhere}
use Rattle.commit_laws.specs.Takeovers.{takeover_at}
use Rattle.commit_laws.specs.Traces.{has_marker_at, record_at}

module _ (start : Start) (logs : ℕ → List HostStep) where
  -- the signal tells, in the current view, that a member has told all
  pub record IsEnd (y : Addressed) : Type 0 where
    pub body : y.signal.body ≡ Takeover LqhTransEnd
    pub number : y.signal.view.number ≡ (current start logs).number

  -- it tells, in the current view, of the transaction on the key
  pub record IsTelling (tx : TxId) (key : List ℕ) (y : Addressed) : Type 0 where
    pub told : RecordState
    pub epoch : ℕ
    pub body : y.signal.body ≡ Takeover (LqhTransConf tx key told epoch)
    pub number : y.signal.view.number ≡ (current start logs).number

  -- and, where this is so, that it is committed
  pub record IsAmong (tx : TxId) (key : List ℕ) (Marked : Type 0) (ys : List Addressed) : Type 0 where
    pub signal : Addressed
    pub there : IsIn signal ys
    pub telling : IsTelling tx key signal
    pub committed : Marked → told_epoch telling.told telling.epoch ≡ None → ⊥

  -- In front of each end that the rows of this member sent to this takeover they told of each record and marker of
  -- orphans that they have.
  abbrev pub ToldBeforeEnds : Member → Member → Type 0
  ToldBeforeEnds member one =
      (y : Addressed) (newer older : List Addressed)
      → sent (sound_machine start) (ldm_of start one) (tc_of start member) (logs (ldm_of start one))
      ≡ newer ++ y ∷ older
      → IsEnd y → (tx : TxId) → IsOrphan (current start logs) tx → (key : List ℕ)
      → (is_some (record_at start logs one key tx) ≡ true → IsAmong tx key ⊥ older)
      × (has_marker_at start logs one key tx ≡ true → IsAmong tx key Unit older)

-- so it is when the last member ends
abbrev pub EndsComeBehind : Type 0
EndsComeBehind =
    (start : Start) (all : ℕ → List HostStep) (e : HostStep) (es : List HostStep) → IsMoment start all (e ∷ es)
    → (member : Member) → EndsGathering start e es member → (one : Member)
    → IsIn one (current start (logs_of start es)).full
    → ToldBeforeEnds start (logs_of start es) member one

-- then the end of each has been taken
pub record HasEnded (start : Start) (e : HostStep) (es : List HostStep) (member one : Member) : Type 0 where
  pub signal : Addressed
  pub there :
      IsIn signal (taken (sound_machine start) (ldm_of start one) (logs_of start (e ∷ es) (tc_of start member)))
  pub ends : IsEnd start (logs_of start es) signal

abbrev pub AllHaveEnded : Type 0
AllHaveEnded =
    (start : Start) (all : ℕ → List HostStep) (e : HostStep) (es : List HostStep) → IsMoment start all (e ∷ es)
    → (member : Member) → EndsGathering start e es member → (one : Member)
    → IsIn one (current start (logs_of start es)).full
    → HasEnded start e es member one

-- and what was told until then is gathered
pub record IsGathered (start : Start) (logs : ℕ → List HostStep) (member : Member) : Type 0 where
  pub noted : (i : ℕ) (y : Addressed) → IsIn y (taken (sound_machine start) i (logs (tc_of start member)))
      → (tx : TxId) (key : List ℕ) → (tells : IsTelling start logs tx key y)
      → Each (λ (g : Gathered). g.tx ≡ tx → (has_key g.keys key ≡ true)
      × ((told_epoch tells.told tells.epoch ≡ None → ⊥) → g.epoch ≡ None → ⊥)) (takeover_at start logs member).gathered
  pub prepared : Each (λ (g : Gathered). g.epoch ≡ None → IsPreparedSomewhere start logs g.tx)
      (takeover_at start logs member).gathered

abbrev pub TellingsAreGathered : Type 0
TellingsAreGathered =
    (start : Start) (all : ℕ → List HostStep) (e : HostStep) (es : List HostStep) → IsMoment start all (e ∷ es)
    → (member : Member) → EndsGathering start e es member → IsGathered start (logs_of start es) member

-- before a takeover is ordered, its host was told nothing in the current view
abbrev pub OrdersComeFirst : Type 0
OrdersComeFirst =
    (start : Start) (all : ℕ → List HostStep) (e : HostStep) (es : List HostStep) → IsMoment start all (e ∷ es)
    → (member : Member) → IsIn member (made start) → e.host ≡ tc_of start member
    → e.step.taken.to.block ≡ block.Takeover → e.step.taken.body ≡ Takeover TakeoverOrd
    → e.step.taken.view.number ≡ (current start (logs_of start (e ∷ es))).number → (i : ℕ) (y : Addressed)
    → IsIn y (taken (sound_machine start) i (logs_of start es (tc_of start member))) → (tx : TxId) (key : List ℕ)
    → IsTelling start (logs_of start (e ∷ es)) tx key y → ⊥

-- what is told of transactions is for takeovers
abbrev pub TellingsAreForTakeovers : Type 0
TellingsAreForTakeovers =
    (start : Start) (all : ℕ → List HostStep) (e : HostStep) (es : List HostStep) → IsMoment start all (e ∷ es)
    → is_well_formed start.shape e.step.taken ≡ true → (tx : TxId) (key : List ℕ) (told : RecordState) (epoch : ℕ)
    → e.step.taken.body ≡ Takeover (LqhTransConf tx key told epoch)
    → e.step.taken.to.block ≡ block.Takeover
