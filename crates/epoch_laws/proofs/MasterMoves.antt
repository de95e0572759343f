-- How the phase of a master, and the confirmations that it has counted, change at a signal.
use Rattle.std.proofs.Common.{◌≡◌, ◌<◌, ◌≤◌, ℕ, true, false, List, [], ◌∷◌, ◌++◌}
use Rattle.run_theory.specs.Lists.{Each}
use Rattle.sig_core.specs.declared.signal.Body.{Body}
use Rattle.sig_core.specs.declared.signal.Body.TheVariants.{Epoch}
use Rattle.sig_core.specs.declared.signal.epoch.EpochSignal.TheVariants.{GcpNodeFinish, GcpOrd, GcpPrepareConf}
use Rattle.sig_core.specs.declared.signal.epoch.EpochSignal.TheVariants.{GcpStateConf}
use Rattle.sig_core.specs.declared.view.View.{View}
use Rattle.gcp_master.specs.declared.known.Known.{Known}
use Rattle.gcp_master.specs.declared.known.Told.{Told}
use Rattle.gcp_master.specs.declared.phase.Phase.{Phase}
use Rattle.gcp_master.specs.declared.phase.Phase.TheVariants.{Unordered, Gathering, Resting, Preparing, Committing}
use Rattle.gcp_master.specs.declared.phase.Phase.TheVariants.{Closing, Saving, Copying}
use Rattle.gcp_master.specs.declared.phase.Run.{Run}
use Rattle.gcp_master.specs.declared.voices.Voice.{Voice}
use Rattle.gcp_master.specs.Known.{last_run, nothing_known}
use Rattle.gcp_master.specs.Resume.{learned_if}
use Rattle.gcp_master.specs.State.{MasterState}
use Rattle.gcp_master.specs.Voices.{is_among, is_heard, is_in, voices_of}

-- a signal by which a block tells how far it is
abbrev pub state_body : Told → Body
state_body told = Epoch (GcpStateConf told.current told.prepared told.next told.closed told.saved told.durable)

-- with one confirmation more
abbrev pub with_one : List Voice → Voice → List Voice
with_one voices voice = voices ++ voice ∷ []

-- a confirmation counts: its member is in the view, and its block wasn't heard before
pub record IsNew (s : MasterState) (voice : Voice) : Type 0 where
  pub inside : is_in s.view voice.member ≡ true
  pub new : is_heard s.voices voice ≡ false

-- so many blocks of each full member are heard
abbrev pub HaveAll : ℕ → List Voice → View → Type 0
HaveAll blocks voices view = Each (λ member. blocks ≤ voices_of voices member) view.full

-- what is known when a block of a member has told this too
abbrev pub known_with : MasterState → Voice → Known → Told → Known
known_with s voice known told = learned_if known told (is_among s.view.full voice.member)

-- a master begins from this epoch what is asked for, or rests in it
abbrev pub BeginsFrom : ℕ → Phase → Type 0
BeginsFrom epoch (Resting current) = current ≡ epoch
BeginsFrom epoch (Preparing run) = (run.epoch ≡ epoch) × (epoch < run.next)
BeginsFrom epoch phase = ⊥

-- the members note the end of a run, save it, or write the system file
abbrev pub IsLate : Run → Phase → Type 0
IsLate run (Closing other) = other ≡ run
IsLate run (Saving other) = other ≡ run
IsLate run (Copying other) = other ≡ run
IsLate run phase = ⊥

-- where a master goes on by what all have told
pub data GoesOn (known : Known) (phase : Phase) : Type 0 where
  from_prepare : known.greatest < known.next → phase ≡ Preparing (last_run known) → GoesOn known phase
  from_commit : known.next ≤ known.greatest → phase ≡ Committing (last_run known) → GoesOn known phase
  from_copy : known.next ≤ known.greatest → known.next ≤ known.least → phase ≡ Copying (last_run known)
      → GoesOn known phase
  with_none : known.next ≤ known.greatest → known.next ≤ known.least → BeginsFrom known.next phase
      → GoesOn known phase

-- what a signal of this voice makes of phase and confirmations
pub data Moved (s : MasterState) (voice : Voice) (body : Body) (phase : Phase) (voices : List Voice) : Type 0 where
  stays : phase ≡ s.phase → voices ≡ s.voices → Moved s voice body phase voices
  is_ordered : body ≡ Epoch GcpOrd → s.phase ≡ Unordered → phase ≡ Gathering nothing_known → voices ≡ []
      → Moved s voice body phase voices
  learns : (known : Known) (told : Told) → body ≡ state_body told → s.phase ≡ Gathering known → IsNew s voice
      → phase ≡ Gathering (known_with s voice known told) → voices ≡ with_one s.voices voice
      → Moved s voice body phase voices
  resumes : (known : Known) (told : Told) → body ≡ state_body told → s.phase ≡ Gathering known → IsNew s voice
      → HaveAll 2 (with_one s.voices voice) s.view → GoesOn (known_with s voice known told) phase → voices ≡ []
      → Moved s voice body phase voices
  hears_prepared : (run : Run) → body ≡ Epoch (GcpPrepareConf run.epoch) → s.phase ≡ Preparing run → IsNew s voice
      → phase ≡ Preparing run → voices ≡ with_one s.voices voice → Moved s voice body phase voices
  commits : (run : Run) → body ≡ Epoch (GcpPrepareConf run.epoch) → s.phase ≡ Preparing run → IsNew s voice
      → HaveAll 1 (with_one s.voices voice) s.view → phase ≡ Committing run → voices ≡ []
      → Moved s voice body phase voices
  hears_finished : (run : Run) → body ≡ Epoch (GcpNodeFinish run.epoch) → s.phase ≡ Committing run → IsNew s voice
      → phase ≡ Committing run → voices ≡ with_one s.voices voice → Moved s voice body phase voices
  closes : (run : Run) → body ≡ Epoch (GcpNodeFinish run.epoch) → s.phase ≡ Committing run → IsNew s voice
      → HaveAll 1 (with_one s.voices voice) s.view → phase ≡ Closing run → voices ≡ []
      → Moved s voice body phase voices
  closes_owed : (run : Run) → s.phase ≡ Committing run → HaveAll 1 s.voices s.view → phase ≡ Closing run
      → voices ≡ [] → Moved s voice body phase voices
  goes_late : (run : Run) → IsLate run s.phase → IsLate run phase → Moved s voice body phase voices
  ends : (run : Run) → IsLate run s.phase → BeginsFrom run.next phase → voices ≡ [] → Moved s voice body phase voices
  takes_up : (epoch : ℕ) → s.phase ≡ Resting epoch → BeginsFrom epoch phase → voices ≡ []
      → Moved s voice body phase voices

-- the master goes on so: its member and its view stay
pub record Goes (s : MasterState) (voice : Voice) (body : Body) (now : MasterState) : Type 0 where
  pub member : now.member ≡ s.member
  pub view : now.view ≡ s.view
  pub moved : Moved s voice body now.phase now.voices
