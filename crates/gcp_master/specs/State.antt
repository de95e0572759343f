-- The state of a master.
use Rattle.std.specs.Prelude.{ℕ, ◌++◌, ◌&&◌, Bool, not, nat_lt, List, [], ◌∷◌, length, Option, None}
use Rattle.sig_core.specs.declared.member.Member.{Member}
use Rattle.sig_core.specs.declared.view.View.{View}
use Rattle.gcp_master.specs.declared.local.Local.{Local}
use Rattle.gcp_master.specs.declared.local.LocalStage.{LocalStage}
use Rattle.gcp_master.specs.declared.local.LocalStage.TheVariants.{Idle}
use Rattle.gcp_master.specs.declared.orders.Ended.{Ended}
use Rattle.gcp_master.specs.declared.phase.Asked.{Asked}
use Rattle.gcp_master.specs.declared.phase.Phase.{Phase}
use Rattle.gcp_master.specs.declared.voices.TheConstants.{VOICES}
use Rattle.gcp_master.specs.declared.voices.Voice.{Voice}
use Rattle.gcp_master.specs.Voices.{has_all, is_heard, is_in}

-- a master: its member and view, how far it has come, the closing of whose end not all were told yet, what was asked
-- for and isn't begun, whether a takeover has yet to end in this view, who has confirmed what it ordered last, and how
-- far a local checkpoint has come
pub record MasterState : Type 0 where
  pub member : Member
  pub view : View
  pub phase : Phase
  pub front : Option Ended
  pub asked : Asked
  pub owed : Bool
  pub voices : List Voice
  pub local : Local

-- it comes to a phase: nobody has confirmed what it orders there
abbrev pub at_phase : MasterState → Phase → MasterState
at_phase s phase = record s { phase = phase; front = None; voices = [] }

-- no local checkpoint is under way
abbrev pub no_local : Local
no_local = record { stage = Idle; voices = [] }

-- a local checkpoint comes to a stage: nobody has confirmed what is ordered there
abbrev pub at_stage : MasterState → LocalStage → MasterState
at_stage s stage = record s { local = record { stage = stage; voices = [] } }

-- a confirmation counts if its member is in the view and its block hasn't confirmed before
unfoldable pub counts : MasterState → Voice → Bool
counts s voice = is_in s.view voice.member && (not (is_heard s.voices voice) && nat_lt (length s.voices) VOICES)

-- it is counted
abbrev pub counted : MasterState → Voice → MasterState
counted s voice = record s { voices = s.voices ++ voice ∷ [] }

-- so many blocks of each member have confirmed
unfoldable pub all_in : ℕ → MasterState → Bool
all_in blocks s = has_all blocks s.voices s.view.full && has_all blocks s.voices s.view.starting
