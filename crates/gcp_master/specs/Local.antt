-- Local checkpoints: the rows of all full members write what they have, a global checkpoint follows, and then they
-- switch to what they wrote.
use Rattle.std.specs.Prelude.{ℕ, ◌&&◌, ◌++◌, Bool, true, false, not, nat_lt, List, [], ◌∷◌, length}
use Rattle.sig_core.specs.declared.outs.Outgoing.{Outgoing}
use Rattle.sig_core.specs.declared.place.BlockId.TheVariants.{Lqh}
use Rattle.sig_core.specs.declared.signal.Body.TheVariants.{Checkpoint}
use Rattle.sig_core.specs.declared.signal.checkpoint.CheckpointSignal.TheVariants.{LcpRep}
use Rattle.sig_core.specs.Place.{client}
use Rattle.sig_core.specs.Step.{Step, sends_only, stay, to_place}
use Rattle.gcp_master.specs.declared.local.LocalStage.{LocalStage}
use Rattle.gcp_master.specs.declared.local.LocalStage.TheVariants.{Idle, Walking, Closing, Switching}
use Rattle.gcp_master.specs.declared.orders.Order.TheVariants.{Walk}
use Rattle.gcp_master.specs.declared.voices.TheConstants.{VOICES}
use Rattle.gcp_master.specs.declared.voices.Voice.{Voice}
use Rattle.gcp_master.specs.Requests.{asked_row, local_asked}
use Rattle.gcp_master.specs.Resume.{is_president}
use Rattle.gcp_master.specs.Sends.{orders_at}
use Rattle.gcp_master.specs.State.{MasterState, at_stage}
use Rattle.gcp_master.specs.Voices.{has_all, is_among, is_heard}

-- a confirmation counts if its member is full and its block hasn't confirmed before
unfoldable pub counts_local : MasterState → Voice → Bool
counts_local s voice =
    is_among s.view.full voice.member
    && (not (is_heard s.local.voices voice) && nat_lt (length s.local.voices) VOICES)

-- it is counted
abbrev pub counted_local : MasterState → Voice → MasterState
counted_local s voice =
    record s { local = record { stage = s.local.stage; voices = s.local.voices ++ voice ∷ [] } }

-- the rows of each full member have confirmed
unfoldable pub all_local : MasterState → Bool
all_local s = has_all 1 s.local.voices s.view.full

-- the rows of each full member are to write what they have
abbrev pub walk_if : MasterState → Bool → Step MasterState
walk_if s true = record { state = at_stage s Walking; effects = sends_only (orders_at Lqh Walk s.view.full) }
walk_if s false = stay s

abbrev pub walk_by : MasterState → LocalStage → Step MasterState
walk_by s Idle = walk_if s (is_president s.member s.view)
walk_by s _ = stay s

-- a local checkpoint is asked for: it begins where none is under way
unfoldable pub walk_row : MasterState → Step MasterState
walk_row s = walk_by s s.local.stage

-- all have written it: a global checkpoint is asked for
abbrev pub walked_if : MasterState → Bool → Step MasterState
walked_if s true = asked_row (at_stage s Closing) (local_asked s.asked)
walked_if s false = stay s

abbrev pub hear_walk_if : MasterState → Voice → Bool → Step MasterState
hear_walk_if s voice true = walked_if (counted_local s voice) (all_local (counted_local s voice))
hear_walk_if s voice false = stay s

abbrev pub walked_by : MasterState → Voice → LocalStage → Step MasterState
walked_by s voice Walking = hear_walk_if s voice (counts_local s voice)
walked_by s voice _ = stay s

-- the rows of a member have written what they had
unfoldable pub walked_row : MasterState → Voice → Step MasterState
walked_row s voice = walked_by s voice s.local.stage

-- all have switched: the client is told of the epoch
abbrev pub local_told : ℕ → List Outgoing
local_told epoch = to_place client (Checkpoint (LcpRep epoch)) ∷ []

abbrev pub switched_if : MasterState → ℕ → Bool → Step MasterState
switched_if s epoch true = record { state = at_stage s Idle; effects = sends_only (local_told epoch) }
switched_if s epoch false = stay s

abbrev pub hear_switch_if : MasterState → Voice → ℕ → Bool → Step MasterState
hear_switch_if s voice epoch true = switched_if (counted_local s voice) epoch (all_local (counted_local s voice))
hear_switch_if s voice epoch false = stay s

abbrev pub switched_by : MasterState → Voice → LocalStage → Step MasterState
switched_by s voice (Switching epoch) = hear_switch_if s voice epoch (counts_local s voice)
switched_by s voice _ = stay s

-- the rows of a member have switched
unfoldable pub switched_row : MasterState → Voice → Step MasterState
switched_row s voice = switched_by s voice s.local.stage
