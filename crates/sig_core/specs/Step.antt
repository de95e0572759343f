-- What a block does at one signal: its state after it, and its effects.
use Rattle.std.specs.Prelude.{◌≡◌, ◌+◌, ◌≤◌, List, [], ◌∷◌, ◌++◌, length}
use Rattle.sig_core.specs.declared.mark.Mark.{Mark}
use Rattle.sig_core.specs.declared.outs.Outgoing.{Outgoing}
use Rattle.sig_core.specs.declared.outs.TheConstants.{OUTS, SIGNAL_OUTS}
use Rattle.sig_core.specs.declared.place.Place.{Place}
use Rattle.sig_core.specs.declared.signal.Body.{Body}

-- what a step sends and is marked by, each in order
pub record Effects : Type 0 where
  pub sends : List Outgoing
  pub marks : List Mark

-- the state after a step, and what it does
pub record Step (S : Type 0) : Type 0 where
  pub state : S
  pub effects : Effects

-- no effects
abbrev pub nothing : Effects
nothing = record { sends = []; marks = [] }

-- signals and no marks
abbrev pub sends_only : List Outgoing → Effects
sends_only sends = record { sends = sends; marks = [] }

-- effects, and then others
abbrev pub joined : Effects → Effects → Effects
joined first second = record { sends = first.sends ++ second.sends; marks = first.marks ++ second.marks }

-- one signal, for a place
abbrev pub to_place : Place → Body → Outgoing
to_place to body = record { to = to; body = body }

-- effects, and then one signal
abbrev pub and_send : Effects → Place → Body → Effects
and_send effects to body = record { sends = effects.sends ++ to_place to body ∷ []; marks = effects.marks }

-- effects, and then one mark
abbrev pub and_mark : Effects → Mark → Effects
and_mark effects mark = record { sends = effects.sends; marks = effects.marks ++ mark ∷ [] }

-- nothing happens
abbrev pub stay : {S : Type 0} → S → Step S
stay state = record { state = state; effects = nothing }

-- a step to a state that sends one signal
abbrev pub sending : {S : Type 0} → S → Place → Body → Step S
sending state to body = record { state = state; effects = and_send nothing to body }

-- the step was taken: the state is the one after it, and its effects stand behind those before
pub record IsTaken {S : Type 0} (step : Step S) (now : S) (out out_now : Effects) : Type 0 where
  pub state : now ≡ step.state
  pub effects : out_now ≡ joined out step.effects

-- nothing has happened
pub record IsUntouched {S : Type 0} (old now : S) (out out_now : Effects) : Type 0 where
  pub state : now ≡ old
  pub effects : out_now ≡ out

-- the effects leave room for those of one more signal
pub record HasRoom (effects : Effects) : Type 0 where
  pub sends : length effects.sends + SIGNAL_OUTS ≤ OUTS
  pub marks : length effects.marks + SIGNAL_OUTS ≤ OUTS
