-- What is so of each signal that a step sends, and of each mark that it makes.
use Rattle.std.specs.Prelude.{◌≡◌, Bool, true}
use Rattle.run_theory.specs.Lists.{Each}
use Rattle.sig_core.specs.declared.mark.Mark.{Mark}
use Rattle.sig_core.specs.declared.outs.Outgoing.{Outgoing}
use Rattle.sig_core.specs.declared.signal.Body.{Body}
use Rattle.sig_core.specs.Step.{Effects, Step}

-- P of what is sent, and M of what is marked
abbrev pub Have : (Outgoing → Type 0) → (Mark → Type 0) → Effects → Type 0
Have P M effects = Each P effects.sends × Each M effects.marks

-- so it is of what a step does
abbrev pub Does : {S : Type 0} → (Outgoing → Type 0) → (Mark → Type 0) → Step S → Type 0
Does P M step = Have P M step.effects

-- what is sent is one of these words
abbrev pub IsWord : (Body → Bool) → Outgoing → Type 0
IsWord words sent = words sent.body ≡ true

-- what is marked is one of these marks
abbrev pub IsAmong : (Mark → Bool) → Mark → Type 0
IsAmong marks mark = marks mark ≡ true

-- a step sends no other words, and makes no other marks
abbrev pub Speaks : {S : Type 0} → (Body → Bool) → (Mark → Bool) → Step S → Type 0
Speaks words marks step = Does (IsWord words) (IsAmong marks) step
