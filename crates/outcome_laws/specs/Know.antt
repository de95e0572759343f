-- All that hosts know, tell and mark of transactions is true, at a moment.
use Rattle.std.specs.Prelude.{ℕ, List}
use Rattle.run_theory.specs.Links.{sent}
use Rattle.run_theory.specs.Lists.{Each}
use Rattle.world_core.specs.Start.{Start}
use Rattle.world_core.specs.Steps.{Addressed, HostStep}
use Rattle.world_views.specs.Machine.{after}
use Rattle.view_laws.specs.Order.{sound_machine}
use Rattle.moment_laws.specs.Moments.{IsMoment, logs_of}
use Rattle.outcome_laws.specs.Decided.{IsBegun, IsDecided}
use Rattle.outcome_laws.specs.Known.{PartsKnow}
use Rattle.outcome_laws.specs.Tells.{IsRightMark, Tells}

module _ (start : Start) (logs : ℕ → List HostStep) where
  -- what is known by a host, told by a signal and marked by a step, where these logs say who was decided and has begun
  abbrev pub HostKnows : ℕ → Type 0
  HostKnows h = PartsKnow (IsDecided start logs) (IsBegun start logs) (after start h (logs h)).parts

  abbrev pub TellsTruly : Addressed → Type 0
  TellsTruly x = Tells (IsDecided start logs) (IsBegun start logs) x.signal.body

  abbrev pub MarksRightly : HostStep → Type 0
  MarksRightly e = Each (IsRightMark (IsDecided start logs) (IsBegun start logs)) e.step.marks

  pub record AllKnow : Type 0 where
    pub parts : (h : ℕ) → HostKnows h
    pub right : (h : ℕ) → Each MarksRightly (logs h)
    pub signals : (i j : ℕ) → Each TellsTruly (sent (sound_machine start) i j (logs i))

abbrev pub MomentsKnow : Type 0
MomentsKnow =
    (start : Start) (all : ℕ → List HostStep) (es : List HostStep) → IsMoment start all es
    → AllKnow start (logs_of start es)
