-- The law of the game: a pong comes only of a ping, and a ping of a serve.
use Rattle.std.specs.Prelude.{ℕ, ◌≡◌, List}
use Rattle.run_theory.specs.Lists.{Each, IsIn}
use Rattle.run_theory.specs.Runs.{AreLogs, IsWithin}
use Rattle.run_theory.specs.Orders.{LogsRun}
use Rattle.run_theory.specs.Cuts.{IsCut, IsClosed}
use Rattle.run_example.specs.declared.game.Kind.{Kind}
use Rattle.run_example.specs.declared.game.Kind.TheVariants.{Serve, Ping, Pong}
use Rattle.run_example.specs.declared.game.Signal.{Signal}
use Rattle.run_example.specs.declared.game.Step.{Step}
use Rattle.run_example.specs.Game.{game}

-- a step of this log took a signal of this kind
pub record HasTaken (kind : Kind) (log : List Step) : Type 0 where
  pub step : Step
  pub inside : IsIn step log
  pub is : step.signal.kind ≡ kind

-- what a signal tells: who sent a pong has taken that ping, and who sent a ping was asked to serve that ball
abbrev pub Tells : Kind → ℕ → ℕ → (ℕ → List Step) → Type 0
Tells (Pong ball) from to logs = HasTaken (Ping ball) (logs from)
Tells (Ping ball) from to logs = HasTaken (Serve to ball) (logs from)
Tells _ from to logs = Unit {0}

abbrev pub SignalTells : Signal → (ℕ → List Step) → Type 0
SignalTells x logs = Tells x.kind x.from x.to logs

-- whatever any host has taken is true of the logs
abbrev pub AllTrue : (ℕ → List Step) → Type 0
AllTrue logs = (h : ℕ) → Each (λ e. SignalTells e.signal logs) (logs h)

-- in each closed cut of right logs each pong that was taken is of a ball that its sender has a ping of, and each
-- ping of a ball that was served
abbrev pub PongsAnswerPings : Type 0
PongsAnswerPings =
    (made : ℕ → ℕ) (n : ℕ) (inside logs : ℕ → List Step) → IsWithin n logs → AreLogs (game made) logs
    → IsCut inside logs → IsClosed (game made) inside
    → AllTrue inside

-- right logs of the game, merged, are a run
abbrev pub GameLogsRun : Type 0
GameLogsRun = (made : ℕ → ℕ) (n : ℕ) (logs : ℕ → List Step) → IsWithin n logs → AreLogs (game made) logs
    → LogsRun (game made) n logs
