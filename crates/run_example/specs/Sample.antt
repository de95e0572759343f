-- A sample run: host 1 stops with a pong unsent, and host 2 is made and plays on.
use Rattle.std.specs.Prelude.{◌≡◌, ℕ, List, [], ◌∷◌, suc, zero}
use Rattle.run_theory.specs.Links.{sent, taken}
use Rattle.run_theory.specs.Runs.{log_of, Run}
use Rattle.run_theory.specs.Cuts.{IsClosed}
use Rattle.run_example.specs.declared.game.Kind.{Kind}
use Rattle.run_example.specs.declared.game.Kind.TheVariants.{Serve, Make, Stop, Ping, Pong, Closed}
use Rattle.run_example.specs.declared.game.Signal.{Signal}
use Rattle.run_example.specs.declared.game.Step.{Step}
use Rattle.run_example.specs.Game.{game}

-- a signal from a host to another one, with the stamp of the step that sent it
abbrev pub signal : ℕ → ℕ → ℕ → Kind → Signal
signal from to sent kind = record { from = from; to = to; stamp = sent; kind = kind }

-- a step with this stamp, and the signal that it took
abbrev pub takes : ℕ → Signal → Step
takes stamp x = record { stamp = stamp; signal = x }

-- host 2 is made by the step with stamp 4
abbrev pub sample_made : ℕ → ℕ
sample_made (suc (suc zero)) = 4
sample_made _ = 0

-- the newest first
abbrev pub sample : List Step
sample =
    takes 8 (signal 2 0 7 (Pong 9))
    ∷ takes 7 (signal 0 2 6 (Ping 9))
    ∷ takes 6 (signal 0 0 5 (Serve 2 9))
    ∷ takes 5 (signal 1 0 4 Closed)
    ∷ takes 4 (signal 0 0 3 (Make 2))
    ∷ takes 4 (signal 1 1 3 Stop)
    ∷ takes 3 (signal 1 0 2 (Pong 7))
    ∷ takes 3 (signal 0 1 2 (Ping 8))
    ∷ takes 2 (signal 0 0 1 (Serve 1 8))
    ∷ takes 2 (signal 0 1 1 (Ping 7))
    ∷ takes 1 (signal 0 0 0 (Serve 1 7))
    ∷ []

-- the sample is a run
abbrev pub SampleRuns : Type 0
SampleRuns = Run (game sample_made) sample

-- host 1 sent two pongs, of which host 0 took the first and then the closing: the second was lost
abbrev pub SampleLosesPong : Type 0
SampleLosesPong =
    (sent (game sample_made) 1 0 (log_of (game sample_made) sample 1)
    ≡ signal 1 0 3 (Pong 8) ∷ signal 1 0 2 (Pong 7) ∷ [])
    × (taken (game sample_made) 1 (log_of (game sample_made) sample 0) ≡ signal 1 0 4 Closed ∷ signal 1 0 2 (Pong 7) ∷
    [])

-- the cut that has the log of host 0 alone
abbrev pub torn : ℕ → List Step
torn zero = log_of (game sample_made) sample 0
torn (suc h) = []

-- it isn't closed, since host 0 took what other hosts sent
abbrev pub TornIsOpen : Type 0
TornIsOpen = ¬ IsClosed (game sample_made) torn
