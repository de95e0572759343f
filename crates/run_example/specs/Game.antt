-- The game as a machine.
use Rattle.std.specs.Prelude.{◌==◌, ℕ, Bool, true, false, List, [], ◌∷◌}
use Rattle.run_theory.specs.Machine.{Machine}
use Rattle.run_theory.specs.TestMachine.{TestMachine, machine}
use Rattle.run_example.specs.declared.game.Kind.{Kind}
use Rattle.run_example.specs.declared.game.Kind.TheVariants.{Serve, Make, Stop, Ping, Pong, Closed}
use Rattle.run_example.specs.declared.game.Signal.{Signal}
use Rattle.run_example.specs.declared.game.Step.{Step}

-- no link gives a signal of this kind
abbrev pub is_asked : Kind → Bool
is_asked (Serve host ball) = true
is_asked (Make host) = true
is_asked Stop = true
is_asked _ = false

-- host 0 serves and makes hosts, and takes pongs; every other host takes pings
abbrev pub fits : ℕ → Kind → Bool
fits h (Serve host ball) = h == 0
fits h (Make host) = h == 0
fits h (Pong ball) = h == 0
fits h _ = true

-- a serve sends a ping, and a ping a pong
abbrev pub sends : ℕ → ℕ → ℕ → Kind → List Signal
sends h stamp from (Serve host ball) = record { from = h; to = host; stamp = stamp; kind = Ping ball } ∷ []
sends h stamp from (Ping ball) = record { from = h; to = from; stamp = stamp; kind = Pong ball } ∷ []
sends h stamp from _ = []

abbrev pub is_stop : Kind → Bool
is_stop Stop = true
is_stop _ = false

-- host 0 makes this host
abbrev pub is_making : ℕ → Kind → Bool
is_making h (Make host) = host == h
is_making h _ = false

-- the game, with the stamps at which its hosts are made
abbrev pub game_tests : (ℕ → ℕ) → TestMachine Step Signal
game_tests made =
    record {
      host = λ e. e.signal.to;
      stamp = λ e. e.stamp;
      skips = false;
      signal = λ e. e.signal;
      asked = λ e. is_asked e.signal.kind;
      from = λ x. x.from;
      to = λ x. x.to;
      sent_at = λ x. x.stamp;
      fits = λ h log e. fits h e.signal.kind;
      sends = λ h log e. sends h e.stamp e.signal.from e.signal.kind;
      stops = λ e. is_stop e.signal.kind;
      closing = λ h log e j. record { from = e.signal.to; to = j; stamp = e.stamp; kind = Closed };
      made = made;
      makes = λ h log e. is_making h e.signal.kind;
    }

abbrev pub game : (ℕ → ℕ) → Machine Step Signal
game made = machine (game_tests made)
