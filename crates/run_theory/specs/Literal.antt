-- The same machine with channels in its state, as one would build it: a step takes the oldest signal of a channel and
-- puts what it sends on channels; a host that stops loses some of what waits in its channels and closes them.
use Rattle.std.specs.Prelude.{◌≡◌, ◌≢◌, ◌==◌, ℕ, true, false, List, [], ◌∷◌, ◌++◌, if◌then◌else◌}
use Rattle.run_theory.specs.Lists.{IsPast}
use Rattle.run_theory.specs.Machine.{Machine}
use Rattle.run_theory.specs.Links.{put, is_from}
use Rattle.run_theory.specs.Logs.{IsStep, IsThere}
use Rattle.run_theory.specs.Runs.{log_of}

-- what waits in the channel from host i to host j, the newest first
abbrev pub Channels : Type 0 → Type 0
Channels X = ℕ → ℕ → List X

module _ {E X : Type 0} (m : Machine E X) where
  -- what the step took from the channel from host i to host j: one signal or none
  abbrev pub took : ℕ → ℕ → E → List X
  took i j e = if m.host e == j then (if is_from m i e then m.signal e ∷ [] else []) else []

  -- the step takes the oldest signal of its channel
  abbrev pub Takes : E → Channels X → Channels X → Type 0
  Takes e before after = (i j : ℕ) → before i j ≡ after i j ++ took i j e

  -- a channel of host h loses any number of its newest signals, and then is closed
  pub record Drops (h : ℕ) (log : List E) (e : E) (j : ℕ) (before after : List X) : Type 0 where
    pub kept : List X
    pub past : IsPast kept before
    pub is : after ≡ m.closing h log e j ∷ kept

  -- the step puts what it sends on the channels of its host, or stops and closes them
  pub record Puts (log : List E) (e : E) (before after : Channels X) : Type 0 where
    pub others : (i j : ℕ) → m.host e ≢ i → after i j ≡ before i j
    pub runs : m.stops e ≡ false → (j : ℕ)
        → after (m.host e) j ≡ put m j (m.sends (m.host e) log e) (before (m.host e) j)
    pub stops : m.stops e ≡ true → (j : ℕ) → Drops (m.host e) log e j (before (m.host e) j) (after (m.host e) j)

  -- after these events the machine makes the step e, and its channels change so
  pub record Moves (es : List E) (e : E) (before after : Channels X) : Type 0 where
    pub step : IsStep m (m.host e) (log_of m es (m.host e)) e
    pub there : IsThere m (m.host e) (log_of m es 0)
    pub between : Channels X
    pub takes : Takes e before between
    pub puts : Puts (log_of m es (m.host e)) e between after

  -- these events lead from empty channels to these
  abbrev pub Leads : List E → Channels X → Type 0
  Leads [] channels = (i j : ℕ) → channels i j ≡ []
  Leads (e ∷ es) channels = (before : Channels X) × Leads es before × Moves es e before channels

  -- the machine with channels admits these events
  abbrev pub Admits : List E → Type 0
  Admits es = (channels : Channels X) × Leads es channels
