-- What a round of time comes to, between two quiet moments.
use Rattle.std.specs.Prelude.{◌≡◌, ◌+◌, ◌≤◌, ◌==◌, ◌&&◌, ℕ, Bool, true, false, if◌then◌else◌, List, [], ◌∷◌, filter}
use Rattle.sig_core.specs.declared.place.BlockId.{BlockId}
use Rattle.sig_core.specs.declared.place.BlockId.TheVariants.{Lqh}
use Rattle.sig_core.specs.declared.place.Place.{Place}
use Rattle.sig_core.specs.declared.reply.ApiReply.{ApiReply}
use Rattle.sig_core.specs.declared.reply.ApiReply.TheVariants.{Ticked}
use Rattle.sig_core.specs.declared.signal.Body.{Body}
use Rattle.sig_core.specs.declared.signal.Body.TheVariants.{Host}
use Rattle.sig_core.specs.declared.signal.host.HostSignal.TheVariants.{Round}
use Rattle.world_core.specs.Hosts.{rows_host}
use Rattle.world_core.specs.Start.{Start}
use Rattle.world_core.specs.Steps.{HostStep}
use Rattle.run_theory.specs.Counts.{tally}
use Rattle.command_laws.specs.Served.{replies_since}

-- the reply to a command for rounds of time
abbrev pub is_ticked : ApiReply → Bool
is_ticked (Ticked rounds) = true
is_ticked reply = false

-- what is replied at a round: at the last one of its command, how many it had
abbrev pub ticked_at : ℕ → Bool → List ApiReply
ticked_at of last = if last then Ticked of ∷ [] else []

-- a round of time, for the rows of a node
abbrev pub is_round : Body → Bool
is_round (Host Round) = true
is_round body = false

abbrev pub is_lqh : BlockId → Bool
is_lqh Lqh = true
is_lqh at = false

abbrev pub is_round_to : Place → Body → Bool
is_round_to to body = is_lqh to.block && is_round body

-- how many rounds the rows of a node have had, by the log of their host
abbrev pub rounds_in : List HostStep → ℕ
rounds_in log = tally (λ (e : HostStep). is_round_to e.step.taken.to e.step.taken.body) log

abbrev pub rounds_of : Start → (ℕ → List HostStep) → ℕ → ℕ
rounds_of start logs node = rounds_in (logs (rows_host start node))

-- The last round of a command is replied, once, and no other one. The rows of each node have had one round more.
pub record IsTicked (start : Start) (was now : ℕ → List HostStep) (round of : ℕ) : Type 0 where
  pub told : filter is_ticked (replies_since start was now) ≡ ticked_at of (round == of)
  pub passed : (node : ℕ) → 1 ≤ node → node ≤ start.shape.nodes
      → rounds_of start now node ≡ rounds_of start was node + 1
