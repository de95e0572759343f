-- One transaction after the other is ruled on: committed where a member told an epoch of it, and else aborted.
use Rattle.std.specs.Prelude.{ℕ, ◌+◌, ◌==◌, ◌&&◌, Bool, true, false, nat_lt, List}
use Rattle.std.specs.Prelude.{[], ◌∷◌, length, remove, slice_get, Option, None, Some}
use Rattle.sig_core.specs.declared.member.TxId.{TxId}
use Rattle.sig_core.specs.Step.{Effects, Step, joined, sends_only, stay}
use Rattle.frag_map.specs.Layout.{Layout, chain_of}
use Rattle.takeover_block.specs.declared.gathered.Gathered.{Gathered}
use Rattle.takeover_block.specs.declared.sends.TheConstants.{SENDS}
use Rattle.takeover_block.specs.declared.stage.Stage.{Stage}
use Rattle.takeover_block.specs.declared.stage.Stage.TheVariants.{Resting, Gathering, Committing, Completing, Aborting}
use Rattle.takeover_block.specs.Gathered.{first_of}
use Rattle.takeover_block.specs.Sends.{stage_effects, stage_left, told_over}
use Rattle.takeover_block.specs.State.{TakeoverState, come_to, with_gathered, with_left}

-- how many replicas the keys have in a layout, all together
abbrev pub replica_count : Layout → List (List ℕ) → ℕ
replica_count layout [] = 0
replica_count layout (key ∷ keys) = length (chain_of layout key) + replica_count layout keys

-- with an epoch each key is committed, without one each replica of each key aborts
abbrev pub way_by : Layout → List (List ℕ) → Option ℕ → Stage
way_by layout keys (Some epoch) = Committing epoch (length keys)
way_by layout keys None = Aborting (replica_count layout keys)

unfoldable pub way_of : Layout → Gathered → Stage
way_of layout g = way_by layout g.keys g.epoch

-- the takeover comes to a stage with its transaction, and sends the first of what is sent in it
unfoldable pub entering : TakeoverState → Gathered → Stage → Step TakeoverState
entering s g stage = record {
  state = come_to s stage (stage_left s.layout stage g 0);
  effects = stage_effects s.node s.layout stage g 0;
}

abbrev pub ruling_by : TakeoverState → Option Gathered → Step TakeoverState
ruling_by s None = record { state = come_to s Resting 0; effects = sends_only (told_over s.node) }
ruling_by s (Some g) = entering s g (way_of s.layout g)

-- the first of the transactions is ruled on; where none is left, the takeover is over
unfoldable pub ruling : TakeoverState → Step TakeoverState
ruling s = ruling_by s (slice_get s.gathered 0)

-- the first of the transactions is done with: the next is ruled on
unfoldable pub finishing : TakeoverState → Step TakeoverState
finishing s = ruling (with_gathered s (remove s.gathered 0))

-- effects, and then those of a step
abbrev pub after : Effects → Step TakeoverState → Step TakeoverState
after first step = record { state = step.state; effects = joined first step.effects }

-- it is at work on a transaction
abbrev pub is_at_work : Stage → Bool
is_at_work (Committing epoch awaited) = true
is_at_work (Completing epoch awaited) = true
is_at_work (Aborting awaited) = true
is_at_work Resting = false
is_at_work (Gathering awaited) = false

-- something of the list of a stage is left, from this place on. No list has 2 ^ 36 signals
abbrev pub is_left : TakeoverState → ℕ → Bool
is_left s at = nat_lt 0 at && (at == s.left && nat_lt at SENDS)

-- the list of the stage goes on, from a place on
abbrev pub sending_on : TakeoverState → Gathered → ℕ → Step TakeoverState
sending_on s g at = record {
  state = with_left s (stage_left s.layout s.stage g at);
  effects = stage_effects s.node s.layout s.stage g at;
}

abbrev pub go_on_by : TakeoverState → ℕ → Bool → Bool → Option Gathered → Step TakeoverState
go_on_by s at true true (Some g) = sending_on s g at
go_on_by s at _ _ _ = stay s

-- the rest of what is sent for the transaction at work, from a place on; another place than the one that is left does
-- nothing
unfoldable pub go_on_row : TakeoverState → TxId → ℕ → Step TakeoverState
go_on_row s tx at = go_on_by s at (is_left s at) (is_at_work s.stage) (first_of s.gathered tx)
