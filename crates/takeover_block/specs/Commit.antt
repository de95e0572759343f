-- A transaction is committed, signal by signal.
use Rattle.std.specs.Prelude.{ℕ, ◌-◌, Bool, true, false, nat_lt, length, Option, Some}
use Rattle.sig_core.specs.declared.member.TxId.{TxId}
use Rattle.sig_core.specs.Step.{Step, stay}
use Rattle.takeover_block.specs.declared.gathered.Gathered.{Gathered}
use Rattle.takeover_block.specs.declared.stage.Stage.{Stage}
use Rattle.takeover_block.specs.declared.stage.Stage.TheVariants.{Committing, Completing}
use Rattle.takeover_block.specs.Gathered.{first_of}
use Rattle.takeover_block.specs.Rule.{entering, finishing}
use Rattle.takeover_block.specs.State.{TakeoverState, at_stage}

-- a key is committed, the last one or not: then the client is told, and each key is completed
abbrev pub committed_if : TakeoverState → Gathered → ℕ → ℕ → Bool → Step TakeoverState
committed_if s g epoch awaited true = stay (at_stage s (Committing epoch (awaited - 1)))
committed_if s g epoch awaited false = entering s g (Completing epoch (length g.keys))

abbrev pub committed_by : TakeoverState → Option Gathered → Stage → Step TakeoverState
committed_by s (Some g) (Committing epoch awaited) = committed_if s g epoch awaited (nat_lt 1 awaited)
committed_by s _ _ = stay s

unfoldable pub committed_row : TakeoverState → TxId → Step TakeoverState
committed_row s tx = committed_by s (first_of s.gathered tx) s.stage

-- a key is completed, the last one or not: then the transaction is done with
abbrev pub completed_if : TakeoverState → ℕ → ℕ → Bool → Step TakeoverState
completed_if s epoch awaited true = stay (at_stage s (Completing epoch (awaited - 1)))
completed_if s epoch awaited false = finishing s

abbrev pub completed_by : TakeoverState → Option Gathered → Stage → Step TakeoverState
completed_by s (Some g) (Completing epoch awaited) = completed_if s epoch awaited (nat_lt 1 awaited)
completed_by s _ _ = stay s

unfoldable pub completed_row : TakeoverState → TxId → Step TakeoverState
completed_row s tx = completed_by s (first_of s.gathered tx) s.stage
