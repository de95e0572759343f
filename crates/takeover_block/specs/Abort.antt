-- A transaction is aborted, signal by signal.
use Rattle.std.specs.Prelude.{ℕ, ◌-◌, Bool, true, false, nat_lt, [], ◌∷◌, Option, Some}
use Rattle.sig_core.specs.declared.member.TxId.{TxId}
use Rattle.sig_core.specs.Step.{Step, sends_only, stay}
use Rattle.takeover_block.specs.declared.gathered.Gathered.{Gathered}
use Rattle.takeover_block.specs.declared.stage.Stage.{Stage}
use Rattle.takeover_block.specs.declared.stage.Stage.TheVariants.{Aborting}
use Rattle.takeover_block.specs.Gathered.{first_of}
use Rattle.takeover_block.specs.Rule.{after, finishing}
use Rattle.takeover_block.specs.Sends.{told_aborted}
use Rattle.takeover_block.specs.State.{TakeoverState, at_stage}

-- a replica has aborted a key, the last one or not: then the client is told, and the transaction is done with
abbrev pub aborted_if : TakeoverState → TxId → ℕ → Bool → Step TakeoverState
aborted_if s tx awaited true = stay (at_stage s (Aborting (awaited - 1)))
aborted_if s tx awaited false = after (sends_only (told_aborted tx ∷ [])) (finishing s)

abbrev pub aborted_by : TakeoverState → TxId → Option Gathered → Stage → Step TakeoverState
aborted_by s tx (Some g) (Aborting awaited) = aborted_if s tx awaited (nat_lt 1 awaited)
aborted_by s tx _ _ = stay s

unfoldable pub aborted_row : TakeoverState → TxId → Step TakeoverState
aborted_row s tx = aborted_by s tx (first_of s.gathered tx) s.stage
