-- What a transaction does at a signal.
use Rattle.std.specs.Prelude.{Bool, true, false, Option}
use Rattle.sig_core.specs.Step.{Effects, Step}
use Rattle.tc_block.specs.declared.phase.Asked.{Asked}
use Rattle.tc_block.specs.declared.phase.Phase.{Phase}
use Rattle.tc_block.specs.declared.transaction.Transaction.{Transaction}

-- a step of a transaction, and whether it is over then, so that the coordinator forgets it
pub record Turn : Type 0 where
  pub step : Step Transaction
  pub over : Bool

-- a step after which the transaction isn't over
abbrev pub going : Step Transaction → Turn
going step = record { step = step; over = false }

-- the end of a transaction
abbrev pub ending : Transaction → Effects → Turn
ending t effects = record { step = record { state = t; effects = effects }; over = true }

-- a transaction in another phase
abbrev pub at_phase : Transaction → Phase → Transaction
at_phase t phase = record { ops = t.ops; touched = t.touched; asked = t.asked; phase = phase }

-- a transaction with this unanswered operation, or none
abbrev pub asking : Transaction → Option Asked → Transaction
asking t asked = record { ops = t.ops; touched = t.touched; asked = asked; phase = t.phase }
