-- What of a transaction came before what.
use Rattle.std.specs.List.{list_any}
use Rattle.std.specs.Prelude.{◌≡◌, ◌<◌, ℕ, Bool, true, false, List, Option}
use Rattle.run_theory.specs.Lists.{IsIn}
use Rattle.world_core.specs.Steps.{HostStep}
use Rattle.sig_core.specs.declared.mark.Mark.{Mark}
use Rattle.sig_core.specs.declared.mark.Mark.TheVariants.{Decided}
use Rattle.sig_core.specs.declared.member.TxId.{TxId}
use Rattle.sig_core.specs.declared.signal.Body.TheVariants.{Client}
use Rattle.sig_core.specs.declared.signal.client.ClientSignal.TheVariants.{TcBeginConf}
use Rattle.sig_core.specs.Same.{same_tx}

-- the transaction is decided
abbrev pub is_decision : TxId → Mark → Bool
is_decision tx (Decided other epoch) = same_tx other tx
is_decision tx mark = false

-- it was decided in a step with a lesser stamp
pub record IsDecidedBelow (logs : ℕ → List HostStep) (tx : TxId) (limit : ℕ) : Type 0 where
  pub host : ℕ
  pub step : HostStep
  pub inside : IsIn step (logs host)
  pub marked : list_any (is_decision tx) step.step.marks ≡ true
  pub below : step.step.stamp < limit

-- the shell's host was told that it has begun in a step with a lesser stamp
pub record IsToldBelow (logs : ℕ → List HostStep) (tx : TxId) (limit : ℕ) : Type 0 where
  pub name : Option ℕ
  pub step : HostStep
  pub inside : IsIn step (logs 0)
  pub told : step.step.taken.body ≡ Client (TcBeginConf name tx)
  pub below : step.step.stamp < limit
