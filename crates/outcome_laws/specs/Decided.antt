-- Which transactions logs say to be decided, and to have begun as the client knows.
use Rattle.std.specs.Prelude.{◌≡◌, ◌⊎◌, ℕ, List, [], ◌∷◌, Option}
use Rattle.run_theory.specs.Lists.{IsIn}
use Rattle.sig_core.specs.declared.mark.Mark.{Mark}
use Rattle.sig_core.specs.declared.mark.Mark.TheVariants.{Decided}
use Rattle.sig_core.specs.declared.member.TxId.{TxId}
use Rattle.sig_core.specs.declared.signal.Body.TheVariants.{Client}
use Rattle.sig_core.specs.declared.signal.client.ClientSignal.TheVariants.{TcBeginConf}
use Rattle.world_core.specs.Start.{Start}
use Rattle.world_core.specs.Steps.{HostStep}
use Rattle.moment_laws.specs.Places.{tc_of}
use Rattle.outcome_laws.specs.Counts.{coordinator_member}

-- a step of the log has the mark
abbrev pub IsMarked : Mark → List HostStep → Type 0
IsMarked mark [] = ⊥
IsMarked mark (e ∷ log) = IsIn mark e.step.marks ⊎ IsMarked mark log

-- the step tells the client that the transaction has begun
pub record TellsOfBegin (tx : TxId) (e : HostStep) : Type 0 where
  pub name : Option ℕ
  pub is : e.step.taken.body ≡ Client (TcBeginConf name tx)

-- a step of the log does
abbrev pub HasToldOfBegin : TxId → List HostStep → Type 0
HasToldOfBegin tx [] = ⊥
HasToldOfBegin tx (e ∷ log) = TellsOfBegin tx e ⊎ HasToldOfBegin tx log

module _ (start : Start) (logs : ℕ → List HostStep) where
  -- the transaction was decided in this epoch, at the host of its coordinator
  abbrev pub IsDecided : TxId → ℕ → Type 0
  IsDecided tx epoch = IsMarked (Decided tx epoch) (logs (tc_of start (coordinator_member tx)))

  -- the client was told that it has begun
  abbrev pub IsBegun : TxId → Type 0
  IsBegun tx = HasToldOfBegin tx (logs 0)
