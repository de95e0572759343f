-- Strict order in a cluster that may fail: what was reported before another was asked for stands before it.
use Rattle.std.specs.List.{list_any}
use Rattle.std.specs.Prelude.{◌≡◌, ℕ, Bool, true, false, Option, List, [], ◌∷◌, ◌++◌}
use Rattle.run_theory.specs.Lists.{IsIn}
use Rattle.sig_core.specs.declared.entry.Entry.{Entry}
use Rattle.sig_core.specs.declared.member.TxId.{TxId}
use Rattle.sig_core.specs.declared.signal.Body.TheVariants.{Client}
use Rattle.sig_core.specs.declared.signal.client.ClientSignal.TheVariants.{TcBeginConf}
use Rattle.world_core.specs.History.{is_reported}
use Rattle.world_core.specs.Marks.{has_mark}
use Rattle.world_core.specs.Start.{Start}
use Rattle.world_core.specs.Steps.{Addressed, HostStep}
use Rattle.world_core.specs.Strict.{StandsBefore, is_begin}
use Rattle.world_views.specs.Machine.{signals_of}

-- the step of host 0 asks for a transaction of this name
abbrev pub begins_there : Start → Option ℕ → List HostStep → HostStep → Bool
begins_there start name log e = list_any (λ (x : Addressed). is_begin name x.signal.body) (signals_of start 0 log e)

-- no step of these does that, in front of a log
abbrev pub NoneBegins : Start → Option ℕ → List HostStep → List HostStep → Type 0
NoneBegins start name [] log = Unit {0}
NoneBegins start name (e ∷ newer) log =
    (begins_there start name (newer ++ log) e ≡ false) × NoneBegins start name newer log

-- In this log of host 0 the transaction is asked for in the step behind `before`: that asks for one of a name, and the
-- next that is told to have begun by this name is the transaction.
pub record IsAskedFor (start : Start) (tx : TxId) (log before : List HostStep) : Type 0 where
  pub name : Option ℕ
  pub asking : HostStep
  pub between : List HostStep
  pub told : HostStep
  pub newer : List HostStep
  pub is : log ≡ newer ++ told ∷ between ++ asking ∷ before
  pub asks : begins_there start name before asking ≡ true
  pub none_between : NoneBegins start name between (asking ∷ before)
  pub begun : told.step.taken.body ≡ Client (TcBeginConf name tx)

-- an entry that was reported before another one's transaction was asked for stands before it
abbrev pub IsStrictOrder : Start → List HostStep → List Entry → Type 0
IsStrictOrder start log list =
    (a b : Entry) (before : List HostStep) → IsIn a list → IsIn b list → IsAskedFor start b.tx log before
    → has_mark (is_reported a.tx) before ≡ true
    → StandsBefore a b list
