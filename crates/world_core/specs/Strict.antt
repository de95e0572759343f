-- Strict order: what was reported before another was asked for stands before it.
use Rattle.std.specs.List.{list_any}
use Rattle.std.specs.Prelude.{◌≡◌, ℕ, Bool, true, false, Option, None, Some, List, [], ◌∷◌, ◌++◌, ◌==◌}
use Rattle.run_theory.specs.Lists.{IsIn}
use Rattle.sig_core.specs.declared.entry.Entry.{Entry}
use Rattle.world_core.specs.Steps.{Addressed, HostStep}
use Rattle.sig_core.specs.declared.member.TxId.{TxId}
use Rattle.sig_core.specs.declared.signal.Body.{Body}
use Rattle.sig_core.specs.declared.signal.Body.TheVariants.{Client}
use Rattle.sig_core.specs.declared.signal.client.ClientSignal.TheVariants.{TcBeginReq, TcBeginConf}
use Rattle.world_core.specs.History.{is_reported}
use Rattle.world_core.specs.Machine.{signals_of}
use Rattle.world_core.specs.Marks.{has_mark}
use Rattle.world_core.specs.Start.{Start}

abbrev pub same_name : Option ℕ → Option ℕ → Bool
same_name None None = true
same_name (Some a) (Some b) = a == b
same_name a b = false

-- the signal asks for a transaction of this name, or of none
abbrev pub is_begin : Option ℕ → Body → Bool
is_begin name (Client (TcBeginReq asked)) = same_name asked name
is_begin name body = false

-- the step of host 0 asks for a transaction of this name
abbrev pub begins_there : Start → Option ℕ → List HostStep → HostStep → Bool
begins_there start name log e = list_any (λ (x : Addressed). is_begin name x.signal.body) (signals_of start 0 log e)

-- no step of these does that, in front of a log
abbrev pub NoneBegins : Start → Option ℕ → List HostStep → List HostStep → Type 0
NoneBegins start name [] log = Unit {0}
NoneBegins start name (e ∷ newer) log =
    (begins_there start name (newer ++ log) e ≡ false) × NoneBegins start name newer log

-- In this log of host 0 the transaction is asked for in the step behind `before`: that asks for one of a name, and the
-- next that is told to have begun by this name is the transaction.
pub record IsAskedFor (start : Start) (tx : TxId) (log before : List HostStep) : Type 0 where
  pub name : Option ℕ
  pub asking : HostStep
  pub between : List HostStep
  pub told : HostStep
  pub newer : List HostStep
  pub is : log ≡ newer ++ told ∷ between ++ asking ∷ before
  pub asks : begins_there start name before asking ≡ true
  pub none_between : NoneBegins start name between (asking ∷ before)
  pub begun : told.step.taken.body ≡ Client (TcBeginConf name tx)

-- one entry stands before another in a list
pub record StandsBefore (a b : Entry) (list : List Entry) : Type 0 where
  pub front : List Entry
  pub between : List Entry
  pub back : List Entry
  pub is : list ≡ front ++ a ∷ between ++ b ∷ back

-- an entry that was reported before another one's transaction was asked for stands before it
abbrev pub IsStrictOrder : Start → List HostStep → List Entry → Type 0
IsStrictOrder start log list =
    (a b : Entry) (before : List HostStep) → IsIn a list → IsIn b list → IsAskedFor start b.tx log before
    → has_mark (is_reported a.tx) before ≡ true
    → StandsBefore a b list
