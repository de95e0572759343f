-- The keys that a transaction has touched, and what was answered on them.
use Rattle.node_core.specs.Blocks.{tc_of}
use Rattle.std.specs.List.{list_any}
use Rattle.std.specs.Prelude.{◌≡◌, ℕ, false, true, List, [], ◌∷◌, Option, None, Some}
use Rattle.run_theory.specs.Lists.{Each}
use Rattle.world_core.specs.Steps.{HostStep}
use Rattle.sig_core.specs.declared.member.TxId.{TxId}
use Rattle.sig_core.specs.declared.op.Answer.{Answer}
use Rattle.sig_core.specs.declared.op.Op.{Op}
use Rattle.sig_core.specs.Op.{key_of}
use Rattle.sig_core.specs.Same.{same_key}
use Rattle.tc_block.specs.declared.phase.Asked.{Asked}
use Rattle.tc_block.specs.declared.touched.Touched.{Touched}
use Rattle.tc_block.specs.declared.transaction.Transaction.{Transaction}
use Rattle.tc_block.specs.Touched.{is_on}
use Rattle.node_core.specs.declared.host.Host.{Host}
use Rattle.world_core.specs.History.{is_done}
use Rattle.world_core.specs.Start.{Start}
use Rattle.key_laws.specs.OneKey.{ops_on}
use Rattle.run_laws.specs.Transit.{IsRun, host_after}

-- no two of the keys are the same
abbrev pub AreApart : List Touched → Type 0
AreApart [] = Unit {0}
AreApart (t ∷ rest) = Each (λ (u : Touched). same_key u.key t.key ≡ false) rest × AreApart rest

-- the key was touched
abbrev pub HasTouched : List Touched → List ℕ → Type 0
HasTouched touched key = list_any (is_on key) touched ≡ true

abbrev pub HasTouchedAsked : List Touched → Option Asked → Type 0
HasTouchedAsked touched None = Unit {0}
HasTouchedAsked touched (Some asked) = HasTouched touched (key_of asked.op)

-- a key was written just where an operation on it was answered by `Done`
abbrev pub IsWrittenRightly : List (Op × Answer) → Touched → Type 0
IsWrittenRightly ops t = t.written ≡ list_any (λ (op : Op × Answer). is_done op.1) (ops_on t.key ops)

-- No key was touched twice, that of each operation that was answered or is unanswered was, and what was written is
-- known.
pub record IsTouchedRightly (t : Transaction) : Type 0 where
  pub apart : AreApart t.touched
  pub answered : Each (λ (op : Op × Answer). HasTouched t.touched (key_of op.0)) t.ops
  pub asked : HasTouchedAsked t.touched t.asked
  pub written : Each (IsWrittenRightly t.ops) t.touched

abbrev pub IsHostKeyed : Host → Type 0
IsHostKeyed host = Each (λ (e : TxId × Transaction). IsTouchedRightly e.1) (tc_of host).live

-- so it is of each transaction that a coordinator has
abbrev pub TransactionsAreKeyed : Type 0
TransactionsAreKeyed =
    (start : Start) (es : List HostStep) (h : ℕ) → IsRun start es → IsHostKeyed (host_after start es h)
