-- The events of one key at its primary replica.
use Rattle.std.specs.Prelude.{◌≡◌, ℕ, Bool, true, false, List, [], ◌∷◌, Option, None, Some}
use Rattle.run_theory.specs.Lists.{Each}
use Rattle.sig_core.specs.declared.member.TxId.{TxId}
use Rattle.sig_core.specs.declared.op.Answer.{Answer}
use Rattle.sig_core.specs.declared.op.Answer.TheVariants.{Done}
use Rattle.sig_core.specs.declared.op.Op.{Op}
use Rattle.sig_core.specs.declared.signal.chain.RowWork.{RowWork}
use Rattle.sig_core.specs.declared.signal.chain.RowWork.TheVariants.{Operate, Store}
use Rattle.sig_core.specs.Op.{answer_to}
use Rattle.sig_core.specs.Same.{same_tx}
use Rattle.row_locks.specs.declared.mode.Lock.{Lock}
use Rattle.row_locks.specs.declared.mode.Lock.TheVariants.{Granted, Queued}
use Rattle.row_locks.specs.Orderly.{IsOrderly}
use Rattle.row_locks.specs.Rows.{asked}
use Rattle.lqh_block.specs.declared.request.Request.{Request}
use Rattle.lqh_block.specs.Work.{work_mode}
use Rattle.sig_core.specs.Firsts.{first}
use Rattle.key_laws.specs.LockLaws.{is_attended}
use Rattle.key_laws.specs.Primary.{HasPrepared, IsGood, IsLedTo, Primary, ended_too, noted}
use Rattle.key_laws.specs.Records.{found, seen_by}
use Rattle.key_laws.specs.Replica.{Cell, Event, Replica, aborts, asks, commits, completes, is_let_in, key_after, serves}

-- the key at its primary, with what was answered there, and the transactions whose commit or abort was taken there
pub record AtPrimary : Type 0 where
  pub replica : Replica
  pub made : TxId → List (Op × Answer)
  pub ended : TxId → Bool

abbrev pub primary_of : AtPrimary → Primary
primary_of p =
    record {
      row = p.replica.cell.row;
      pending = p.replica.cell.pending;
      holders = p.replica.lock.holders;
      made = p.made;
      ended = p.ended;
    }

-- an operation is answered, unless it is a write that is refused
abbrev pub noted_unless : (TxId → List (Op × Answer)) → TxId → Op → Answer → Bool → TxId → List (Op × Answer)
noted_unless made tx op Done true = made
noted_unless made tx op answer refused = noted made tx (op, answer)

abbrev pub made_by : (TxId → List (Op × Answer)) → Cell → TxId → Bool → RowWork → TxId → List (Op × Answer)
made_by made c tx refused (Operate op) =
    noted_unless made tx op (answer_to op (seen_by c.row (found tx c.pending))) refused
made_by made c tx refused (Store key image) = made

abbrev pub made_if : AtPrimary → Request → Bool → Lock → TxId → List (Op × Answer)
made_if p q refused Granted = made_by p.made p.replica.cell q.tx refused q.work
made_if p q refused (Queued ahead) = p.made

abbrev pub made_served : AtPrimary → Bool → Option Request → TxId → List (Op × Answer)
made_served p refused None = p.made
made_served p refused (Some q) = made_by p.made p.replica.cell q.tx refused q.work

-- what an event answers, and which transaction it ends
abbrev pub made_after : Event → AtPrimary → TxId → List (Op × Answer)
made_after (asks q refused) p = made_if p q refused (asked p.replica.lock q.tx (work_mode q.work)).answer
made_after (serves refused) p = made_served p refused (first (is_let_in p.replica.lock) p.replica.waiting)
made_after event p = p.made

abbrev pub ended_after : Event → AtPrimary → TxId → Bool
ended_after (commits tx true) p = ended_too p.ended tx
ended_after (completes tx) p = ended_too p.ended tx
ended_after (aborts tx) p = ended_too p.ended tx
ended_after event p = p.ended

abbrev pub primary_after : Event → AtPrimary → AtPrimary
primary_after event p = record {
  replica = key_after event p.replica;
  made = made_after event p;
  ended = ended_after event p;
}

-- the requests are of other transactions
abbrev pub NoneOf : TxId → List Request → Type 0
NoneOf tx waiting = Each (λ (q : Request). same_tx q.tx tx ≡ false) waiting

-- no two are of one transaction
abbrev pub AreAlone : List Request → Type 0
AreAlone [] = Unit {0}
AreAlone (q ∷ rest) = NoneOf q.tx rest × AreAlone rest

-- it is for an operation, and not for an image
abbrev pub IsOfOperation : RowWork → Type 0
IsOfOperation (Operate op) = Unit {0}
IsOfOperation (Store key image) = ⊥

abbrev pub IsOperation : Request → Type 0
IsOperation q = IsOfOperation q.work

-- the key is in good order, and who waits holds its lock as it asked or is in the queue for it
pub record IsInOrder (p : AtPrimary) : Type 0 where
  pub good : IsGood (primary_of p)
  pub orderly : IsOrderly p.replica.lock
  pub attended : Each (λ (q : Request). is_attended p.replica.lock q.tx (work_mode q.work) ≡ true) p.replica.waiting
  pub alone : AreAlone p.replica.waiting
  pub operations : Each IsOperation p.replica.waiting

-- What the rest of the machine owes the primary: operations of one transaction one at a time, no commit or completion
-- of one
-- that still waits, and no completion before the commit.
abbrev pub IsFair : AtPrimary → Event → Type 0
IsFair p (asks q refused) = IsOperation q × NoneOf q.tx p.replica.waiting
IsFair p (commits tx true) = NoneOf tx p.replica.waiting
IsFair p (commits tx false) = ⊥
IsFair p (completes tx) = (HasPrepared tx p.replica.cell.pending → ⊥) × NoneOf tx p.replica.waiting
IsFair p event = Unit {0}

-- a fair event leaves the key in order
abbrev pub FairEventsKeepOrder : Type 0
FairEventsKeepOrder = (event : Event) (p : AtPrimary) → IsInOrder p → IsFair p event → IsInOrder (primary_after event p)

-- And it owes what is kept: what is asked and served is of transactions that aren't kept, a commit that has something
-- to
-- commit is of one that is, and an abort of one that isn't.
abbrev pub IsTimely : (TxId → Bool) → AtPrimary → Event → Type 0
IsTimely kept p (asks q refused) = kept q.tx ≡ false
IsTimely kept p (serves refused) = Each (λ (q : Request). kept q.tx ≡ false) p.replica.waiting
IsTimely kept p (commits tx last) = HasPrepared tx p.replica.cell.pending → kept tx ≡ true
IsTimely kept p (aborts tx) = kept tx ≡ false
IsTimely kept p event = Unit {0}

-- a timely event moves nothing of what the row is led to
abbrev pub TimelyEventsKeepValue : Type 0
TimelyEventsKeepValue =
    (event : Event) (p : AtPrimary) (kept : TxId → Bool) (value : Option (List ℕ)) → IsInOrder p → IsFair p event
    → IsTimely kept p event
    → IsLedTo kept value p.replica.cell.row p.replica.cell.pending
    → IsLedTo kept value (primary_after event p).replica.cell.row (primary_after event p).replica.cell.pending
