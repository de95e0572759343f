-- The transactions that were asked for and whose end isn't reported.
use Rattle.std.specs.Prelude.{ℕ, ◌+◌, ◌==◌, ◌&&◌, if◌then◌else◌, nat_lt, Bool, true, false, List, length, position}
use Rattle.std.specs.Prelude.{slice_get, Option, None, Some}
use Rattle.sig_core.specs.declared.member.TxId.{TxId}
use Rattle.sig_core.specs.declared.op.Op.{Op}
use Rattle.sig_core.specs.Same.{same_tx}
use Rattle.api_block.specs.declared.opened.Doing.{Doing}
use Rattle.api_block.specs.declared.opened.Doing.TheVariants.{Beginning, Ready, Operating, Committing}
use Rattle.api_block.specs.declared.opened.OpenTransaction.{OpenTransaction}
use Rattle.api_block.specs.State.{ApiState}

-- the two are one name, or are no names
abbrev pub same_name : Option ℕ → Option ℕ → Bool
same_name None None = true
same_name (Some one) (Some other) = one == other
same_name _ _ = false

abbrev pub is_named : Option ℕ → OpenTransaction → Bool
is_named name t = same_name t.name name

-- what was begun is this transaction
abbrev pub is_tx : TxId → Option TxId → Bool
is_tx tx None = false
is_tx tx (Some begun) = same_tx begun tx

abbrev pub has_tx : TxId → OpenTransaction → Bool
has_tx tx t = is_tx tx t.tx

-- its coordinator hasn't answered yet whether it begins
abbrev pub is_beginning : Doing → Bool
is_beginning (Beginning op) = true
is_beginning _ = false

-- its last command isn't answered
abbrev pub is_unanswered : Doing → Bool
is_unanswered Ready = false
is_unanswered _ = true

-- one of this name is beginning
abbrev pub begins : Option ℕ → OpenTransaction → Bool
begins name t = is_beginning t.doing && same_name t.name name

-- and is so at the coordinator of this node
abbrev pub begins_at : Option ℕ → ℕ → OpenTransaction → Bool
begins_at name node t = begins name t && t.node == node

-- where the first of this name stands
abbrev pub place_named : ApiState → Option ℕ → Option ℕ
place_named s name = position (is_named name) s.opened

-- where this transaction stands
abbrev pub place_of : ApiState → TxId → Option ℕ
place_of s tx = position (has_tx tx) s.opened

-- where the transaction stands that the last command is about
abbrev pub if_inside : List OpenTransaction → Option ℕ → Option ℕ
if_inside opened None = None
if_inside opened (Some at) = if nat_lt at (length opened) then Some at else None

abbrev pub own_place : ApiState → Option ℕ
own_place s = if_inside s.opened s.own

-- what is said of the transaction at a place, or where there is none
abbrev pub if_there : {A : Type 0} → A → (OpenTransaction → A) → Option OpenTransaction → A
if_there none some None = none
if_there none some (Some t) = some t

abbrev pub where_at : {A : Type 0} → List OpenTransaction → A → (ℕ → OpenTransaction → A) → Option ℕ → A
where_at opened none some None = none
where_at opened none some (Some at) = if_there none (some at) (slice_get opened at)

-- the command that the last one is about isn't answered
abbrev pub is_left_open : ApiState → Bool
is_left_open s = where_at s.opened false (λ at t. is_unanswered t.doing) (own_place s)

-- a transaction that is asked for, with the operation that it is to perform where it has no name
abbrev pub asked_for : Option ℕ → ℕ → Option Op → OpenTransaction
asked_for name node op = record {
  name = name;
  node = node;
  tx = None;
  operations = 0;
  doing = Beginning op;
  ahead = None;
}

-- it takes commands
abbrev pub begun : OpenTransaction → TxId → OpenTransaction
begun t tx = record {
  name = t.name;
  node = t.node;
  tx = Some tx;
  operations = t.operations;
  doing = Ready;
  ahead = t.ahead;
}

-- it performs the operation that it was asked for with
abbrev pub begun_operating : OpenTransaction → TxId → OpenTransaction
begun_operating t tx = record {
  name = t.name;
  node = t.node;
  tx = Some tx;
  operations = 1;
  doing = Operating;
  ahead = t.ahead;
}

-- it performs one more operation
abbrev pub operating : OpenTransaction → OpenTransaction
operating t = record {
  name = t.name;
  node = t.node;
  tx = t.tx;
  operations = t.operations + 1;
  doing = Operating;
  ahead = None;
}

-- its operation is answered, and it does this now
abbrev pub answered : OpenTransaction → Doing → OpenTransaction
answered t doing = record {
  name = t.name;
  node = t.node;
  tx = t.tx;
  operations = t.operations;
  doing = doing;
  ahead = None;
}

abbrev pub committing : OpenTransaction → OpenTransaction
committing t = record {
  name = t.name;
  node = t.node;
  tx = t.tx;
  operations = t.operations;
  doing = Committing;
  ahead = t.ahead;
}

-- it waits for that transaction, or it isn't known for which
abbrev pub behind : OpenTransaction → Option TxId → OpenTransaction
behind t ahead = record {
  name = t.name;
  node = t.node;
  tx = t.tx;
  operations = t.operations;
  doing = t.doing;
  ahead = ahead;
}
