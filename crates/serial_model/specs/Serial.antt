-- One operation on a table: what it answers, and what the table is after it.
use Rattle.std.specs.Prelude.{ℕ, List, Option, None, Some}
use Rattle.std.specs.FinMap as map
use Rattle.sig_core.specs.declared.op.Answer.{Answer}
use Rattle.sig_core.specs.declared.op.Answer.TheVariants.{Done, Found, Missing, E626, E630}
use Rattle.sig_core.specs.declared.op.Op.{Op}
use Rattle.sig_core.specs.declared.op.Op.TheVariants.{Get, GetX, Put, Ins, Upd, Del}
use Rattle.sig_core.specs.Op.{key_of}
use Rattle.sig_core.specs.Table.{Rows}

-- an answer, and the rows after it
pub record Performed : Type 0 where
  pub answer : Answer
  pub rows : Rows

-- an answer that leaves the rows as they are
abbrev pub only : Answer → Rows → Performed
only answer rows = record { answer = answer; rows = rows }

-- a write that takes effect
abbrev pub writes : Rows → Performed
writes rows = record { answer = Done; rows = rows }

-- the operation, where its key has this row or none
abbrev pub perform_on : Op → Option (List ℕ) → Rows → Performed
perform_on (Get key) None rows = only Missing rows
perform_on (Get key) (Some value) rows = only (Found value) rows
perform_on (GetX key) None rows = only Missing rows
perform_on (GetX key) (Some value) rows = only (Found value) rows
perform_on (Put key value) there rows = writes (map.insert rows key value)
perform_on (Ins key value) None rows = writes (map.insert rows key value)
perform_on (Ins key value) (Some before) rows = only E630 rows
perform_on (Upd key value) None rows = only E626 rows
perform_on (Upd key value) (Some before) rows = writes (map.insert rows key value)
perform_on (Del key) None rows = only E626 rows
perform_on (Del key) (Some before) rows = writes (map.remove rows key)

-- the operation on these rows
abbrev pub perform : Op → Rows → Performed
perform op rows = perform_on op (map.get rows (key_of op)) rows
