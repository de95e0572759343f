-- What an operation is about.
use Rattle.std.specs.Prelude.{ℕ, List, Option, None, Some}
use Rattle.sig_core.specs.declared.op.Answer.{Answer}
use Rattle.sig_core.specs.declared.op.Answer.TheVariants.{Done, Found, Missing, E626, E630}
use Rattle.sig_core.specs.declared.op.Op.{Op}
use Rattle.sig_core.specs.declared.op.Op.TheVariants.{Get, GetX, Put, Ins, Upd, Del}

-- the key of the row
abbrev pub key_of : Op → List ℕ
key_of (Get key) = key
key_of (GetX key) = key
key_of (Put key value) = key
key_of (Ins key value) = key
key_of (Upd key value) = key
key_of (Del key) = key

-- what the operation answers where its key has this row or none
unfoldable pub answer_to : Op → Option (List ℕ) → Answer
answer_to (Get key) None = Missing
answer_to (Get key) (Some value) = Found value
answer_to (GetX key) None = Missing
answer_to (GetX key) (Some value) = Found value
answer_to (Put key value) row = Done
answer_to (Ins key value) None = Done
answer_to (Ins key value) (Some before) = E630
answer_to (Upd key value) None = E626
answer_to (Upd key value) (Some before) = Done
answer_to (Del key) None = E626
answer_to (Del key) (Some before) = Done

-- what a write that takes effect makes of the row; a deletion leaves none
abbrev pub image_of : Op → Option (List ℕ)
image_of (Put key value) = Some value
image_of (Ins key value) = Some value
image_of (Upd key value) = Some value
image_of _ = None
