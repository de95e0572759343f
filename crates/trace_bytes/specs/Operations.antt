-- The bytes of operations and of their answers.
use Rattle.std.specs.Prelude.{ℕ, ◌==◌, nat_lt, if◌then◌else◌, List, [], ◌∷◌}
use Rattle.sig_core.specs.declared.op.Answer.{Answer}
use Rattle.sig_core.specs.declared.op.Op.{Op}
use Rattle.sig_core.specs.declared.signal.chain.RowWork.{RowWork}
use Rattle.sig_core.specs.declared.unique.UAnswer.{UAnswer}
use Rattle.sig_core.specs.declared.op.Op.TheVariants.{Get, GetX, Put, Ins, Upd, Del}
use Rattle.sig_core.specs.declared.op.Answer.TheVariants.{Done, Found, Missing, E626, E630}
use Rattle.sig_core.specs.declared.unique.UAnswer.TheVariants.{Plain, Held, TooLong, KeyOf}
use Rattle.sig_core.specs.declared.signal.chain.RowWork.TheVariants.{Operate, Store}
use Rattle.redo_format.specs.Reading.{Reader, and_then, told, byte_at}
use Rattle.trace_bytes.specs.declared.kinds.operations.TheConstants as operations
use Rattle.trace_bytes.specs.declared.kinds.answers.TheConstants as answers
use Rattle.trace_bytes.specs.declared.kinds.unique_answers.TheConstants as unique_answers
use Rattle.trace_bytes.specs.declared.kinds.row_works.TheConstants as row_works
use Rattle.trace_bytes.specs.Lists.{◌&◌}
use Rattle.trace_bytes.specs.Numbers.{IsU8, u8_at, u8_bytes}
use Rattle.trace_bytes.specs.Words.{IsKey, IsOptValue, IsValue, always, key_at, key_bytes, opt_value_at}
use Rattle.trace_bytes.specs.Words.{opt_value_bytes, value_at, value_bytes}

unfoldable pub op_bytes : Op → List ℕ
op_bytes (Get key) = operations.GET ∷ key_bytes key
op_bytes (GetX key) = operations.GET_X ∷ key_bytes key
op_bytes (Put key value) = operations.PUT ∷ key_bytes key & value_bytes value
op_bytes (Ins key value) = operations.INS ∷ key_bytes key & value_bytes value
op_bytes (Upd key value) = operations.UPD ∷ key_bytes key & value_bytes value
op_bytes (Del key) = operations.DEL ∷ key_bytes key

abbrev pub IsOp : Op → Type 0
IsOp (Get key) = IsKey key
IsOp (GetX key) = IsKey key
IsOp (Put key value) = IsKey key × IsValue value
IsOp (Ins key value) = IsKey key × IsValue value
IsOp (Upd key value) = IsKey key × IsValue value
IsOp (Del key) = IsKey key

unfoldable pub op_of : ℕ → Reader Op
op_of number =
    if number == operations.GET then told (λ x. Get x) key_at
    else if number == operations.GET_X then told (λ x. GetX x) key_at
    else if number == operations.PUT then told (λ x. Put x.0 x.1) (and_then key_at (λ _. value_at))
    else if number == operations.INS then told (λ x. Ins x.0 x.1) (and_then key_at (λ _. value_at))
    else if number == operations.UPD then told (λ x. Upd x.0 x.1) (and_then key_at (λ _. value_at))
    else (told (λ x. Del x) key_at)

unfoldable pub op_at : Reader Op
op_at = told (λ x. x.1) (and_then (byte_at 0 5) op_of)

unfoldable pub answer_bytes : Answer → List ℕ
answer_bytes Done = answers.DONE ∷ []
answer_bytes (Found value) = answers.FOUND ∷ value_bytes value
answer_bytes Missing = answers.MISSING ∷ []
answer_bytes E626 = answers.E626 ∷ []
answer_bytes E630 = answers.E630 ∷ []

abbrev pub IsAnswer : Answer → Type 0
IsAnswer Done = Unit {0}
IsAnswer (Found value) = IsValue value
IsAnswer Missing = Unit {0}
IsAnswer E626 = Unit {0}
IsAnswer E630 = Unit {0}

unfoldable pub answer_of : ℕ → Reader Answer
answer_of number =
    if number == answers.DONE then always Done
    else if number == answers.FOUND then told (λ x. Found x) value_at
    else if number == answers.MISSING then always Missing
    else if number == answers.E626 then always E626
    else (always E630)

unfoldable pub answer_at : Reader Answer
answer_at = told (λ x. x.1) (and_then (byte_at 0 4) answer_of)

unfoldable pub uanswer_bytes : UAnswer → List ℕ
uanswer_bytes (Plain answer) = unique_answers.PLAIN ∷ answer_bytes answer
uanswer_bytes (Held key) = unique_answers.HELD ∷ key_bytes key
uanswer_bytes (TooLong u8) = unique_answers.TOO_LONG ∷ u8_bytes u8
uanswer_bytes (KeyOf key) = unique_answers.KEY_OF ∷ key_bytes key

abbrev pub IsUanswer : UAnswer → Type 0
IsUanswer (Plain answer) = IsAnswer answer
IsUanswer (Held key) = IsKey key
IsUanswer (TooLong u8) = IsU8 u8
IsUanswer (KeyOf key) = IsKey key

unfoldable pub uanswer_of : ℕ → Reader UAnswer
uanswer_of number =
    if number == unique_answers.PLAIN then told (λ x. Plain x) answer_at
    else if number == unique_answers.HELD then told (λ x. Held x) key_at
    else if number == unique_answers.TOO_LONG then told (λ x. TooLong x) u8_at
    else (told (λ x. KeyOf x) key_at)

unfoldable pub uanswer_at : Reader UAnswer
uanswer_at = told (λ x. x.1) (and_then (byte_at 0 3) uanswer_of)

unfoldable pub rowwork_bytes : RowWork → List ℕ
rowwork_bytes (Operate op) = row_works.OPERATE ∷ op_bytes op
rowwork_bytes (Store key value) = row_works.STORE ∷ key_bytes key & opt_value_bytes value

abbrev pub IsRowwork : RowWork → Type 0
IsRowwork (Operate op) = IsOp op
IsRowwork (Store key value) = IsKey key × IsOptValue value

unfoldable pub rowwork_of : ℕ → Reader RowWork
rowwork_of number =
    if number == row_works.OPERATE then told (λ x. Operate x) op_at
    else (told (λ x. Store x.0 x.1) (and_then key_at (λ _. opt_value_at)))

unfoldable pub rowwork_at : Reader RowWork
rowwork_at = told (λ x. x.1) (and_then (byte_at 0 1) rowwork_of)

-- an operation with its answer
abbrev pub answered_bytes : Op × Answer → List ℕ
answered_bytes x = op_bytes x.0 & answer_bytes x.1

abbrev pub IsAnswered : Op × Answer → Type 0
IsAnswered x = IsOp x.0 × IsAnswer x.1

unfoldable pub answered_at : Reader (Op × Answer)
answered_at = and_then op_at (λ _. answer_at)
