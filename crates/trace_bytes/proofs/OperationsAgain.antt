-- What is written of these is read again.
use Rattle.std.proofs.Common.{◌≡◌, ℕ, List, [], ◌∷◌, ◌++◌, drop, refl, lit≤}
use Rattle.std.specs.Prelude.{Result, Ok, Err}
use Rattle.sig_core.specs.declared.op.Op.{Op}
use Rattle.sig_core.specs.declared.op.Op.TheVariants.{Get, GetX, Put, Ins, Upd, Del}
use Rattle.trace_bytes.specs.declared.kinds.operations.TheConstants as operations
use Rattle.sig_core.specs.declared.op.Answer.{Answer}
use Rattle.sig_core.specs.declared.op.Answer.TheVariants.{Done, Found, Missing, E626, E630}
use Rattle.trace_bytes.specs.declared.kinds.answers.TheConstants as answers
use Rattle.sig_core.specs.declared.unique.UAnswer.{UAnswer}
use Rattle.sig_core.specs.declared.unique.UAnswer.TheVariants.{Plain, Held, TooLong, KeyOf}
use Rattle.trace_bytes.specs.declared.kinds.unique_answers.TheConstants as unique_answers
use Rattle.sig_core.specs.declared.signal.chain.RowWork.{RowWork}
use Rattle.sig_core.specs.declared.signal.chain.RowWork.TheVariants.{Operate, Store}
use Rattle.trace_bytes.specs.declared.kinds.row_works.TheConstants as row_works
use Rattle.trace_bytes.specs.Operations.{op_bytes, IsOp, op_of, op_at, answer_bytes, IsAnswer, answer_of, answer_at}
use Rattle.trace_bytes.specs.Operations.{uanswer_bytes, IsUanswer, uanswer_of, uanswer_at, rowwork_bytes, IsRowwork}
use Rattle.trace_bytes.specs.Operations.{rowwork_of, rowwork_at, IsAnswered, answered_bytes, answered_at}
use Rattle.trace_bytes.proofs.Again.{Again, again, both, known}
use Rattle.trace_bytes.proofs.WordsAgain.{again_key, again_opt_value, again_u8, again_value}

op_again : (x : Op) (rest : List ℕ) → IsOp x → op_at (op_bytes x ++ rest) ≡ Ok (x, rest)
unfolding op_bytes op_at op_of
op_again (Get key) rest fits =
    known 5 op_of operations.GET (drop 1 (op_bytes (Get key)) ++ rest) ((Get key), rest) (lit≤ tt)
    (again (λ x. Get x) again_key key rest fits)
op_again (GetX key) rest fits =
    known 5 op_of operations.GET_X (drop 1 (op_bytes (GetX key)) ++ rest) ((GetX key), rest) (lit≤ tt)
    (again (λ x. GetX x) again_key key rest fits)
op_again (Put key value) rest fits =
    known 5 op_of operations.PUT (drop 1 (op_bytes (Put key value)) ++ rest) ((Put key value), rest) (lit≤ tt)
    (again (λ x. Put x.0 x.1) (both again_key again_value) (key, value) rest (fits.0, fits.1))
op_again (Ins key value) rest fits =
    known 5 op_of operations.INS (drop 1 (op_bytes (Ins key value)) ++ rest) ((Ins key value), rest) (lit≤ tt)
    (again (λ x. Ins x.0 x.1) (both again_key again_value) (key, value) rest (fits.0, fits.1))
op_again (Upd key value) rest fits =
    known 5 op_of operations.UPD (drop 1 (op_bytes (Upd key value)) ++ rest) ((Upd key value), rest) (lit≤ tt)
    (again (λ x. Upd x.0 x.1) (both again_key again_value) (key, value) rest (fits.0, fits.1))
op_again (Del key) rest fits =
    known 5 op_of operations.DEL (drop 1 (op_bytes (Del key)) ++ rest) ((Del key), rest) (lit≤ tt)
    (again (λ x. Del x) again_key key rest fits)

pub again_op : Again IsOp op_bytes op_at
again_op = record { reads = op_again }

answer_again : (x : Answer) (rest : List ℕ) → IsAnswer x → answer_at (answer_bytes x ++ rest) ≡ Ok (x, rest)
unfolding answer_bytes answer_at answer_of
answer_again Done rest fits =
    known 4 answer_of answers.DONE (drop 1 (answer_bytes Done) ++ rest) (Done, rest) (lit≤ tt) refl
answer_again (Found value) rest fits =
    known 4 answer_of answers.FOUND (drop 1 (answer_bytes (Found value)) ++ rest) ((Found value), rest) (lit≤ tt)
    (again (λ x. Found x) again_value value rest fits)
answer_again Missing rest fits =
    known 4 answer_of answers.MISSING (drop 1 (answer_bytes Missing) ++ rest) (Missing, rest) (lit≤ tt) refl
answer_again E626 rest fits =
    known 4 answer_of answers.E626 (drop 1 (answer_bytes E626) ++ rest) (E626, rest) (lit≤ tt) refl
answer_again E630 rest fits =
    known 4 answer_of answers.E630 (drop 1 (answer_bytes E630) ++ rest) (E630, rest) (lit≤ tt) refl

pub again_answer : Again IsAnswer answer_bytes answer_at
again_answer = record { reads = answer_again }

uanswer_again : (x : UAnswer) (rest : List ℕ) → IsUanswer x → uanswer_at (uanswer_bytes x ++ rest) ≡ Ok (x, rest)
unfolding uanswer_bytes uanswer_at uanswer_of
uanswer_again (Plain answer) rest fits =
    known 3 uanswer_of unique_answers.PLAIN (drop 1 (uanswer_bytes (Plain answer)) ++ rest) ((Plain answer), rest)
    (lit≤ tt) (again (λ x. Plain x) again_answer answer rest fits)
uanswer_again (Held key) rest fits =
    known 3 uanswer_of unique_answers.HELD (drop 1 (uanswer_bytes (Held key)) ++ rest) ((Held key), rest) (lit≤ tt)
    (again (λ x. Held x) again_key key rest fits)
uanswer_again (TooLong u8) rest fits =
    known 3 uanswer_of unique_answers.TOO_LONG (drop 1 (uanswer_bytes (TooLong u8)) ++ rest) ((TooLong u8), rest)
    (lit≤ tt) (again (λ x. TooLong x) again_u8 u8 rest fits)
uanswer_again (KeyOf key) rest fits =
    known 3 uanswer_of unique_answers.KEY_OF (drop 1 (uanswer_bytes (KeyOf key)) ++ rest) ((KeyOf key), rest) (lit≤ tt)
    (again (λ x. KeyOf x) again_key key rest fits)

pub again_uanswer : Again IsUanswer uanswer_bytes uanswer_at
again_uanswer = record { reads = uanswer_again }

rowwork_again : (x : RowWork) (rest : List ℕ) → IsRowwork x → rowwork_at (rowwork_bytes x ++ rest) ≡ Ok (x, rest)
unfolding rowwork_bytes rowwork_at rowwork_of
rowwork_again (Operate op) rest fits =
    known 1 rowwork_of row_works.OPERATE (drop 1 (rowwork_bytes (Operate op)) ++ rest) ((Operate op), rest) (lit≤ tt)
    (again (λ x. Operate x) again_op op rest fits)
rowwork_again (Store key value) rest fits =
    known 1 rowwork_of row_works.STORE (drop 1 (rowwork_bytes (Store key value)) ++ rest) ((Store key value), rest)
    (lit≤ tt) (again (λ x. Store x.0 x.1) (both again_key again_opt_value) (key, value) rest (fits.0, fits.1))

pub again_rowwork : Again IsRowwork rowwork_bytes rowwork_at
again_rowwork = record { reads = rowwork_again }

pub again_answered : Again IsAnswered answered_bytes answered_at
unfolding answered_at
again_answered = both again_op again_answer
