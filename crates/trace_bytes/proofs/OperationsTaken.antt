-- What is read of these is what is written.
use Rattle.std.proofs.Common.{refl}
use Rattle.sig_core.specs.declared.op.Op.TheVariants.{Get, GetX, Put, Ins, Upd, Del}
use Rattle.sig_core.specs.declared.op.Answer.TheVariants.{Done, Found, Missing, E626, E630}
use Rattle.sig_core.specs.declared.unique.UAnswer.TheVariants.{Plain, Held, TooLong, KeyOf}
use Rattle.sig_core.specs.declared.signal.chain.RowWork.TheVariants.{Operate, Store}
use Rattle.trace_bytes.specs.Operations.{IsAnswer, IsAnswered, IsOp, IsRowwork, IsUanswer, answer_at, answer_bytes}
use Rattle.trace_bytes.specs.Operations.{answer_of, answered_at, answered_bytes, op_at, op_bytes, op_of, rowwork_at}
use Rattle.trace_bytes.specs.Operations.{rowwork_bytes, rowwork_of, uanswer_at, uanswer_bytes, uanswer_of}
use Rattle.trace_bytes.proofs.Taken.{Takes, TakesKind, last_kind, last_plain, or_kind, or_plain, takes_both}
use Rattle.trace_bytes.proofs.Taken.{takes_known}
use Rattle.trace_bytes.proofs.WordsTaken.{takes_key, takes_opt_value, takes_u8, takes_value}

op_taken : TakesKind IsOp op_bytes op_of 0 5
unfolding op_bytes op_of
op_taken =
    or_kind IsOp op_bytes 0 (λ x. Get x) takes_key (λ x fits. fits) (λ x fits. refl)
    (or_kind IsOp op_bytes 1 (λ x. GetX x) takes_key (λ x fits. fits) (λ x fits. refl)
    (or_kind IsOp op_bytes 2 (λ x. Put x.0 x.1) (takes_both takes_key takes_value) (λ x fits. (fits.0, fits.1))
    (λ x fits. refl)
    (or_kind IsOp op_bytes 3 (λ x. Ins x.0 x.1) (takes_both takes_key takes_value) (λ x fits. (fits.0, fits.1))
    (λ x fits. refl)
    (or_kind IsOp op_bytes 4 (λ x. Upd x.0 x.1) (takes_both takes_key takes_value) (λ x fits. (fits.0, fits.1))
    (λ x fits. refl)
    (last_kind IsOp op_bytes 5 (λ x. Del x) takes_key (λ x fits. fits) (λ x fits. refl))))))

pub takes_op : Takes IsOp op_bytes op_at
unfolding op_at
takes_op = takes_known op_taken

answer_taken : TakesKind IsAnswer answer_bytes answer_of 0 4
unfolding answer_bytes answer_of
answer_taken =
    or_plain IsAnswer answer_bytes 0 Done tt refl
    (or_kind IsAnswer answer_bytes 1 (λ x. Found x) takes_value (λ x fits. fits) (λ x fits. refl)
    (or_plain IsAnswer answer_bytes 2 Missing tt refl
    (or_plain IsAnswer answer_bytes 3 E626 tt refl
    (last_plain IsAnswer answer_bytes 4 E630 tt refl))))

pub takes_answer : Takes IsAnswer answer_bytes answer_at
unfolding answer_at
takes_answer = takes_known answer_taken

uanswer_taken : TakesKind IsUanswer uanswer_bytes uanswer_of 0 3
unfolding uanswer_bytes uanswer_of
uanswer_taken =
    or_kind IsUanswer uanswer_bytes 0 (λ x. Plain x) takes_answer (λ x fits. fits) (λ x fits. refl)
    (or_kind IsUanswer uanswer_bytes 1 (λ x. Held x) takes_key (λ x fits. fits) (λ x fits. refl)
    (or_kind IsUanswer uanswer_bytes 2 (λ x. TooLong x) takes_u8 (λ x fits. fits) (λ x fits. refl)
    (last_kind IsUanswer uanswer_bytes 3 (λ x. KeyOf x) takes_key (λ x fits. fits) (λ x fits. refl))))

pub takes_uanswer : Takes IsUanswer uanswer_bytes uanswer_at
unfolding uanswer_at
takes_uanswer = takes_known uanswer_taken

rowwork_taken : TakesKind IsRowwork rowwork_bytes rowwork_of 0 1
unfolding rowwork_bytes rowwork_of
rowwork_taken =
    or_kind IsRowwork rowwork_bytes 0 (λ x. Operate x) takes_op (λ x fits. fits) (λ x fits. refl)
    (last_kind IsRowwork rowwork_bytes 1 (λ x. Store x.0 x.1) (takes_both takes_key takes_opt_value)
    (λ x fits. (fits.0, fits.1)) (λ x fits. refl))

pub takes_rowwork : Takes IsRowwork rowwork_bytes rowwork_at
unfolding rowwork_at
takes_rowwork = takes_known rowwork_taken

pub takes_answered : Takes IsAnswered answered_bytes answered_at
unfolding answered_at
takes_answered = takes_both takes_op takes_answer
