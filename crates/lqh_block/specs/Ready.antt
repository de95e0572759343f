-- What a request will answer or pass on.
use Rattle.std.specs.Prelude.{◌≡◌}
use Rattle.sig_core.specs.declared.member.TxId.{TxId}
use Rattle.sig_core.specs.declared.op.Answer.{Answer}
use Rattle.sig_core.specs.declared.op.Answer.TheVariants.{Done}
use Rattle.sig_core.specs.declared.signal.chain.RowWork.{RowWork}
use Rattle.sig_core.specs.declared.signal.chain.RowWork.TheVariants.{Operate, Store}
use Rattle.sig_core.specs.Op.{answer_to, key_of}
use Rattle.sig_core.specs.Rows.{RowsState, seen}
use Rattle.lqh_block.specs.declared.ready.Ready.{Ready}
use Rattle.lqh_block.specs.declared.request.Request.{Request}
use Rattle.sig_core.specs.Work.{work_image, work_key}

-- what work answers, as the rows are; a store takes effect
abbrev pub work_answer : RowsState → TxId → RowWork → Answer
work_answer rows tx (Operate op) = answer_to op (seen rows tx (key_of op))
work_answer rows tx (Store key image) = Done

-- this is what the request answers and passes on
pub record IsReady (rows : RowsState) (request : Request) (ready : Ready) : Type 0 where
  pub answer : ready.answer ≡ work_answer rows request.tx request.work
  pub onward : ready.onward ≡ Store (work_key request.work) (work_image request.work)
