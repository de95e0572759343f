-- What a replica is asked to prepare.
use Rattle.std.specs.Prelude.{ℕ, ◌&&◌, Bool, List}
use Rattle.sig_core.specs.declared.member.TxId.{TxId}
use Rattle.sig_core.specs.declared.op.Op.{Op}
use Rattle.sig_core.specs.declared.op.Op.TheVariants.{Get}
use Rattle.sig_core.specs.declared.signal.chain.RowWork.{RowWork}
use Rattle.sig_core.specs.declared.signal.chain.RowWork.TheVariants.{Operate, Store}
use Rattle.sig_core.specs.Same.{same_key, same_tx}
use Rattle.sig_core.specs.Work.{work_key}
use Rattle.row_locks.specs.declared.mode.Mode.{Mode}
use Rattle.row_locks.specs.declared.mode.Mode.TheVariants.{Shared, Exclusive}
use Rattle.lqh_block.specs.declared.request.Request.{Request}

abbrev pub op_mode : Op → Mode
op_mode (Get key) = Shared
op_mode _ = Exclusive

-- how the row is locked for it
abbrev pub work_mode : RowWork → Mode
work_mode (Operate op) = op_mode op
work_mode (Store key image) = Exclusive

-- the request is the transaction's for this key
abbrev pub is_for : TxId → List ℕ → Request → Bool
is_for tx key r = same_tx r.tx tx && same_key (work_key r.work) key
