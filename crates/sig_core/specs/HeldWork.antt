-- The work of a request, as signals carry it.
use Rattle.std.specs.Prelude.{Bool, true, false}
use Rattle.sig_core.specs.declared.op.Op.{Op}
use Rattle.sig_core.specs.declared.signal.chain.RowWork.{RowWork}
use Rattle.sig_core.specs.declared.signal.chain.RowWork.TheVariants.{Operate, Store}
use Rattle.sig_core.specs.Op.{image_of, key_of}

-- the operation, or storing the image that it makes
abbrev pub work_by : Bool → Op → RowWork
work_by true op = Store (key_of op) (image_of op)
work_by false op = Operate op
