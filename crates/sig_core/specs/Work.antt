-- What a replica is asked to prepare.
use Rattle.std.specs.Prelude.{ℕ, List, Option}
use Rattle.sig_core.specs.declared.signal.chain.RowWork.{RowWork}
use Rattle.sig_core.specs.declared.signal.chain.RowWork.TheVariants.{Operate, Store}
use Rattle.sig_core.specs.Op.{image_of, key_of}

-- the key of the row
abbrev pub work_key : RowWork → List ℕ
work_key (Operate op) = key_of op
work_key (Store key image) = key

-- the image that is stored, where the work takes effect as a write
abbrev pub work_image : RowWork → Option (List ℕ)
work_image (Operate op) = image_of op
work_image (Store key image) = image
