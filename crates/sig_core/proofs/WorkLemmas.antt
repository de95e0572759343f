-- The work of a request, whether it operates or stores.
use Rattle.std.proofs.Common.{◌≡◌, Bool, true, false, refl}
use Rattle.sig_core.specs.declared.op.Op.{Op}
use Rattle.sig_core.specs.HeldWork.{work_by}
use Rattle.sig_core.specs.Op.{image_of, key_of}
use Rattle.sig_core.specs.Work.{work_image, work_key}

pub key_held : (stores : Bool) (op : Op) → work_key (work_by stores op) ≡ key_of op
key_held true op = refl
key_held false op = refl

pub image_held : (stores : Bool) (op : Op) → work_image (work_by stores op) ≡ image_of op
image_held true op = refl
image_held false op = refl

pub ruleset works = (key_held, image_held)
