-- Of system slots that are all of one shape the latest is the one in use.
use Rattle.std.proofs.Common.{◌≡◌, ◌∙◌, ℕ, Bool, true, refl, ap, arith, if◌then◌else◌}
use Rattle.std.specs.Prelude.{Err, IfSome, None, Ok, Option, Some}
use Rattle.sig_core.specs.declared.fault.RestartFault.TheVariants.{OtherShape}
use Rattle.sig_core.specs.declared.slots.SystemSlot.{SystemSlot}
use Rattle.sig_core.specs.declared.view.Shape.{Shape}
use Rattle.sys_restart.specs.Latest.{later, of_shape, same_shape}
use Rattle.sys_restart.proofs.AlikeLemmas.{same_answer}
use Rattle.sysfile_core.specs.declared.place.TheConstants.{SYSTEM_FILE}
use Rattle.sysfile_core.specs.Reading.{later_of, later_system, system_at, system_of_file}
use Rattle.disk_laws.specs.Shapes.{ShapesAreRead}

-- a slot that was read is closed, or of this shape
abbrev pub IsOfShape : Shape → Option SystemSlot → Type 0
IsOfShape shape slot = IfSome slot (λ (one : SystemSlot). same_shape one.shape shape ≡ true)

passes : (shape : Shape) (node : ℕ) (slot : Option SystemSlot) → IsOfShape shape slot
    → of_shape shape node (Ok slot) ≡ Ok slot
passes shape node None is = refl
passes shape node (Some slot) is =
    ap (λ (b : Bool). if b then Ok (Some slot) else Err (OtherShape slot.shape shape)) is

pub shapes_read : ShapesAreRead
shapes_read shape node image slot are in_use =
    ap (λ read. later (of_shape shape node read) (of_shape shape node (system_at 1 (image SYSTEM_FILE)))) one.1.0
    ∙ ap (λ read. later (of_shape shape node (Ok one.0)) (of_shape shape node read)) other.1.0
    ∙ ap (λ read. later read (of_shape shape node (Ok other.0))) (passes shape node one.0 one.1.1)
    ∙ ap (later (Ok one.0)) (passes shape node other.0 other.1.1)
    ∙ ap Ok (same_answer (later_system one.0 other.0) (Some slot) _ used in_use)
  where
    one : (o : Option SystemSlot) × ((system_at 0 (image SYSTEM_FILE) ≡ Ok o) × IsOfShape shape o)
    one = are 0 (omega arith)

    other : (o : Option SystemSlot) × ((system_at 1 (image SYSTEM_FILE) ≡ Ok o) × IsOfShape shape o)
    other = are 1 (omega arith)

    used : system_of_file (image SYSTEM_FILE) ≡ Ok (later_system one.0 other.0)
    used =
        ap (λ read. later_of read (system_at 1 (image SYSTEM_FILE))) one.1.0
        ∙ ap (λ read. later_of (Ok one.0) read) other.1.0
