use Rattle.std.proofs.Common.{◌-◌, ◌∙◌, ap, length}
use Rattle.std.specs.List.{list_any}
use Rattle.std.specs.Prelude.{slice_get}
use Rattle.shell_top.specs.Stopped.{is_last_want, is_want}
use Rattle.shell_top.proofs.stopped.ends_by_want.Goals as goal

pub returns-in-Some : goal.returns-in-Some
returns-in-Some c =
    c.have_want.ensures ∙ ap (list_any is_want) c.as_slice-in-Some.ensures
    ∙ ap is_last_want (c.in-Some.ensures.value ∙ ap (λ ss. slice_get ss (length ss - 1)) c.as_slice.ensures)
