use Rattle.std.proofs.Common.{◌∙◌, ap₂}
use Rattle.std.specs.Cmp.Lexicographic.{pointwise}
use Rattle.sys_restart.specs.Same.{is_same_row}
use Rattle.sys_restart.proofs.AreSame.{is_lent_same, lent_same}
use Rattle.sys_restart.proofs.same.are_same.Goals as goal

pub returns : goal.returns
returns c =
    let ones = c.in_ok-ones.ones.items in
    let others = c.in_ok-others.others.items in
    c.eq.ensures
    ∙ ap₂ (pointwise is_lent_same) c.as_slice.ensures.value c.as_slice-2.ensures.value
    ∙ lent_same ones others
    ∙ ap₂ (pointwise is_same_row) c.in_ok-ones.ensures.rows c.in_ok-others.ensures.rows
