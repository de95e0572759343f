use Rattle.std.proofs.Common.{◌≤◌, ◌∙◌, ◌++◌, length, ap, sym, rules}
use Rattle.std.specs.Int.{w64, to_be_bytes}
use Rattle.std.proofs.lemmas.List.{take_all}
use Rattle.sysfile_core.specs.Slots.{control_bytes}
use Rattle.sysfile_core.proofs.control.control_bytes.Goals as goal

-- each number stands behind what was written before
pub returns : goal.returns
unfolding control_bytes
returns c =
    let slot = c.args.slot.now in
    let long : length c.put_number-6.new.room ≤ 56 = search rules in
    let one = c.put_number.ensures ∙ ap (λ xs. xs ++ to_be_bytes w64 slot.generation) c.put.ensures in
    let two = c.put_number-2.ensures ∙ ap (λ xs. xs ++ to_be_bytes w64 slot.serial) one in
    let three = c.put_number-3.ensures ∙ ap (λ xs. xs ++ to_be_bytes w64 slot.saved) two in
    let four = c.put_number-4.ensures ∙ ap (λ xs. xs ++ to_be_bytes w64 slot.redo_start) three in
    let five = c.put_number-5.ensures ∙ ap (λ xs. xs ++ to_be_bytes w64 slot.redo_end) four in
    let six = c.put_number-6.ensures ∙ ap (λ xs. xs ++ to_be_bytes w64 slot.ckpt_size) five in
    sym (take_all 56 c.put_number-6.new.room long) ∙ six
