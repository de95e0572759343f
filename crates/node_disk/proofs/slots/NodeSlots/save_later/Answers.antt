use Rattle.std.proofs.Common.{◌^◌, ◌+◌, ◌<◌, length, rules, arith}
use Rattle.node_disk.proofs.SaveLemmas.{within_log}
use Rattle.node_disk.proofs.slots.NodeSlots.save_later.Goals as goal

-- no position is behind the end of the log
pub overflow_add-slot : goal.overflow_add-slot
overflow_add-slot g c =
    let from = c.self.inside.control.redo_end in
    let before : from < 2 ^ 64 = search rules in
    let fits : from + length c.bytes_from-bytes.result.now < 2 ^ 64 =
    within_log c.args.redo.now.log from c.end-end.result (2 ^ 64) c.bytes_from-bytes.result.now
    c.bytes_from-bytes.ensures c.end-end.ensures.value before c.end-end.type_inv in
    omega (arith, fits)
