use Rattle.std.proofs.Common.{◌∙◌, ◌∷◌, ℕ, List, length, ap, arith}
use Rattle.host_io.specs.Call.{Wrote}
use Rattle.host_io.specs.DiskState.{FileState, written}
use Rattle.host_io.proofs.MemoryLemmas.{call_kept, fitting_bytes, written_states}
use Rattle.host_io.proofs.mem_disk.MemDisk.lay.Goals as goal

pub invariant_of-self-2 : goal.invariant_of-self-2
invariant_of-self-2 c =
    let calls = c.self.inside.journal.told in
    let bytes = c.args.asked.now in
    call_kept
    calls
    c.reserve.new.self.told
    c.write.new.self.told
    (Wrote c.args.file c.args.at bytes)
    c.self.inside.files.items
    c.args.file
    c.self.inside.journal.spare
    c.write.new.self.spare
    (λ (s : FileState). written s c.args.at (length bytes) bytes)
    c.index_mut.result.now
    c.lay.new.self
    c.self.invariant
    c.requires.0
    (c.requires, fitting_bytes bytes c.type_inv.asked)
    (written_states calls c.args.file c.args.at bytes c.requires.0)
    c.index_mut.ensures.value
    c.in_ok-lay.ensures.ok
    c.reserve.ensures.told
    (c.write.ensures.told
    ∙ ap
    (λ (copied : List ℕ). Wrote c.args.file c.args.at copied ∷ c.reserve.new.self.told)
    (c.in_ok-bytes.ensures.items_if_clones_equal (λ x y same. same)))
    (omega (arith, c.in_ok-reserve.ensures.room, c.write.ensures.spare))
