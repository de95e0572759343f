use Rattle.std.proofs.Common.{arith}
use Rattle.host_io.specs.Call.{Synced}
use Rattle.host_io.specs.DiskState.{FileState, settled}
use Rattle.host_io.proofs.MemoryLemmas.{call_kept, synced_states}
use Rattle.host_io.proofs.mem_disk.MemDisk.settle.Goals as goal

pub invariant_of-self-2 : goal.invariant_of-self-2
invariant_of-self-2 c =
    let calls = c.self.inside.journal.told in
    call_kept
    calls
    c.reserve.new.self.told
    c.sync-2.new.self.told
    (Synced c.args.file)
    c.self.inside.files.items
    c.args.file
    c.self.inside.journal.spare
    c.sync-2.new.self.spare
    (λ (s : FileState). settled s.bytes)
    c.index_mut.result.now
    c.sync.new.self
    c.self.invariant
    c.requires
    c.requires
    (synced_states calls c.args.file c.requires)
    c.index_mut.ensures.value
    c.sync.ensures
    c.reserve.ensures.told
    c.sync-2.ensures.told
    (omega (arith, c.in_ok-reserve.ensures.room, c.sync-2.ensures.spare))
