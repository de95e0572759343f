use Rattle.std.proofs.Common.{drop}
use Rattle.std.specs.Prelude.{is_ok}
use Rattle.host_io.specs.DiskState.{state_of}
use Rattle.sysfile_core.specs.Places.{place_of}
use Rattle.sysfile_core.proofs.DiskLemmas.{slot_runs}
use Rattle.sysfile_core.proofs.write.write_slot.Goals as goal

-- the calls of the three parts, one after the other
pub returns-clause-runs : goal.returns-clause-runs
returns-clause-runs g c =
    let rest = c.split_at.result.1.now in
    λ calls told.
    slot_runs (state_of calls c.args.file).bytes (drop 1 c.args.slot.now) rest c.args.file (place_of c.args.which)
    c.place_of-at.result calls (g.D.Disk.told c.close_gate.new.disk) (g.D.Disk.told c.write_through.new.disk)
    (g.D.Disk.told c.write_through-2.new.disk) (is_ok c.write_through-2.result) c.place_of-at.ensures.value
    c.split_at.ensures.back (c.in_ok-close_gate.ensures.runs calls told) c.in_ok-write_through.ensures.runs
    c.write_through-2.ensures.runs
