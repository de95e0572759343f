use Rattle.std.proofs.Common.{arith}
use Rattle.node_disk.proofs.RedoLemmas.{syncing_begins, syncing_ends, syncing_more, syncing_stops}
use Rattle.node_disk.proofs.redo.sync_files.Goals as goal

pub files-init : goal.files-init
files-init g c = record {
  within = c.requires.order;
  steady = omega arith;
  synced = λ calls told.
      syncing_begins c.args.parity c.args.from c.args.end calls (g.D.Disk.told c.args.disk.now) told;
}

-- one more file was synced
pub files-preserved : goal.files-preserved
files-preserved g c = record {
  within = c.file_end-at.ensures.most;
  steady = omega (arith, c.files.invariant.steady, c.in-Ok.ensures.steady);
  synced = λ calls told.
      syncing_more c.args.parity c.args.from c.args.end c.files.at calls (g.D.Disk.told c.files.disk)
      (g.D.Disk.told c.sync_file.new.disk) c.files-test.true c.file_end-at.result c.file_end-at.ensures.value
      (c.files.invariant.synced calls told) c.in-Ok.ensures.synced;
}

-- a sync failed
pub returns-in-Err-clause-runs : goal.returns-in-Err-clause-runs
returns-in-Err-clause-runs g c = λ calls told.
    syncing_stops c.args.parity c.args.from c.args.end c.files.at calls (g.D.Disk.told c.files.disk)
    (g.D.Disk.told c.sync_file.new.disk) c.files-test.true (c.files.invariant.synced calls told) c.in-Err.ensures.synced

pub returns-in-Err-clause-cause : goal.returns-in-Err-clause-cause
returns-in-Err-clause-cause g c = omega (arith, c.files.invariant.steady, c.in-Err.ensures.cause)

-- all were synced
pub returns-clause-runs : goal.returns-clause-runs
returns-clause-runs g c = λ calls told.
    syncing_ends c.args.parity c.args.from c.args.end c.files.at calls (g.D.Disk.told c.files.disk)
    (c.files.invariant.synced calls told) c.files-test.false
