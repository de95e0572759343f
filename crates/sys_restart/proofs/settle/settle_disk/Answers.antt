use Rattle.std.proofs.Common.{rules, ◌≡◌, ◌<◌, arith}
use Rattle.host_io.specs.declared.limits.TheConstants.{FILES}
use Rattle.sys_restart.proofs.SettleLemmas.{all_synced, more_synced, none_synced, stops_syncing}
use Rattle.sys_restart.proofs.settle.settle_disk.Goals as goal

pub loop-file-init : goal.loop-file-init
loop-file-init g c = record {
  steady = omega arith;
  synced = λ calls told. none_synced calls (g.D.Disk.told c.args.disk.now) told;
}

-- one more was synced
pub loop-file-preserved : goal.loop-file-preserved
loop-file-preserved g c = record {
  steady = omega (arith, c.loop-file.invariant.steady, c.in-Ok.ensures.steady);
  synced = λ calls told.
      let was = c.loop-file.invariant.synced calls told in
      let below : c.loop-file.file < FILES = search rules in
      let added = c.in-Ok.ensures.synced was.now was.tells in
      more_synced c.loop-file.file calls (g.D.Disk.told c.loop-file.disk) (g.D.Disk.told c.sync.new.self) was below
      added.grown added.allowed;
}

-- one wasn't
pub returns-in-Err-clause-runs : goal.returns-in-Err-clause-runs
returns-in-Err-clause-runs g c = λ calls told.
    let was = c.loop-file.invariant.synced calls told in
    let below : c.loop-file.file < FILES = search rules in
    stops_syncing c.loop-file.file calls (g.D.Disk.told c.loop-file.disk) (g.D.Disk.told c.sync.new.self) was below
    (c.in-Err.ensures.synced was.now was.tells)

-- all were
pub returns-clause-runs : goal.returns-clause-runs
returns-clause-runs g c = λ calls told.
    let all : c.loop-file.file ≡ FILES = search rules in
    all_synced c.loop-file.file calls (g.D.Disk.told c.loop-file.disk) (c.loop-file.invariant.synced calls told) all
