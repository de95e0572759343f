use Rattle.redo_format.specs.Lent.{redo_of}
use Rattle.redo_log.proofs.ReplayLemmas.{goes_on}
use Rattle.redo_log.proofs.replaying.replay_bytes.Goals as goal

-- one more record is replayed
pub records-preserved : goal.records-preserved
records-preserved c =
    goes_on c.args.epoch c.args.rows.now c.args.bytes.now c.records.rows c.records.prepared c.records.rest.now
    (redo_of c.in-Ok.redo)
    c.apply.new.rows c.apply.new.prepared c.in-Ok.behind.now c.records.invariant c.in-Ok.ensures.is
    c.in-Ok.ensures.split
    c.in-Ok-apply.ensures.rows c.in-Ok-apply.ensures.prepared
