use Rattle.std.proofs.Common.{rules, ◌≡◌, ◌∙◌, length, map, sym}
use Rattle.sys_restart.specs.LifeCalls.{prepared_record, record_of}
use Rattle.sys_restart.proofs.AnswerLemmas.{life_ready}
use Rattle.sys_restart.proofs.DisksLemmas.{answer_then, mapped, steady_then}
use Rattle.sys_restart.proofs.KeepsLemmas.{HasNumbers}
use Rattle.sys_restart.proofs.LifeLemmas.{listed, mid_listed, stops_preparing, then_named}
use Rattle.sys_restart.proofs.TurnLemmas.{same_length}
use Rattle.sys_restart.proofs.life.prepare_life.Goals as goal

-- a disk failed, or memory was wanting, while all were prepared
pub returns-in-Err-clause-runs : goal.returns-in-Err-clause-runs
returns-in-Err-clause-runs g c = λ records told unused.
    stops_preparing c.args.shape c.args.restored.now records (map g.D.Disk.told c.prepare_all.new.disks) c.in-Err.fault
    (c.in-Err.ensures.runs records told)

-- all were prepared, and named
pub returns-in-Ok-clause-runs : goal.returns-in-Ok-clause-runs
returns-in-Ok-clause-runs g c = λ records told unused.
    let mid = map g.D.Disk.told c.prepare_all.new.disks in
    let many : length mid ≡ length records =
    mapped g.D.Disk.told c.prepare_all.new.disks ∙ search rules
    ∙ same_length g.D.Disk.told c.args.disks.now records told in
    let first = c.in-Ok.ensures.runs records told in
    then_named c.args.shape c.args.restored.now records mid (map g.D.Disk.told c.name_all.new.disks) c.name_all.result
    many first
    (c.name_all.ensures.runs
    (listed (prepared_record c.args.shape c.args.restored.now (record_of records)) 1 (length records))
    (mid_listed c.args.shape c.args.restored.now records mid (map g.D.Disk.told c.name_all.new.disks) c.name_all.result
    many
    first))

pub returns-in-Ok-clause-ready : goal.returns-in-Ok-clause-ready
returns-in-Ok-clause-ready g c = λ records told.
    let mid = map g.D.Disk.told c.prepare_all.new.disks in
    let disks : length c.args.disks.now ≡ length records = same_length g.D.Disk.told c.args.disks.now records told in
    let many : length mid ≡ length records =
    mapped g.D.Disk.told c.prepare_all.new.disks ∙ search rules ∙ disks in
    let first = c.in-Ok.ensures.runs records told in
    let numbers : HasNumbers c.args.restored.now =
    record {
      generation = c.numbers_fit.ensures.generation;
      epoch = c.numbers_fit.ensures.epoch;
      unused = sym c.is_used_up.ensures ∙ c.if-is_used_up.false;
    } in
    let runs =
    then_named c.args.shape c.args.restored.now records mid (map g.D.Disk.told c.name_all.new.disks) c.name_all.result
    many first
    (c.name_all.ensures.runs
    (listed (prepared_record c.args.shape c.args.restored.now (record_of records)) 1 (length records))
    (mid_listed c.args.shape c.args.restored.now records mid (map g.D.Disk.told c.name_all.new.disks) c.name_all.result
    many
    first)) in
    life_ready c.args.shape c.args.restored.now records mid (map g.D.Disk.told c.name_all.new.disks) c.name_all.result
    c.requires.shape numbers c.checkpoints_are_read.ensures many (sym disks ∙ c.requires.nodes) first runs

pub returns-in-Ok-clause-cause : goal.returns-in-Ok-clause-cause
returns-in-Ok-clause-cause g c =
    answer_then (map g.D.Disk.faults c.args.disks.now) (map g.D.Disk.faults c.prepare_all.new.disks)
    (map g.D.Disk.faults c.name_all.new.disks) c.name_all.result
    (mapped g.D.Disk.faults c.args.disks.now ∙ search rules ∙ sym (mapped g.D.Disk.faults c.prepare_all.new.disks))
    c.in-Ok.ensures.steady c.name_all.ensures.cause

pub returns-in-Ok-clause-steady : goal.returns-in-Ok-clause-steady
returns-in-Ok-clause-steady g c =
    steady_then (map g.D.Disk.faults c.args.disks.now) (map g.D.Disk.faults c.prepare_all.new.disks)
    (map g.D.Disk.faults c.name_all.new.disks) c.in-Ok.ensures.steady c.name_all.ensures.steady

-- the numbers aren't used up
pub returns-in-Ok-clause-not_else : goal.returns-in-Ok-clause-not_else
returns-in-Ok-clause-not_else g c = λ used. absurd (c.name_all.ensures.unused used)

pub returns-in-Err-clause-not_else : goal.returns-in-Err-clause-not_else
returns-in-Err-clause-not_else g c = λ used. absurd (c.in-Err.ensures.unused used)
