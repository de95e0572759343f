use Rattle.std.proofs.Common.{rules, ◌-◌}
use Rattle.std.proofs.lemmas.Result.{err_from_is_err_and}
use Rattle.redo_log.specs.Stored.{files_of}
use Rattle.redo_log.proofs.StoredLemmas.{short_replays, stops_stored, whole_replays}
use Rattle.redo_log.proofs.replaying.replay.Goals as goal

-- the bytes aren't records
pub returns-in_err-replay_bytes-clause-replayed : goal.returns-in_err-replay_bytes-clause-replayed
returns-in_err-replay_bytes-clause-replayed g c =
    let p =
    err_from_is_err_and c.from_residual-in_err-replay_bytes.result c.from_residual-in_err-replay_bytes.ensures.1 in
    rw (p.1, p.2)
    (λ calls told.
    stops_stored c.args.epoch c.args.rows.now (files_of calls) c.args.parity c.args.from (c.args.to - c.args.from)
    c.replay_bytes.new.rows c.in_ok-bytes.bytes.items c.deref.result.now c.in_err-replay_bytes.field-0.0
    (c.in_ok-bytes.ensures.stored calls told) c.deref.ensures.value c.in_err-replay_bytes.ensures)

-- there are too few of them
pub returns-then-there-to-clause-replayed : goal.returns-then-there-to-clause-replayed
returns-then-there-to-clause-replayed g c = λ calls told.
    short_replays c.args.epoch c.args.rows.now (files_of calls) c.args.parity c.args.from (c.args.to - c.args.from)
    c.replay_bytes.new.rows c.in_ok-bytes.bytes.items c.damage.result (c.in_ok-bytes.ensures.stored calls told)
    (rw c.deref.ensures.value at c.in_ok-replay_bytes.ensures) (search rules) (search rules)

-- they are all there
pub returns-clause-replayed : goal.returns-clause-replayed
returns-clause-replayed g c = λ calls told.
    whole_replays c.args.epoch c.args.rows.now (files_of calls) c.args.parity c.args.from (c.args.to - c.args.from)
    c.replay_bytes.new.rows c.in_ok-bytes.bytes.items (c.in_ok-bytes.ensures.stored calls told)
    (rw c.deref.ensures.value at c.in_ok-replay_bytes.ensures) (search rules)
