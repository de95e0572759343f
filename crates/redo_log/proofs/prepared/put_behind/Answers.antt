use Rattle.redo_log.proofs.LatestLemmas.{put_behind}
use Rattle.redo_log.proofs.prepared.put_behind.Goals as goal

pub returns-in_ok-insert-in-Some : goal.returns-in_ok-insert-in-Some
returns-in_ok-insert-in-Some c =
    rw c.in-Some.is
    (put_behind (c.in-Some.id, c.in-Some.image) c.args.others.now.entries c.insert.new.self.entries
    (λ q. c.in_ok-insert-in-Some.ensures.updates.0 q))
